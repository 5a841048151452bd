use Rattle.std.proofs.Common.{rules, ◌≡◌, length}
use Rattle.text.proofs.Cuts.{left_out, put_behind}
use Rattle.text.proofs.line.Line.push.Goals as goal

pub returns : goal.returns
returns c = let n : length c.args.self.now.bytes ≡ 160 = search rules in put_behind _ _ _ n (search rules)

pub returns-then-at-ge-WIDTH : goal.returns-then-at-ge-WIDTH
returns-then-at-ge-WIDTH c =
    let n : length c.args.self.now.bytes ≡ 160 = search rules in left_out _ _ _ n c.args.self.now.fits c.if-at-ge-WIDTH.true
