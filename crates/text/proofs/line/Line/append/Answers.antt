use Rattle.std.proofs.Common.{rules}
use Rattle.text.proofs.Cuts.{extended}
use Rattle.text.proofs.line.Line.append.Goals as goal

pub returns : goal.returns
returns c =
    extended c.args.self.now.bytes c.args.s.now _ c.args.self.now.used c.args.self.now.fits (search rules) c.first-taken.ensures c.copy_from_slice.ensures.after
