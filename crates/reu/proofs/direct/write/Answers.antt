use Rattle.std.proofs.Common.{rules}
use Rattle.reu.proofs.Families.{bytes_of}
use Rattle.reu.proofs.RegisterLaws.{write_done}
use Rattle.reu.proofs.direct.write.Goals as goal

pub returns : goal.returns
returns c =
    let i = c.args.image.now in
    write_done i (search rules) (search rules) (bytes_of i (λ j. search rules)) c.args.addr c.args.value (search rules) c.written-reu.result (search rules) (search rules) _ (search rules)
