use Rattle.std.proofs.Common.{rules}
use Rattle.reu.proofs.Families.{bytes_of}
use Rattle.reu.proofs.RegisterLaws.{read_done}
use Rattle.reu.proofs.direct.read.Goals as goal

pub returns : goal.returns
returns c =
    let i = c.args.image.now in
    read_done i (search rules) (search rules) (bytes_of i (λ j. search rules)) c.args.addr c.from.result c.read_at.new.image (search rules)
