use Rattle.pane.proofs.Numbers.{four_bytes}
use Rattle.pane.proofs.rows.granted.Goals as goal

pub returns : goal.returns
returns c =
    four_bytes c.args.image.now c.byte.ensures c.byte-2.ensures c.byte-3.ensures c.byte-4.ensures c.from_le_bytes.ensures
