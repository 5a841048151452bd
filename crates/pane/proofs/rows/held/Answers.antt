use Rattle.std.proofs.Common.{◌∙◌}
use Rattle.pane.proofs.Bytes.{held_low}
use Rattle.pane.proofs.rows.held.Goals as goal

pub returns : goal.returns
returns c =
    c.unwrap_or.ensures
    ∙ held_low c.args.image.now c.args.register c.answer.result c.answer.ensures c.unwrap_or-value.ensures c.try_from.result
    c.try_from.ensures (rw c.from.ensures at c.reu_debug_register.ensures)
