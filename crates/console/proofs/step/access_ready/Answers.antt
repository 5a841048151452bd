use Rattle.std.proofs.Common.{◌∙◌}
use Rattle.console.proofs.Answered.{accessed}
use Rattle.console.proofs.step.access_ready.Goals as goal

pub returns : goal.returns
returns c =
    c.unwrap_or.ensures
    ∙ accessed c.args.image.now c.answer.result c.try_from.result c.reu_c64_access.ensures c.answer.ensures
    (rw c.unwrap_or-value.ensures at c.try_from.ensures)
