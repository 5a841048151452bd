use Rattle.std.proofs.Common.{◌∙◌}
use Rattle.console.proofs.Answered.{granted}
use Rattle.console.proofs.step.action_in.Goals as goal

pub returns : goal.returns
returns c = c.unwrap_or.ensures ∙ granted _ _ c.try_from.ensures
