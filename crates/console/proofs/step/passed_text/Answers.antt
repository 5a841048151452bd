use Rattle.console.specs.Step.{passed_text}
use Rattle.console.proofs.step.passed_text.Goals as goal

pub returns : goal.returns
unfolding passed_text
returns c = rw (← c.mark_if-marked.ensures) c.mark_if.ensures
