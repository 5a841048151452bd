use Rattle.turns.proofs.Turns.{steps_are_cycles}
use Rattle.turns.proofs.steps_are_cycles.Goals as goal

pub returns : goal.returns
returns c = steps_are_cycles
