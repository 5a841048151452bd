use Rattle.turns.proofs.Cycles.{grants_are_taken}
use Rattle.turns.proofs.grants_are_taken.Goals as goal

pub returns : goal.returns
returns c = grants_are_taken
