use Rattle.turns.proofs.Turns.{faults_change_nothing}
use Rattle.turns.proofs.faults_change_nothing.Goals as goal

pub returns : goal.returns
returns c = faults_change_nothing
