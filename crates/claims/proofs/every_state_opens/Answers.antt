use Rattle.claims.proofs.SavedMachine.{every_state_opens}
use Rattle.claims.proofs.every_state_opens.Goals as goal

pub returns : goal.returns
returns c = every_state_opens
