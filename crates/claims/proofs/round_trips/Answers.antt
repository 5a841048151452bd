use Rattle.claims.proofs.SavedMachine.{round_trips}
use Rattle.claims.proofs.round_trips.Goals as goal

pub returns : goal.returns
returns c = round_trips
