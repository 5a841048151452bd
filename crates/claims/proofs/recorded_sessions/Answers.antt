use Rattle.claims.proofs.Sessions.{sessions}
use Rattle.claims.proofs.recorded_sessions.Goals as goal

pub returns : goal.returns
returns c = sessions
