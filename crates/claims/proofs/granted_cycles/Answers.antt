use Rattle.claims.proofs.GrantedCycles.{granted_cycles}
use Rattle.claims.proofs.granted_cycles.Goals as goal

pub returns : goal.returns
returns c = granted_cycles
