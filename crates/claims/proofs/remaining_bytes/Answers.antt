use Rattle.claims.proofs.RemainingBytes.{remaining_bytes}
use Rattle.claims.proofs.remaining_bytes.Goals as goal

pub returns : goal.returns
returns c = remaining_bytes
