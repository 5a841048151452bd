use Rattle.claims.proofs.SwapTwice.{swap_twice}
use Rattle.claims.proofs.swap_twice.Goals as goal

pub returns : goal.returns
returns c = swap_twice
