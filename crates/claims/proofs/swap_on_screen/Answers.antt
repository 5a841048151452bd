use Rattle.claims.proofs.SwapOnScreen.{swap_on_screen}
use Rattle.claims.proofs.swap_on_screen.Goals as goal

pub returns : goal.returns
returns c = swap_on_screen
