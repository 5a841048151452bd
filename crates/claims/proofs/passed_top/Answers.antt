use Rattle.claims.proofs.PassedTop.{passed_top}
use Rattle.claims.proofs.passed_top.Goals as goal

pub returns : goal.returns
returns c = passed_top
