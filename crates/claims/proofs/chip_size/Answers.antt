use Rattle.claims.proofs.ChipSize.{chip_size}
use Rattle.claims.proofs.chip_size.Goals as goal

pub returns : goal.returns
returns c = chip_size
