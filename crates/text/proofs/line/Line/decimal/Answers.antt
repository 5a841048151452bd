use Rattle.std.proofs.Common.{[], ◌∷◌}
use Rattle.text.proofs.Cuts.{joined}
use Rattle.text.proofs.line.Line.decimal.Goals as goal

pub returns : goal.returns
returns c = joined _ (43 ∷ []) _ c.put.ensures c.digits.ensures
