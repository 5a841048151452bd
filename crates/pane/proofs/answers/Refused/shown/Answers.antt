use Rattle.text.proofs.Cuts.{joined}
use Rattle.pane.proofs.answers.Refused.shown.Goals as goal

pub returns : goal.returns
returns c = joined _ _ _ c.text.ensures (rw c.from.ensures at c.digits.ensures)
