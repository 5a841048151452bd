use Rattle.text.proofs.Cuts.{then}
use Rattle.lines.proofs.Whole.{said}
use Rattle.lines.proofs.texts.refuse.Goals as goal

pub returns : goal.returns
returns c = (then _ c.new.ensures c.fill.ensures, said _ _ c.requires)
