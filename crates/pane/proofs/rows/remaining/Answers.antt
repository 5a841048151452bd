use Rattle.std.proofs.Common.{◌∙◌}
use Rattle.pane.proofs.Numbers.{left}
use Rattle.pane.proofs.rows.remaining.Goals as goal

pub returns : goal.returns
returns c = c.length_of.ensures ∙ left c.args.image.now c.word.ensures
