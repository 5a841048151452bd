use Rattle.std.proofs.Common.{ℕ, List, ap, ◌∙◌}
use Rattle.pane.specs.Rows.{copy_of}
use Rattle.pane.proofs.Bytes.{read_low}
use Rattle.pane.proofs.rows.read_gives.Goals as goal

pub returns : goal.returns
returns c =
    c.unwrap_or.ensures
    ∙ read_low (copy_of c.args.image.now) c.args.register c.answer.result c.answer.ensures c.unwrap_or-value.ensures c.try_from.result
    c.try_from.ensures (ap (λ (x : ℕ × List ℕ). x.0) (rw (c.from.ensures, c.copied-copy.ensures.value) at c.reu_read.ensures))
