use Rattle.std.proofs.Common.{ap, ◌∙◌}
use Rattle.text.proofs.Same.{same_is}
use Rattle.lines.specs.Beside.{marked}
use Rattle.lines.proofs.Sides.{as_marked, hidden}
use Rattle.lines.proofs.beside.beside.Goals as goal

pub returns-then-not-is_shown : goal.returns-then-not-is_shown
returns-then-not-is_shown c =
    hidden _ _ _ c.as_bytes.ensures.value c.as_bytes-2.ensures.value (c.eq-agree.ensures ∙ same_is _ _) c.is_empty.ensures
    c.is_shown.ensures c.if-not-is_shown.true

pub returns-then-agree : goal.returns-then-agree
returns-then-agree c =
    as_marked _ _ _ c.as_bytes.ensures.value c.as_bytes-2.ensures.value (c.eq-agree.ensures ∙ same_is _ _) c.is_empty.ensures
    c.is_shown.ensures c.if-not-is_shown.false c.if-agree.true (c.mark.ensures ∙ ap (marked 32) c.two-both.ensures)

pub returns : goal.returns
returns c =
    as_marked _ _ _ c.as_bytes.ensures.value c.as_bytes-2.ensures.value (c.eq-agree.ensures ∙ same_is _ _) c.is_empty.ensures
    c.is_shown.ensures c.if-not-is_shown.false c.if-agree.false (c.mark-2.ensures ∙ ap (marked 42) c.two-both.ensures)
