use Rattle.std.proofs.Common.{ap, ◌+◌, ◌-◌, ◌∙◌, ℕ}
use Rattle.text.proofs.Bits.{shifted}
use Rattle.text.proofs.glyphs.shown.Goals as goal

pub returns : goal.returns
returns c =
    rw c.if-not-named.false
    (ap (λ (b : ℕ). 48 + b)
    (shifted c.checked_shr.result c.args.byte (c.args.next - 48) c.ranges.byte.fits (c.from-number.ensures ∙ c.saturating_sub.ensures)
    c.checked_shr.ensures c.unwrap_or.ensures))
