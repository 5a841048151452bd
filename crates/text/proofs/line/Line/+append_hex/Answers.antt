use Rattle.std.proofs.Common.{arith, ◌≡◌, ◌∷◌, ◌∙◌, [], ◌-◌, ◌/◌, ◌%◌, ap, suc, ℕ}
use Rattle.text.specs.Shown.{◌⊕◌, hex_digit, hex_of, text_of}
use Rattle.text.proofs.Cuts.{joined, none, within}
use Rattle.text.proofs.line.Line.+append_hex.Goals as goal

pub returns-then-digits-eq0 : goal.returns-then-digits-eq0
unfolding hex_of
returns-then-digits-eq0 t c = rw c.if-digits-eq0.true (none _ (within _ _ c.args.self.now.fits))

pub returns : goal.returns
unfolding hex_of
returns t c =
    let more : suc (c.args.digits - 1) ≡ c.args.digits = omega arith in
    joined (text_of c.args.self.now) (hex_of (c.args.digits - 1) (c.args.n / 16)) (hex_digit (c.args.n % 16) ∷ []) c.append_hex.ensures
    (rw (← c.hex_digit.ensures) c.push.ensures)
    ∙ ap (λ (k : ℕ). text_of c.args.self.now ⊕ hex_of k c.args.n) more
