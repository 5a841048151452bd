-- A number in decimal: what the library prints of it is what a line shows.
use Rattle.std.proofs.Common.{◌≡◌, ℕ, zero, suc, ◌+◌, ◌*◌, ◌/◌, ◌%◌, ◌^◌, ◌≤◌, ◌<◌, Bool, true, false, cond, ltb, List, [], ◌∷◌, ◌++◌, refl, ap, ◌∙◌, arith}
use borrow.Author.Tests.{ltb-true, ltb-false}
use native.Mathlib.Nat.{pow-suc}
use Rattle.std.specs.Prelude.{decimal}
use Rattle.std.proofs.lemmas.Fmt.{decimal_digit, decimal_step}
use Rattle.text.specs.Shown.{decimal_up_to}

-- one digit, or the last one behind the others
last : (n : ℕ) (b : Bool) (others : List ℕ) → ltb n 10 ≡ b → n < 2 ^ 64 → (10 ≤ n → decimal (n / 10) ≡ others)
    → decimal n ≡ cond b ((48 + n) ∷ []) (others ++ ((48 + n % 10) ∷ []))
last n true others e small f = decimal_digit n (ltb-true n 10 e)
last n false others e small f =
    let h : 10 ≤ n = ltb-false n 10 e in
    decimal_step n h small ∙ ap (λ (l : List ℕ). l ++ ((48 + n % 10) ∷ [])) (f h)

spelt : (k n : ℕ) → n < 10 ^ suc k → n < 2 ^ 64 → decimal n ≡ decimal_up_to (suc k) n
unfolding decimal_up_to
spelt zero n room small = last n (ltb n 10) [] refl small (λ h. absurd (omega arith))
spelt (suc k) n room small =
    let r : n < 10 ^ suc k * 10 = rw pow-suc at room in
    last n (ltb n 10) _ refl small (λ h. spelt k (n / 10) (omega arith) (omega arith))

-- 64 bits have at most 20
pub decimals : (n : ℕ) → n < 2 ^ 64 → decimal n ≡ decimal_up_to 20 n
decimals n small = spelt 19 n (omega arith) small
