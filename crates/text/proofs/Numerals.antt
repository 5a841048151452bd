-- Digits read from the left: one digit more, and the ways in which reading ends.
use mathlib.Core.Path.{◌≡◌, refl, sym, ◌∙◌, ap}
use mathlib.Core.Bool.{Bool, true, false, cond}
use mathlib.Core.List.{List, [], ◌∷◌}
use Prim.Native.Nat.{ℕ, ◌+◌, ◌*◌, ◌≤◌, ◌<◌, min}
use native.Mathlib.Numerals.{add-one}
use native.Mathlib.Omega.{arith}
use lib.Dec.{ltb, leb, eqb}
use lib.ListN.{length, drop, get_or, drop_of_length-le}
use lib.Seq.{drop-cons}
use borrow.Author.Tests.{lt-ltb, le-ltb, le-leb, lt-leb, ltb-false}
use Rattle.std.specs.Prelude.{Result, Ok, Err}
use Rattle.std.specs.Char.{digit_value}
use Rattle.text.specs.declared.number.NumberFault.{NumberFault}
use Rattle.text.specs.declared.number.NumberFault.TheVariants.{Bad, TooLarge}
use Rattle.text.specs.Typed.{digit_of, digits_from, digits_of, number_of, value_of}

-- a digit's value is the library's, where that is below 16
least : (b : ℕ) → digit_of b ≡ min (digit_value b) 16
least b = grind arith

-- what the digits of a base below 17 are
near : (b base : ℕ) → base ≤ 16 → digit_value b < base → digit_of b ≡ digit_value b
near b base h k = omega (arith, least b)

far : (b base : ℕ) → base ≤ 16 → (digit_value b < base → ⊥) → base ≤ digit_of b
far b base h k = omega (arith, least b, k)

-- what is left to say once a digit's value is known
abbrev more : ℕ → ℕ → List ℕ → ℕ → Result ℕ NumberFault
more base value rest n =
    cond (leb base n) (Err Bad)
    (cond (ltb 16777215 (value * base + n)) (Err TooLarge) (digits_from base (value * base + n) rest))

module _ (base value i n : ℕ) (s : List ℕ) (some : 0 < length s) (inv : digits_from base 0 s ≡ digits_from base value (drop i s)) where
  step : i < length s → digits_of base s 0 ≡ more base value (drop (i + 1) s) (digit_of (get_or s i 0))
  unfolding digits_from
  step h = rw (lt-leb (length s) 0 some) (inv ∙ rw (add-one, drop-cons s i 0 h))

  -- a character that is no digit
  pub bad : base ≤ 16 → i < length s → (digit_value (get_or s i 0) < base → ⊥) → Err Bad ≡ digits_of base s 0
  bad m h k = sym (step h ∙ rw (le-leb base _ (far (get_or s i 0) base m k)))

  module _ (m : base ≤ 16) (h : i < length s) (d : (digit_value (get_or s i 0) < base) × (n ≡ digit_value (get_or s i 0))) where
    digit : digits_of base s 0 ≡ cond (ltb 16777215 (value * base + n)) (Err TooLarge) (digits_from base (value * base + n) (drop (i + 1) s))
    digit =
        let e : digit_of (get_or s i 0) ≡ n = near (get_or s i 0) base m d.0 ∙ sym d.1 in
        let l : n < base = omega (arith, d.0, d.1) in
        step h ∙ rw (e, lt-leb base n l)

    -- a number that is too large
    pub large : 16777215 < value * base + n → Err TooLarge ≡ digits_of base s 0
    large l = sym (digit ∙ rw (lt-ltb 16777215 (value * base + n) l))

    -- one digit more
    pub again : value * base + n ≤ 16777215 → digits_from base 0 s ≡ digits_from base (value * base + n) (drop (i + 1) s)
    again l =
        let whole : digits_of base s 0 ≡ digits_from base 0 s = rw (lt-leb (length s) 0 some) in
        sym whole ∙ digit ∙ rw (le-ltb 16777215 (value * base + n) l)

  -- no more digits
  pub done : length s ≤ i → Ok value ≡ digits_of base s 0
  unfolding digits_from
  done h = rw (lt-leb (length s) 0 some) (sym (inv ∙ ap (digits_from base value) (drop_of_length-le s h)))

-- ---- a number that was typed has at most 24 bits

abbrev Small : Result ℕ NumberFault → Type 0
Small n = value_of n ≤ 16777215

-- one of two, by a test
small_either_way : (t : Bool) (x y : Result ℕ NumberFault) → Small x → (t ≡ false → Small y) → Small (cond t x y)
small_either_way true x y p q = p
small_either_way false x y p q = q refl

from_small : (base value : ℕ) (s : List ℕ) → value ≤ 16777215 → Small (digits_from base value s)
unfolding digits_from
from_small base value [] h = h
from_small base value (b ∷ s) h =
    small_either_way (leb base (digit_of b)) _ _ (omega arith)
    (λ _. small_either_way (ltb 16777215 (value * base + digit_of b)) _ _ (omega arith)
    (λ t. from_small base (value * base + digit_of b) s (ltb-false _ _ t)))

digits_small : (base : ℕ) (s : List ℕ) (from : ℕ) → Small (digits_of base s from)
digits_small base s from =
    small_either_way (leb (length s) from) _ _ (omega arith) (λ _. from_small base 0 (drop from s) (omega arith))

pub small : (s : List ℕ) → value_of (number_of s) ≤ 16777215
unfolding number_of
small s =
    small_either_way (eqb (length s) 0) _ _ (omega arith)
    (λ _. small_either_way (eqb (get_or s 0 0) 43) _ _ (digits_small 10 s 1)
    (λ _. small_either_way (eqb (get_or s 0 0) 36) _ _ (digits_small 16 s 1) (λ _. digits_small 16 s 0)))
