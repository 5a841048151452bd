-- A bit by its mask and by its digit: the code tests a mask, and an image's byte is a sum of digits.
use Rattle.std.proofs.Common.{◌≡◌, ℕ, zero, suc, ◌*◌, ◌/◌, ◌%◌, ◌^◌, ◌<◌, ◌≤◌, Bool, true, false, not, eqb, sym, refl, ap, ◌∙◌, mod-lt, one-mul, zero-mul, arith, pow_pos, eq-eqb, ne_eqb, eqb-true}
use native.Mathlib.Nat.{mod-mod}
use lib.Pow.{high_ones}
use lib.Bits.{bit_and, bit_or, and_high, and_shr, and_mod, and_mask, and_zero_r, or_shr, or_mod, or_zero_l, or_zero_r, or_self}
use borrow.Author.Tests.{eqb-false}
use Rattle.transfer.specs.Bytes.{bit, bit_of}

-- what a mask of one bit keeps
pub kept : (v n : ℕ) → bit_and v (2 ^ n) ≡ (v / 2 ^ n % 2) * 2 ^ n
kept v n = ap (bit_and v) (sym (high_ones 1 n ∙ one-mul (2 ^ n))) ∙ and_high v 1 n

digit : (q p : ℕ) → q < 2 → 0 < p → not (eqb (q * p) 0) ≡ eqb q 1
digit zero p h k = ap not (eq-eqb (0 * p) 0 (zero-mul p))
digit (suc zero) p h k = ap not (ne_eqb (1 * p) 0 (λ e. omega (arith, one-mul p)))
digit (suc (suc q)) p h k = absurd (omega arith)

pub bit_div : (v n : ℕ) → bit v n ≡ eqb (v / 2 ^ n % 2) 1
bit_div v n = ap (λ (x : ℕ). not (eqb x 0)) (kept v n) ∙ digit (v / 2 ^ n % 2) (2 ^ n) (mod-lt (v / 2 ^ n) (omega arith)) (pow_pos n)

-- a bit as a digit
pub bit_digit : (v n : ℕ) → bit_of (bit v n) ≡ v / 2 ^ n % 2
bit_digit v n = ap bit_of (bit_div v n) ∙ back (v / 2 ^ n % 2) (mod-lt (v / 2 ^ n) (omega arith)) (eqb (v / 2 ^ n % 2) 1) refl
  where
    back : (q : ℕ) → q < 2 → (t : Bool) → eqb q 1 ≡ t → bit_of t ≡ q
    back q h true e = omega (arith, eqb-true q 1 e)
    back q h false e = omega (arith, eqb-false q 1 e)

-- a digit that is known, and its bit
pub bit_one : (v n : ℕ) → bit v n ≡ true → v / 2 ^ n % 2 ≡ 1
bit_one v n e = eqb-true (v / 2 ^ n % 2) 1 (sym (bit_div v n) ∙ e)

pub bit_zero : (v n : ℕ) → bit v n ≡ false → v / 2 ^ n % 2 ≡ 0
bit_zero v n e =
    small (v / 2 ^ n) (eqb-false (v / 2 ^ n % 2) 1 (sym (bit_div v n) ∙ e))
  where
    small : (q : ℕ) → (q % 2 ≡ 1 → ⊥) → q % 2 ≡ 0
    small q h = omega (arith, h)

pub zero_bit : (v n : ℕ) → v / 2 ^ n % 2 ≡ 0 → bit v n ≡ false
zero_bit v n e = bit_div v n ∙ ne_eqb (v / 2 ^ n % 2) 1 (λ o. omega arith)

pub bit_most : (b : Bool) → bit_of b ≤ 1
bit_most true = omega arith
bit_most false = omega arith

-- ---- a bit of two numbers joined, where the second has it or not

and_digit : (v m n d : ℕ) → m / 2 ^ n % 2 ≡ d → bit_and v m / 2 ^ n % 2 ≡ bit_and (v / 2 ^ n % 2) d
and_digit v m n d e = ap (λ (q : ℕ). q % 2) (and_shr v m n) ∙ and_mod (v / 2 ^ n) (m / 2 ^ n) 1 ∙ ap (bit_and (v / 2 ^ n % 2)) e

or_digit : (v m n d : ℕ) → m / 2 ^ n % 2 ≡ d → bit_or v m / 2 ^ n % 2 ≡ bit_or (v / 2 ^ n % 2) d
or_digit v m n d e = ap (λ (q : ℕ). q % 2) (or_shr v m n) ∙ or_mod (v / 2 ^ n) (m / 2 ^ n) 1 ∙ ap (bit_or (v / 2 ^ n % 2)) e

by_digit : (x n d : ℕ) → x / 2 ^ n % 2 ≡ d → bit x n ≡ eqb d 1
by_digit x n d e = bit_div x n ∙ ap (λ (q : ℕ). eqb q 1) e

pub and_one : (v m n : ℕ) → m / 2 ^ n % 2 ≡ 1 → bit (bit_and v m) n ≡ bit v n
and_one v m n e =
    by_digit (bit_and v m) n (v / 2 ^ n % 2) (and_digit v m n 1 e ∙ and_mask (v / 2 ^ n % 2) 1 ∙ mod-mod (v / 2 ^ n) 2) ∙ sym (bit_div v n)

pub and_none : (v m n : ℕ) → m / 2 ^ n % 2 ≡ 0 → bit (bit_and v m) n ≡ false
and_none v m n e = by_digit (bit_and v m) n 0 (and_digit v m n 0 e ∙ and_zero_r (v / 2 ^ n % 2))

pub or_none : (v m n : ℕ) → m / 2 ^ n % 2 ≡ 0 → bit (bit_or v m) n ≡ bit v n
or_none v m n e = by_digit (bit_or v m) n (v / 2 ^ n % 2) (or_digit v m n 0 e ∙ or_zero_r (v / 2 ^ n % 2)) ∙ sym (bit_div v n)

pub or_one : (v m n : ℕ) → m / 2 ^ n % 2 ≡ 1 → bit (bit_or v m) n ≡ true
or_one v m n e = by_digit (bit_or v m) n 1 (or_digit v m n 1 e ∙ go (v / 2 ^ n % 2) (mod-lt (v / 2 ^ n) (omega arith)))
  where
    go : (q : ℕ) → q < 2 → bit_or q 1 ≡ 1
    go zero h = or_zero_l 1
    go (suc zero) h = or_self 1
    go (suc (suc q)) h = absurd (omega arith)
