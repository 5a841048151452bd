-- The size beside two flags in a byte: each comes back.
use mathlib.Core.Path.{◌≡◌, refl, sym, ap, ◌∙◌}
use mathlib.Core.Bool.{Bool, true, false, cond}
use mathlib.Core.Logic.{◌⊎◌, inl, inr}
use mathlib.Core.List.{List, [], ◌∷◌}
use Prim.Native.Nat.{ℕ, zero, suc, ◌+◌, ◌*◌, ◌/◌, ◌%◌, ◌^◌, ◌≤◌, ◌<◌}
use native.Mathlib.Omega.{arith}
use lib.Dec.{eqb}
use Rattle.transfer.specs.Bytes.{bit}
use Rattle.transfer.specs.Memory.{is_size}
use Rattle.transfer.proofs.Bits.{bit_div, bit_digit}
use Rattle.transfer.proofs.Sizes.{three_sizes}
use Rattle.image.specs.Layout.{flags_of, size_code, size_of}

pub code_most : (size : ℕ) → size_code size ≤ 2
code_most size = go (eqb size 524288) (eqb size 262144)
  where
    go : (a b : Bool) → cond a 0 (cond b 1 2) ≤ 2
    go true b = omega arith
    go false true = omega arith
    go false false = omega arith

-- a size that may be set is that of its code, and a code below 3 that of its size
size_back : (size : ℕ) → is_size size ≡ true → size_of (size_code size) ≡ size
size_back size e = go (three_sizes size e)
  where
    go : (size ≡ 131072) ⊎ (size ≡ 262144) ⊎ (size ≡ 524288) → size_of (size_code size) ≡ size
    go (inl p) = rw p
    go (inr (inl p)) = rw p
    go (inr (inr p)) = rw p

code_back : (code : ℕ) → code < 3 → size_code (size_of code) ≡ code
code_back zero h = refl
code_back (suc zero) h = refl
code_back (suc (suc zero)) h = refl
code_back (suc (suc (suc n))) h = absurd (omega arith)

-- the size is above both flags
pub more_bit : (bs : List Bool) (code j : ℕ) → j < 2 → bit (flags_of bs + 4 * code) j ≡ bit (flags_of bs) j
more_bit bs code j h = bit_div (n + 4 * code) j ∙ ap (λ (q : ℕ). eqb q 1) (digit j h) ∙ sym (bit_div n j)
  where
    n : ℕ
    n = flags_of bs

    digit : (j : ℕ) → j < 2 → (n + 4 * code) / 2 ^ j % 2 ≡ n / 2 ^ j % 2
    digit zero h = omega arith
    digit (suc zero) h = omega arith
    digit (suc (suc j)) h = absurd (omega arith)

pub more_size : (bs : List Bool) (size : ℕ) → flags_of bs < 4 → is_size size ≡ true → size_of ((flags_of bs + 4 * size_code size) / 4) ≡ size
more_size bs size h e =
    let above : (flags_of bs + 4 * size_code size) / 4 ≡ size_code size = omega arith in
    ap size_of above ∙ size_back size e

-- the byte of its two flags and its size
pub more_back : (n : ℕ) → n < 12 → flags_of (bit n 0 ∷ bit n 1 ∷ []) + 4 * size_code (size_of (n / 4)) ≡ n
more_back n h = omega (arith, bit_digit n 0, bit_digit n 1, code_back (n / 4) (omega arith))
