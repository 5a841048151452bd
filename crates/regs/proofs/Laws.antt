-- Laws on shifts and masks that the proofs cite: what the code computes by `|`, `&`, `<<`, `>>` is the definitions' arithmetic.
use mathlib.Core.Path.{◌≡◌, ap, ap₂, ◌∙◌}
use Prim.Native.Nat.{ℕ, ◌+◌, ◌-◌, ◌*◌, ◌/◌, ◌%◌, ◌^◌, ◌<◌}
use native.Mathlib.Nat.{mod-eq_of_lt}
use native.Mathlib.Omega.{arith}
use lib.Bits.{bit_or, bit_and, or_shifted, or_shifted_r, and_high, and_mask, and_block, or_block, or_zero_r}

-- the low k bits of n, a number of j + k bits, replaced by v
low_replaced : (j k n v : ℕ) → v < 2 ^ k → n / 2 ^ k < 2 ^ j → bit_or (bit_and n (2 ^ (j + k) - 2 ^ k)) v ≡ n / 2 ^ k * 2 ^ k + v
low_replaced j k n v hv hn =
    ap (λ (x : ℕ). bit_or x v) (and_high n j k ∙ ap (λ (x : ℕ). x * 2 ^ k) (mod-eq_of_lt hn)) ∙ or_shifted (n / 2 ^ k) k v hv

-- the low byte of a number of 32 bits replaced by v
pub lowest_replaced : (n v : ℕ) → n < 2 ^ 32 → v < 2 ^ 8 → bit_or (bit_and n 4294967040) v ≡ n / 256 * 256 + v
lowest_replaced n v hn hv = low_replaced 24 8 n v hv (omega arith)

-- the second byte of a number of 32 bits replaced by v
pub middle_replaced : (n v : ℕ) → n < 2 ^ 32 → v < 2 ^ 8 → bit_or (bit_and n 4294902015) (v * 256 % 4294967296) ≡ n / 65536 * 65536 + (v * 256 + n % 256)
middle_replaced n v hn hv =
    ap₂ (λ (x y : ℕ). bit_or x y) kept fits
    ∙ or_block 16 (n / 65536) 0 (n % 256) (v * 256) (omega arith) (omega arith)
    ∙ ap₂ (λ (x y : ℕ). x * 65536 + y) (or_zero_r (n / 65536)) (or_shifted_r v 8 (n % 256) (omega arith))
  where
    fits : v * 256 % 4294967296 ≡ 0 * 65536 + v * 256
    fits = omega arith

    kept : bit_and n 4294902015 ≡ n / 65536 * 65536 + n % 256
    kept =
        ap (λ (x : ℕ). bit_and x 4294902015) (whole)
        ∙ and_block 16 (n / 65536) 65535 (n % 65536) 255 (omega arith) (omega arith)
        ∙ ap₂ (λ (x y : ℕ). x * 65536 + y) (and_mask (n / 65536) 16 ∙ mod-eq_of_lt (omega arith)) (and_mask (n % 65536) 8 ∙ low)
      where
        whole : n ≡ n / 65536 * 65536 + n % 65536
        whole = omega arith

        low : n % 65536 % 256 ≡ n % 256
        low = omega arith
