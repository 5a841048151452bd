-- Bytes that are looked at eight at a time, through a mask.
use mathlib.Core.Path.{◌≡◌, sym, ap, ◌∙◌}
use mathlib.Core.Bool.{Bool}
use Prim.Native.Nat.{ℕ, ◌/◌, ◌%◌, ◌^◌, ◌<◌}
use native.Mathlib.Omega.{arith}
use lib.Bits.{bit_and, and_shr, and_mod, and_mask}
use Rattle.transfer.specs.Bytes.{bit}
use Rattle.transfer.proofs.Bits.{and_one}

-- one byte of a masked number
pub masked : (w m c k b : ℕ) → bit_and w m ≡ c → w / 2 ^ k % 256 ≡ b → bit_and b (m / 2 ^ k % 256) ≡ c / 2 ^ k % 256
masked w m c k b h d =
    ap (λ (n : ℕ). bit_and n (m / 2 ^ k % 256)) (sym d) ∙ sym (and_mod (w / 2 ^ k) (m / 2 ^ k) 8)
    ∙ ap (λ (n : ℕ). n % 256) (sym (and_shr w m k)) ∙ ap (λ (n : ℕ). n / 2 ^ k % 256) h

-- a byte that is looked at whole
pub whole_byte : (b c : ℕ) → b < 256 → bit_and b 255 ≡ c → b ≡ c
whole_byte b c l h = omega (arith, and_mask b 8, h)

-- the bits from bit 2 on, and from bit 1 on, are 0
pub below_four : (b : ℕ) → b < 256 → bit_and b 252 ≡ 0 → b < 4
below_four b l h = omega (arith, sym (and_mask (b / 4) 6) ∙ sym (and_shr b 252 2) ∙ ap (λ (n : ℕ). n / 4) h)

pub below_two : (b : ℕ) → b < 256 → bit_and b 254 ≡ 0 → b < 2
below_two b l h = omega (arith, sym (and_mask (b / 2) 7) ∙ sym (and_shr b 254 1) ∙ ap (λ (n : ℕ). n / 2) h)

-- a bit that is looked at
pub bit_seen : (b m c n : ℕ) (t : Bool) → bit_and b m ≡ c → m / 2 ^ n % 2 ≡ 1 → bit c n ≡ t → bit b n ≡ t
bit_seen b m c n t h o e = sym (and_one b m n o) ∙ ap (λ (v : ℕ). bit v n) h ∙ e
