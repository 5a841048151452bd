-- A bit as it is shown is a digit of the byte.
use mathlib.Core.Path.{◌≡◌, refl}
use Prim.Native.Nat.{ℕ, zero, suc, ◌/◌, ◌%◌, ◌^◌, ◌≤◌, ◌<◌}
use native.Mathlib.Nat.{div-eq_of_lt, lt_of_lt_of_le}
use native.Mathlib.Omega.{arith}
use lib.Dec.{eqb}
use lib.Pow.{pow_mono}
use Rattle.std.specs.Prelude.{Option, None, Some}
use Rattle.std.specs.Option.{SomeIff, unwrap_or}
use Rattle.transfer.proofs.Bits.{bit_div}
use Rattle.transfer.specs.Bytes.{bit, bit_of}

-- a number below 2 is its own bit
one : (d : ℕ) → d < 2 → d ≡ bit_of (eqb d 1)
one zero h = refl
one (suc zero) h = refl
one (suc (suc d)) h = absurd (omega arith)

digit : (v n : ℕ) → v / 2 ^ n % 2 ≡ bit_of (bit v n)
digit v n = rw bit_div (one (v / 2 ^ n % 2) (omega arith))

-- a byte has eight
past : (v n : ℕ) → v < 2 ^ 8 → 8 ≤ n → 0 ≡ bit_of (bit v n)
past v n h k = rw (bit_div v n, div-eq_of_lt (lt_of_lt_of_le h (pow_mono k)))

-- a shift right, which gives nothing past the byte's width
pub shifted : (r : Option ℕ) (v n : ℕ) {m k : ℕ} → v < 2 ^ 8 → m ≡ n → SomeIff r (m < 8) (v / 2 ^ m) → k ≡ unwrap_or r 0 → k % 2 ≡ bit_of (bit v n)
shifted None v n h d s e = rw e (past v n h (omega (arith, s)))
shifted (Some x) v n h d s e = rw (e, s.1, d) (digit v n)
