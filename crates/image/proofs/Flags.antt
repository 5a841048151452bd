-- Flags in a number: each comes back, and so does the number.
use mathlib.Core.Path.{◌≡◌, refl, sym, ap, ◌∙◌}
use mir.Val.{bool_byte}
use mathlib.Core.Bool.{Bool, true, false}
use mathlib.Core.List.{List, [], ◌∷◌, map}
use Prim.Native.Nat.{ℕ, zero, suc, ◌/◌, ◌%◌, ◌^◌, ◌≤◌, ◌<◌}
use native.Mathlib.Nat.{div-div-eq-div-mul, mul_comm, pow-suc}
use native.Mathlib.Omega.{arith}
use lib.Dec.{eqb}
use lib.ListN.{length, get_or, replicate}
use borrow.Author.Tests.{eq-eqb, ne_eqb}
use Rattle.transfer.specs.Bytes.{bit, bit_of}
use Rattle.transfer.proofs.Bits.{bit_div, bit_digit}
use Rattle.image.specs.Layout.{flags_of}
use Rattle.image.specs.Radix.{product}
use Rattle.image.proofs.Radix.{Below, joined_below}

-- the library's number of a truth value is that bit
pub byte_is_bit : (b : Bool) → bool_byte b ≡ bit_of b
byte_is_bit true = refl
byte_is_bit false = refl

bit_le : (b : Bool) → bit_of b ≤ 1
bit_le true = omega arith
bit_le false = omega arith

bit_back : (n : ℕ) (b : Bool) → n ≡ bit_of b → eqb n 1 ≡ b
bit_back n true h = eq-eqb n 1 h
bit_back n false h = ne_eqb n 1 (λ e. omega arith)

bit_lowest : (n : ℕ) (b : Bool) → n % 2 ≡ bit_of b → bit n 0 ≡ b
bit_lowest n b h = bit_div n 0 ∙ bit_back (n / 1 % 2) b (omega arith)

-- the next bit is that of the half
half : (n j : ℕ) → n / 2 ^ suc j ≡ n / 2 / 2 ^ j
half n j = ap (λ (p : ℕ). n / p) (pow-suc 2 j ∙ mul_comm (2 ^ j) 2) ∙ sym (div-div-eq-div-mul n 2 (2 ^ j))

bit_half : (n m j : ℕ) → n / 2 ≡ m → bit n (suc j) ≡ bit m j
bit_half n m j h =
    bit_div n (suc j) ∙ ap (λ (q : ℕ). eqb (q % 2) 1) (half n j ∙ ap (λ (q : ℕ). q / 2 ^ j) h) ∙ sym (bit_div m j)

pub flag_back : (bs : List Bool) (j : ℕ) → j < length bs → bit (flags_of bs) j ≡ get_or bs j false
flag_back [] j h = absurd (omega arith)
flag_back (b ∷ []) zero h = bit_lowest (bit_of b) b (omega (arith, bit_le b))
flag_back (b ∷ []) (suc j) h = absurd (omega arith)
flag_back (b ∷ c ∷ bs) zero h = bit_lowest (flags_of (b ∷ c ∷ bs)) b (omega (arith, bit_le b))
flag_back (b ∷ c ∷ bs) (suc j) h =
    bit_half (flags_of (b ∷ c ∷ bs)) (flags_of (c ∷ bs)) j (omega (arith, bit_le b)) ∙ flag_back (c ∷ bs) j (omega arith)

bits_below : (bs : List Bool) → Below (replicate (length bs) 2) (map bit_of bs)
bits_below [] = tt
bits_below (b ∷ bs) = (omega (arith, bit_le b), bits_below bs)

pub flags_below : (bs : List Bool) → flags_of bs < product (replicate (length bs) 2)
flags_below bs = joined_below (replicate (length bs) 2) (map bit_of bs) (bits_below bs)

-- k bits of n, from bit j on
abbrev pub bits_from : ℕ → ℕ → ℕ → List Bool
bits_from j zero n = []
bits_from j (suc k) n = bit n j ∷ bits_from (suc j) k n

over : (n j : ℕ) → n / 2 ^ suc j ≡ n / 2 ^ j / 2
over n j = ap (λ (p : ℕ). n / p) (pow-suc 2 j) ∙ sym (div-div-eq-div-mul n (2 ^ j) 2)

flags_from : (k j n : ℕ) → n / 2 ^ j < 2 ^ suc k → flags_of (bits_from j (suc k) n) ≡ n / 2 ^ j
flags_from zero j n h = bit_digit n j ∙ omega arith
flags_from (suc k) j n h =
    let less : n / 2 ^ suc j < 2 ^ suc k = rw over (omega (arith, pow-suc 2 (suc k))) in
    omega (arith, bit_digit n j, flags_from k (suc j) n less, over n j)

pub flags_back : (k n : ℕ) → n < 2 ^ suc k → flags_of (bits_from 0 (suc k) n) ≡ n
flags_back k n h = flags_from k 0 n (omega arith) ∙ omega arith
