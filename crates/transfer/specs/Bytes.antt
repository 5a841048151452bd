-- Bits of a byte, bytes of a number: the words that every crate's definitions say them with.
use Rattle.std.specs.Prelude.{◌+◌, ◌-◌, ◌*◌, ◌/◌, ◌%◌, ◌^◌, ◌∷◌}
use Rattle.transfer.specs.Prelude.{ℕ, Bool, not, cond, List, [], eqb, bit_and, bit_or}

-- bit n of v is 1
abbrev pub bit : ℕ → ℕ → Bool
bit v n = not (eqb (bit_and v (2 ^ n)) 0)

-- a truth value as a bit
abbrev pub bit_of : Bool → ℕ
bit_of b = cond b 1 0

-- the byte in which just the listed bits are 1
abbrev pub ones : List ℕ → ℕ
ones [] = 0
ones (n ∷ ns) = 2 ^ n + ones ns

-- v with the listed bits set, with them cleared, and with all others cleared
abbrev pub set_bits : List ℕ → ℕ → ℕ
set_bits ns v = bit_or v (ones ns)

abbrev pub clear_bits : List ℕ → ℕ → ℕ
clear_bits ns v = bit_and v (255 - ones ns)

abbrev pub keep_bits : List ℕ → ℕ → ℕ
keep_bits ns v = bit_and v (ones ns)

-- the low byte of n, the one above it, and the third
abbrev pub low_byte : ℕ → ℕ
low_byte n = n % 256

abbrev pub high_byte : ℕ → ℕ
high_byte n = n / 256 % 256

abbrev pub bank_byte : ℕ → ℕ
bank_byte n = n / 65536 % 256

-- the number of two bytes and of three, the low byte first
abbrev pub word : ℕ → ℕ → ℕ
word lo hi = lo + 256 * hi

abbrev pub long : ℕ → ℕ → ℕ → ℕ
long lo hi bank = lo + 256 * hi + 65536 * bank

-- n with its low byte, its second or its third byte and all above replaced by v
abbrev pub with_low : ℕ → ℕ → ℕ
with_low n v = n / 256 * 256 + v

abbrev pub with_high : ℕ → ℕ → ℕ
with_high n v = n / 65536 * 65536 + (v * 256 + n % 256)

abbrev pub with_bank : ℕ → ℕ → ℕ
with_bank n v = v * 65536 + n % 65536
