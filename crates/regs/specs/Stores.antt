-- L5: stores of registers, "index and value", made one after another.
use Rattle.std.specs.Prelude.{◌∷◌}
use Rattle.regs.specs.Prelude.{ℕ, List, [], Option, None, Some, set, RegisterStore}
use Rattle.transfer.specs.Constants.{c64_low, c64_high, exp_low, exp_high, exp_bank, length_low, length_high}
use Rattle.transfer.specs.Bytes.{low_byte, high_byte, bank_byte}

abbrev pub store : ℕ → ℕ → RegisterStore
store i v = record { index = i; value = v }

-- the first store, then the others: "Made on the registers before"
abbrev pub made : List RegisterStore → List ℕ → List ℕ
made [] l = l
made (x ∷ r) l = made r (set l x.index x.value)

-- "each of registers 2 to 8 once, in that order": the seven address and length registers, from two addresses and a length
abbrev pub counter_stores : ℕ → ℕ → ℕ → List RegisterStore
counter_stores c e n =
    store c64_low (low_byte c) ∷ store c64_high (high_byte c) ∷ store exp_low (low_byte e) ∷ store exp_high (high_byte e)
    ∷ store exp_bank (bank_byte e) ∷ store length_low (low_byte n) ∷ store length_high (high_byte n) ∷ []

-- what a step hands out: "these stores"; "any other step hands out none"
abbrev pub Stores : Type 0
Stores = Option (List RegisterStore)

abbrev pub listed : Stores → List RegisterStore
listed None = []
listed (Some l) = l
