-- The register record, byte by byte, in the terms of the public register descriptions.
use Rattle.std.specs.Prelude.{◌∷◌}
use Rattle.regs.specs.Prelude.{ℕ, cond, List, [], bit_and, eqb, get_or}
use Rattle.transfer.specs.Constants.{exp_bank, interrupt_mask, address_control, verify_error, end_of_block, interrupt, bank_ones, mask_ones, control_ones}
use Rattle.transfer.specs.Bytes.{set_bits, clear_bits}

-- register i of the eleven
abbrev pub held : List ℕ → ℕ → ℕ
held l i = get_or l i 0

-- "Index = address AND $1F"
abbrev pub register_index : ℕ → ℕ
register_index addr = bit_and addr 31

-- "Mask is stored and read OR $1F, control OR $3F", and the bank OR $F8: the byte of register i for v
abbrev pub shown : ℕ → ℕ → ℕ
shown i v =
    cond (eqb i exp_bank) (set_bits bank_ones v)
    (cond (eqb i interrupt_mask) (set_bits mask_ones v)
    (cond (eqb i address_control) (set_bits control_ones v) v))

-- "then bits 5, 6 and 7 of STATUS are cleared"
abbrev pub acknowledged : ℕ → ℕ
acknowledged v = clear_bits (verify_error ∷ end_of_block ∷ interrupt ∷ []) v
