-- The register record: what a read gives and does, what a write does, in the terms of the public register descriptions.
use Rattle.controller.specs.Prelude.{ℕ, true, false, cond, eqb, ltb, set, Reu, Answered}
use Rattle.transfer.specs.Constants.{status, command, c64_low, c64_high, exp_low, exp_high, exp_bank, length_low, length_high, interrupt_mask, address_control, register_count, unused_register, without_ff00, execute}
use Rattle.transfer.specs.Bytes.{bit, low_byte, high_byte, with_low, with_high, with_bank}
use Rattle.regs.specs.Registers.{register_index, shown, acknowledged}
use Rattle.controller.specs.Reu.{reg, set_reg, with_regs, with_irq, with_armed, with_shadows}
use Rattle.controller.specs.StartDma.{start_dma}
use Rattle.controller.specs.FinishDma.{update_irq}

-- ---- read

-- "A read returns the old byte, then bits 5, 6 and 7 of STATUS are cleared and the interrupt level falls"
abbrev pub read_at : Reu → ℕ → Answered ℕ
read_at u i =
    cond (ltb i register_count)
    (cond (eqb i status)
    (record { value = reg u status; reu = with_irq (set_reg u status (acknowledged (reg u status))) false })
    (record { value = shown i (reg u i); reu = u }))
    (record { value = unused_register; reu = u })

unfoldable pub read_register : Reu → ℕ → Answered ℕ
read_register u addr = read_at u (register_index addr)

-- ---- write

-- "All bits are kept. A write drops an armed trigger, then starts or arms if bit 7 is set"
unfoldable pub write_command : Reu → ℕ → Reu
write_command u v =
    cond (bit v execute)
    (cond (bit v without_ff00) (start_dma (with_armed (set_reg u command v) false)) (with_armed (set_reg u command v) true))
    (with_armed (set_reg u command v) false)

-- "A write to a low or high byte changes the shadow and reloads both visible bytes of the pair from it"
abbrev pub load_pair : Reu → ℕ → ℕ → ℕ → Reu
load_pair u lo hi shadow = with_regs u (set (set u.regs lo (low_byte shadow)) hi (high_byte shadow))

abbrev pub write_c64 : Reu → ℕ → Reu
write_c64 u n = load_pair (with_shadows u n u.shadow_reu_addr u.shadow_len) c64_low c64_high n

abbrev pub write_exp : Reu → ℕ → Reu
write_exp u n = load_pair (with_shadows u u.shadow_c64_addr n u.shadow_len) exp_low exp_high n

abbrev pub write_len : Reu → ℕ → Reu
write_len u n = load_pair (with_shadows u u.shadow_c64_addr u.shadow_reu_addr n) length_low length_high n

-- "A bank write changes only the bank and its shadow", and "stores the bank OR $F8"
abbrev pub write_bank : Reu → ℕ → Reu
write_bank u bank =
    with_shadows (set_reg u exp_bank bank) u.shadow_c64_addr (with_bank u.shadow_reu_addr bank) u.shadow_len

-- any register but COMMAND. "Mask is stored and read OR $1F, control OR $3F"; "Writes [of STATUS] are ignored"; "Index 11 to 31 .. ignores writes"
abbrev pub write_other : Reu → ℕ → ℕ → Reu
write_other u i v =
    cond (eqb i c64_low) (write_c64 u (with_low u.shadow_c64_addr v))
    (cond (eqb i c64_high) (write_c64 u (with_high u.shadow_c64_addr v))
    (cond (eqb i exp_low) (write_exp u (with_low u.shadow_reu_addr v))
    (cond (eqb i exp_high) (write_exp u (with_high u.shadow_reu_addr v))
    (cond (eqb i exp_bank) (write_bank u (shown exp_bank v))
    (cond (eqb i length_low) (write_len u (with_low u.shadow_len v))
    (cond (eqb i length_high) (write_len u (with_high u.shadow_len v))
    (cond (eqb i interrupt_mask) (update_irq (set_reg u interrupt_mask (shown interrupt_mask v)))
    (cond (eqb i address_control) (set_reg u address_control (shown address_control v)) u))))))))

abbrev pub write_at : Reu → ℕ → ℕ → Reu
write_at u i v = cond (eqb i command) (write_command u v) (write_other u i v)

unfoldable pub write_register : Reu → ℕ → ℕ → Reu
write_register u addr v = write_at u (register_index addr) v

-- ---- a look that changes nothing and folds no index

unfoldable pub debug_register : Reu → ℕ → ℕ
debug_register u i = cond (ltb i register_count) (reg u i) unused_register
