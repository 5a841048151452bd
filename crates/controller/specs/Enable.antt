-- New, reset, the size, and the enable switch.
use Rattle.std.specs.Prelude.{◌∷◌}
use Rattle.controller.specs.Prelude.{ℕ, Bool, true, false, cond, List, [], None, Reu}
use Rattle.transfer.specs.Constants.{new_size, status, version, without_ff00, bank_ones, mask_ones, control_ones}
use Rattle.transfer.specs.Bytes.{ones, set_bits, clear_bits}
use Rattle.controller.specs.Reu.{reg, set_reg, with_power, with_size, with_dma, cleared}
use Rattle.transfer.specs.Memory.{chip_mark, zeros}

-- L4: "STATUS bit 4 is a chip-size mark": v with the mark of a size
abbrev pub with_mark : ℕ → ℕ → ℕ
with_mark size v = cond (chip_mark size) (set_bits (version ∷ []) v) (clear_bits (version ∷ []) v)

-- R1: STATUS $10, COMMAND $10, addresses 0, bank $F8 over a shadow of 0, length $FFFF, mask $1F, control $3F; "BA was high is true";
-- L1: the count of granted cycles is "zero at new, reset"; STATUS has the mark of the size
abbrev pub fresh : Bool → Bool → ℕ → Reu
fresh enabled attached size =
    record {
      regs =
          with_mark size 0 ∷ ones (without_ff00 ∷ []) ∷ 0 ∷ 0 ∷ 0 ∷ 0 ∷ ones bank_ones ∷ 255 ∷ 255 ∷ ones mask_ones ∷ ones control_ones ∷ [];
      shadow_c64_addr = 0;
      shadow_reu_addr = 0;
      shadow_len = 65535;
      enabled = enabled;
      irq_pending = false;
      attached = attached;
      waiting_ff00 = false;
      ba_was_high = true;
      recall_repeat = false;
      terminal_swap_write = false;
      late_ba_fall = false;
      swap_refresh = false;
      swap_release_pending = false;
      swap_read_delay = 0;
      dma = None;
      granted_cycles = 0;
      size = size;
    }

abbrev pub new_reu : Reu
new_reu = fresh false false new_size

-- "Reset gives all but `enabled`, attached and the storage the state of new". L4: "Reset keeps the size and its bit 4"
abbrev pub reset_reu : Reu → Reu
reset_reu u = fresh u.enabled u.attached u.size

-- L4: "Setting a size changes that bit at once", and nothing else
unfoldable pub set_size : Reu → ℕ → Reu
set_size u size = with_size (set_reg u status (with_mark size (reg u status))) size

-- "Disabling drops the transfer, clears what a start clears, lowers the interrupt level, keeps all registers and the two BA history flags"
abbrev pub disabled : Reu → Reu
disabled u = with_dma (with_power (cleared u) false false u.attached false) None

abbrev pub connected : Reu → Reu
connected u = with_power u true u.irq_pending true u.waiting_ff00

-- "The first enabling attaches it and sets every byte to 0. Reset and disabling keep it"
unfoldable pub set_enabled : Reu → List ℕ → Bool → (Reu × List ℕ)
set_enabled u s enabled = cond enabled (connected u, cond u.attached s (zeros s)) (disabled u, s)
