-- The controller record's fields, and a controller with some of them replaced.
use Rattle.regs.specs.Registers.{held}
use Rattle.controller.specs.Prelude.{ℕ, Bool, false, List, set, Option, DmaState, Reu}

-- register i
abbrev pub reg : Reu → ℕ → ℕ
reg u i = held u.regs i

-- ---- the registers, the shadows (C64 address, expansion address, length)

abbrev pub with_regs : Reu → List ℕ → Reu
with_regs u r = record u { regs = r }

abbrev pub set_reg : Reu → ℕ → ℕ → Reu
set_reg u i v = with_regs u (set u.regs i v)

abbrev pub with_shadows : Reu → ℕ → ℕ → ℕ → Reu
with_shadows u c e n = record u { shadow_c64_addr = c; shadow_reu_addr = e; shadow_len = n }

-- ---- enabled, the interrupt level, attached, armed; the two flags of BA's history; the running command

abbrev pub with_power : Reu → Bool → Bool → Bool → Bool → Reu
with_power u enabled irq attached armed =
    record u { enabled = enabled; irq_pending = irq; attached = attached; waiting_ff00 = armed }

abbrev pub with_irq : Reu → Bool → Reu
with_irq u irq = record u { irq_pending = irq }

abbrev pub with_armed : Reu → Bool → Reu
with_armed u armed = record u { waiting_ff00 = armed }

abbrev pub with_history : Reu → Bool → Bool → Reu
with_history u high late = record u { ba_was_high = high; late_ba_fall = late }

abbrev pub with_dma : Reu → Option DmaState → Reu
with_dma u dma = record u { dma = dma }

-- ---- L1's number: how many cycles were granted

abbrev pub with_granted : Reu → ℕ → Reu
with_granted u n = record u { granted_cycles = n }

-- ---- L4's number: the size that is set

abbrev pub with_size : Reu → ℕ → Reu
with_size u size = record u { size = size }

-- ---- recall repeat, terminal write, refresh, release, delay

abbrev pub with_pending : Reu → Bool → Bool → Bool → Bool → ℕ → Reu
with_pending u repeat terminal refresh release delay =
    record u {
      recall_repeat = repeat;
      terminal_swap_write = terminal;
      swap_refresh = refresh;
      swap_release_pending = release;
      swap_read_delay = delay;
    }

abbrev pub with_repeat : Reu → Bool → Reu
with_repeat u v = record u { recall_repeat = v }

abbrev pub with_terminal : Reu → Bool → Reu
with_terminal u v = record u { terminal_swap_write = v }

abbrev pub with_refresh : Reu → Bool → Reu
with_refresh u v = record u { swap_refresh = v }

abbrev pub with_release : Reu → Bool → Reu
with_release u v = record u { swap_release_pending = v }

abbrev pub with_delay : Reu → ℕ → Reu
with_delay u v = record u { swap_read_delay = v }

-- "Each start clears armed, recall repeat, terminal write, delay, refresh and release"
abbrev pub cleared : Reu → Reu
cleared u = with_armed (with_pending u false false false false 0) false
