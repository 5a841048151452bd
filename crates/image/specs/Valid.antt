-- What the types of a controller's fields say, and that a list is bytes.
use Rattle.std.specs.Prelude.{◌^◌, ◌<◌, ◌≡◌, Option, None, Some}
use Rattle.controller.specs.Prelude.{ℕ, List, get_or, length}
use Rattle.controller.specs.declared.reu.Reu.{Reu}
use Rattle.transfer.specs.Constants.{register_count}
use Rattle.transfer.specs.declared.dma.DmaState.{DmaState}

pub record Bytes (s : List ℕ) : Type 0 where
  pub below : (i : ℕ) → get_or s i 0 < 256

abbrev pub DmaTyped : Option DmaState → Type 0
DmaTyped None = Unit {0}
DmaTyped (Some d) = (d.c64_addr.0 < 65536) × (d.latch < 256)

pub record Typed (r : Reu) : Type 0 where
  pub regs_long : length r.regs ≡ register_count
  pub regs_bytes : Bytes r.regs
  pub c64_fits : r.shadow_c64_addr < 65536
  pub len_fits : r.shadow_len < 65536
  pub dma_fits : DmaTyped r.dma
  pub granted_fits : r.granted_cycles < 2 ^ 32
