-- Facts of a controller: the ranges of a transfer that passes the test, and when a cycle has little to do. No exported contract cites this file.
use Rattle.std.specs.Prelude.{◌≡◌, ◌≤◌, ◌<◌}
use Rattle.controller.specs.Prelude.{false, DmaState, Option, None, Some, Reu}
use Rattle.transfer.specs.Constants.{expansion_limit, full_length}

pub record InRange (d : DmaState) : Type 0 where
  pub low : 1 ≤ d.remaining
  pub high : d.remaining ≤ full_length
  pub addr : d.reu_addr.0 < expansion_limit

abbrev pub InRangeDma : Option DmaState → Type 0
InRangeDma None = Unit {0}
InRangeDma (Some d) = InRange d

-- no transfer runs, and neither a terminal pair nor a delay is left
pub record Rests (u : Reu) : Type 0 where
  pub idle : u.dma ≡ None
  pub terminal : u.terminal_swap_write ≡ false
  pub delay : u.swap_read_delay ≡ 0
