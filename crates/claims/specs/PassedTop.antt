-- L2: what the two marks tell an author, over bytes completed one after another. Quotations are L2's words.
use Rattle.std.specs.Prelude.{ℕ, zero, suc, ◌+◌, ◌≤◌, Bool, not, ◌&&◌, ◌≡◌, ltb}
use Rattle.transfer.specs.declared.dma.DmaState.{DmaState}
use Rattle.transfer.specs.declared.dma.Passed.{Passed}
use Rattle.transfer.specs.Bytes.{bit_of}
use Rattle.transfer.specs.Dma.{complete_byte}

-- a side of a transfer: its mark, its fix bit, its address, and the top of its addresses
pub record Side : Type 0 where
  pub mark : Passed → Bool
  pub fixed : DmaState → Bool
  pub address : DmaState → ℕ
  pub top : ℕ

-- "whether the C64 address passed $FFFF and whether the expansion address passed $FFFFFF"
abbrev pub c64_side : Side
c64_side = record { mark = λ p. p.c64; fixed = λ d. d.fix_c64; address = λ d. d.c64_addr.0; top = 0xFFFF }

abbrev pub exp_side : Side
exp_side = record { mark = λ p. p.expansion; fixed = λ d. d.fix_reu; address = λ d. d.reu_addr.0; top = 0xFFFFFF }

-- n bytes are completed, one after another: how many of them report
abbrev pub reported : Side → ℕ → DmaState → ℕ
reported k zero d = 0
reported k (suc n) d = bit_of (k.mark (complete_byte d).passed) + reported k n (complete_byte d).dma

-- of as many bytes as there are addresses, or fewer, exactly one reports if the address plus their number is above the top, and none
-- otherwise; "A fixed address never reports its own"
abbrev pub OnceOver : Side → Type 0
OnceOver k =
    (d : DmaState) (n : ℕ) → k.address d ≤ k.top → n ≤ k.top + 1 →
    reported k n d ≡ bit_of (not (k.fixed d) && ltb k.top (k.address d + n))

pub record PassedTop : Type 0 where
  pub c64 : OnceOver c64_side
  pub expansion : OnceOver exp_side
