-- L5: the stores that a step hands out. Quotations are L5's words where no other paper is named. u is the controller before the step.
use Rattle.std.specs.Prelude.{ℕ, ◌-◌, ◌≤◌, Bool, true, not, ◌&&◌, ◌||◌, cond, ◌≡◌, Option, None, Some, List, [], ◌∷◌, map, length, get_or, eqb}
use Rattle.transfer.specs.declared.dma.DmaState.{DmaState}
use Rattle.transfer.specs.declared.dma.TransferType.TheVariants.{Verify}
use Rattle.transfer.specs.declared.memory.Seen.{Seen}
use Rattle.transfer.specs.Constants.{register_count}
use Rattle.transfer.specs.Bytes.{low_byte, high_byte, bank_byte}
use Rattle.transfer.specs.declared.timing.ReuBusAction.TheVariants.{Transfer}
use Rattle.transfer.specs.Timing.{action_number, swap_reads}
use Rattle.transfer.specs.Dma.{active, is_type, moved, runs, seen_by}
use Rattle.regs.specs.declared.stores.RegisterStore.{RegisterStore}
use Rattle.regs.specs.Registers.{held}
use Rattle.regs.specs.Stores.{Stores, listed, made, store}
use Rattle.controller.specs.declared.reu.Reu.{Reu}
use Rattle.controller.specs.FinishDma.{autoload_stores, finish_dma, publish_live_counters, with_stores}
use Rattle.controller.specs.TickDma.{Ticked, differs, tick_of, with_error}
use Rattle.controller.specs.BusAction.{bus_action}
use Rattle.controller.specs.Calls.{cycle_call, step_call, tick_call}

-- ---- what is stored

-- "its shadow's byte": the low and the high byte of the C64 address, the three of the expansion address, the two of the length
abbrev pub shadow_byte : Reu → ℕ → ℕ
shadow_byte u i =
    let c : ℕ = u.shadow_c64_addr in
    let e : ℕ = u.shadow_reu_addr in
    let n : ℕ = u.shadow_len in
    get_or (low_byte c ∷ high_byte c ∷ low_byte e ∷ high_byte e ∷ bank_byte e ∷ low_byte n ∷ high_byte n ∷ []) (i - 2) 0

-- "stores each of registers 2 to 8 once, in that order, with its shadow's byte"
abbrev pub shadow_stores : Reu → List RegisterStore
shadow_stores u = map (λ (i : ℕ). store i (shadow_byte u i)) (2 ∷ 3 ∷ 4 ∷ 5 ∷ 6 ∷ 7 ∷ 8 ∷ [])

-- ---- which steps hand them out

-- a command with Autoload is running
abbrev pub autoloading : Option DmaState → Bool
autoloading x = runs (λ d. d.autoload) x

-- "a tick or cycle that ends a command with Autoload": one is running before the step, and after it, with w, none is
abbrev pub ends_autoload : Reu → Reu → Bool
ends_autoload u w = autoloading u.dma && not (active w.dma)

-- "The core step hands out these stores ..; any other step hands out none. Made on the registers before, they give registers 2 to 8
-- after": of a step that hands out x and leaves w
pub record HandedOut (u : Reu) (x : Stores) (w : Reu) : Type 0 where
  pub which : x ≡ cond (ends_autoload u w) (Some (shadow_stores u)) None
  pub gives : ends_autoload u w ≡ true → (i : ℕ) → 2 ≤ i → i ≤ 8 → held (made (listed x) u.regs) i ≡ held w.regs i

-- ---- which ticks end a command

-- 01: a verify mismatch "ends the command, unless it wasn't the last byte and remaining is now 1"
abbrev pub failed : DmaState → Seen → Bool
failed d b = is_type d.transfer_type Verify && (differs b && not (eqb (moved d).remaining 1))

-- a tick that doesn't refresh ends the command d in the tail, by the block's last byte, equal or not, or by a mismatch before it; a swap's
-- first phase completes no byte
abbrev pub an_end : Reu → DmaState → Seen → Bool
an_end u d b =
    not u.swap_refresh && (d.verify_tail || (not (swap_reads (Some d)) && (eqb d.remaining 1 || failed d b)))

-- on the bus m and the storage s, the command that runs
abbrev pub comes_to_end : Reu → List ℕ → List ℕ → Bool
comes_to_end u m s = runs (λ d. an_end u d (seen_by u.size u.dma m s)) u.dma

-- a command runs, and the step that answers and leaves x is not refused
abbrev pub Goes : Reu → Ticked → Type 0
Goes u x = (active u.dma ≡ true) × (x.0.refusal ≡ 0)

-- ---- the claim: of each of the three core steps, whatever it is lent; and which ticks and cycles end a command

pub record AutoloadStores : Type 0 where
  pub tick : (u : Reu) (m s : List ℕ) (cycle : ℕ) (low : Bool) →
      let t = (tick_call u m s cycle low).0 in HandedOut u t.stores t.reu
  pub cycle : (u : Reu) (m s : List ℕ) (high phi1 : Bool) (cycle : ℕ) (low : Bool) →
      let t = (cycle_call u m s high phi1 cycle low).0 in HandedOut u t.stores t.reu
  pub lent : (u : Reu) (m s : List ℕ) (high phi1 : Bool) (cycle : ℕ) (low : Bool) →
      let t = step_call u m s high phi1 cycle low in HandedOut u t.0.stores t.1
  -- "no stale register store": a tick's answer leaves the stores to be made, and until then has registers 2 to 8 as they were before
  pub clean : (u : Reu) (m s : List ℕ) (cycle : ℕ) (low : Bool) →
      let t = tick_of u.dma u (seen_by u.size u.dma m s) cycle low in
      ends_autoload u t.reu ≡ true → (i : ℕ) → 2 ≤ i → i ≤ 8 → held t.reu.regs i ≡ held u.regs i
  -- a tick ends the command as above, and a cycle does if its grant is Transfer and a tick of what the grant leaves would
  pub tick_ends : (u : Reu) (m s : List ℕ) (cycle : ℕ) (low : Bool) → Goes u (tick_call u m s cycle low) →
      not (active (tick_call u m s cycle low).0.reu.dma) ≡ comes_to_end u m s
  pub cycle_ends : (u : Reu) (m s : List ℕ) (high phi1 : Bool) (cycle : ℕ) (low : Bool) → Goes u (cycle_call u m s high phi1 cycle low) →
      let g = bus_action u s high phi1 cycle in
      not (active (cycle_call u m s high phi1 cycle low).0.reu.dma)
      ≡ (eqb (action_number g.0.action) (action_number Transfer) && comes_to_end g.0.reu m g.1)
  -- "Nothing that an exported call answers or leaves may change": live counters stored first, as before this request, would leave the same
  pub unseen : (u : Reu) (d : DmaState) (error ended : Bool) → length u.regs ≡ register_count →
      let x = autoload_stores u true in
      with_stores (finish_dma (publish_live_counters (with_error u error) d) ended) x
      ≡ with_stores (finish_dma (with_error u error) ended) x
