-- What a cycle does to a controller whose transfer a short way serves: it holds the processor, completes a byte that is not the last, or makes a
-- swap's read.
use Prim.Native.Nat.{ℕ}
use mathlib.Core.Bool.{Bool, true, false, not, ◌&&◌}
use mathlib.Core.Path.{◌≡◌, refl, ◌∙◌}
use mathlib.Core.List.{List}
use lib.Dec.{eqb}
use Rattle.std.specs.Prelude.{None, Some}
use Rattle.transfer.specs.declared.dma.DmaState.{DmaState}
use Rattle.transfer.specs.declared.dma.TransferType.TheVariants.{Store, Recall, Swap, Verify}
use Rattle.transfer.specs.declared.dma.SwapPhase.TheVariants.{ReadC64, WriteC64}
use Rattle.transfer.specs.declared.timing.ReuBusAction.TheVariants.{Hold, Transfer}
use Rattle.transfer.specs.Dma.{latched, moved, neither, passed, with_latch}
use Rattle.transfer.specs.Memory.{bus_byte, seen_at, set_bus, set_storage, storage_byte}
use Rattle.controller.specs.declared.reu.Reu.{Reu}
use Rattle.controller.specs.Reu.{with_dma, with_history}
use Rattle.controller.specs.FinishDma.{publish_live_counters}
use Rattle.controller.specs.TickDma.{Ticked, quiet_step, ticked, tick_dma, tick_of, tick_running, tick_by_type, tick_store, tick_recall, tick_swap, tick_verify, swap_read, swap_write, advance}
use Rattle.controller.specs.Cycle.{run_reu_cycle, counted, cycle_by}
use Rattle.controller.proofs.Rest.{grant_computed, cycle_granted}
use Rattle.image.specs.InPlace.{Moves}

-- whoever unfolds this unfolds all that such a tick does
unfoldable tick_computed : Unit {0}
unfolding counted cycle_by tick_dma tick_of tick_running tick_by_type tick_store tick_recall tick_swap tick_verify swap_read swap_write advance publish_live_counters
tick_computed = tt

-- after a byte with BA high: the transfer has come to e, its counters are shown, and the cycle counts as granted
abbrev pub went_on : Reu → DmaState → Bool → Reu
went_on u e high = counted (with_dma (publish_live_counters (with_history u true (true && not high)) e) (Some e))

module _ (u : Reu) (m s : List ℕ) (high : Bool) (n : ℕ) (low : Bool) (d : DmaState) (h : Moves u d) where
  abbrev cycled : Bool → Ticked
  cycled phi1 = run_reu_cycle u m s high phi1 n low

  abbrev now : Bool → Reu
  now phi1 = with_history u phi1 (phi1 && not high)

  -- BA stays low: the processor is held, and BA's history alone changes
  pub hold_step : u.ba_was_high ≡ false → cycled false ≡ (quiet_step 0 true (now false), m, s)
  unfolding grant_computed cycle_by
  hold_step q = cycle_granted u m s high n low false Hold (rw (q, h.runs, h.terminal, h.delay) refl)

  module _ (q : u.ba_was_high ≡ true) where
    -- BA stays high: the cycle is the transfer's
    taken : cycled true ≡ cycle_by Transfer (now true) m s n low
    unfolding grant_computed
    taken = cycle_granted u m s high n low true Transfer (rw (q, h.runs, h.terminal, h.delay) refl)

    -- a swap's read half: the storage takes the bus's byte, the latch the storage's
    pub swap_read_step : d.transfer_type ≡ Swap → d.swap_phase ≡ ReadC64
        → cycled true ≡ (ticked true neither None (counted (with_dma (now true) (Some (latched d (seen_at u.size d.c64_addr d.reu_addr m s) n)))), m, set_storage u.size s d.reu_addr (bus_byte m d.c64_addr))
    unfolding tick_computed
    swap_read_step t p = taken ∙ rw (h.runs, h.attached, h.refresh, h.tail, t, p) refl

    module _ (more : eqb d.remaining 1 ≡ false) where
      abbrev onward : DmaState → List ℕ → List ℕ → Ticked
      onward e b t = (ticked true (passed d) None (went_on u (moved e) high), b, t)

      -- a store: the storage takes the bus's byte
      pub store_step : d.transfer_type ≡ Store → cycled true ≡ onward d m (set_storage u.size s d.reu_addr (bus_byte m d.c64_addr))
      unfolding tick_computed
      store_step t = taken ∙ rw (h.runs, h.attached, h.refresh, h.tail, t, more) refl

      -- a recall: the bus and the latch take the storage's byte
      pub recall_step : d.transfer_type ≡ Recall
          → cycled true ≡ onward (with_latch d (storage_byte u.size s d.reu_addr)) (set_bus m d.c64_addr (storage_byte u.size s d.reu_addr)) s
      unfolding tick_computed
      recall_step t = taken ∙ rw (h.runs, h.attached, h.repeat, h.refresh, h.tail, t, more) refl

      -- a swap's write half: the bus takes the latch
      pub swap_write_step : d.transfer_type ≡ Swap → d.swap_phase ≡ WriteC64 → cycled true ≡ onward d (set_bus m d.c64_addr d.latch) s
      unfolding tick_computed
      swap_write_step t p = taken ∙ rw (h.runs, h.attached, h.refresh, h.tail, t, p, more) refl

      -- a verify of equal bytes writes nothing
      pub verify_step : d.transfer_type ≡ Verify → eqb (bus_byte m d.c64_addr) (storage_byte u.size s d.reu_addr) ≡ true → cycled true ≡ onward d m s
      unfolding tick_computed
      verify_step t same = taken ∙ rw (h.runs, h.attached, h.refresh, h.tail, t, same, more) refl
