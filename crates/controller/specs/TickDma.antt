-- `tick_dma`, one granted cycle of a transfer. It sees the two bytes at the transfer's place, and writes at most one byte. L5: where it ends a
-- command with Autoload it stores registers 2 to 8, and hands these stores out.
use Rattle.std.specs.Prelude.{◌&&◌, ◌||◌, ◌∷◌}
use Rattle.controller.specs.Prelude.{ℕ, Bool, true, false, not, cond, List, [], eqb, Store, Recall, Swap, Verify, TransferType, SwapPhase, ReadC64, WriteC64, DmaState, Option, None, Some, Seen, Put, Nothing, Bus, Storage, Passed, Reu, TickAnswer}
use Rattle.controller.specs.Answers.{StepAnswer}
use Rattle.transfer.specs.Constants.{verify_error}
use Rattle.transfer.specs.Bytes.{bit, ones}
use Rattle.regs.specs.FinishDma.{marked}
use Rattle.controller.specs.Reu.{with_regs, with_dma, with_release, with_refresh, with_repeat}
use Rattle.transfer.specs.Dma.{with_odd, with_latch, with_tail, recalled, latched}
use Rattle.transfer.specs.Memory.{put_bus, put_storage}
use Rattle.transfer.specs.Dma.{is_type, moved, neither, passed, seen_by}
use Rattle.regs.specs.Stores.{Stores}
use Rattle.controller.specs.FinishDma.{autoload_stores, publish_live_counters, finish_dma, with_stores}

-- what a tick answers and reports, the stores that it hands out, the controller before these are made, and what it writes
abbrev pub reports : Bool → Passed → Stores → Reu → Put → TickAnswer
reports flag p x u put = record { flag = flag; passed = p; stores = x; reu = u; put = put }

-- L2: "a verify tail, a swap's first phase .. report neither", nor does any other tick that completes no byte
abbrev pub quiet_tick : Bool → Reu → Put → TickAnswer
quiet_tick flag u put = reports flag neither None u put

-- "Verify mismatch sets bit 5"
abbrev pub with_error : Reu → Bool → Reu
with_error u error = with_regs u (marked u.regs (ones (verify_error ∷ [])) error)

-- a byte is done and the command goes on as d: the counters are shown
abbrev pub goes_on : Reu → Passed → Bool → DmaState → Put → TickAnswer
goes_on u p error d put =
    reports true p None (with_dma (publish_live_counters (with_error u error) d) (Some d)) put

-- what the end of a command finds, whose counters have come to d: with Autoload the registers as they were before the step, so that "no
-- stale register store" is made; without, the counters shown
abbrev pub shown_last : Reu → DmaState → Reu
shown_last u d = cond d.autoload u (publish_live_counters u d)

-- the end of the command d, on u: its stores are handed out, and are still to be made
abbrev pub ends : Reu → Passed → DmaState → Bool → Bool → Put → TickAnswer
ends u p d error ended put =
    reports false p (autoload_stores u d.autoload) (finish_dma (with_error u error) ended) put

-- a byte is done, and reports; the counters move. "Verify mismatch .. after the counters move, ends the command, unless it wasn't the
-- last byte and remaining is now 1. Then one more tick compares the last byte". The release flag: the block ended, of a swap, and
-- `ba_low` is 0
unfoldable pub advance : Reu → DmaState → Bool → Bool → Put → TickAnswer
advance u d error low put =
    cond (error && (not (eqb d.remaining 1) && eqb (moved d).remaining 1))
    (goes_on u (passed d) error (with_tail (moved d) true) put)
    (cond (eqb d.remaining 1 || error)
    (ends
    (with_release (shown_last u (moved d)) (eqb d.remaining 1 && (is_type d.transfer_type Swap && not low)))
    (passed d) d error (eqb d.remaining 1) put)
    (goes_on u (passed d) error (moved d) put))

-- a store: the C64's byte goes to the storage
unfoldable pub tick_store : Reu → DmaState → Seen → Bool → TickAnswer
tick_store u d b low = advance u d false low (Storage d.reu_addr b.bus)

-- a recall: the storage's byte goes to the C64, or the latch once more
unfoldable pub tick_recall : Reu → DmaState → Seen → Bool → TickAnswer
tick_recall u d b low =
    advance (with_repeat u (u.recall_repeat && d.first_byte)) (with_latch d (recalled d u.recall_repeat b)) false low
    (Bus d.c64_addr (recalled d u.recall_repeat b))

-- a swap: its first half latches the storage's byte and puts the C64's there, its second half puts the latch to the C64
unfoldable pub swap_read : Reu → DmaState → Seen → ℕ → TickAnswer
swap_read u d b cycle = quiet_tick true (with_dma u (Some (latched d b cycle))) (Storage d.reu_addr b.bus)

unfoldable pub swap_write : Reu → DmaState → Bool → TickAnswer
swap_write u d low = advance u d false low (Bus d.c64_addr d.latch)

unfoldable pub tick_swap : SwapPhase → Reu → DmaState → Seen → ℕ → Bool → TickAnswer
tick_swap ReadC64 u d b cycle low = swap_read u d b cycle
tick_swap WriteC64 u d b cycle low = swap_write u d low

-- a verify's mismatch
abbrev pub differs : Seen → Bool
differs b = not (eqb b.bus b.storage)

unfoldable pub tick_verify : Reu → DmaState → Seen → Bool → TickAnswer
tick_verify u d b low = advance u d (differs b) low Nothing

unfoldable pub tick_by_type : TransferType → Reu → DmaState → Seen → ℕ → Bool → TickAnswer
tick_by_type Store u d b cycle low = tick_store u d b low
tick_by_type Recall u d b cycle low = tick_recall u d b low
tick_by_type Swap u d b cycle low = tick_swap d.swap_phase u d b cycle low
tick_by_type Verify u d b cycle low = tick_verify u d b low

-- a refresh reads the C64's byte once more into the storage, and takes the parity anew
unfoldable pub tick_refresh : Reu → DmaState → Seen → ℕ → TickAnswer
tick_refresh u d b cycle =
    quiet_tick true (with_dma (with_refresh u false) (Some (with_odd d (bit cycle 0)))) (Storage d.reu_addr b.bus)

-- the tail "sets bit 6 exactly if equal, and moves no counter"
unfoldable pub tick_tail : Reu → DmaState → Seen → TickAnswer
tick_tail u d b = ends u neither d false (not (differs b)) Nothing

unfoldable pub tick_running : Reu → DmaState → Seen → ℕ → Bool → TickAnswer
tick_running u d b cycle low =
    cond u.swap_refresh (tick_refresh u d b cycle)
    (cond d.verify_tail (tick_tail u d b) (tick_by_type d.transfer_type u d b cycle low))

unfoldable pub tick_of : Option DmaState → Reu → Seen → ℕ → Bool → TickAnswer
tick_of None u b cycle low = quiet_tick false u Nothing
tick_of (Some d) u b cycle low =
    cond u.attached (tick_running u d b cycle low) (quiet_tick false (with_dma u None) Nothing)

-- ---- on a bus and a storage

-- the answer and the controller, the bus, the storage
abbrev pub Ticked : Type 0
Ticked = StepAnswer × List ℕ × List ℕ

abbrev pub ticked : Bool → Passed → Stores → Reu → StepAnswer
ticked flag p x u = record { refusal = 0; flag = flag; passed = p; stores = x; reu = u }

-- a step that reports neither and stores nothing: a refusal by its number, or one that ticks nothing
abbrev pub quiet_step : ℕ → Bool → Reu → StepAnswer
quiet_step n flag u = record { refusal = n; flag = flag; passed = neither; stores = None; reu = u }

-- the stores are made, and what is written is put
abbrev pub landed : ℕ → TickAnswer → List ℕ → List ℕ → Ticked
landed size t m s =
    (ticked t.flag t.passed t.stores (with_stores t.reu t.stores), put_bus t.put m, put_storage size t.put s)

unfoldable pub tick_dma : Reu → List ℕ → List ℕ → ℕ → Bool → Ticked
tick_dma u m s cycle low = landed u.size (tick_of u.dma u (seen_by u.size u.dma m s) cycle low) m s
