-- `bus_action`, the grant of a cycle, in the original's order: the rise, the recall's fall, the terminal pair, the delay, the fall rules, the grant record.
use Rattle.std.specs.Prelude.{◌-◌, ◌&&◌, ◌||◌}
use Rattle.controller.specs.Prelude.{ℕ, Bool, true, false, not, cond, List, eqb, Put, Nothing, Hold, Transfer, ReuBusAction, Reu, BusAnswer, Answered}
use Rattle.transfer.specs.Constants.{command, without_ff00}
use Rattle.transfer.specs.Bytes.{bit}
use Rattle.controller.specs.Reu.{reg, with_dma, with_history, with_repeat, with_terminal, with_refresh, with_release, with_delay}
use Rattle.transfer.specs.Memory.{put_storage}
use Rattle.controller.specs.Timing.{c64_access}
use Rattle.transfer.specs.Timing.{action_for_cycle, read_again, reads, recall_starts, restored, resumes, swap_reads, swap_writes, writes}
use Rattle.transfer.specs.Dma.{active, is_first_byte, is_last_byte}

-- the grant, the controller after it, and what is written
abbrev pub grants : ReuBusAction → Reu → Put → BusAnswer
grants action u put = record { action = action; reu = u; put = put }

abbrev pub granted : ReuBusAction → Reu → BusAnswer
granted action u = grants action u Nothing

-- the grant record's plain rule
unfoldable pub plain : Reu → Bool → BusAnswer
plain u high = granted (action_for_cycle (active u.dma) high) u

abbrev pub given_up : ReuBusAction → Reu → BusAnswer
given_up action u = grants action (with_dma u (read_again u.dma)) (restored u.dma)

-- "immediate recall whose first byte meets a fall repeats its latch"; immediate by COMMAND's bit 4 at the fall
unfoldable pub repeated : Reu → Bool → Reu
repeated u falling = with_repeat u (falling && (bit (reg u command) without_ff00 && recall_starts u.dma) || u.recall_repeat)

-- a fall on a swap's read phase: the first byte waits; the last is read, and its write is granted next as the terminal pair; any other
-- waits for this cycle and the next
unfoldable pub fall_on_read : Reu → BusAnswer
fall_on_read u =
    cond (is_first_byte u.dma) (granted Hold u)
    (cond (is_last_byte u.dma) (granted Transfer (with_terminal u true)) (granted Hold (with_delay u 2)))

-- a fall on a swap's write phase: a late one reads again after a cycle, any other gives the write up
unfoldable pub fall_on_swap_write : Reu → Bool → BusAnswer
fall_on_swap_write u late = cond late (granted Hold (with_refresh (with_delay u 1) true)) (given_up Hold u)

-- a fall on a recall's write: the last byte waits, any other goes through
unfoldable pub fall_on_write : Reu → BusAnswer
fall_on_write u = cond (is_last_byte u.dma) (granted Hold u) (granted Transfer u)

unfoldable pub fall : Reu → Bool → BusAnswer
fall u late =
    cond (swap_reads u.dma) (fall_on_read u)
    (cond (reads (c64_access u)) (plain u false)
    (cond (swap_writes u.dma) (fall_on_swap_write u late)
    (cond (writes (c64_access u)) (fall_on_write u) (plain u false))))

-- "then terminal pair, delay, and the fall rules"
unfoldable pub decide : Reu → Bool → Bool → Bool → BusAnswer
decide u high falling late =
    cond u.terminal_swap_write (granted Transfer (with_terminal u false))
    (cond (eqb u.swap_read_delay 0) (cond falling (fall u late) (plain u high))
    (granted (cond (eqb u.swap_read_delay 1) Transfer Hold) (with_delay u (u.swap_read_delay - 1))))

-- a write half that is given up: the read half comes next
abbrev pub resumed : Reu → Bool → Reu
resumed u resumes = cond resumes (with_dma u (read_again u.dma)) u

-- BA's level at PHI1 rises or falls against the cycle before; a late fall was announced by `ba_high` alone. Where a rise gives a write up,
-- that is what is written: nothing falls then
unfoldable pub next_action : Reu → Bool → Bool → ℕ → BusAnswer
next_action u high phi1 cycle =
    let falling = u.ba_was_high && not phi1 in
    let resume = resumes u.dma (not u.ba_was_high && phi1) cycle in
    let now = resumed (with_history u phi1 (phi1 && not high)) resume in
    let answer = decide (repeated now falling) phi1 falling u.late_ba_fall in
    grants answer.action answer.reu (cond resume (restored u.dma) answer.put)

-- the grant and the controller, with the storage
abbrev pub Granted : Type 0
Granted = BusAnswer × List ℕ

unfoldable pub bus_action : Reu → List ℕ → Bool → Bool → ℕ → Granted
bus_action u s high phi1 cycle =
    (next_action u high phi1 cycle, put_storage u.size (next_action u high phi1 cycle).put s)

-- "`cpu_ready_after_dma` is BA high or the release flag, and always clears the flag"
abbrev pub cpu_ready_after_dma : Reu → Bool → Answered Bool
cpu_ready_after_dma u high = record { value = u.swap_release_pending || high; reu = with_release u false }
