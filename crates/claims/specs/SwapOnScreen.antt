-- L6: a swap through screen time. Quotations are L6's words where no other paper is named.
use Rattle.std.specs.Prelude.{ℕ, zero, suc, ◌+◌, ◌-◌, ◌*◌, ◌/◌, ◌%◌, ◌^◌, ◌<◌, ◌≤◌, Bool, true, false, cond, ◌≡◌, ◌≢◌, ◌⊎◌, List, ◌++◌, take, set, get_or, count_by, eqb, leb}
use Rattle.transfer.specs.Bytes.{bit}
use Rattle.transfer.specs.Constants.{command, execute, new_size}
use Rattle.transfer.specs.Memory.{is_size}
use Rattle.controller.specs.Enable.{new_reu, set_size, connected}
use Rattle.image.specs.Layout.{pack_image}
use Rattle.reu.specs.Exports.{flag}
use Rattle.claims.specs.Constants.{flags_byte, transfer_byte}
use Rattle.claims.specs.Calls.{Held, Memories, trigger_ff00, Kind, write, cycle, other, NumbersFit, does, accepts}
use Rattle.claims.specs.SwapTwice.{byte, size_set, CanStart, ShownAll, bus_place, storage_place, block_length, Exchanged, SwapsAtOnce, Ended}
use Rattle.claims.specs.RemainingBytes.{remaining_of, pair_in}
use Rattle.claims.specs.Sessions.{begin, r16, run}

-- ---- "a swap, from its start", by a write of COMMAND or by FF00

-- a swap waits for FF00: its COMMAND is written, and it is armed
pub record Armed (k : Held) : Type 0 where
  pub armed : bit (byte k flags_byte) 3 ≡ true
  pub swap : byte k command % 4 ≡ 2
  pub executes : bit (byte k command) execute ≡ true

pub data Starts (k : Held) : Kind → Type 0 where
  by_command : {d : Kind} → SwapsAtOnce d → Starts k d
  by_ff00 : Armed k → Starts k (other trigger_ff00)

-- k is held before the start, and d is the call that starts. "Neither address fixed"; another command may still run
pub record SwapStart (k : Held) (d : Kind) : Type 0 where
  pub can : CanStart k
  pub starts : Starts k d
  pub numbers : NumbersFit d

-- "late fall clear": bit 7 of the image's flags
abbrev pub LateClear : Held → Type 0
LateClear k = bit (byte k flags_byte) 7 ≡ false

-- ---- "no other writer, and no call but one cycle call per master cycle"

-- what a cycle call is told: `ba_high`, the cycle number, `ba_low`, of which nothing is asked, and `ba_high_phi1`
pub record Told : Type 0 where
  pub high : ℕ
  pub number : ℕ
  pub low : ℕ
  pub phi1 : ℕ

abbrev pub cycle_of : Told → Kind
cycle_of t = cycle t.high t.number t.low t.phi1

-- what is held before the start, the call that starts, and what each cycle call after it is told, the first of which is number 0
pub record ScreenTime : Type 0 where
  pub before : Held
  pub start : Kind
  pub told : ℕ → Told

-- what is held before call i: each call is made on what the one before it left
unfoldable pub held_at : ScreenTime → ℕ → Held
held_at t zero = (does t.start t.before).left
held_at t (suc i) = (does (cycle_of (t.told i)) (held_at t i)).left

-- a call on these buffers is not refused
abbrev pub Accepts : Kind → Held → Type 0
Accepts d k = accepts (record { kind = d; lent = k }) ≡ true

-- the command runs: bit 7 of COMMAND is set
abbrev pub Runs : Held → Type 0
Runs k = bit (byte k command) execute ≡ true

-- ---- what is assumed of BA

-- `ba_high_phi1` at call i
abbrev pub high_at : ScreenTime → ℕ → Bool
high_at t i = flag (t.told i).phi1

-- a "low stretch": n calls from call a on, and none more before or behind them; so one without an end is none, and nothing is asked of it
pub record LowStretch (t : ScreenTime) (a n : ℕ) : Type 0 where
  pub some : 0 < n
  pub low : (i : ℕ) → a ≤ i → i < a + n → high_at t i ≡ false
  pub before : (i : ℕ) → a ≡ suc i → high_at t i ≡ true
  pub behind : high_at t (a + n) ≡ true

-- it "touches the command": one of its calls comes while the command runs
abbrev pub Touches : ScreenTime → ℕ → ℕ → Type 0
Touches t a n = (i : ℕ) × (a ≤ i) × (i < a + n) × Runs (held_at t i)

-- "every low stretch of `ba_high_phi1` that touches the command lasts at least two calls"
abbrev pub TwoLow : ScreenTime → Type 0
TwoLow t = (a n : ℕ) → LowStretch t a n → Touches t a n → 2 ≤ n

-- what the request assumes besides
pub record Besides (t : ScreenTime) : Type 0 where
  pub late_clear : LateClear t.before
  -- "consecutive cycle numbers", of 64 bits; and every number fits the argument that it is passed as
  pub consecutive : (i : ℕ) → (t.told (suc i)).number ≡ ((t.told i).number + 1) % 2 ^ 64
  pub numbers : (i : ℕ) → NumbersFit (cycle_of (t.told i))
  -- "`ba_high_phi1` is high at the first call", "`ba_high` at each call is what `ba_high_phi1` is at the next"
  pub first_high : high_at t 0 ≡ true
  pub ahead : (i : ℕ) → flag (t.told i).high ≡ high_at t (suc i)

-- ---- what then holds

-- the bytes that the command has yet to complete: the image's remaining, and none where no command runs
abbrev pub left : Held → ℕ
left k = cond (eqb (byte k transfer_byte) 0) 0 (remaining_of (pair_in k.image))

-- "for each byte value, its number of occurrences in bus and storage together"
abbrev pub occurrences : ℕ → Held → ℕ
occurrences v k = count_by (λ x. eqb x v) k.bus + count_by (λ x. eqb x v) k.storage

-- from a to b the first d bytes of the block have changed places with their partners, and no other byte differs, but that the storage may have
-- the bus's next one already
pub record Midway (d : ℕ) (w : ℕ → ℕ) (a b : Held) : Type 0 where
  pub to_bus : (i : ℕ) → i < d → get_or b.bus (bus_place w i) 0 ≡ get_or a.storage (storage_place (size_set a) w i) 0
  pub to_storage : (i : ℕ) → i < d → get_or b.storage (storage_place (size_set a) w i) 0 ≡ get_or a.bus (bus_place w i) 0
  pub other_bus : (j : ℕ) → ((i : ℕ) → i < d → j ≢ bus_place w i) → get_or b.bus j 0 ≡ get_or a.bus j 0
  pub other_storage : (j : ℕ) → ((i : ℕ) → i ≤ d → j ≢ storage_place (size_set a) w i) → get_or b.storage j 0 ≡ get_or a.storage j 0
  pub next :
      d < block_length w
      → (get_or b.storage (storage_place (size_set a) w d) 0 ≡ get_or a.storage (storage_place (size_set a) w d) 0)
      ⊎ (get_or b.storage (storage_place (size_set a) w d) 0 ≡ get_or a.bus (bus_place w d) 0)

-- of the block that w shows, where so many high calls in a row complete a byte
pub record Swaps (calls : ℕ) (t : ScreenTime) (w : ℕ → ℕ) : Type 0 where
  -- "when the swap ends, every byte of the block has changed places and no other byte differs": at its end, and at each call behind it
  pub exchanged : (i : ℕ) → Ended (held_at t i) → Exchanged w t.before (held_at t i)
  -- the number "is then the same as at the start"
  pub same_count : (i v : ℕ) → Ended (held_at t i) → occurrences v (held_at t i) ≡ occurrences v t.before
  -- "inside the command, each high stretch of four or more calls completes at least one byte": with so many high calls in a row, or more, of
  -- which the first comes while the command runs, fewer bytes are left
  pub completes :
      (a n : ℕ) → calls ≤ n → Runs (held_at t a) → ((i : ℕ) → a ≤ i → i < a + n → high_at t i ≡ true)
      → left (held_at t (a + n)) < left (held_at t a)
  -- and the bytes that are not left are those that have changed places
  pub midway : (i : ℕ) → Midway (block_length w - left (held_at t i)) w t.before (held_at t i)

-- ---- courses of BA

-- of the kind that is asked for: BA is high at the first call, and no low call stands alone
pub record Course (high : ℕ → Bool) : Type 0 where
  pub first : high 0 ≡ true
  pub pairs : (i : ℕ) → high i ≡ true → high (suc i) ≡ false → high (suc (suc i)) ≡ false

abbrev pub Follows : ScreenTime → (ℕ → Bool) → Type 0
Follows t high = (i : ℕ) → high_at t i ≡ high i

-- high calls in a row in which any block ends: two for each byte
abbrev pub enough : (ℕ → ℕ) → ℕ
enough w = 2 * block_length w

-- low at the first `low` of `every` calls, over and over; o says where in these call 0 is
abbrev pub turns : (every low o : ℕ) → ℕ → Bool
turns every low o i = leb low ((o + i) % every)

-- calls in which any block ends where BA is high at least so: two of the high ones in each turn complete a byte; a turn more for what is over, and
-- one up to the first that is whole
abbrev pub turns_calls : (every low : ℕ) → (ℕ → ℕ) → ℕ
turns_calls every low w = every * (block_length w / ((every - low) / 2) + 2)

-- a screen's: low at 40 of every 504 calls, which are eight lines
abbrev pub screen : ℕ → ℕ → Bool
screen = turns 504 40

abbrev pub screen_calls : (ℕ → ℕ) → ℕ
screen_calls = turns_calls 504 40

-- ---- "R16 shows why": a low call that stands alone

-- R16's start, and its cycles from 10 on: `ba_high` low only at 10, `ba_high_phi1` low only at 11
abbrev pub r16_time : List ℕ → List ℕ → ScreenTime
r16_time m s =
    record {
      before = run m s (take 6 (begin 0 0 1 0x92));
      start = write command 0x92;
      told = λ i. record { high = cond (eqb i 0) 0 1; number = (10 + i) % 2 ^ 64; low = 0; phi1 = cond (eqb i 1) 0 1 };
    }

-- all is as L6 asks, but that the one low stretch is a single call. Call 0 reads: the storage takes the bus's byte, and the latch the storage's.
-- `ba_high` is low at it already, so the fall at call 1 is late: the read is to be made once more, at the call after it. At call 2 BA is high
-- again and the parity is the read's: the storage's byte is put back, and the read phase is next. But the read that is to be made once more is
-- made at this call too, and puts the bus's byte into the storage and nothing into the latch. So call 3 finds the bus's byte in both, call 4
-- writes it to the bus, and the storage's is lost. With a second low call the read would be made once more before BA rises, and nothing be lost
pub record Alone (m s : List ℕ) (t : ScreenTime) : Type 0 where
  pub start : SwapStart t.before t.start
  pub besides : Besides t
  pub stretch : LowStretch t 1 1
  pub touches : Touches t 1 1
  -- it is the recorded session, with which the command ends
  pub session : held_at t 5 ≡ run m s (begin 0 0 1 0x92 ++ r16)
  pub ends : Ended (held_at t 5)
  -- "both bytes end as c"
  pub bus_kept : (held_at t 5).bus ≡ m
  pub storage_lost : (held_at t 5).storage ≡ set s 0 (get_or m 0 0)
  -- so if c and r differ, they have not changed places
  pub not_exchanged : (w : ℕ → ℕ) → ShownAll t.before w → get_or m 0 0 ≢ get_or s 0 0 → ¬ Exchanged w t.before (held_at t 5)

-- ---- the claim

pub record SwapOnScreen : Type 0 where
  -- the request's own form
  pub requested :
      (t : ScreenTime) (w : ℕ → ℕ) → SwapStart t.before t.start → Besides t → TwoLow t → ShownAll t.before w → Swaps 4 t w
  -- of what it assumes only the low stretches are needed, and two high calls in a row complete a byte
  pub stronger : (t : ScreenTime) (w : ℕ → ℕ) → SwapStart t.before t.start → TwoLow t → ShownAll t.before w → Swaps 2 t w
  -- whatever BA does none of the calls is refused, and the start leaves a command that runs and has all of the block left
  pub accepted :
      (t : ScreenTime) (i : ℕ) → SwapStart t.before t.start → Accepts t.start t.before × Accepts (cycle_of (t.told i)) (held_at t i)
  pub begins :
      (t : ScreenTime) (w : ℕ → ℕ) → SwapStart t.before t.start → ShownAll t.before w
      → Runs (held_at t 0) × (left (held_at t 0) ≡ block_length w)
  -- with BA high long enough, from any call on, it ends; and it ends where BA is high in turns, or more often, and on a screen
  pub ends :
      (t : ScreenTime) (w : ℕ → ℕ) → SwapStart t.before t.start → TwoLow t → ShownAll t.before w
      → (a : ℕ) → ((i : ℕ) → a ≤ i → i < a + enough w → high_at t i ≡ true) → Ended (held_at t (a + enough w))
  pub ends_in_turns :
      (t : ScreenTime) (w : ℕ → ℕ) → SwapStart t.before t.start → TwoLow t → ShownAll t.before w
      → (every low o : ℕ) → low + 2 ≤ every → ((i : ℕ) → turns every low o i ≡ true → high_at t i ≡ true)
      → Ended (held_at t (turns_calls every low w))
  pub ends_on_a_screen :
      (t : ScreenTime) (w : ℕ → ℕ) → SwapStart t.before t.start → ShownAll t.before w
      → (o : ℕ) → screen o 0 ≡ true → Follows t (screen o) → Ended (held_at t (screen_calls w))
  -- a screen's course is of the kind; in one of the kind every low stretch is two calls or more; and for each there are calls that L6 allows
  pub screens : (o : ℕ) → screen o 0 ≡ true → Course (screen o)
  pub courses : (t : ScreenTime) (high : ℕ → Bool) → Course high → Follows t high → TwoLow t
  pub some_calls :
      (k : Held) (d : Kind) → LateClear k → (high : ℕ → Bool) → Course high
      → (t : ScreenTime) × (t.before ≡ k) × (t.start ≡ d) × Besides t × Follows t high
  -- and for each start there are some whose second and third calls are low, and with which it ends
  pub some_run :
      (k : Held) (d : Kind) → SwapStart k d → LateClear k → (w : ℕ → ℕ) → ShownAll k w
      → (t : ScreenTime) × (t.before ≡ k) × (t.start ≡ d) × Besides t × TwoLow t × LowStretch t 1 2 × Touches t 1 2
      × Ended (held_at t (3 + enough w))
  -- at each size there is a machine that can start, with any bus and storage; and from each that can there is a start by COMMAND and, late fall
  -- clear, one by FF00
  pub some_start :
      (size : ℕ) → is_size size ≡ true → (m s : List ℕ) → Memories size m s
      → let k : Held = record { image = pack_image (connected (set_size new_reu size)); bus = m; storage = s } in CanStart k × LateClear k
  pub some_command : (k : Held) → CanStart k → SwapStart k (write command 0x92)
  pub some_ff00 :
      (k : Held) → CanStart k → LateClear k
      → let a : Held = (does (write command 0x82) k).left in SwapStart a (other trigger_ff00) × LateClear a
  pub r16_shows_why : (m s : List ℕ) → Memories new_size m s → Alone m s (r16_time m s)
