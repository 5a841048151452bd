-- Demand 3: a block swapped twice is back, and a run that stays idle ends with the same bytes. Quotations are the order's and
-- document 01's words.
use Rattle.std.specs.Prelude.{ℕ, ◌+◌, ◌*◌, ◌/◌, ◌%◌, ◌<◌, ◌≤◌, Bool, true, false, cond, ◌&&◌, ◌≢◌, ◌⊎◌, ◌↔◌, ◌≡◌, List, [], ◌∷◌, ◌++◌, map, length, get_or, eqb}
use Rattle.transfer.specs.declared.timing.ReuBusAction.TheVariants.{Transfer}
use Rattle.controller.specs.Enable.{new_reu, set_size, connected}
use Rattle.transfer.specs.Timing.{action_number}
use Rattle.transfer.specs.Memory.{is_size, physical_offset}
use Rattle.image.specs.Layout.{size_of, pack_image}
use Rattle.transfer.specs.Bytes.{bit, word, long}
use Rattle.image.specs.Open.{open_image}
use Rattle.image.specs.Valid.{Bytes}
use Rattle.reu.specs.Exports.{reu_read, reu_debug_register}
use Rattle.transfer.specs.Constants.{bus_size, full_length, status, command, c64_low, c64_high, exp_low, exp_high, exp_bank, length_low, length_high, address_control}
use Rattle.claims.specs.Constants.{register_window, flags_byte, more_flags_byte, transfer_byte}
use Rattle.claims.specs.Calls.{Held, Memories, Kind, read, write, cycle, other, grant_of, Call, leaves, accepts, next, after, Each, All, count, Threaded}

-- ---- the start of a run

-- byte i of the image
abbrev pub byte : Held → ℕ → ℕ
byte k i = get_or k.image i 0

-- L4: the size that an image sets, by "byte 19 bits 2-3"
abbrev pub size_set : Held → ℕ
size_set k = size_of (byte k more_flags_byte / 4)

-- no transfer
abbrev pub IsIdle : Held → Type 0
IsIdle k = byte k transfer_byte ≡ 0

-- what a swap's start needs: an accepted image that is unfixed and attached, with a bus and a storage of the size that is set
pub record CanStart (k : Held) : Type 0 where
  pub memories : Memories (size_set k) k.bus k.storage
  pub image_bytes : Bytes k.image
  pub accepted : (open_image k.image).refusal ≡ 0
  pub exp_unfixed : bit (byte k address_control) 6 ≡ false
  pub c64_unfixed : bit (byte k address_control) 7 ≡ false
  pub attached : bit (byte k flags_byte) 2 ≡ true

-- "any accepted image that is unfixed, attached, unarmed and idle by bytes 10, 18 and 21"
pub record Start (k : Held) : Type 0 where
  pub can : CanStart k
  pub unarmed : bit (byte k flags_byte) 3 ≡ false
  pub idle : IsIdle k

-- ---- the calls of a run

-- a cycle; a read, where R; or a write, where W allows it by its address and value
pub data Step (R : Type 0) (W : ℕ → ℕ → Type 0) : Kind → Type 0 where
  cycles : {high number low phi1 : ℕ} → Step R W (cycle high number low phi1)
  reads : {address : ℕ} → R → Step R W (read address)
  writes : {address value : ℕ} → W address value → Step R W (write address value)

abbrev pub AnyStep : Kind → Type 0
AnyStep = Step (Unit {0}) (λ address value. Unit {0})

abbrev pub NoWrite : ℕ → ℕ → Type 0
NoWrite address value = ⊥

-- the register that an address selects, a write to register r, and an accepted one
abbrev pub register : ℕ → ℕ
register address = address % register_window

abbrev pub writes_to : ℕ → Kind → Bool
writes_to r (read address) = false
writes_to r (write address value) = eqb (register address) r
writes_to r (cycle high number low phi1) = false
writes_to r (other o) = false

abbrev pub wrote : ℕ → Call → Bool
wrote r c = accepts c && writes_to r c.kind

-- "a cycle is granted if its grant is Transfer"
abbrev pub granted : Call → Bool
granted c = accepts c && eqb (grant_of c.kind c.lent) (action_number Transfer)

-- "every BA input is high"; a flag is false if it is 0. `ba_low` only says whether the end sets the release flag, and is left free
abbrev pub High : Kind → Type 0
High (read address) = Unit {0}
High (write address value) = Unit {0}
High (cycle high number low phi1) = (high ≢ 0) × (phi1 ≢ 0)
High (other o) = Unit {0}

-- "any list of register reads, writes and cycles, refused ones included", from what k holds
pub record Run (k : Held) (calls : List Call) : Type 0 where
  pub threaded : Threaded k calls
  pub kinds : All (λ c. AnyStep c.kind) calls
  pub high : Each (λ h c. High c.kind) k calls

-- ---- the block

-- "registers 2 to 8, the bank too"
abbrev pub OfBlock : ℕ → Type 0
OfBlock r = (c64_low ≤ r) × (r ≤ length_high)

-- "shown is what `read` or `debug_register` gives"
abbrev pub Shown : Held → ℕ → ℕ → Type 0
Shown k r v = (v ≡ (reu_read k.image r).0) ⊎ (v ≡ reu_debug_register k.image r)

-- w has a shown value of each of the seven, by either look; what `debug_register` gives is always one such w
abbrev pub ShownAll : Held → (ℕ → ℕ) → Type 0
ShownAll k w = (r : ℕ) → OfBlock r → Shown k r (w r)

-- "byte i, below n, is at C64 address plus i modulo 65,536, its partner at the offset of expansion address plus i", which
-- folds by the size set
abbrev pub bus_place : (ℕ → ℕ) → ℕ → ℕ
bus_place w i = (word (w c64_low) (w c64_high) + i) % bus_size

abbrev pub storage_place : ℕ → (ℕ → ℕ) → ℕ → ℕ
storage_place size w i = (physical_offset size (record { 0 = long (w exp_low) (w exp_high) (w exp_bank) + i })).0

-- "n the length, 65,536 for length 0"
abbrev pub block_length : (ℕ → ℕ) → ℕ
block_length w = let n = word (w length_low) (w length_high) in cond (eqb n 0) full_length n

-- from a to b "each byte of the block has changed places with its partner, .. and no other byte has changed"
pub record Exchanged (w : ℕ → ℕ) (a b : Held) : Type 0 where
  pub to_bus : (i : ℕ) → i < block_length w → get_or b.bus (bus_place w i) 0 ≡ get_or a.storage (storage_place (size_set a) w i) 0
  pub to_storage : (i : ℕ) → i < block_length w → get_or b.storage (storage_place (size_set a) w i) 0 ≡ get_or a.bus (bus_place w i) 0
  pub other_bus : (j : ℕ) → ((i : ℕ) → i < block_length w → j ≢ bus_place w i) → get_or b.bus j 0 ≡ get_or a.bus j 0
  pub other_storage :
      (j : ℕ) → ((i : ℕ) → i < block_length w → j ≢ storage_place (size_set a) w i) → get_or b.storage j 0 ≡ get_or a.storage j 0
  pub bus_length : length b.bus ≡ length a.bus
  pub storage_size : length b.storage ≡ length a.storage

-- ---- run A

-- a write of COMMAND, "type 2 with bits 4 and 7"; bits 2, 3, 5 and 6 are free
pub data SwapsAtOnce : Kind → Type 0 where
  swaps :
      {address value : ℕ} → register address ≡ command → value % 4 ≡ 2 → bit value 4 ≡ true → bit value 7 ≡ true
      → SwapsAtOnce (write address value)

-- a write of one of the seven "with the value it showed" at k
abbrev pub Rewrites : Held → ℕ → ℕ → Type 0
Rewrites k address value = OfBlock (register address) × Shown k (register address) value

-- bit 7 of COMMAND is clear: "the one that clears COMMAND bit 7 ends the swap"
abbrev pub Ended : Held → Type 0
Ended k = bit (byte k command) 7 ≡ false

-- "no accepted call but cycles comes while a swap runs"; then reads, and writes that W allows
abbrev pub OnceEnded : (ℕ → ℕ → Type 0) → Held → Call → Type 0
OnceEnded W k c = Step (Ended k) (λ address value. Ended k × W address value) c.kind

-- from k "swaps a block at once" and "lets it end": an accepted write of COMMAND, and the calls after it
pub record Swap (W : ℕ → ℕ → Type 0) (k : Held) (start : Call) (calls : List Call) : Type 0 where
  pub accepted : accepts start ≡ true
  pub starts : SwapsAtOnce start.kind
  pub then : Each (OnceEnded W) (next k start) calls
  pub ends : Ended (after (next k start) calls)

-- A's list in parts: the two writes of COMMAND and what stands before, between and after them
pub record Parts : Type 0 where
  pub before : List Call
  pub start : Call
  pub middle : List Call
  pub restart : Call
  pub last : List Call

abbrev pub list_of : Parts → List Call
list_of p = p.before ++ (p.start ∷ (p.middle ++ (p.restart ∷ p.last)))

-- what A holds when the first swap starts, and when the second does
abbrev pub at_start : Held → Parts → Held
at_start a p = after a p.before

abbrev pub at_restart : Held → Parts → Held
at_restart a p = after (next (at_start a p) p.start) p.middle

-- "A's nine accepted writes are those seven and COMMAND twice": between the two each of the seven comes once, "in any order with
-- the value it showed at that start", and elsewhere no other
pub record RunA (a : Held) (p : Parts) : Type 0 where
  pub run : Run a (list_of p)
  pub before : Each (λ k c. Step (Unit {0}) NoWrite c.kind) a p.before
  pub first : Swap (Rewrites (at_start a p)) (at_start a p) p.start p.middle
  pub each_once : (r : ℕ) → OfBlock r → count (wrote r) p.middle ≡ 1
  pub second : Swap NoWrite (at_restart a p) p.restart p.last

-- ---- run B

-- "stays idle": it starts so, and no accepted call leaves a transfer. It may write any register, and arm a trigger
pub record RunB (b : Held) (calls : List Call) : Type 0 where
  pub run : Run b calls
  pub stays_idle : Each (λ k c. IsIdle (leaves c)) b calls

-- ---- the claim

-- of the calls after a start: at each point of them the swap has ended exactly if 2n cycles have been granted
abbrev pub EndsAt : ℕ → Held → Call → List Call → Type 0
EndsAt n k start calls =
    (done left : List Call) → calls ≡ done ++ left → Ended (after (next k start) done) ↔ (count granted done ≡ 2 * n)

pub record Outcome (w : ℕ → ℕ) (a : Held) (p : Parts) (b : Held) (calls : List Call) : Type 0 where
  -- at each point from the end of the first swap to the second start
  pub exchanged :
      (done left : List Call) → p.middle ≡ done ++ left → Ended (after (next (at_start a p) p.start) done)
      → Exchanged w a (after (next (at_start a p) p.start) done)
  -- "each swap ends exactly when 2n cycles since its start are granted"
  pub first_length : EndsAt (block_length w) (at_start a p) p.start p.middle
  pub second_length : EndsAt (block_length w) (at_restart a p) p.restart p.last
  -- "after both lists A and B share every byte of bus and storage"
  pub same_bus : (after a (list_of p)).bus ≡ (after b calls).bus
  pub same_storage : (after a (list_of p)).storage ≡ (after b calls).storage

pub record SwapTwice : Type 0 where
  -- both start "with equal bus and storage"; "the two images may differ otherwise"
  pub runs :
      (a b : Held) (p : Parts) (calls : List Call) → Start a → Start b → a.bus ≡ b.bus → a.storage ≡ b.storage
      → RunA a p → RunB b calls → (w : ℕ → ℕ) → ShownAll (at_start a p) w → Outcome w a p b calls
  -- there are such starts of each size: a new controller with that size, enabled, with any bus and storage
  pub some_start :
      (size : ℕ) → is_size size ≡ true → (m s : List ℕ) → Memories size m s
      → Start (record { image = pack_image (connected (set_size new_reu size)); bus = m; storage = s })
  -- "from each such start there are lists of both kinds", B's with an accepted read, write and cycle
  pub some_a : (k : Held) → Start k → (p : Parts) × RunA k p
  pub some_b :
      (k : Held) → Start k
      → (calls : List Call) × RunB k calls × All (λ c. accepts c ≡ true) calls
      × (map (λ c. c.kind) calls ≡ read status ∷ write c64_low 0 ∷ cycle 1 0 0 1 ∷ [])
