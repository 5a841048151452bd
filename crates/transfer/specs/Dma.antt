-- The transfer record: its parts, completing a byte, and when it is refused.
use Rattle.std.specs.Prelude.{◌+◌, ◌-◌, ◌*◌, ◌&&◌, ◌||◌, ◌∷◌}
use Rattle.transfer.specs.Prelude.{ℕ, Bool, true, false, not, cond, List, [], eqb, leb, ltb, Seen, TransferType, Store, Recall, Swap, Verify, SwapPhase, ReadC64, WriteC64, DmaState, Passed, Completed, Option, None, Some}
use Rattle.transfer.specs.Constants.{expansion_limit, full_length}
use Rattle.transfer.specs.Bytes.{bit, bit_of, keep_bits}
use Rattle.transfer.specs.Memory.{next_c64, next_exp, seen_at}

-- ---- a transfer with some fields replaced: phase, latch, read parity and verify tail are what a tick changes beside the counters

abbrev pub with_phase : DmaState → SwapPhase → DmaState
with_phase d v = record d { swap_phase = v }

abbrev pub with_latch : DmaState → ℕ → DmaState
with_latch d v = record d { latch = v }

abbrev pub with_odd : DmaState → Bool → DmaState
with_odd d v = record d { read_clock_odd = v }

abbrev pub with_tail : DmaState → Bool → DmaState
with_tail d v = record d { verify_tail = v }

-- ---- its type and phase

-- "type (0 store, 1 recall, 2 swap, 3 verify)"
abbrev pub type_number : TransferType → ℕ
type_number Store = 0
type_number Recall = 1
type_number Swap = 2
type_number Verify = 3

-- "COMMAND: bits 0-1 type": of any byte only these two bits count
abbrev pub type_bits : ℕ → ℕ
type_bits v = keep_bits (0 ∷ 1 ∷ []) v

unfoldable pub type_of : ℕ → TransferType
type_of v = cond (eqb (type_bits v) 0) Store (cond (eqb (type_bits v) 1) Recall (cond (eqb (type_bits v) 2) Swap Verify))

abbrev pub is_type : TransferType → TransferType → Bool
is_type a b = eqb (type_number a) (type_number b)

abbrev pub is_write_phase : SwapPhase → Bool
is_write_phase ReadC64 = false
is_write_phase WriteC64 = true

-- a transfer runs; one runs of which p holds
abbrev pub active : Option DmaState → Bool
active None = false
active (Some d) = true

abbrev pub runs : (DmaState → Bool) → Option DmaState → Bool
runs p None = false
runs p (Some d) = p d

abbrev pub is_first_byte : Option DmaState → Bool
is_first_byte x = runs (λ d. d.first_byte) x

abbrev pub is_last_byte : Option DmaState → Bool
is_last_byte x = runs (λ d. eqb d.remaining 1) x

-- "Length 0 means 65,536"
unfoldable pub length_of : ℕ → ℕ
length_of n = cond (eqb n 0) full_length n

-- "After each byte the C64 address steps up, .. the expansion address likewise, .. each unless fixed. Remaining 1 ends the block and stays 1"
abbrev pub moved : DmaState → DmaState
moved d =
    record d {
      swap_phase = ReadC64;
      c64_addr = cond d.fix_c64 d.c64_addr (next_c64 d.c64_addr);
      reu_addr = cond d.fix_reu d.reu_addr (next_exp d.reu_addr);
      remaining = cond (eqb d.remaining 1) d.remaining (d.remaining - 1);
      first_byte = false;
    }

-- L2: "whether the C64 address passed $FFFF and whether the expansion address passed $FFFFFF". "A fixed address never reports its own"
abbrev pub passed : DmaState → Passed
passed d =
    record {
      c64 = not d.fix_c64 && eqb d.c64_addr.0 0xFFFF;
      expansion = not d.fix_reu && eqb d.reu_addr.0 0xFFFFFF;
    }

-- what is reported where no byte is completed
abbrev pub neither : Passed
neither = record { c64 = false; expansion = false }

-- "plus 2 and plus 4"
abbrev pub passed_number : Passed → ℕ
passed_number p = 2 * bit_of p.c64 + 4 * bit_of p.expansion

-- the marks in a step's value, whose other bit is its flag
abbrev pub passed_in : ℕ → Passed
passed_in n = record { c64 = bit n 1; expansion = bit n 2 }

-- a mark of either of two steps
abbrev pub either : Passed → Passed → Passed
either p q = record { c64 = p.c64 || q.c64; expansion = p.expansion || q.expansion }

-- "Completing a byte must also report .."
unfoldable pub complete_byte : DmaState → Completed
complete_byte d = record { done = eqb d.remaining 1; passed = passed d; dma = moved d }

-- a recall's byte: the storage's, or it "repeats its latch for the second byte"
abbrev pub recalled : DmaState → Bool → Seen → ℕ
recalled d repeat b = cond (repeat && not d.first_byte) d.latch b.storage

-- a swap's first half latches the storage's byte and takes the cycle's parity, and its second half is next
abbrev pub latched : DmaState → Seen → ℕ → DmaState
latched d b cycle = with_phase (with_latch (with_odd d (bit cycle 0)) b.storage) WriteC64

-- the bytes that a running transfer sees; none counts where there is no transfer
abbrev pub seen_by : ℕ → Option DmaState → List ℕ → List ℕ → Seen
seen_by size None m s = record { bus = 0; storage = 0 }
seen_by size (Some d) m s = seen_at size d.c64_addr d.reu_addr m s

-- ---- "Refused, by who can cause it"

-- "a write phase without swap, a tail without verify or with remaining other than 1"
abbrev pub well_transfer : DmaState → Bool
well_transfer d =
    (leb 1 d.remaining && leb d.remaining full_length)
    && (ltb d.reu_addr.0 expansion_limit
    && ((not (is_write_phase d.swap_phase) || is_type d.transfer_type Swap)
    && (not d.verify_tail || (is_type d.transfer_type Verify && eqb d.remaining 1))))

-- "a transfer while not attached"
abbrev pub well_dma : Bool → Option DmaState → Bool
well_dma attached None = true
well_dma attached (Some d) = attached && well_transfer d
