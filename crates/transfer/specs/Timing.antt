-- The grant record, what the grant asks of the running command, and the C64 side's next access.
use Rattle.std.specs.Prelude.{◌+◌, ◌*◌, ◌&&◌, ◌≡◌, ◌≢◌, Result, MatchResult}
use Rattle.transfer.specs.Prelude.{ℕ, Bool, true, false, not, bool_eq, cond, C64Address, TransferType, Store, Recall, Swap, Verify, SwapPhase, ReadC64, WriteC64, DmaState, Option, None, Some, Put, Nothing, Storage, ReuC64Access, Read, Write, ReuBusAction, Cpu, Hold, Transfer, ltb}
use Rattle.transfer.specs.Constants.{bus_size}
use Rattle.transfer.specs.Bytes.{bit}
use Rattle.transfer.specs.declared.timing.NoAnswer.{NoAnswer}
use Rattle.transfer.specs.Dma.{is_type, is_write_phase, runs, with_phase}

-- "No transfer: Cpu. Transfer with BA low: Hold. Transfer with BA high: Transfer"
unfoldable pub action_for_cycle : Bool → Bool → ReuBusAction
action_for_cycle active high = cond active (cond high Transfer Hold) Cpu

abbrev pub access_by_type : TransferType → SwapPhase → C64Address → ReuC64Access
access_by_type Store phase a = Read a
access_by_type Recall phase a = Write a
access_by_type Swap ReadC64 a = Read a
access_by_type Swap WriteC64 a = Write a
access_by_type Verify phase a = Read a

-- with refresh set it is a read, whatever the type and the phase
abbrev pub access_of : Bool → Option DmaState → ReuC64Access
access_of refresh None = ReuC64Access.None
access_of refresh (Some d) =
    cond refresh (Read d.c64_addr) (access_by_type d.transfer_type d.swap_phase d.c64_addr)

abbrev pub reads : ReuC64Access → Bool
reads ReuC64Access.None = false
reads (Read a) = true
reads (Write a) = false

abbrev pub writes : ReuC64Access → Bool
writes ReuC64Access.None = false
writes (Read a) = false
writes (Write a) = true

-- "Cpu, Hold, Transfer 0, 1, 2; access 65,536 times 0 none, 1 read, 2 write, plus the address"
abbrev pub action_number : ReuBusAction → ℕ
action_number Cpu = 0
action_number Hold = 1
action_number Transfer = 2

abbrev pub access_number : ReuC64Access → ℕ
access_number ReuC64Access.None = 0
access_number (Read a) = 1 * 65536 + a.0
access_number (Write a) = 2 * 65536 + a.0

-- a C64 address has 16 bits
abbrev pub has_address : ReuC64Access → Bool
has_address ReuC64Access.None = true
has_address (Read a) = ltb a.0 bus_size
has_address (Write a) = ltb a.0 bus_size

-- a number read back: what has this number, or that nothing has it
abbrev pub Grants : ℕ → Result ReuBusAction NoAnswer → Type 0
Grants n r = MatchResult r (λ x. action_number x ≡ n) (λ e. (e.0 ≡ n) × ((x : ReuBusAction) → action_number x ≢ n))

abbrev pub Accesses : ℕ → Result ReuC64Access NoAnswer → Type 0
Accesses n r = MatchResult r (λ x. (has_address x ≡ true) × (access_number x ≡ n)) (λ e. (e.0 ≡ n) × ((x : ReuC64Access) → has_address x ≡ true → access_number x ≢ n))

-- ---- what the grant asks of the running command

-- a swap is in its read phase, in its write phase; a recall has moved no byte yet
abbrev pub swap_reads : Option DmaState → Bool
swap_reads x = runs (λ d. is_type d.transfer_type Swap && not (is_write_phase d.swap_phase)) x

abbrev pub swap_writes : Option DmaState → Bool
swap_writes x = runs (λ d. is_type d.transfer_type Swap && is_write_phase d.swap_phase) x

abbrev pub recall_starts : Option DmaState → Bool
recall_starts x = runs (λ d. is_type d.transfer_type Recall && d.first_byte) x

-- "a rise on a write phase with equal parity"
abbrev pub resumes : Option DmaState → Bool → ℕ → Bool
resumes x rising cycle = rising && (swap_writes x && bool_eq (runs (λ d. d.read_clock_odd) x) (bit cycle 0))

-- a swap's write phase "restores the storage byte and returns to the read phase"
abbrev pub read_again : Option DmaState → Option DmaState
read_again None = None
read_again (Some d) = Some (with_phase d ReadC64)

abbrev pub restored : Option DmaState → Put
restored None = Nothing
restored (Some d) = Storage d.reu_addr d.latch
