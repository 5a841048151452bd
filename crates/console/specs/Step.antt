-- Bus cycles: one by one, or until the command ends. i is the image, m the bus, s the storage.
use Rattle.std.specs.Prelude.{ℕ, zero, suc, ◌+◌, ◌/◌, ◌%◌, ◌^◌, Bool, cond, List, [], ◌∷◌, eqb, length, Option, Some, None, Result, Ok, Err}
use Rattle.transfer.specs.Bytes.{bit_of}
use Rattle.transfer.specs.Constants.{bus_size}
use Rattle.transfer.specs.Dma.{either, neither, passed_in}
use Rattle.transfer.specs.declared.dma.Passed.{Passed}
use Rattle.regs.specs.Stores.{Stores}
use Rattle.regs.specs.declared.stores.RegisterStore.{RegisterStore}
use Rattle.image.specs.Layout.{place_of, transfer_exp}
use Rattle.reu.specs.Exports.{refusal_unit, reu_bus_action, reu_c64_access, reu_dma_active}
use Rattle.reu.specs.Logged.{logged_cycle}
use Rattle.reu.specs.declared.Logged.{Logged}
use Rattle.pane.specs.Answers.{accepted, refused_as, refused_by}
use Rattle.pane.specs.Rows.{copy_of, long_at, size_in}
use Rattle.text.specs.Bytes.{byte_at}
use Rattle.text.specs.Shown.{◌⊕◌, ascii, decimal_of, hex_of}
use Rattle.lines.specs.declared.clock.Clock.{Clock}
use Rattle.console.specs.declared.step.Cycle.{Cycle}
use Rattle.console.specs.declared.step.Run.{Run}
use Rattle.lines.specs.declared.clock.Inputs.{Inputs}
use Rattle.pane.specs.declared.answers.Refused.{Refused}
use Rattle.transfer.specs.declared.memory.C64Address.{C64Address}
use Rattle.transfer.specs.declared.timing.ReuBusAction.{ReuBusAction}
use Rattle.transfer.specs.declared.timing.ReuBusAction.TheVariants.{Cpu, Hold, Transfer}
use Rattle.transfer.specs.declared.timing.ReuC64Access.{ReuC64Access}
use Rattle.transfer.specs.declared.timing.ReuC64Access.TheVariants.{Read, Write}
use Rattle.lines.specs.Clock.{Time, inputs_shown, letter_of, next_clock, next_time}

-- ---- one cycle

-- "Cpu, Hold, Transfer 0, 1, 2"
abbrev pub action_in : ℕ → ReuBusAction
action_in value = cond (eqb value 0) Cpu (cond (eqb value 1) Hold Transfer)

-- "65,536 times 1 for a read and 2 for a write, plus the address"
unfoldable pub access_in : ℕ → ReuC64Access
access_in value =
    let address : C64Address = record { 0 = value % 65536 } in
    cond (eqb (value / 65536) 0) ReuC64Access.None (cond (eqb (value / 65536) 1) (Read address) (Write address))

-- that it was refused, by what was answered: no access was made
abbrev pub refused_in : ℕ → Refused
refused_in answer = record { number = answer / refusal_unit }

-- the access that is ready: none, where it is refused
abbrev pub access_ready : List ℕ → ReuC64Access
access_ready i = access_in (cond (accepted (reu_c64_access i)) (reu_c64_access i) 0)

-- "it asks `bus_action`": asked before it of a copy of the image, with the access that is then ready and the storage's offset by the
-- expansion address and the size in it (L4: "folding keeps that many low bits"), and marks and stores nothing yet; and the storage after
-- that
unfoldable pub asked_of : Inputs → ℕ → List ℕ → List ℕ → (Result Cycle Refused × List ℕ)
asked_of inputs number i s =
    let g : (ℕ × List ℕ × List ℕ) = reu_bus_action (copy_of i) s (bit_of inputs.ba_high) (bit_of inputs.ba_high_phi1) number in (
      cond (accepted g.0)
          (Ok record { grant = action_in g.0; access = access_ready g.1; offset = long_at g.1 (place_of transfer_exp) % size_in g.1; passed = neither; stores = None })
          (Err (refused_in g.0)),
      g.2,
    )

-- on a bus of another length nothing is asked, since the cycle is refused there and writes nothing
unfoldable pub asked_before : Inputs → ℕ → List ℕ → List ℕ → List ℕ → (Option (Result Cycle Refused) × List ℕ)
asked_before inputs number i m s =
    let x : (Result Cycle Refused × List ℕ) = asked_of inputs number i s in
    cond (eqb (length m) bus_size) (Some x.0, x.1) (None, s)

-- a cycle that was asked for, with the marks in its answer, "plus 2 and plus 4", and with what it stored
abbrev pub with_logged : Result Cycle Refused → Logged → Result Cycle Refused
with_logged (Ok x) l =
    Ok record { grant = x.grant; access = x.access; offset = x.offset; passed = passed_in l.answer; stores = l.stores }
with_logged (Err refused) l = Err refused

-- the library's cycle: what it leaves; shown is what was asked before it with the marks that it answers and the stores that it hands out
-- (L5: "index and value, beside its answer"), or that it was refused
unfoldable pub cycle_of : Inputs → ℕ → List ℕ → List ℕ → List ℕ → (Result Cycle Refused × List ℕ × List ℕ × List ℕ)
cycle_of inputs number i m s =
    let k : (Logged × List ℕ × List ℕ × List ℕ) = logged_cycle i m s (bit_of inputs.ba_high) number (bit_of inputs.ba_low) (bit_of inputs.ba_high_phi1) in
    (cond (accepted k.0.answer) (with_logged (asked_of inputs number i s).0 k.0) (Err (refused_in k.0.answer)), k.1, k.2, k.3)

-- what a cycle stored; one that was refused stored nothing
abbrev pub stores_in : Result Cycle Refused → Stores
stores_in (Ok x) = x.stores
stores_in (Err refused) = None

-- the time after a cycle: one that was refused takes none
unfoldable pub time_after : Time → Result Cycle Refused → Time
time_after t (Ok done) = next_time t
time_after t (Err refused) = t

-- ---- one cycle, shown

-- BA as its letter says it
unfoldable pub ba_text : List ℕ → ℕ → List ℕ
ba_text t letter =
    cond (eqb letter 104) (t ⊕ ascii "  BA high  ")
    (cond (eqb letter 108) (t ⊕ ascii "  BA low   ")
    (cond (eqb letter 102) (t ⊕ ascii "  BA falls ")
    (cond (eqb letter 114) (t ⊕ ascii "  BA rises ") (t ⊕ ascii "  BA " ⊕ (letter ∷ []) ⊕ ascii "     "))))

-- the name of a grant, "Cpu, Hold, Transfer", in eight columns
abbrev pub grant_text : ReuBusAction → List ℕ
grant_text Cpu = ascii "Cpu     "
grant_text Hold = ascii "Hold    "
grant_text Transfer = ascii "Transfer"

-- an access: "a read" or "a write", and "the address"
unfoldable pub access_text : List ℕ → ReuC64Access → List ℕ
access_text t ReuC64Access.None = t ⊕ ascii "  no access"
access_text t (Read a) = t ⊕ ascii "  read  " ⊕ hex_of 4 a.0
access_text t (Write a) = t ⊕ ascii "  write " ⊕ hex_of 4 a.0

-- the two bytes at the transfer's place, as they are after the cycle
abbrev pub bytes_at : List ℕ → C64Address → ℕ → List ℕ → List ℕ → List ℕ
bytes_at t a offset m s =
    t ⊕ ascii "  bus " ⊕ hex_of 2 (byte_at m a.0) ⊕ ascii "  storage " ⊕ hex_of 5 offset ⊕ ascii " " ⊕ hex_of 2 (byte_at s offset)

-- none, where there is no access
unfoldable pub bytes_by : List ℕ → ReuC64Access → ℕ → List ℕ → List ℕ → List ℕ
bytes_by t ReuC64Access.None offset m s = t
bytes_by t (Read a) offset m s = bytes_at t a offset m s
bytes_by t (Write a) offset m s = bytes_at t a offset m s

abbrev pub mark_if : List ℕ → Bool → List ℕ → List ℕ
mark_if t shown mark = cond shown (t ⊕ mark) t

-- a mark for each address that ran over its top, behind what the line has
unfoldable pub passed_text : List ℕ → Passed → List ℕ
passed_text t p = mark_if (mark_if t p.c64 (ascii "  c64 passed FFFF")) p.expansion (ascii "  exp passed FFFFFF")

-- the grant, the access, the bytes and the marks, or that it was refused
unfoldable pub done_text : List ℕ → Result Cycle Refused → List ℕ → List ℕ → List ℕ
done_text t (Ok x) m s =
    passed_text (bytes_by (access_text (t ⊕ grant_text x.grant) x.access) x.access x.offset m s) x.passed
done_text t (Err refused) m s = t ⊕ refused_as refused.number

-- its number, BA, and what was done
unfoldable pub cycle_line : Clock → Result Cycle Refused → List ℕ → List ℕ → List ℕ
cycle_line c done m s = done_text (ba_text ([] ⊕ decimal_of c.cycle) (letter_of c)) done m s

-- a register that was stored, by its address, and the byte: "index and value"
abbrev pub store_line : RegisterStore → List ℕ
store_line x = [] ⊕ hex_of 4 (0xDF00 + x.index) ⊕ ascii " stored " ⊕ hex_of 2 x.value

-- ---- until the command ends

-- a run, with the image, the bus and the storage
abbrev pub Running : Type 0
Running = Run × List ℕ × List ℕ × List ℕ

abbrev pub started : Clock → Run
started c = record { clock = c; granted = 0; held = 0; passed = neither; stores = None }

-- a cycle more by its grant; 64 bits
abbrev pub counted_by : ReuBusAction → Run → Passed → Stores → Run
counted_by Transfer r p l =
    record { clock = next_clock r.clock; granted = (r.granted + 1) % 2 ^ 64; held = r.held; passed = p; stores = l }
counted_by other r p l =
    record { clock = next_clock r.clock; granted = r.granted; held = (r.held + 1) % 2 ^ 64; passed = p; stores = l }

-- a cycle more, whose marks stay for the rest of the run, and whose stores until the next; one that is refused is none
unfoldable pub counted : Run → Result Cycle Refused → Run
counted r (Ok x) = counted_by x.grant r (either r.passed x.passed) x.stores
counted r (Err refused) = r

-- a cycle while a command runs: none once it has ended, and none of a refused image
unfoldable pub advanced : Running → Running
advanced x =
    let c : Clock = x.0.clock in
    let y : (Result Cycle Refused × List ℕ × List ℕ × List ℕ) = cycle_of (inputs_shown (letter_of c)) c.cycle x.1 x.2 x.3 in
    cond (eqb (reu_dma_active x.1) 1) (counted x.0 y.0, y.1, y.2, y.3) x

unfoldable pub go_of : ℕ → Running → Running
go_of zero x = x
go_of (suc k) x = go_of k (advanced x)

-- how many cycles it had, and how it ended
unfoldable pub run_text : Run → List ℕ → List ℕ
run_text r i =
    let t : List ℕ = [] ⊕ decimal_of r.granted ⊕ ascii " cycles granted, " ⊕ decimal_of r.held in
    cond (eqb (reu_dma_active i) 0) (t ⊕ ascii " held: the command has ended")
    (cond (accepted (reu_dma_active i)) (t ⊕ ascii " held: at the limit, and the command still runs")
    (t ⊕ ascii " held: the image is " ⊕ refused_by (reu_dma_active i)))

-- with the marks of all its cycles
unfoldable pub run_line : Run → List ℕ → List ℕ
run_line r i = passed_text (run_text r i) r.passed
