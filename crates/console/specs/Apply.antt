-- What each command does: to the time, to the image i, the bus m and the storage s, and what it says.
-- t is the line that was typed, c the time.
use Rattle.std.specs.Prelude.{ℕ, ◌/◌, cond, List, [], eqb, Option, Some, None, Result, unwrap_or}
use Rattle.transfer.specs.Memory.{zeros}
use Rattle.regs.specs.Stores.{Stores}
use Rattle.reu.specs.Exports.{refusal_unit, reu_dma_active, reu_new, reu_reset, reu_set_enabled, reu_set_size, reu_trigger_ff00}
use Rattle.pane.specs.Answers.{accepted, refused_by}
use Rattle.text.specs.Shown.{◌⊕◌, ascii, decimal_of, text_of}
use Rattle.text.specs.Typed.{number_of, value_of, word_of, words_of}
use Rattle.lines.specs.declared.clock.Clock.{Clock}
use Rattle.console.specs.declared.step.Cycle.{Cycle as Done}
use Rattle.lines.specs.declared.keys.Command.{Command}
use Rattle.lines.specs.declared.keys.Command.TheVariants.{Poke, PokeStorage, W, Rd, Ff00, Ff00Upper, G, Ba, Cycle, Enable, Disable, Reset, New, Size}
use Rattle.pane.specs.declared.answers.Refused.{Refused}
use Rattle.lines.specs.Clock.{Time, inputs_shown, letter_of, time_of}
use Rattle.lines.specs.Commands.{size_typed}
use Rattle.lines.specs.Memory.{address, stored}
use Rattle.console.specs.Registers.{after_read, read_text, warning_of, written}
use Rattle.console.specs.Step.{Running, cycle_line, cycle_of, go_of, run_line, started, stores_in, time_after}

-- the time, what is said, the image, the bus and the storage
abbrev pub Outcome : Type 0
Outcome = Time × Option (List ℕ) × List ℕ × List ℕ × List ℕ

-- ---- parts

-- a command's number, or another where it has none
abbrev pub count_or : List ℕ → ℕ → ℕ
count_or t other = cond (eqb (words_of t) 2) (value_of (number_of (word_of 1 t))) other

abbrev pub bus_hint : List ℕ → Option (List ℕ)
bus_hint t = cond (eqb (address t / 256) 0xDF) (Some ([] ⊕ ascii "(bytes of the bus; the registers are written by w)")) None

-- `cycle` sets the number, or says it
abbrev pub cycle_time : List ℕ → Clock → Time
cycle_time t c = (count_or t c.cycle, text_of c.ba, c.at)

abbrev pub cycle_text : List ℕ → Clock → Option (List ℕ)
cycle_text t c = cond (eqb (words_of t) 2) None (Some ([] ⊕ ascii "the next cycle is " ⊕ decimal_of c.cycle))

-- `size`: what the call answers, and leaves of the image
abbrev pub sized : List ℕ → List ℕ → (ℕ × List ℕ)
sized t i = reu_set_size i (unwrap_or (size_typed (word_of 1 t)) 0)

-- nothing is said of a size that was set; L4: "6 setting one when attached"
unfoldable pub size_text : ℕ → Option (List ℕ)
size_text answer =
    let t : List ℕ = [] ⊕ ascii "the size is " ⊕ refused_by answer in
    cond (accepted answer) None
    (Some (cond (eqb (answer / refusal_unit) 6) (t ⊕ ascii ": storage is attached (new makes a machine without)") t))

-- `z`: one cycle
abbrev pub cycle_made : Clock → List ℕ → List ℕ → List ℕ → (Result Done Refused × List ℕ × List ℕ × List ℕ)
cycle_made c i m s = cycle_of (inputs_shown (letter_of c)) c.cycle i m s

unfoldable pub step_outcome : Clock → List ℕ → List ℕ → List ℕ → Outcome
step_outcome c i m s =
    let x : (Result Done Refused × List ℕ × List ℕ × List ℕ) = cycle_made c i m s in
    (time_after (time_of c) x.0, Some (cycle_line c x.0 x.2 x.3), x.1, x.2, x.3)

-- what that cycle stores
unfoldable pub step_stores : Clock → List ℕ → List ℕ → List ℕ → Stores
step_stores c i m s = stores_in (cycle_made c i m s).0

-- `g`: cycles until the command ends; a swap of 65,536 bytes takes half the limit
abbrev pub run_made : List ℕ → Clock → List ℕ → List ℕ → List ℕ → Running
run_made t c i m s = go_of (count_or t 0x40000) (started c, i, m, s)

unfoldable pub go_outcome : List ℕ → Clock → List ℕ → List ℕ → List ℕ → Outcome
go_outcome t c i m s =
    let x : Running = run_made t c i m s in
    cond (eqb (reu_dma_active i) 0) (time_of c, Some ([] ⊕ ascii "no command runs (an armed one waits for ff00)"), i, m, s)
    (time_of x.0.clock, Some (run_line x.0 x.1), x.1, x.2, x.3)

-- what the last of these cycles stores; nothing, where no command runs
unfoldable pub go_stores : List ℕ → Clock → List ℕ → List ℕ → List ℕ → Stores
go_stores t c i m s =
    cond (eqb (reu_dma_active i) 0) None (run_made t c i m s).0.stores

-- ---- the commands

-- those that are about the controller or the time alone: the time, what is said, the image
unfoldable pub control_of : Option Command → List ℕ → Clock → List ℕ → (Time × Option (List ℕ) × List ℕ)
control_of (Some W) t c i = (time_of c, warning_of i, written t i)
control_of (Some Rd) t c i = (time_of c, Some (read_text t i), after_read t i)
control_of (Some Ff00) t c i = (time_of c, None, (reu_trigger_ff00 i).1)
control_of (Some Ff00Upper) t c i = (time_of c, None, (reu_trigger_ff00 i).1)
control_of (Some Reset) t c i = (time_of c, None, (reu_reset i 0).1)
control_of (Some Ba) t c i = ((c.cycle, [] ⊕ word_of 1 t, 0), None, i)
control_of (Some Cycle) t c i = (cycle_time t c, cycle_text t c, i)
control_of (Some Size) t c i = (time_of c, size_text (sized t i).0, (sized t i).1)
control_of other t c i = (time_of c, None, i)

unfoldable pub apply_of : Option Command → List ℕ → Clock → List ℕ → List ℕ → List ℕ → Outcome
apply_of (Some Poke) t c i m s = (time_of c, bus_hint t, i, stored t m, s)
apply_of (Some PokeStorage) t c i m s = (time_of c, None, i, m, stored t s)
apply_of (Some Enable) t c i m s = (time_of c, None, (reu_set_enabled i s 1).1, m, (reu_set_enabled i s 1).2)
apply_of (Some Disable) t c i m s = (time_of c, None, (reu_set_enabled i s 0).1, m, (reu_set_enabled i s 0).2)
apply_of (Some New) t c i m s = ((0, [], 0), None, (reu_new i).1, zeros m, zeros s)
apply_of (Some G) t c i m s = go_outcome t c i m s
apply_of other t c i m s = let x : (Time × Option (List ℕ) × List ℕ) = control_of other t c i in (x.0, x.1, x.2, m, s)

-- of these `g` alone makes cycles, so no other has stores
unfoldable pub apply_stores : Option Command → List ℕ → Clock → List ℕ → List ℕ → List ℕ → Stores
apply_stores (Some G) t c i m s = go_stores t c i m s
apply_stores other t c i m s = None
