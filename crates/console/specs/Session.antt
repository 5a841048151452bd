-- A session: what is held from one turn to the next, and what a turn does. z is the session, i the image, m the bus, s the
-- storage, t the line that was typed.
use Rattle.std.specs.Prelude.{ℕ, ◌-◌, Bool, true, cond, List, length, eqb, ltb, Option, Some, None}
use Rattle.regs.specs.Stores.{Stores}
use Rattle.text.specs.Typed.{word_of}
use Rattle.console.specs.declared.session.Session.{Session}
use Rattle.console.specs.Said.{some_text}
use Rattle.console.specs.Apply.{Outcome, apply_of, apply_stores, count_or, step_outcome, step_stores}
use Rattle.lines.specs.Clock.{Time, time_of}
use Rattle.lines.specs.declared.keys.Command.{Command}
use Rattle.lines.specs.declared.keys.Command.TheVariants.{Q, Z}
use Rattle.lines.specs.Commands.{is_comment, line_fault}
use Rattle.lines.specs.Keys.{command_of}
use Rattle.pane.specs.Rows.{size_in}

-- ---- the machine

-- its time, the image, the bus and the storage
abbrev pub Machine : Type 0
Machine = Time × List ℕ × List ℕ × List ℕ

-- ---- what is held

-- the machine, the cycles that are still to be stepped, and whether the session has ended
abbrev pub Held : Type 0
Held = Machine × ℕ × Bool

abbrev pub machine_of : Session → List ℕ → List ℕ → List ℕ → Machine
machine_of z i m s = (time_of z.clock, i, m, s)

abbrev pub held_of : Session → List ℕ → List ℕ → List ℕ → Held
held_of z i m s = (machine_of z i m s, z.left, z.ended)

abbrev pub ended_session : Session → Session
ended_session z = record { clock = z.clock; left = z.left; ended = true }

-- ---- a turn

-- what is held after it, what is said, and the line that was obeyed
abbrev pub Turn : Type 0
Turn = Held × Option (List ℕ) × Option (List ℕ)

-- a cycle, and one fewer to step
abbrev pub cycle_turn : Session → List ℕ → List ℕ → List ℕ → Turn
cycle_turn z i m s =
    let x : Outcome = step_outcome z.clock i m s in
    (((x.0, x.2, x.3, x.4), z.left - 1, z.ended), x.1, None)

-- what is wrong with a line: the last offset of the storage goes by the size that the image sets
abbrev pub fault_in : List ℕ → List ℕ → List ℕ
fault_in i t = line_fault t (size_in i - 1)

-- a line is forgotten where something is wrong with it, and where it is a comment
abbrev pub is_dropped : List ℕ → List ℕ → Bool
is_dropped t fault = cond (eqb (length fault) 0) (is_comment t) true

abbrev pub dropped_turn : List ℕ → Session → List ℕ → List ℕ → List ℕ → Turn
dropped_turn t z i m s = (held_of z i m s, some_text (fault_in i t), None)

-- `z` says how many cycles are to be stepped, 1 where it has no number
abbrev pub steps_by : Option Command → List ℕ → ℕ
steps_by (Some Z) t = count_or t 1
steps_by other t = 0

-- the steps that a line asks for, by its first word
abbrev pub steps_of : List ℕ → ℕ
steps_of t = steps_by (command_of (word_of 0 t)) t

-- `q` ends the session
abbrev pub ended_by : Option Command → Bool → Bool
ended_by (Some Q) ended = true
ended_by other ended = ended

-- whether a session has ended after a line, by the line's first word
abbrev pub ended_after : List ℕ → Bool → Bool
ended_after t ended = ended_by (command_of (word_of 0 t)) ended

-- any other line does to the machine what its command does
abbrev pub obey_turn : List ℕ → Session → List ℕ → List ℕ → List ℕ → Turn
obey_turn t z i m s =
    let x : Outcome = apply_of (command_of (word_of 0 t)) t z.clock i m s in
    (((x.0, x.2, x.3, x.4), steps_of t, ended_after t z.ended), x.1, Some t)

-- a cycle, as long as some are to be stepped, and then the next line
unfoldable pub turn_of : List ℕ → Session → List ℕ → List ℕ → List ℕ → Turn
turn_of t z i m s =
    cond (ltb 0 z.left) (cycle_turn z i m s)
    (cond (is_dropped t (fault_in i t)) (dropped_turn t z i m s) (obey_turn t z i m s))

-- what a turn stores: a cycle's stores or the command's, and none where the line is forgotten
unfoldable pub turn_stores : List ℕ → Session → List ℕ → List ℕ → List ℕ → Stores
turn_stores t z i m s =
    cond (ltb 0 z.left) (step_stores z.clock i m s)
    (cond (is_dropped t (fault_in i t)) None (apply_stores (command_of (word_of 0 t)) t z.clock i m s))
