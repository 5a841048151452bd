-- What holds of turns: a line with a fault changes nothing, and `z N` makes N cycles. z is the session, i the image, m the bus,
-- s the storage, t the line.
use Rattle.std.specs.Prelude.{ℕ, zero, suc, ◌-◌, ◌≤◌, ◌≡◌, true, List, [], Some, None, Result}
use Rattle.text.specs.Typed.{word_of}
use Rattle.console.specs.declared.session.Session.{Session}
use Rattle.console.specs.Apply.{count_or}
use Rattle.lines.specs.Commands.{is}
use Rattle.console.specs.declared.step.Cycle.{Cycle}
use Rattle.pane.specs.declared.answers.Refused.{Refused}
use Rattle.lines.specs.Clock.{inputs_shown, letter_at}
use Rattle.console.specs.Session.{Machine, fault_in, held_of, machine_of, turn_of}
use Rattle.console.specs.Step.{cycle_of, time_after}

-- a line with a fault: what is held stays as it was, the fault is said, and no line is obeyed
abbrev pub FaultsChangeNothing : Type 0
FaultsChangeNothing =
    (t : List ℕ) (z : Session) (i m s : List ℕ) → z.left ≡ 0 → (fault_in i t ≡ [] → ⊥) →
    turn_of t z i m s ≡ (held_of z i m s, Some (fault_in i t), None)

-- a bus cycle
unfoldable pub cycled : Machine → Machine
cycled x =
    let y : (Result Cycle Refused × List ℕ × List ℕ × List ℕ) = cycle_of (inputs_shown (letter_at x.0)) x.0.0 x.1 x.2 x.3 in
    (time_after x.0 y.0, y.1, y.2, y.3)

-- n of them
unfoldable pub cycles : ℕ → Machine → Machine
cycles zero x = x
cycles (suc n) x = cycled (cycles n x)

-- one turn after another: turn k begins with z k, i k, m k and s k, and t k is the next line then
pub record Turns (z : ℕ → Session) (i m s t : ℕ → List ℕ) : Type 0 where
  pub goes_on : (k : ℕ) → held_of (z (suc k)) (i (suc k)) (m (suc k)) (s (suc k)) ≡ (turn_of (t k) (z k) (i k) (m k) (s k)).0

-- `z N`: k turns after the one that obeys it the machine is the one that k cycles make, and N - k cycles are still to be
-- stepped. So N turns make N cycles, whatever lines come next: none is looked at
abbrev pub StepsAreCycles : Type 0
StepsAreCycles =
    (z : ℕ → Session) (i m s t : ℕ → List ℕ) → Turns z i m s t → (z 0).left ≡ 0 → is "z" (word_of 0 (t 0)) ≡ true →
    fault_in (i 0) (t 0) ≡ [] → (k : ℕ) → k ≤ count_or (t 0) 1 →
    held_of (z (suc k)) (i (suc k)) (m (suc k)) (s (suc k))
    ≡ (cycles k (machine_of (z 0) (i 0) (m 0) (s 0)), count_or (t 0) 1 - k, (z 0).ended)
