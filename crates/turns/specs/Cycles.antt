-- The grant and the marks that a cycle shows. i is the image, m the bus, s the storage.
use Rattle.std.specs.Prelude.{ℕ, ◌+◌, ◌≡◌, true, cond, List, eqb, ltb, Result, MatchResult}
use Rattle.transfer.specs.Bytes.{bit_of}
use Rattle.transfer.specs.Dma.{neither, passed_number}
use Rattle.transfer.specs.Timing.{action_number}
use Rattle.transfer.specs.declared.dma.Passed.{Passed}
use Rattle.transfer.specs.declared.timing.ReuBusAction.{ReuBusAction}
use Rattle.reu.specs.Exports.{refusal, reu_bus_action, reu_cycle}
use Rattle.pane.specs.declared.answers.Refused.{Refused}
use Rattle.lines.specs.declared.clock.Inputs.{Inputs}
use Rattle.console.specs.declared.step.Cycle.{Cycle}
use Rattle.console.specs.Step.{cycle_of}

-- "answers false for Cpu, true otherwise"; "Cpu, Hold, Transfer 0, 1, 2"
abbrev pub answer_for : ReuBusAction → ℕ
answer_for grant = cond (eqb (action_number grant) 0) 0 1

-- a cycle k on the bus m, shown with this grant and these marks, beside g, what `bus_action` answers and leaves: it answers what the
-- grant stands for, plus what the marks add; and one that is shown as Cpu or Hold, 0 or 1, shows neither mark, and leaves the bus as it
-- was, and what `bus_action` leaves of the image and the storage
abbrev pub TakenAs : List ℕ → (ℕ × List ℕ × List ℕ × List ℕ) → (ℕ × List ℕ × List ℕ) → ReuBusAction → Passed → Type 0
TakenAs m k g grant p =
    let left : (List ℕ × List ℕ × List ℕ) = (k.1, k.2, k.3) in
    (k.0 ≡ answer_for grant + passed_number p) × (ltb (action_number grant) 2 ≡ true → (p ≡ neither) × (left ≡ (g.1, m, g.2)))

-- so are all that are not refused; a refusal is answered as it is shown
abbrev pub ShownAs : List ℕ → (ℕ × List ℕ × List ℕ × List ℕ) → (ℕ × List ℕ × List ℕ) → Result Cycle Refused → Type 0
ShownAs m k g shown = MatchResult shown (λ x. TakenAs m k g x.grant x.passed) (λ refused. k.0 ≡ refusal refused.number)

-- that is how the library's cycle is shown, whatever it was lent
abbrev pub GrantsAreTaken : Type 0
GrantsAreTaken =
    (inputs : Inputs) (number : ℕ) (i m s : List ℕ) →
    let high : ℕ = bit_of inputs.ba_high in
    let phi1 : ℕ = bit_of inputs.ba_high_phi1 in
    ShownAs m (reu_cycle i m s high number (bit_of inputs.ba_low) phi1) (reu_bus_action i s high phi1 number)
    (cycle_of inputs number i m s).0
