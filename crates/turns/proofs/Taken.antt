-- The two calls on a controller that are not refused: the cycle takes the grant, and its answer has the marks. Of this crate's laws only
-- those of this file look inside `bus_action` and the cycle.
use mathlib.Core.Path.{◌≡◌, refl, sym, ap, ◌∙◌, subst}
use mathlib.Core.Bool.{Bool, true, false, cond, false≢true}
use mathlib.Core.List.{List}
use Prim.Native.Nat.{ℕ, ◌+◌}
use lib.ListN.{length}
use borrow.Author.Tests.{eq-eqb}
use Rattle.controller.specs.Answers.{Answer}
use Rattle.controller.specs.declared.reu.Reu.{Reu}
use Rattle.transfer.specs.declared.dma.Passed.{Passed}
use Rattle.transfer.specs.declared.timing.ReuBusAction.{ReuBusAction}
use Rattle.transfer.specs.declared.timing.ReuBusAction.TheVariants.{Cpu, Hold, Transfer}
use Rattle.controller.specs.BusAction.{Granted, bus_action}
use Rattle.controller.specs.Calls.{answered, bus_action_call, cycle_call, granted_answer, refused, step_number}
use Rattle.transfer.specs.Dma.{passed_in, passed_number}
use Rattle.transfer.specs.Timing.{action_number}
use Rattle.transfer.specs.Constants.{bus_size}
use Rattle.controller.specs.TickDma.{Ticked, quiet_step, tick_dma}
use Rattle.controller.specs.Cycle.{cycle_by, run_reu_cycle}
use Rattle.controller.specs.Refusals.{checked, refusal_of}
use Rattle.controller.proofs.Checked.{accepted as lengths}
use Rattle.reu.specs.Exports.{changed_both, changed_storage, code, image_after, refusal}
use Rattle.pane.specs.Answers.{accepted}
use Rattle.console.specs.Step.{action_in}
use Rattle.turns.specs.Cycles.{TakenAs}

-- neither is refused, and it is shown with the grant g and the marks of its own answer
abbrev pub Takes : List ℕ → (ℕ × List ℕ × List ℕ × List ℕ) → (ℕ × List ℕ × List ℕ) → Type 0
Takes m k g = (accepted k.0 ≡ true) × (accepted g.0 ≡ true) × TakenAs m k g (action_in g.0) (passed_in k.0)

-- an answer is accepted, and it is 1 and what its own marks add
told : (p : Passed) → let n : ℕ = refusal 0 + step_number true p in (accepted n ≡ true) × (n ≡ 1 + passed_number (passed_in n))
told p = go p.c64 p.expansion
  where
    go :
        (a b : Bool) → let n : ℕ = refusal 0 + step_number true record { c64 = a; expansion = b } in
        (accepted n ≡ true) × (n ≡ 1 + passed_number (passed_in n))
    go true true = (refl, refl)
    go true false = (refl, refl)
    go false true = (refl, refl)
    go false false = (refl, refl)

module _ (u : Reu) (m s : List ℕ) (high phi1 : Bool) (number : ℕ) (low : Bool) where
  abbrev k : ℕ
  k = refusal_of u (length m) (length s)

  abbrev l : ℕ
  l = refusal_of u bus_size (length s)

  abbrev g : Granted
  g = bus_action u s high phi1 number

  module _ (y : k ≡ 0) where
    ran : cycle_call u m s high phi1 number low ≡ cycle_by g.0.action g.0.reu m g.1 number low
    unfolding cycle_call checked run_reu_cycle
    ran = λ j. cond (eq-eqb k 0 y j) (run_reu_cycle u m s high phi1 number low) (quiet_step k false u, m, s)

    granted : bus_action_call u s high phi1 number ≡ granted_answer g
    unfolding bus_action_call checked
    granted =
        let bus : bus_size ≡ length m = sym (lengths u k (length m) (length s) refl y).bus_length in
        let none : l ≡ 0 = ap (λ (x : ℕ). refusal_of u x (length s)) bus ∙ y in
        λ j. cond (eq-eqb l 0 none j) (granted_answer g) (refused u l, s)

    module _ (i : List ℕ) where
      -- by the action a, which leaves the controller w and the storage t
      by_action : (a : ReuBusAction) (w : Reu) (t : List ℕ)
          → Takes m (changed_both (cycle_by a w m t number low) i)
          (changed_storage (answered (action_number a) w, t) i)
      unfolding cycle_by code image_after
      by_action Cpu w t = (refl, refl, (refl, λ h. (refl, refl)))
      by_action Hold w t = (refl, refl, (refl, λ h. (refl, refl)))
      by_action Transfer w t =
          let it = told (tick_dma w m t number low).0.passed in (it.0, refl, (it.1, λ h. absurd (false≢true h)))

      pub calls_take : Takes m (changed_both (cycle_call u m s high phi1 number low) i) (changed_storage (bus_action_call u s high phi1 number) i)
      calls_take =
          subst (λ (x : Ticked × (Answer × List ℕ)). Takes m (changed_both x.0 i) (changed_storage x.1 i))
          (λ j. (sym ran j, sym granted j)) (by_action g.0.action g.0.reu g.1)
