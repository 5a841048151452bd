-- What a cycle does to a controller at rest: BA's history alone changes, and the processor has the bus.
use Prim.Native.Nat.{ℕ}
use mathlib.Core.Bool.{Bool, true, false, not, ◌&&◌}
use mathlib.Core.Path.{◌≡◌, refl, sym, ap, ◌∙◌}
use mathlib.Core.List.{List}
use lib.ListN.{length}
use Rattle.std.proofs.Math.Bool.{and-false}
use Rattle.transfer.specs.declared.timing.ReuBusAction.{ReuBusAction}
use Rattle.transfer.specs.declared.timing.ReuBusAction.TheVariants.{Cpu}
use Rattle.transfer.specs.Bytes.{bit}
use Rattle.transfer.specs.Constants.{command, without_ff00}
use Rattle.transfer.specs.Memory.{put_storage}
use Rattle.transfer.specs.Timing.{action_for_cycle}
use Rattle.controller.specs.declared.refusals.Refusal.{Refusal}
use Rattle.controller.specs.declared.reu.BusAnswer.{BusAnswer}
use Rattle.controller.specs.declared.reu.Reu.{Reu}
use Rattle.controller.specs.Answers.{refusal_number}
use Rattle.controller.specs.Reu.{reg, with_history}
use Rattle.controller.specs.Timing.{c64_access}
use Rattle.controller.specs.BusAction.{bus_action, next_action, granted, decide, fall, plain, repeated}
use Rattle.controller.specs.TickDma.{Ticked, quiet_step}
use Rattle.controller.specs.Cycle.{run_reu_cycle, cycle_by}
use Rattle.controller.specs.Calls.{cycle_call, step_call, stepped}
use Rattle.controller.specs.Inner.{Rests}
use Rattle.controller.specs.Refusals.{refusal_of}
use Rattle.controller.proofs.Checked.{passed, not_passed}

-- whoever unfolds this unfolds all that a grant computes
unfoldable pub grant_computed : Unit {0}
unfolding next_action decide fall plain action_for_cycle c64_access repeated
grant_computed = tt

module _ (u : Reu) (m s : List ℕ) (high : Bool) (n : ℕ) (low : Bool) where
  abbrev cycled : Bool → Ticked
  cycled phi1 = run_reu_cycle u m s high phi1 n low

  abbrev now : Bool → Reu
  now phi1 = with_history u phi1 (phi1 && not high)

  -- the cycle by its grant, where the grant writes nothing and changes BA's history alone
  pub cycle_granted : (phi1 : Bool) (a : ReuBusAction) → next_action u high phi1 n ≡ granted a (now phi1) → cycled phi1 ≡ cycle_by a (now phi1) m s n low
  unfolding run_reu_cycle bus_action
  cycle_granted phi1 a h = ap (λ (g : BusAnswer). cycle_by g.action g.reu m (put_storage u.size g.put s) n low) h

  rest_grant : (was phi1 : Bool) → u.ba_was_high ≡ was → Rests u → next_action u high phi1 n ≡ granted Cpu (now phi1)
  unfolding grant_computed
  rest_grant true true q h = rw (q, h.idle, h.terminal, h.delay) refl
  rest_grant true false q h = rw (q, h.idle, h.terminal, h.delay, and-false (bit (reg u command) without_ff00)) refl
  rest_grant false phi1 q h = rw (q, h.idle, h.terminal, h.delay, and-false phi1) refl

  pub rest_step : (phi1 : Bool) → Rests u → cycled phi1 ≡ (quiet_step 0 false (now phi1), m, s)
  unfolding cycle_by
  rest_step phi1 h = cycle_granted phi1 Cpu (rest_grant u.ba_was_high phi1 refl h)

  -- ---- the step over a controller that is lent: done, and refused

  module _ (phi1 : Bool) where
    pub rest_call : Rests u → 0 ≡ refusal_of u (length m) (length s) → stepped (quiet_step 0 false (now phi1), m, s) ≡ step_call u m s high phi1 n low
    unfolding cycle_call
    rest_call h e = ap stepped (sym (rest_step phi1 h) ∙ passed _ _ (cycled phi1) e)

    pub step_refused : (e : Refusal) → refusal_number e ≡ refusal_of u (length m) (length s)
        → stepped (quiet_step (refusal_number e) false u, m, s) ≡ step_call u m s high phi1 n low
    unfolding cycle_call
    step_refused e q = ap stepped (not_passed _ _ (cycled phi1) e q)
