-- What each call on the controller leaves can be stored: of what it answers, r.
use Rattle.std.proofs.Common.{◌≡◌, ℕ, Bool, true, List, sym, ap, subst, ◌<◌}
use Rattle.std.specs.Prelude.{Result, Ok, Err}
use Rattle.controller.specs.declared.refusals.Refusal.{Refusal}
use Rattle.controller.specs.declared.reu.Answered.{Answered}
use Rattle.controller.specs.declared.reu.Reu.{Reu}
use Rattle.controller.specs.declared.reu.Step.{Step}
use Rattle.controller.specs.Answers.{Answer, StepAnswer, answer_of, step_answer_of}
use Rattle.controller.specs.Refusals.{well_formed}
use Rattle.controller.specs.Calls.{numbered, reset_call, set_size_call, set_enabled_call, trigger_call, write_call, bus_action_call, cpu_ready_call, tick_call, cycle_call}
use Rattle.controller.specs.TickDma.{Ticked}
use Rattle.controller.proofs.Checked.{refusal_some}
use Rattle.image.specs.Valid.{Bytes, Typed}
use Rattle.image.proofs.Valid.{sound_of}
use Rattle.reu.specs.Inner.{Left}
use Rattle.reu.proofs.Wholes.{Whole, reset_whole, set_size_whole, set_enabled_whole, trigger_whole, write_whole, bus_action_whole, cpu_ready_whole, tick_whole, cycle_whole}

left : (u : Reu) (r : Result (Answered ℕ) Refusal) (a : Answer) → answer_of u r ≡ a → Whole a → Left r
left u (Ok b) a e w = (subst Whole (sym e) w).well
left u (Err b) a e w = tt

-- the answer with its value as a number leaves what the answer leaves
pub numbered_left : (u : Reu) (r : Result (Answered Step) Refusal) (n : Result (Answered ℕ) Refusal) → answer_of u n ≡ numbered (step_answer_of u r) → Left r → Left n
numbered_left u r (Err e) h w = tt
numbered_left u (Ok a) (Ok b) h w = subst (λ (x : Answer). well_formed x.reu ≡ true) (sym h) w
numbered_left u (Err e) (Ok b) h w = absurd (refusal_some e (sym (ap (λ (a : Answer). a.refusal) h)))

stepped : (u : Reu) (r : Result (Answered Step) Refusal) (a : StepAnswer) → step_answer_of u r ≡ a → Whole (numbered a) → Left r
stepped u (Ok b) a e w = (subst (λ (x : StepAnswer). Whole (numbered x)) (sym e) w).well
stepped u (Err b) a e w = tt

module _ (u : Reu) (r : Result (Answered ℕ) Refusal) (typed : Typed u) (w : well_formed u ≡ true) where
  pub reset_keeps : answer_of u r ≡ reset_call u → Left r
  reset_keeps e = left u r _ e (reset_whole u (sound_of u typed w))

  pub set_size_keeps : (size : ℕ) → answer_of u r ≡ set_size_call u size → Left r
  set_size_keeps size e = left u r _ e (set_size_whole u (sound_of u typed w) size)

  pub trigger_keeps : answer_of u r ≡ trigger_call u → Left r
  trigger_keeps e = left u r _ e (trigger_whole u (sound_of u typed w))

  pub write_keeps : (addr value : ℕ) → value < 256 → answer_of u r ≡ write_call u addr value → Left r
  write_keeps addr value h e = left u r _ e (write_whole u (sound_of u typed w) addr value h)

  pub cpu_ready_keeps : (high : Bool) → answer_of u r ≡ cpu_ready_call u high → Left r
  cpu_ready_keeps high e = left u r _ e (cpu_ready_whole u (sound_of u typed w) high)

  pub set_enabled_keeps : (s t : List ℕ) (on : Bool) → (answer_of u r, t) ≡ set_enabled_call u s on → Left r
  set_enabled_keeps s t on e = left u r _ (ap (λ (x : Answer × List ℕ). x.0) e) (set_enabled_whole u (sound_of u typed w) s on)

  pub bus_action_keeps : (s t : List ℕ) (high phi1 : Bool) (n : ℕ) → (answer_of u r, t) ≡ bus_action_call u s high phi1 n → Left r
  bus_action_keeps s t high phi1 n e = left u r _ (ap (λ (x : Answer × List ℕ). x.0) e) (bus_action_whole u (sound_of u typed w) s high phi1 n)

module _ (u : Reu) (r : Result (Answered Step) Refusal) (typed : Typed u) (w : well_formed u ≡ true) (m s b t : List ℕ) (bm : Bytes m) (bs : Bytes s) where
  pub tick_keeps : (n : ℕ) (low : Bool) → (step_answer_of u r, b, t) ≡ tick_call u m s n low → Left r
  tick_keeps n low e = stepped u r _ (ap (λ (x : Ticked). x.0) e) (tick_whole u (sound_of u typed w) s bs m bm n low)

  pub cycle_keeps : (high phi1 : Bool) (n : ℕ) (low : Bool) → (step_answer_of u r, b, t) ≡ cycle_call u m s high phi1 n low → Left r
  cycle_keeps high phi1 n low e = stepped u r _ (ap (λ (x : Ticked). x.0) e) (cycle_whole u (sound_of u typed w) s bs m bm high phi1 n low)
