-- Asked for a grant twice: the second time the same is granted and the same is left, since the byte that the first has restored is
-- restored again. So a cycle does the same after the asking. Of this crate's laws only those of this file look inside `bus_action` and the
-- cycle.
use Rattle.std.proofs.Common.{◌≡◌, ℕ, Bool, true, false, cond, eqb, List, length, sym, refl, ap, ◌∙◌, length-set, set-set}
use Rattle.transfer.specs.declared.memory.Put.{Put}
use Rattle.transfer.specs.declared.memory.Put.TheVariants.{Nothing, Bus, Storage}
use Rattle.controller.specs.declared.reu.Reu.{Reu}
use Rattle.transfer.specs.Memory.{put_storage}
use Rattle.controller.specs.BusAction.{Granted, next_action, bus_action}
use Rattle.controller.specs.Calls.{bus_action_call, cycle_call, granted_answer, refused}
use Rattle.transfer.specs.Constants.{bus_size}
use Rattle.controller.specs.Cycle.{cycle_by, run_reu_cycle}
use Rattle.controller.specs.TickDma.{Ticked, quiet_step}
use Rattle.controller.specs.Refusals.{checked, refusal_of}

-- what is written twice is written once, and the length stays
put_again : (n : ℕ) (p : Put) (s : List ℕ) → put_storage n p (put_storage n p s) ≡ put_storage n p s
put_again n Nothing s = refl
put_again n (Bus a v) s = refl
put_again n (Storage a v) s = set-set s _ _ _

put_long : (n : ℕ) (p : Put) (s : List ℕ) → length (put_storage n p s) ≡ length s
put_long n Nothing s = refl
put_long n (Bus a v) s = refl
put_long n (Storage a v) s = length-set s _ _

module _ (u : Reu) (s : List ℕ) (high phi1 : Bool) (number : ℕ) where
  asked_again : bus_action u (bus_action u s high phi1 number).1 high phi1 number ≡ bus_action u s high phi1 number
  unfolding bus_action
  asked_again =
      ap (λ (t : List ℕ). (next_action u high phi1 number, t)) (put_again u.size (next_action u high phi1 number).put s)

  asked_long : length (bus_action u s high phi1 number).1 ≡ length s
  unfolding bus_action
  asked_long = put_long u.size (next_action u high phi1 number).put s

-- ---- asked before a cycle, on a controller that may be refused, and then nothing is written

module _ (m : List ℕ) (hm : length m ≡ bus_size) (s : List ℕ) (high phi1 : Bool) (number : ℕ) (low : Bool) (u : Reu) where
  abbrev g : Granted
  g = bus_action u s high phi1 number

  abbrev call : List ℕ → Ticked
  call t = cycle_call u m t high phi1 number low

  abbrev k : ℕ
  k = refusal_of u bus_size (length s)

  abbrev ran : List ℕ → Ticked
  ran t = run_reu_cycle u m t high phi1 number low

  taken : (t : List ℕ) → length t ≡ length s → eqb k 0 ≡ true → call t ≡ ran t
  unfolding cycle_call checked
  taken t l e =
      let none : eqb (refusal_of u (length m) (length t)) 0 ≡ true = (λ j. eqb (refusal_of u (hm j) (l j)) 0) ∙ e in
      λ j. cond (none j) (ran t) (quiet_step (refusal_of u (length m) (length t)) false u, m, t)

  after_grant : (b : Bool) → eqb k 0 ≡ b → call (cond b (granted_answer g) (refused u k, s)).1 ≡ call s
  unfolding run_reu_cycle
  after_grant false e = refl
  after_grant true e =
      taken g.1 (asked_long u s high phi1 number) e
      ∙ ap (λ (x : Granted). cycle_by x.0.action x.0.reu m x.1 number low) (asked_again u s high phi1 number)
      ∙ sym (taken s refl e)

  pub asked_first : call (bus_action_call u s high phi1 number).1 ≡ call s
  unfolding bus_action_call checked
  asked_first = after_grant (eqb k 0) refl
