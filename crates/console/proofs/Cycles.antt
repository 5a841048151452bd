-- The monitor asks for a grant, on a copy of the image, before the cycle. That changes nothing of what the cycle then leaves, answers and
-- stores.
use Rattle.std.proofs.Common.{◌≡◌, ℕ, ◌≤◌, Bool, true, false, cond, eqb, List, None, length, replicate, sym, refl, ap, ◌∙◌, arith, le-ltb, ne_eqb}
use borrow.Author.Tests.{eqb-false}
use Rattle.image.specs.Layout.{image_size}
use Rattle.controller.specs.declared.reu.Reu.{Reu}
use Rattle.controller.specs.Calls.{bus_action_call, cycle_call, numbered}
use Rattle.controller.specs.TickDma.{Ticked}
use Rattle.transfer.specs.Constants.{bus_size}
use Rattle.controller.specs.Refusals.{checked, refusal_of, well_formed}
use Rattle.image.specs.Open.{bytes_ok, image_ok, open_image}
use Rattle.reu.specs.Exports.{change_both, change_storage, changed_both, changed_storage, code, flag, refusal, refusal_unit, reu_bus_action, reu_cycle}
use Rattle.reu.specs.declared.Logged.{Logged}
use Rattle.reu.specs.Logged.{logged, logged_cycle, stores_by}
use Rattle.pane.specs.Answers.{accepted}
use Rattle.pane.specs.Rows.{copy_of}
use Rattle.console.proofs.Asked.{asked_first}

module _ (m : List ℕ) (hm : length m ≡ bus_size) (s : List ℕ) (high number low phi1 : ℕ) where
  module _ (i : List ℕ) where
    abbrev cycle : List ℕ → (Logged × List ℕ × List ℕ × List ℕ)
    cycle t = logged_cycle i m t high number low phi1

    abbrev n : ℕ
    n = (open_image i).refusal

    abbrev u : Reu
    u = (open_image i).reu

    abbrev call : List ℕ → Ticked
    call t = cycle_call u m t (flag high) (flag phi1) number (flag low)

    -- what it answers, leaves and stores
    abbrev done : Ticked → (Logged × List ℕ × List ℕ × List ℕ)
    done x = logged (changed_both x i) x.0.stores

    opened : (t : List ℕ) → eqb n 0 ≡ true → cycle t ≡ done (call t)
    unfolding change_both stores_by checked
    opened t e = λ j. logged (cond (e j) (changed_both (call t) i) (refusal n, i, m, t)) (cond (e j) (call t).0.stores None)

    by_image : (b : Bool) → eqb n 0 ≡ b
        → cycle (cond b (changed_storage (bus_action_call u s (flag high) (flag phi1) number) i) (refusal n, i, s)).2 ≡ cycle s
    by_image false e = refl
    by_image true e = opened _ e ∙ ap done (asked_first m hm s (flag high) (flag phi1) number (flag low) u) ∙ sym (opened s e)

    by_copy : (b : Bool) → cycle (reu_bus_action (cond b i (replicate image_size 255)) s high phi1 number).2 ≡ cycle s
    unfolding change_storage checked open_image image_ok bytes_ok
    by_copy true = by_image (eqb n 0) refl
    by_copy false = refl

    pub asking_changes_nothing : cycle (reu_bus_action (copy_of i) s high phi1 number).2 ≡ cycle s
    asking_changes_nothing = by_copy (eqb (length i) image_size)

-- a bus of another length: the cycle is refused
module _ (m : List ℕ) (other : length m ≡ bus_size → ⊥) (i s : List ℕ) (high number low phi1 : ℕ) where
  abbrev v : Reu
  v = (open_image i).reu

  by_value : (b : Bool) → well_formed v ≡ b → accepted (code (numbered (cycle_call v m s (flag high) (flag phi1) number (flag low)).0)) ≡ false
  unfolding cycle_call checked refusal_of code
  by_value true e = rw (e, ne_eqb (length m) bus_size other)
  by_value false e = rw e

  by_opening : (b : Bool) → eqb (open_image i).refusal 0 ≡ b → accepted (reu_cycle i m s high number low phi1).0 ≡ false
  unfolding change_both checked
  by_opening true e = rw e (by_value (well_formed v) refl)
  by_opening false e =
      let bad = eqb-false (open_image i).refusal 0 e in
      let large : refusal_unit ≤ refusal (open_image i).refusal = omega arith in
      rw (e, le-ltb (refusal (open_image i).refusal) refusal_unit large)

  pub other_bus : accepted (reu_cycle i m s high number low phi1).0 ≡ false
  other_bus = by_opening (eqb (open_image i).refusal 0) refl
