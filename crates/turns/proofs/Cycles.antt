-- The grant that is shown is the one that the cycle takes, and the marks that are shown are those that it answers.
use mathlib.Core.Path.{◌≡◌, refl, sym, ap, ◌∙◌, subst}
use mathlib.Core.Bool.{Bool, true, false, cond, false≢true}
use mathlib.Core.List.{List}
use Prim.Native.Nat.{ℕ, ◌+◌, ◌/◌, ◌%◌}
use native.Mathlib.Omega.{arith}
use lib.Dec.{eqb}
use lib.ListN.{length}
use borrow.Author.Tests.{eq-eqb, eqb-false, eqb-true}
use Rattle.image.specs.Layout.{image_size, place_of, transfer_exp}
use Rattle.controller.specs.declared.reu.Reu.{Reu}
use Rattle.std.specs.Prelude.{None, Result, Ok, Err}
use Rattle.transfer.specs.Bytes.{bit_of}
use Rattle.transfer.specs.Dma.{neither}
use Rattle.controller.specs.Calls.{bus_action_call, cycle_call, numbered}
use Rattle.controller.specs.TickDma.{Ticked}
use Rattle.controller.specs.Refusals.{checked, refusal_of}
use Rattle.image.specs.Open.{open_image}
use Rattle.image.proofs.Opening.{opened_long}
use Rattle.reu.specs.Exports.{change_both, change_storage, changed_both, changed_storage, code, flag, refusal, refusal_unit, reu_bus_action, reu_cycle}
use Rattle.reu.specs.declared.Logged.{Logged}
use Rattle.reu.specs.Logged.{logged_cycle}
use Rattle.pane.specs.Answers.{accepted}
use Rattle.pane.specs.Rows.{copy_of, long_at, size_in}
use Rattle.pane.specs.declared.answers.Refused.{Refused}
use Rattle.lines.specs.declared.clock.Inputs.{Inputs}
use Rattle.console.specs.declared.step.Cycle.{Cycle}
use Rattle.console.specs.Step.{access_ready, action_in, asked_of, cycle_of, refused_in, with_logged}
use Rattle.console.proofs.Answered.{large}
use Rattle.turns.specs.Cycles.{GrantsAreTaken, ShownAs}
use Rattle.turns.proofs.Taken.{Takes, calls_take}

module _ (i m s : List ℕ) (high number low phi1 : ℕ) where
  abbrev n : ℕ
  n = (open_image i).refusal

  abbrev u : Reu
  u = (open_image i).reu

  abbrev cycle : ℕ × List ℕ × List ℕ × List ℕ
  cycle = reu_cycle i m s high number low phi1

  -- a cycle that is accepted opened the image, and was lent what has the right lengths
  opens : (b : Bool) → eqb n 0 ≡ b → accepted cycle.0 ≡ true → n ≡ 0
  unfolding change_both checked
  opens true e ok = eqb-true n 0 e
  opens false e ok =
      let no : accepted cycle.0 ≡ false = rw e (large n (eqb-false n 0 e)) in
      absurd (false≢true (sym no ∙ ok))

  abbrev k : ℕ
  k = refusal_of u (length m) (length s)

  abbrev call : Ticked
  call = cycle_call u m s (flag high) (flag phi1) number (flag low)

  module _ (z : n ≡ 0) where
    called : cycle ≡ changed_both call i
    unfolding change_both checked
    called = λ j. cond (eq-eqb n 0 z j) (changed_both call i) (refusal n, i, m, s)

    whole : (b : Bool) → eqb k 0 ≡ b → accepted cycle.0 ≡ true → k ≡ 0
    unfolding cycle_call checked code
    whole true e ok = eqb-true k 0 e
    whole false e ok =
        let sum : refusal k + 0 ≡ refusal k = omega arith in
        let no : accepted (code (numbered call.0)) ≡ false = rw (e, sum) (large k (eqb-false k 0 e)) in
        absurd (false≢true (sym no ∙ ap (λ (x : ℕ × List ℕ × List ℕ × List ℕ). accepted x.0) (sym called) ∙ ok))

    module _ (y : k ≡ 0) where
      granted : reu_bus_action i s high phi1 number ≡ changed_storage (bus_action_call u s (flag high) (flag phi1) number) i
      unfolding change_storage checked
      granted = λ j. cond (eq-eqb n 0 z j) (changed_storage (bus_action_call u s (flag high) (flag phi1) number) i) (refusal n, i, s)

      takes : Takes m cycle (reu_bus_action i s high phi1 number)
      takes =
          subst (λ (x : (ℕ × List ℕ × List ℕ × List ℕ) × (ℕ × List ℕ × List ℕ)). Takes m x.0 x.1)
          (λ j. (sym called j, sym granted j)) (calls_take u m s (flag high) (flag phi1) number (flag low) y i)

  taken : accepted cycle.0 ≡ true → (n ≡ 0) × Takes m cycle (reu_bus_action i s high phi1 number)
  taken ok =
      let z = opens (eqb n 0) refl ok in
      (z, takes z (whole z (eqb k 0) refl ok))

  -- one that is refused answers the refusal alone
  by_lengths : (z : n ≡ 0) (b : Bool) → eqb k 0 ≡ b → accepted cycle.0 ≡ false
      → code (numbered call.0) ≡ refusal (code (numbered call.0) / refusal_unit)
  unfolding cycle_call checked code
  by_lengths z true e bad = absurd (false≢true (sym bad ∙ (takes z (eqb-true k 0 e)).0))
  by_lengths z false e bad = let alone : refusal k + 0 ≡ refusal ((refusal k + 0) / refusal_unit) = omega arith in rw e alone

  by_opening : (b : Bool) → eqb n 0 ≡ b → accepted cycle.0 ≡ false → cycle.0 ≡ refusal (cycle.0 / refusal_unit)
  unfolding change_both checked
  by_opening true e bad =
      let z = eqb-true n 0 e in
      subst (λ (x : ℕ × List ℕ × List ℕ × List ℕ). x.0 ≡ refusal (x.0 / refusal_unit)) (sym (called z))
      (by_lengths z (eqb k 0) refl bad)
  by_opening false e bad = let alone : refusal n ≡ refusal (refusal n / refusal_unit) = omega arith in rw e alone

  refused : accepted cycle.0 ≡ false → cycle.0 ≡ refusal (cycle.0 / refusal_unit)
  refused bad = by_opening (eqb n 0) refl bad

-- an image that opens is its own copy
copied : (i : List ℕ) → (open_image i).refusal ≡ 0 → i ≡ copy_of i
copied i z = rw (eq-eqb (length i) image_size (opened_long i z))

module _ (inputs : Inputs) (number : ℕ) (i m s : List ℕ) where
  abbrev high : ℕ
  high = bit_of inputs.ba_high

  abbrev low : ℕ
  low = bit_of inputs.ba_low

  abbrev phi1 : ℕ
  phi1 = bit_of inputs.ba_high_phi1

  abbrev x : ℕ × List ℕ × List ℕ × List ℕ
  x = reu_cycle i m s high number low phi1

  abbrev l : Logged
  l = (logged_cycle i m s high number low phi1).0

  abbrev grant : List ℕ → (ℕ × List ℕ × List ℕ)
  grant j = reu_bus_action j s high phi1 number

  -- what was asked of an image
  abbrev asked : List ℕ → Result Cycle Refused
  asked j =
      cond (accepted (grant j).0)
      (Ok record { grant = action_in (grant j).0; access = access_ready (grant j).1; offset = long_at (grant j).1 (place_of transfer_exp) % size_in (grant j).1; passed = neither; stores = None })
      (Err (refused_in (grant j).0))

  abbrev Shown : Result Cycle Refused → Type 0
  Shown done = ShownAs m x (grant i) done

  shown : (b : Bool) → accepted x.0 ≡ b → Shown (cycle_of inputs number i m s).0
  unfolding cycle_of asked_of
  shown true ok =
      let it = taken i m s high number low phi1 ok in
      let as_granted : Shown (with_logged (asked i) l) = rw it.1.1 it.1.2 in
      rw ok (subst (λ (j : List ℕ). Shown (with_logged (asked j) l)) (copied i it.0) as_granted)
  shown false bad = rw bad (refused i m s high number low phi1 bad)

pub grants_are_taken : GrantsAreTaken
grants_are_taken inputs number i m s = shown inputs number i m s (accepted (x inputs number i m s).0) refl
