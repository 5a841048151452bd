-- A cycle, a cycle more, and a run of them: what the calls answered and left put together.
use Rattle.std.proofs.Common.{◌≡◌, Bool, ℕ, zero, suc, ◌+◌, ◌-◌, ◌/◌, ◌%◌, ◌<◌, ◌≤◌, true, false, cond, List, length, Option, Some, None, Result, Ok, Err, sym, refl, ap, ◌∙◌, arith, eqb, eqb-true, ne_eqb}
use mathlib.Core.Bool.{false≢true}
use borrow.Author.Tests.{eqb-false}
use Rattle.std.specs.Prelude.{is_some, unwrap_or}
use Rattle.transfer.specs.Constants.{bus_size}
use Rattle.transfer.specs.Bytes.{bit_of}
use Rattle.transfer.specs.Dma.{neither, passed_in}
use Rattle.transfer.specs.declared.dma.Passed.{Passed}
use Rattle.transfer.specs.declared.timing.ReuBusAction.{ReuBusAction}
use Rattle.transfer.specs.declared.timing.ReuC64Access.{ReuC64Access}
use mir.Val.{bool_byte}
use Rattle.image.proofs.Flags.{byte_is_bit}
use Rattle.regs.specs.Stores.{Stores}
use Rattle.image.specs.Layout.{place_of, transfer_exp}
use Rattle.image.specs.Open.{open_image}
use Rattle.controller.specs.Refusals.{checked}
use Rattle.reu.specs.Exports.{look, refusal, refusal_unit, reu_bus_action, reu_dma_active}
use Rattle.reu.specs.declared.Logged.{Logged}
use Rattle.reu.specs.Logged.{logged_cycle}
use Rattle.pane.specs.declared.answers.Refused.{Refused}
use Rattle.pane.specs.Answers.{accepted}
use Rattle.pane.specs.Rows.{copy_of, long_at, size_in}
use Rattle.lines.specs.declared.clock.Inputs.{Inputs}
use Rattle.console.specs.declared.step.Cycle.{Cycle}
use Rattle.console.specs.Step.{Running, access_ready, action_in, advanced, asked_before, asked_of, cycle_of, go_of, refused_in, with_logged}
use Rattle.console.proofs.Cycles.{asking_changes_nothing, other_bus}

-- a code that is not accepted is not 0
pub some_code : {code : ℕ} → accepted code ≡ false → code ≡ 0 → ⊥
some_code e z = false≢true (sym e ∙ ap accepted z)

-- an input, as a call takes it
as_bit : {n : ℕ} (b : Bool) → n ≡ bool_byte b → n ≡ bit_of b
as_bit b e = e ∙ byte_is_bit b

-- ---- the grant that is asked for, with the access and the offset

module _ (inputs : Inputs) (number : ℕ) (i s : List ℕ) {copy j t : List ℕ} {code high phi1 : ℕ}
    (c : copy ≡ copy_of i) (hi : high ≡ bool_byte inputs.ba_high) (lo : phi1 ≡ bool_byte inputs.ba_high_phi1)
    (g : (code, j, t) ≡ reu_bus_action copy s high phi1 number) where
  abbrev granted : ℕ → List ℕ → Cycle
  granted n k =
      record { grant = action_in n; access = access_ready k; offset = long_at k (place_of transfer_exp) % size_in k; passed = neither; stores = None }

  abbrev by : (ℕ × List ℕ × List ℕ) → (Result Cycle Refused × List ℕ)
  by y = (cond (accepted y.0) (Ok (granted y.0 y.1)) (Err (refused_in y.0)), y.2)

  told : by (code, j, t) ≡ asked_of inputs number i s
  unfolding asked_of
  told = ap by (g ∙ (λ x. reu_bus_action (c x) s (as_bit _ hi x) (as_bit _ lo x) number))

  pub asked : {n at size : ℕ} {action : ReuBusAction} {access : ReuC64Access} → (accepted code ≡ true) × (n ≡ code)
      → action ≡ action_in n → access ≡ access_ready j → at ≡ long_at j (place_of transfer_exp) → size ≡ size_in j
      → ◌≡◌ {A = Result Cycle Refused × List ℕ} (Ok record { grant = action; access = access; offset = at % size; passed = neither; stores = None }, t)
      (asked_of inputs number i s)
  asked ok a b o z =
      let act = a ∙ ap action_in ok.1 in
      let q : ◌≡◌ {A = Result Cycle Refused × List ℕ} (by (code, j, t)) (Ok (granted code j), t) = rw ok.0 refl in
      (λ x. (Ok record { grant = act x; access = b x; offset = o x % z x; passed = neither; stores = None }, t)) ∙ sym q ∙ told

  pub unasked : {r : Refused} → (accepted code ≡ false) × (r.number ≡ code / refusal_unit)
      → ◌≡◌ {A = Result Cycle Refused × List ℕ} (Err r, t) (asked_of inputs number i s)
  unasked e =
      let q : ◌≡◌ {A = Result Cycle Refused × List ℕ} (by (code, j, t)) (Err (refused_in code), t) = rw e.0 refl in
      (λ x. (Err record { number = e.1 x }, t)) ∙ sym q ∙ told

-- ---- a cycle, from what was asked before it, o, and the storage t that this left

abbrev pub Asked : Type 0
Asked = Option (Result Cycle Refused) × List ℕ

module _ (inputs : Inputs) (number : ℕ) (i m s : List ℕ) (o : Option (Result Cycle Refused)) (t : List ℕ)
    (a : ◌≡◌ {A = Asked} (o, t) (asked_before inputs number i m s)) {high low phi1 : ℕ}
    (hi : high ≡ bool_byte inputs.ba_high) (lo : low ≡ bool_byte inputs.ba_low) (ph : phi1 ≡ bool_byte inputs.ba_high_phi1)
    (k : Logged × List ℕ × List ℕ × List ℕ) (c : k ≡ logged_cycle i m t high number low phi1) where
  abbrev cycle : List ℕ → (Logged × List ℕ × List ℕ × List ℕ)
  cycle l = logged_cycle i m l (bit_of inputs.ba_high) number (bit_of inputs.ba_low) (bit_of inputs.ba_high_phi1)

  bits : k ≡ cycle t
  bits = c ∙ (λ j. logged_cycle i m t (as_bit _ hi j) number (as_bit _ lo j) (as_bit _ ph j))

  -- as if nothing had been asked; and a cycle that is accepted had a bus of the right length, so that it was asked
  both : (b : Bool) → eqb (length m) bus_size ≡ b
      → ◌≡◌ {A = Asked} (o, t) (cond b (Some (asked_of inputs number i s).0, (asked_of inputs number i s).1) (None, s))
      → (k ≡ cycle s) × (accepted (cycle s).0.answer ≡ true → o ≡ Some (asked_of inputs number i s).0)
  unfolding asked_of
  both true e p = (
    bits ∙ ap (λ (y : Asked). cycle y.1) p
        ∙ asking_changes_nothing m (eqb-true _ _ e) s (bit_of inputs.ba_high) number (bit_of inputs.ba_low) (bit_of inputs.ba_high_phi1) i,
    λ h. ap (λ (y : Asked). y.0) p,
  )
  both false e p = (
    bits ∙ ap (λ (y : Asked). cycle y.1) p,
    λ h. absurd (false≢true (sym (other_bus m (eqb-false _ _ e) i s (bit_of inputs.ba_high) number (bit_of inputs.ba_low) (bit_of inputs.ba_high_phi1)) ∙ h)),
  )

  it : (k ≡ cycle s) × (accepted (cycle s).0.answer ≡ true → o ≡ Some (asked_of inputs number i s).0)
  unfolding asked_before
  it = both (eqb (length m) bus_size) refl a

  same : k ≡ cycle s
  same = it.0

  is : accepted k.0.answer ≡ accepted (cycle s).0.answer
  is = ap (λ (y : Logged × List ℕ × List ℕ × List ℕ). accepted y.0.answer) same

  asked_by : {x : Result Cycle Refused} → accepted k.0.answer ≡ true → o ≡ Some x → x ≡ (asked_of inputs number i s).0
  asked_by {x} ok e = ap (λ (y : Option (Result Cycle Refused)). unwrap_or y x) (sym e ∙ it.1 (sym is ∙ ok))

  pub was_asked : accepted k.0.answer ≡ true → o ≡ None → ⊥
  was_asked ok e = false≢true (ap is_some (sym e ∙ it.1 (sym is ∙ ok)))

  abbrev Done : Type 0
  Done = Result Cycle Refused × List ℕ × List ℕ × List ℕ

  pub not_run : {r : Refused} → (accepted k.0.answer ≡ false) × (r.number ≡ k.0.answer / refusal_unit)
      → ◌≡◌ {A = Done} (Err r, k.1, k.2, k.3) (cycle_of inputs number i m s)
  unfolding cycle_of
  not_run e =
      let no : accepted (cycle s).0.answer ≡ false = sym is ∙ e.0 in
      rw no
      ((λ j. (Err record { number = e.1 j }, k.1, k.2, k.3))
      ∙ (λ j. (Err (refused_in (same j).0.answer), (same j).1, (same j).2, (same j).3)))

  module _ {x : Result Cycle Refused} (e : o ≡ Some x) where
    shown : accepted k.0.answer ≡ true → ◌≡◌ {A = Done} (with_logged x k.0, k.1, k.2, k.3) (cycle_of inputs number i m s)
    unfolding cycle_of
    shown ok =
        let here : accepted (cycle s).0.answer ≡ true = sym is ∙ ok in
        rw here (λ j. (with_logged (asked_by ok e j) (same j).0, (same j).1, (same j).2, (same j).3))

    pub ran : {n : ℕ} {y : Cycle} {p : Passed} {l : Stores} → (accepted k.0.answer ≡ true) × (n ≡ k.0.answer) → x ≡ Ok y → p ≡ passed_in n → l ≡ k.0.stores
        → ◌≡◌ {A = Done} (Ok record { grant = y.grant; access = y.access; offset = y.offset; passed = p; stores = l }, k.1, k.2, k.3)
        (cycle_of inputs number i m s)
    ran {y = y} ok f q z =
        let marks = q ∙ ap passed_in ok.1 in
        let as_asked : ◌≡◌ {A = Done} (with_logged x k.0, k.1, k.2, k.3) (with_logged (Ok y) k.0, k.1, k.2, k.3) =
        λ j. (with_logged (f j) k.0, k.1, k.2, k.3) in
        (λ j. (Ok record { grant = y.grant; access = y.access; offset = y.offset; passed = marks j; stores = z j }, k.1, k.2, k.3))
        ∙ sym as_asked ∙ shown ok.0

    pub ran_unasked : {r : Refused} → accepted k.0.answer ≡ true → x ≡ Err r
        → ◌≡◌ {A = Done} (Err r, k.1, k.2, k.3) (cycle_of inputs number i m s)
    ran_unasked {r} ok f =
        let as_asked : ◌≡◌ {A = Done} (with_logged x k.0, k.1, k.2, k.3) (with_logged (Err r) k.0, k.1, k.2, k.3) =
        λ j. (with_logged (f j) k.0, k.1, k.2, k.3) in
        sym as_asked ∙ shown ok

-- ---- a run: a cycle, and one less to go

pub turn : (limit n : ℕ) (x y : Running) → n < limit → y ≡ advanced x → go_of (limit - n) x ≡ go_of (limit - (n + 1)) y
unfolding go_of
turn limit n x y h e =
    let one_less : limit - n ≡ suc (limit - (n + 1)) = omega arith in
    ap (λ (k : ℕ). go_of k x) one_less ∙ ap (go_of (limit - (n + 1))) (sym e)

pub over : (limit n : ℕ) (x : Running) → limit ≤ n → x ≡ go_of (limit - n) x
unfolding go_of
over limit n x h = let none : limit - n ≡ 0 = omega arith in sym (ap (λ (k : ℕ). go_of k x) none)

-- a refused image runs no cycle, however many are asked for
active_refused : (i : List ℕ) → ((open_image i).refusal ≡ 0 → ⊥) → refusal (open_image i).refusal ≡ reu_dma_active i
unfolding look checked
active_refused i bad = rw (ne_eqb (open_image i).refusal 0 bad) refl

idle : (x : Running) (active : ℕ) → active ≡ reu_dma_active x.1 → (active ≡ 1 → ⊥) → advanced x ≡ x
unfolding advanced
idle x active a h = rw (← a, ne_eqb active 1 h) refl

pub refused_run : (n : ℕ) (x : Running) → ((open_image x.1).refusal ≡ 0 → ⊥) → go_of n x ≡ x
unfolding go_of
refused_run zero x bad = refl
refused_run (suc k) x bad =
    let other : refusal (open_image x.1).refusal ≡ 1 → ⊥ = λ e. omega arith in
    ap (go_of k) (idle x _ (active_refused x.1 bad) other) ∙ refused_run k x bad
