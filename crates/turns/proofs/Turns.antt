-- What holds of turns.
use mathlib.Core.Path.{◌≡◌, refl, sym, ap, ◌∙◌, subst}
use mathlib.Core.Bool.{Bool, true, false, cond}
use mathlib.Core.List.{List, [], ◌∷◌}
use Prim.Native.Nat.{ℕ, zero, suc, ◌-◌, ◌≤◌, ◌<◌}
use native.Mathlib.Omega.{arith}
use lib.Dec.{eqb}
use lib.ListN.{length, get_or}
use borrow.Author.Tests.{lt-ltb, ne_eqb}
use Rattle.std.specs.Prelude.{None, Some}
use Rattle.text.specs.Shown.{ascii}
use Rattle.text.specs.Typed.{same, word_of}
use Rattle.console.specs.declared.session.Session.{Session}
use Rattle.console.specs.Apply.{apply_of, control_of, count_or, step_outcome}
use Rattle.lines.specs.Clock.{time_of}
use Rattle.lines.specs.Commands.{is, is_comment}
use Rattle.lines.specs.Keys.{command_of}
use Rattle.lines.proofs.Named.{same_true}
use Rattle.console.specs.Session.{Held, Turn, ended_after, ended_by, fault_in, held_of, is_dropped, machine_of, steps_by, steps_of, turn_of}
use Rattle.console.proofs.Turns.{forgets, obeys}
use Rattle.turns.specs.Turns.{FaultsChangeNothing, StepsAreCycles, Turns, cycled, cycles}

-- ---- a line with a fault

some_bytes : (f : List ℕ) → (f ≡ [] → ⊥) → eqb (length f) 0 ≡ false
some_bytes [] n = absurd (n refl)
some_bytes (b ∷ f) n = ne_eqb (length (b ∷ f)) 0 (λ e. omega arith)

pub faults_change_nothing : FaultsChangeNothing
faults_change_nothing t z i m s h n =
    let e : true ≡ is_dropped t (fault_in i t) = rw (some_bytes (fault_in i t) n) in
    sym (forgets z i m s t (omega arith) e refl refl)
    ∙ (λ j. (held_of z i m s, cond (some_bytes (fault_in i t) n j) None (Some (fault_in i t)), None))

-- ---- z

module _ (t : List ℕ) (w : ascii "z" ≡ word_of 0 t) where
  -- a line whose word is z is no comment, does nothing to the machine, and does not end the session
  no_comment : is_comment t ≡ false
  unfolding is_comment
  no_comment = subst (λ (v : List ℕ). cond (eqb (length v) 0) true (eqb (get_or v 0 0) 35) ≡ false) w refl

  untouched : (z : Session) (i m s : List ℕ) → apply_of (command_of (word_of 0 t)) t z.clock i m s ≡ (time_of z.clock, None, i, m, s)
  unfolding apply_of control_of command_of same
  untouched z i m s =
      subst (λ (v : List ℕ). apply_of (command_of v) t z.clock i m s ≡ (time_of z.clock, None, i, m, s)) w refl

  goes_on_after : (ended : Bool) → ended_after t ended ≡ ended
  unfolding command_of same
  goes_on_after ended = subst (λ (v : List ℕ). ended_by (command_of v) ended ≡ ended) w refl

  asked_for : steps_of t ≡ count_or t 1
  unfolding command_of same
  asked_for = subst (λ (v : List ℕ). steps_by (command_of v) t ≡ count_or t 1) w refl

  -- so the turn only says how many cycles are to be stepped
  begun : (z : Session) (i m s : List ℕ) → z.left ≡ 0 → fault_in i t ≡ []
      → (turn_of t z i m s).0 ≡ (machine_of z i m s, count_or t 1, z.ended)
  begun z i m s h f =
      let obeyed : is_dropped t (fault_in i t) ≡ false =
      ap (λ (l : List ℕ). cond (eqb (length l) 0) (is_comment t) true) f ∙ no_comment in
      let p = untouched z i m s in
      sym (ap (λ (x : Turn). x.0) (obeys z i m s t (omega arith) refl obeyed refl))
      ∙ (λ j. (((p j).0, (p j).2, (p j).3, (p j).4), asked_for j, goes_on_after z.ended j))

-- a turn while cycles are still to be stepped
stepping : (t : List ℕ) (z : Session) (i m s : List ℕ) → 0 < z.left
    → (turn_of t z i m s).0 ≡ (cycled (machine_of z i m s), z.left - 1, z.ended)
unfolding turn_of step_outcome cycled
stepping t z i m s h = rw (lt-ltb _ _ h)

module _ (z : ℕ → Session) (i m s t : ℕ → List ℕ) (turns : Turns z i m s t) (h : (z 0).left ≡ 0)
    (w : is "z" (word_of 0 (t 0)) ≡ true) (f : fault_in (i 0) (t 0) ≡ []) where
  abbrev n : ℕ
  n = count_or (t 0) 1

  abbrev first : ℕ → Held
  first k = (cycles k (machine_of (z 0) (i 0) (m 0) (s 0)), n - k, (z 0).ended)

  after : (k : ℕ) → k ≤ n → held_of (z (suc k)) (i (suc k)) (m (suc k)) (s (suc k)) ≡ first k
  unfolding cycles
  after zero l =
      let none : n ≡ n - 0 = omega arith in
      turns.goes_on 0 ∙ begun (t 0) (same_true _ _ w) (z 0) (i 0) (m 0) (s 0) h f
      ∙ (λ j. (machine_of (z 0) (i 0) (m 0) (s 0), none j, (z 0).ended))
  after (suc k) l =
      let before = after k (omega arith) in
      let left : (z (suc k)).left ≡ n - k = ap (λ (x : Held). x.1) before in
      let fewer : n - k - 1 ≡ n - suc k = omega arith in
      turns.goes_on (suc k) ∙ stepping (t (suc k)) (z (suc k)) (i (suc k)) (m (suc k)) (s (suc k)) (omega arith)
      ∙ ap (λ (x : Held). (cycled x.0, x.1 - 1, x.2)) before
      ∙ (λ j. (cycled (first k).0, fewer j, (z 0).ended))

pub steps_are_cycles : StepsAreCycles
steps_are_cycles = after
