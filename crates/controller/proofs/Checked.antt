-- What an accepted call knows of what it was handed, and what a tested call does: laws for every call of this crate and of `reu`.
use mathlib.Core.Path.{◌≡◌, refl, sym, ap, ◌∙◌}
use mathlib.Core.Bool.{Bool, true, false, not, cond}
use Prim.Native.Nat.{ℕ, ◌≤◌}
use lib.Dec.{eqb}
use native.Mathlib.Omega.{arith}
use borrow.Author.Tests.{eqb-true, eq-eqb, ne_eqb}
use mathlib.Core.List.{List}
use Rattle.controller.specs.Prelude.{Passed, Reu, ReuBusAction, Cpu, Hold, Transfer, Refusal, Length, Field, Size, Attached}
use Rattle.controller.specs.Answers.{refusal_number}
use Rattle.transfer.specs.Constants.{bus_size}
use Rattle.transfer.specs.Memory.{is_size}
use Rattle.transfer.proofs.Bits.{bit_most}
use Rattle.controller.specs.Refusals.{well_formed, refusal_of, size_refusal, checked}
use Rattle.controller.specs.BusAction.{bus_action}
use Rattle.controller.specs.Calls.{step_number}
use Rattle.controller.specs.TickDma.{tick_dma}
use Rattle.controller.specs.Cycle.{cycle_by, run_reu_cycle}

pub record Accepted (u : Reu) (bus storage : ℕ) : Type 0 where
  pub well : well_formed u ≡ true
  pub bus_length : bus ≡ bus_size
  pub storage_length : storage ≡ u.size

-- n is the refusal number that the code computed
pub accepted : (u : Reu) (n m s : ℕ) → n ≡ refusal_of u m s → n ≡ 0 → Accepted u m s
unfolding refusal_of
accepted u n m s e z = go (well_formed u) (eqb m bus_size) (eqb s u.size) refl refl refl (sym e ∙ z)
  where
    go : (w a b : Bool) → well_formed u ≡ w → eqb m bus_size ≡ a → eqb s u.size ≡ b → ◌≡◌ {A = ℕ} (cond w (cond a (cond b 0 4) 3) 2) 0 → Accepted u m s
    go true true true g f h q = record { well = g; bus_length = eqb-true m bus_size f; storage_length = eqb-true s u.size h }
    go true true false g f h q = absurd (omega arith)
    go true false b g f h q = absurd (omega arith)
    go false a b g f h q = absurd (omega arith)

-- a size that is set is one
pub size_accepted : (u : Reu) (n size : ℕ) → n ≡ size_refusal u size → n ≡ 0 → is_size size ≡ true
unfolding size_refusal
size_accepted u n size e z = go (well_formed u) (is_size size) (not u.attached) (sym e ∙ z)
  where
    go : (w a b : Bool) → ◌≡◌ {A = ℕ} (cond w (cond a (cond b 0 6) 5) 2) 0 → a ≡ true
    go w true b q = refl
    go true false b q = absurd (omega arith)
    go false false b q = absurd (omega arith)

-- n is the number that the code computed, k the definition's; x what the call answered and left
module _ {A : Type 0} (n k : ℕ) (e : n ≡ k) (refused : ℕ → A) (x a : A) where
  pub done : n ≡ 0 → x ≡ a → x ≡ checked k refused a
  unfolding checked
  done z h = h ∙ sym (ap (λ (t : Bool). cond t a (refused k)) (eq-eqb k 0 (sym e ∙ z)))

  pub not_done : (n ≡ 0 → ⊥) → x ≡ refused n → x ≡ checked k refused a
  unfolding checked
  not_done ne h =
      h ∙ ap refused e ∙ sym (ap (λ (t : Bool). cond t a (refused k)) (ap (λ (j : ℕ). eqb j 0) (sym e) ∙ ne_eqb n 0 ne))

-- a refusal has a number
pub refusal_some : (e : Refusal) → refusal_number e ≡ 0 → ⊥
refusal_some Length q = absurd (omega arith)
refusal_some Field q = absurd (omega arith)
refusal_some Refusal.Bus q = absurd (omega arith)
refusal_some Refusal.Storage q = absurd (omega arith)
refusal_some Size q = absurd (omega arith)
refusal_some Attached q = absurd (omega arith)

-- a call whose test is passed is done, and one whose test is not is refused by its number
pub passed : {A : Type 0} (k : ℕ) (refused : ℕ → A) (a : A) → 0 ≡ k → a ≡ checked k refused a
passed k refused a e = done 0 k e refused a a refl refl

pub not_passed : {A : Type 0} (k : ℕ) (refused : ℕ → A) (a : A) (e : Refusal) → refusal_number e ≡ k → refused (refusal_number e) ≡ checked k refused a
not_passed k refused a e q = not_done (refusal_number e) k q refused (refused (refusal_number e)) a (refusal_some e) refl

-- a tick and a cycle that are done are no refusal
pub tick_accepted : (u : Reu) (m s : List ℕ) (cycle : ℕ) (low : Bool) → (tick_dma u m s cycle low).0.refusal ≡ 0
unfolding tick_dma
tick_accepted u m s cycle low = refl

by_grant : (a : ReuBusAction) (u : Reu) (m s : List ℕ) (cycle : ℕ) (low : Bool) → (cycle_by a u m s cycle low).0.refusal ≡ 0
unfolding cycle_by
by_grant Cpu u m s cycle low = refl
by_grant Hold u m s cycle low = refl
by_grant Transfer u m s cycle low = refl

pub cycle_accepted : (u : Reu) (m s : List ℕ) (high phi1 : Bool) (cycle : ℕ) (low : Bool) → (run_reu_cycle u m s high phi1 cycle low).0.refusal ≡ 0
unfolding run_reu_cycle
cycle_accepted u m s high phi1 cycle low = by_grant (bus_action u s high phi1 cycle).0.action _ m _ cycle low

-- their value, with both marks, is at most 7
pub step_most : (b : Bool) (p : Passed) → step_number b p ≤ 7
step_most b p = omega (arith, bit_most b, bit_most p.c64, bit_most p.expansion)
