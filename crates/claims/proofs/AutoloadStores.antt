-- The stores of a step: a tick by what it does, then the cycle and the lent step over it.
use Prim.Native.Nat.{ℕ, zero, suc, ◌≤◌}
use mathlib.Core.Bool.{Bool, true, false, not, ◌&&◌, ◌||◌, cond, false≢true, and-false, not-not}
use mathlib.Core.Path.{◌≡◌, refl, sym, ap, ◌∙◌, subst}
use mathlib.Core.List.{List, [], ◌∷◌}
use native.Mathlib.Omega.{arith}
use lib.Dec.{eqb}
use borrow.Author.Tests.{eqb-false, eqb-true}
use lib.ListN.{length, get_or, set, length-set}
use Rattle.transfer.specs.declared.dma.DmaState.{DmaState}
use Rattle.std.specs.Prelude.{Option, None, Some}
use Rattle.transfer.specs.declared.dma.Passed.{Passed}
use Rattle.transfer.specs.declared.dma.SwapPhase.{SwapPhase}
use Rattle.transfer.specs.declared.dma.SwapPhase.TheVariants.{ReadC64, WriteC64}
use Rattle.transfer.specs.declared.dma.TransferType.{TransferType}
use Rattle.transfer.specs.declared.dma.TransferType.TheVariants.{Store, Recall, Swap, Verify}
use Rattle.transfer.specs.declared.memory.Put.{Put}
use Rattle.transfer.specs.declared.memory.Seen.{Seen}
use Rattle.transfer.specs.declared.timing.ReuBusAction.{ReuBusAction}
use Rattle.transfer.specs.declared.timing.ReuBusAction.TheVariants.{Cpu, Hold, Transfer}
use Rattle.transfer.specs.Timing.{action_number}
use Rattle.transfer.specs.Dma.{active, is_type, is_write_phase, moved, neither, passed, recalled, runs, seen_by, well_dma, with_latch, with_tail}
use Rattle.transfer.specs.declared.memory.Put.TheVariants.{Nothing}
use Rattle.transfer.proofs.Pick.{by_test, fst, snd}
use Rattle.regs.specs.declared.stores.RegisterStore.{RegisterStore}
use Rattle.regs.specs.Registers.{held}
use Rattle.regs.specs.Stores.{Stores, listed, made}
use Rattle.transfer.specs.Constants.{verify_error}
use Rattle.transfer.specs.Bytes.{ones}
use Rattle.regs.specs.FinishDma.{stores_at_end}
use Rattle.controller.specs.declared.reu.Reu.{Reu}
use Rattle.controller.specs.declared.reu.TickAnswer.{TickAnswer}
use Rattle.controller.specs.Reu.{with_dma, with_release, with_repeat, with_shadows}
use Rattle.controller.specs.Refusals.{checked, refusal_of}
use Rattle.controller.proofs.Checked.{accepted}
use Rattle.controller.proofs.WellFormed.{well_command}
use Rattle.controller.specs.BusAction.{bus_action}
use Rattle.controller.specs.Calls.{call_both, cycle_call, tick_call}
use Rattle.controller.specs.Cycle.{counted, cycle_by, run_reu_cycle}
use Rattle.controller.specs.FinishDma.{finish_dma, publish_live_counters, update_irq, with_stores}
use Rattle.controller.specs.TickDma.{Ticked, advance, differs, ends, goes_on, quiet_tick, shown_last, swap_read, swap_write, tick_by_type, tick_dma, tick_of, tick_recall, tick_refresh, tick_running, tick_store, tick_swap, tick_tail, tick_verify, with_error}
use Rattle.claims.specs.AutoloadStores.{AutoloadStores, Goes, HandedOut, an_end, autoloading, comes_to_end, ends_autoload, shadow_stores}
use Rattle.claims.proofs.EndLaw.{Agree, agree_marked, finish_agrees, then}
use Rattle.claims.proofs.GrantLaw.{Face, face, grant_face}
use Rattle.claims.proofs.Unseen.{unseen}

-- ---- lists that agree behind STATUS and COMMAND

-- the same stores on both
set_agrees : (l r : List ℕ) (j v i : ℕ) → length l ≡ length r → get_or l i 0 ≡ get_or r i 0 → get_or (set l j v) i 0 ≡ get_or (set r j v) i 0
set_agrees [] [] j v i n h = h
set_agrees [] (y ∷ r) j v i n h = absurd (omega arith)
set_agrees (x ∷ l) [] j v i n h = absurd (omega arith)
set_agrees (x ∷ l) (y ∷ r) zero v zero n h = refl
set_agrees (x ∷ l) (y ∷ r) zero v (suc i) n h = h
set_agrees (x ∷ l) (y ∷ r) (suc j) v zero n h = h
set_agrees (x ∷ l) (y ∷ r) (suc j) v (suc i) n h = let m : length l ≡ length r = omega arith in set_agrees l r j v i m h

made_agrees : (xs : List RegisterStore) (l r : List ℕ) (i : ℕ) → length l ≡ length r → get_or l i 0 ≡ get_or r i 0 → get_or (made xs l) i 0 ≡ get_or (made xs r) i 0
made_agrees [] l r i n h = h
made_agrees (x ∷ xs) l r i n h =
    made_agrees xs (set l x.index x.value) (set r x.index x.value) i
    (length-set l x.index x.value ∙ n ∙ sym (length-set r x.index x.value)) (set_agrees l r x.index x.value i n h)

-- with the error's mark
ended_agrees : (u : Reu) (error done : Bool) → Agree (finish_dma (with_error u error) done).regs u.regs
ended_agrees u error done = then (finish_agrees (with_error u error) done) (agree_marked u.regs (ones (verify_error ∷ [])) error)

-- ---- a tick

-- of a tick on the registers l and the shadows c, e and n, of a command with Autoload or without: it ends the command or it goes on
record Right (l : List ℕ) (c e n : ℕ) (auto ended : Bool) (t : TickAnswer) : Type 0 where
  running : active t.reu.dma ≡ not ended
  stores : t.stores ≡ cond ended (stores_at_end auto c e n) None
  regs : ended ≡ true → auto ≡ true → Agree t.reu.regs l

abbrev RightOf : Reu → Bool → Bool → TickAnswer → Type 0
RightOf u auto ended t = Right u.regs u.shadow_c64_addr u.shadow_reu_addr u.shadow_len auto ended t

-- the end finds u
ends_right : (u : Reu) (p : Passed) (d : DmaState) (error done : Bool) (put : Put) → RightOf u d.autoload true (ends u p d error done put)
unfolding finish_dma update_irq
ends_right u p d error done put = record { running = refl; stores = refl; regs = λ _ _. ended_agrees u error done }

goes_right : {l : List ℕ} {c e n : ℕ} {auto : Bool} {t : TickAnswer} → active t.reu.dma ≡ true → t.stores ≡ None → Right l c e n auto false t
goes_right a n = record { running = a; stores = n; regs = λ e _. absurd (false≢true e) }

-- a byte is done
module _ (u : Reu) (d : DmaState) (error low : Bool) (put : Put) where
  -- what the end finds: u with Autoload, w otherwise, and then there is no store
  found_right : (w : Reu) (auto : Bool) → d.autoload ≡ auto → (release done : Bool)
      → RightOf u auto true (ends (with_release (cond auto u w) release) (passed d) d error done put)
  unfolding finish_dma update_irq
  found_right w true e release done = let r = ends_right (with_release u release) (passed d) d error done put in record { running = r.running; stores = r.stores ∙ ap (λ (b : Bool). stores_at_end b u.shadow_c64_addr u.shadow_reu_addr u.shadow_len) e; regs = λ _ _. ended_agrees (with_release u release) error done }
  found_right w false e release done = record { running = refl; stores = ap (λ (b : Bool). stores_at_end b w.shadow_c64_addr w.shadow_reu_addr w.shadow_len) e; regs = λ _ e. absurd (false≢true e) }

  abbrev chosen : Bool → Bool → Bool → TickAnswer
  chosen one e left =
      cond (e && (not one && left)) (goes_on u (passed d) error (with_tail (moved d) true) put)
      (cond (one || e)
      (ends (with_release (shown_last u (moved d)) (one && (is_type d.transfer_type Swap && not low))) (passed d) d error one put)
      (goes_on u (passed d) error (moved d) put))

  choice_right : (one e left : Bool) → RightOf u d.autoload (one || (e && not left)) (chosen one e left)
  choice_right true true left = found_right (publish_live_counters u (moved d)) d.autoload refl _ true
  choice_right true false left = found_right (publish_live_counters u (moved d)) d.autoload refl _ true
  choice_right false true true = goes_right refl refl
  choice_right false true false = found_right (publish_live_counters u (moved d)) d.autoload refl _ false
  choice_right false false left = goes_right refl refl

  advance_right : RightOf u d.autoload (eqb d.remaining 1 || (error && not (eqb (moved d).remaining 1))) (advance u d error low put)
  unfolding advance
  advance_right = choice_right (eqb d.remaining 1) error (eqb (moved d).remaining 1)

module _ (u : Reu) (d : DmaState) (b : Seen) (cycle : ℕ) (low : Bool) where
  -- `an_end`, by type and phase
  abbrev ended : TransferType → SwapPhase → Bool
  ended t p =
      not (is_type t Swap && not (is_write_phase p))
      && (eqb d.remaining 1 || (is_type t Verify && (differs b && not (eqb (moved d).remaining 1))))

  phase_right : (p : SwapPhase) → RightOf u d.autoload (ended Swap p) (tick_swap p u d b cycle low)
  unfolding tick_swap swap_read swap_write
  phase_right ReadC64 = goes_right refl refl
  phase_right WriteC64 = advance_right u d false low _

  type_right : (t : TransferType) → RightOf u d.autoload (ended t d.swap_phase) (tick_by_type t u d b cycle low)
  unfolding tick_by_type tick_store tick_recall tick_verify
  type_right Store = advance_right u d false low _
  type_right Recall =
      advance_right (with_repeat u (u.recall_repeat && d.first_byte)) (with_latch d (recalled d u.recall_repeat b)) false low _
  type_right Swap = phase_right d.swap_phase
  type_right Verify = advance_right u d (differs b) low _

  abbrev ran : Bool → Bool → TickAnswer
  ran refresh tail = cond refresh (tick_refresh u d b cycle) (cond tail (tick_tail u d b) (tick_by_type d.transfer_type u d b cycle low))

  ran_right : (refresh tail : Bool)
      → RightOf u d.autoload (not refresh && (tail || ended d.transfer_type d.swap_phase)) (ran refresh tail)
  unfolding tick_refresh tick_tail
  ran_right true tail = goes_right refl refl
  ran_right false true = ends_right u neither d false (not (differs b)) Nothing
  ran_right false false = type_right d.transfer_type

  running_right : RightOf u d.autoload (an_end u d b) (tick_running u d b cycle low)
  unfolding tick_running
  running_right = ran_right u.swap_refresh d.verify_tail

-- ---- what is handed out

-- by whether the step ends a command with Autoload
conclude : (u : Reu) (x : Stores) (w : Reu) (b : Bool) → ends_autoload u w ≡ b → x ≡ cond b (Some (shadow_stores u)) None
    → (b ≡ true → (i : ℕ) → 2 ≤ i → held (made (listed x) u.regs) i ≡ held w.regs i) → HandedOut u x w
conclude u x w b e l g =
    record { which = l ∙ ap (λ (k : Bool). cond k (Some (shadow_stores u)) None) (sym e); gives = λ h i low high. g (sym e ∙ h) i low }

hands_none : (u w : Reu) → ends_autoload u w ≡ false → HandedOut u None w
hands_none u w e = conclude u None w false e refl (λ h. absurd (false≢true h))

-- a command that runs on is not ended
runs_on : (x : Option DmaState) → (autoloading x && not (active x)) ≡ false
runs_on None = refl
runs_on (Some d) = and-false d.autoload

stays : (u w : Reu) → active w.dma ≡ active u.dma → HandedOut u None w
stays u w e =
    hands_none u w
    (ap (λ (a : Bool). autoloading u.dma && not a) e ∙ runs_on u.dma)

-- the stores of an end
all_or_none : (u : Reu) (auto ended : Bool)
    → cond ended (stores_at_end auto u.shadow_c64_addr u.shadow_reu_addr u.shadow_len) None ≡ cond (auto && ended) (Some (shadow_stores u)) None
all_or_none u true true = refl
all_or_none u true false = refl
all_or_none u false true = refl
all_or_none u false false = refl

abbrev HandedBy : Reu → TickAnswer → Type 0
HandedBy u t = HandedOut u t.stores (with_stores t.reu t.stores)

-- a tick that leaves t ends a command with Autoload
is_end : (u : Reu) (d : DmaState) (ended : Bool) (t : TickAnswer) → u.dma ≡ Some d → RightOf u d.autoload ended t
    → ends_autoload u t.reu ≡ (d.autoload && ended)
is_end u d ended t e r = (λ j. autoloading (e j) && not (r.running j)) ∙ ap (λ (b : Bool). d.autoload && b) (not-not ended)

-- and then its answer has registers 2 to 8 as they were
end_agrees : (u : Reu) (d : DmaState) (ended : Bool) (t : TickAnswer) → RightOf u d.autoload ended t → (d.autoload && ended) ≡ true
    → Agree t.reu.regs u.regs
end_agrees u d ended t r h = r.regs (snd d.autoload ended h) (fst d.autoload ended h)

right_handed : (u : Reu) (d : DmaState) (ended : Bool) (t : TickAnswer) → u.dma ≡ Some d → RightOf u d.autoload ended t → HandedBy u t
right_handed u d ended t e r =
    conclude u t.stores (with_stores t.reu t.stores) (d.autoload && ended)
    (is_end u d ended t e r)
    (r.stores ∙ all_or_none u d.autoload ended)
    (λ h i low.
    let g = end_agrees u d ended t r h in
    made_agrees (listed t.stores) u.regs t.reu.regs i (sym g.long) (sym (g.at i low)))

-- a command runs on a storage alone
abbrev Held : Reu → Type 0
Held u = active u.dma ≡ true → u.attached ≡ true

-- there a tick is one of the running command
module _ (u : Reu) (m s : List ℕ) (cycle : ℕ) (low : Bool) (k : Held u) where
  ticks : (d : DmaState) → u.dma ≡ Some d → (P : TickAnswer → Type 0) → P (tick_running u d (seen_by u.size (Some d) m s) cycle low)
      → P (tick_of (Some d) u (seen_by u.size (Some d) m s) cycle low)
  unfolding tick_of
  ticks d e P h =
      subst (λ (b : Bool). P (cond b (tick_running u d (seen_by u.size (Some d) m s) cycle low) (quiet_tick false (with_dma u None) Nothing)))
      (sym (k (ap active e))) h

  by_dma : (x : Option DmaState) → u.dma ≡ x → HandedBy u (tick_of x u (seen_by u.size x m s) cycle low)
  unfolding tick_of
  by_dma None e = stays u u refl
  by_dma (Some d) e =
      ticks d e (HandedBy u) (right_handed u d _ _ e (running_right u d (seen_by u.size (Some d) m s) cycle low))

  tick_handed : HandedOut u (tick_dma u m s cycle low).0.stores (tick_dma u m s cycle low).0.reu
  unfolding tick_dma
  tick_handed = by_dma u.dma refl

  ends_by_dma : (x : Option DmaState) → u.dma ≡ x → active x ≡ true
      → not (active (tick_of x u (seen_by u.size x m s) cycle low).reu.dma) ≡ runs (λ d. an_end u d (seen_by u.size x m s)) x
  ends_by_dma None e a = absurd (false≢true a)
  ends_by_dma (Some d) e a =
      let b : Seen = seen_by u.size (Some d) m s in
      ticks d e (λ (t : TickAnswer). not (active t.reu.dma) ≡ an_end u d b)
      (ap not (running_right u d b cycle low).running ∙ not-not (an_end u d b))

  tick_ends : active u.dma ≡ true → not (active (tick_dma u m s cycle low).0.reu.dma) ≡ comes_to_end u m s
  unfolding tick_dma
  tick_ends a = ends_by_dma u.dma refl a

-- before they are made
abbrev Clean : Reu → TickAnswer → Type 0
Clean u t = ends_autoload u t.reu ≡ true → (i : ℕ) → 2 ≤ i → i ≤ 8 → held t.reu.regs i ≡ held u.regs i

tick_clean : (u : Reu) (m s : List ℕ) (cycle : ℕ) (low : Bool) → Clean u (tick_of u.dma u (seen_by u.size u.dma m s) cycle low)
unfolding tick_of
tick_clean u m s cycle low = by_command u.dma refl
  where
    by_command : (x : Option DmaState) → u.dma ≡ x → Clean u (tick_of x u (seen_by u.size x m s) cycle low)
    by_command None e = λ h i lo hi. refl
    by_command (Some d) e =
        let r = running_right u d (seen_by u.size (Some d) m s) cycle low in
        by_test (Clean u) u.attached _ _
        (λ a h i lo hi. (end_agrees u d _ _ r (sym (is_end u d _ _ e r) ∙ h)).at i lo)
        (λ _ h i lo hi. refl)

-- ---- the cycle over it

-- what holds of a step on v, which the grant has left of u, holds of it on u
from_grant : (u v : Reu) (x : Stores) (w : Reu) → face v ≡ face u → HandedOut v x w → HandedOut u x w
from_grant u v x w e h =
    record {
      which = h.which ∙ (λ j. cond ((e j).5 && not (active w.dma)) (Some (shadow_stores (with_shadows u (e j).1 (e j).2 (e j).3))) None);
      gives = λ k i low high.
          ap (λ (l : List ℕ). held (made (listed x) l) i) (sym (ap (λ (f : Face). f.0) e))
          ∙ h.gives ((λ j. (e j).5 && not (active w.dma)) ∙ k) i low high;
    }

module _ (m s : List ℕ) (cycle : ℕ) (low : Bool) where
  by_grant : (a : ReuBusAction) (v : Reu) → Held v → HandedOut v (cycle_by a v m s cycle low).0.stores (cycle_by a v m s cycle low).0.reu
  unfolding cycle_by counted
  by_grant Cpu v k = stays v v refl
  by_grant Hold v k = stays v v refl
  by_grant Transfer v k = let h = tick_handed v m s cycle low k in record { which = h.which; gives = h.gives }

  granted_ends : (a : ReuBusAction) (v : Reu) → Held v → active v.dma ≡ true
      → not (active (cycle_by a v m s cycle low).0.reu.dma) ≡ (eqb (action_number a) (action_number Transfer) && comes_to_end v m s)
  unfolding cycle_by counted
  granted_ends Cpu v k e = ap not e
  granted_ends Hold v k e = ap not e
  granted_ends Transfer v k e = tick_ends v m s cycle low k e

module _ (u : Reu) (m s : List ℕ) (high phi1 : Bool) (cycle : ℕ) (low : Bool) (k : Held u) where
  f : face (bus_action u s high phi1 cycle).0.reu ≡ face u
  f = grant_face u s high phi1 cycle

  held_on : Held (bus_action u s high phi1 cycle).0.reu
  held_on a = ap (λ (x : Face). x.4) f ∙ k (sym (ap (λ (x : Face). x.6) f) ∙ a)

  cycle_handed : HandedOut u (run_reu_cycle u m s high phi1 cycle low).0.stores (run_reu_cycle u m s high phi1 cycle low).0.reu
  unfolding run_reu_cycle
  cycle_handed = from_grant u _ _ _ f (by_grant m _ cycle low (bus_action u s high phi1 cycle).0.action _ held_on)

  cycle_ends : active u.dma ≡ true
      → (let g = bus_action u s high phi1 cycle in
      not (active (run_reu_cycle u m s high phi1 cycle low).0.reu.dma) ≡ (eqb (action_number g.0.action) (action_number Transfer) && comes_to_end g.0.reu m g.1))
  unfolding run_reu_cycle
  cycle_ends a = granted_ends m _ cycle low (bus_action u s high phi1 cycle).0.action _ held_on (ap (λ (x : Face). x.6) f ∙ a)

-- ---- the calls

-- a controller that is not refused
attached_of : (a : Bool) (x : Option DmaState) → well_dma a x ≡ true → active x ≡ true → a ≡ true
attached_of a None h e = absurd (false≢true e)
attached_of a (Some d) h e = fst a _ h

module _ (u : Reu) (m s : List ℕ) (x : Ticked) where
  abbrev n : ℕ
  n = refusal_of u (length m) (length s)

  done_held : eqb n 0 ≡ true → Held u
  done_held e a =
      attached_of u.attached u.dma (well_command u (accepted u n (length m) (length s) refl (eqb-true n 0 e)).well) a

  -- a refused step hands out none
  tested : (Held u → HandedOut u x.0.stores x.0.reu) → HandedOut u (call_both u m s x).0.stores (call_both u m s x).0.reu
  unfolding checked
  tested h = by_test (λ (y : Ticked). HandedOut u y.0.stores y.0.reu) (eqb n 0) x _ (λ e. h (done_held e)) (λ _. stays u u refl)

  not_refused : (P : Ticked → Type 0) → (Held u → P x) → (call_both u m s x).0.refusal ≡ 0 → P (call_both u m s x)
  unfolding checked
  not_refused P h = by_test (λ (y : Ticked). y.0.refusal ≡ 0 → P y) (eqb n 0) x _ (λ e _. h (done_held e)) (λ e z. absurd (eqb-false n 0 e z))

cycle_call_lem : (u : Reu) (m s : List ℕ) (high phi1 : Bool) (cycle : ℕ) (low : Bool)
    → HandedOut u (cycle_call u m s high phi1 cycle low).0.stores (cycle_call u m s high phi1 cycle low).0.reu
unfolding cycle_call
cycle_call_lem u m s high phi1 cycle low = tested u m s _ (cycle_handed u m s high phi1 cycle low)

tick_call_lem : (u : Reu) (m s : List ℕ) (cycle : ℕ) (low : Bool)
    → HandedOut u (tick_call u m s cycle low).0.stores (tick_call u m s cycle low).0.reu
unfolding tick_call
tick_call_lem u m s cycle low = tested u m s _ (tick_handed u m s cycle low)

tick_call_ends : (u : Reu) (m s : List ℕ) (cycle : ℕ) (low : Bool) → Goes u (tick_call u m s cycle low)
    → not (active (tick_call u m s cycle low).0.reu.dma) ≡ comes_to_end u m s
unfolding tick_call
tick_call_ends u m s cycle low g =
    not_refused u m s _ (λ (y : Ticked). not (active y.0.reu.dma) ≡ comes_to_end u m s) (λ k. tick_ends u m s cycle low k g.0) g.1

cycle_call_ends : (u : Reu) (m s : List ℕ) (high phi1 : Bool) (cycle : ℕ) (low : Bool) → Goes u (cycle_call u m s high phi1 cycle low)
    → (let g = bus_action u s high phi1 cycle in
    not (active (cycle_call u m s high phi1 cycle low).0.reu.dma) ≡ (eqb (action_number g.0.action) (action_number Transfer) && comes_to_end g.0.reu m g.1))
unfolding cycle_call
cycle_call_ends u m s high phi1 cycle low g =
    let b = bus_action u s high phi1 cycle in
    not_refused u m s _
    (λ (y : Ticked). not (active y.0.reu.dma) ≡ (eqb (action_number b.0.action) (action_number Transfer) && comes_to_end b.0.reu m b.1))
    (λ k. cycle_ends u m s high phi1 cycle low k g.0) g.1

pub autoload_stores : AutoloadStores
autoload_stores =
    record {
      tick = tick_call_lem;
      cycle = cycle_call_lem;
      lent = cycle_call_lem;
      clean = tick_clean;
      tick_ends = tick_call_ends;
      cycle_ends = cycle_call_ends;
      unseen = unseen;
    }
