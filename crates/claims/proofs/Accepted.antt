-- What each of the sixteen exported calls does on the image of a sound controller: it is tested for its refusal number, and where that is
-- 0, which an accepted call's is, it does what the controller's definition says.
use Prim.Native.Nat.{ℕ, ◌<◌}
use native.Mathlib.Nat.{zero-add}
use native.Mathlib.Omega.{arith}
use mathlib.Core.Bool.{Bool, true, false, cond}
use mathlib.Core.Path.{◌≡◌, refl, sym, ap, ◌∙◌}
use mathlib.Core.List.{List, [], ◌∷◌}
use lib.ListN.{length}
use lib.Dec.{eqb, ltb}
use borrow.Author.Tests.{eq-eqb, eqb-true, eqb-false, lt-ltb, ltb-true}
use Rattle.controller.specs.Answers.{Answer}
use Rattle.controller.specs.declared.reu.Reu.{Reu}
use Rattle.controller.specs.Enable.{new_reu, set_size as core_set_size}
use Rattle.transfer.specs.Constants.{bus_size}
use Rattle.controller.specs.Refusals.{well_formed, first_refusal, refusal_of, size_refusal, checked}
use Rattle.controller.specs.TickDma.{Ticked, quiet_step}
use Rattle.controller.proofs.Checked.{tick_accepted, cycle_accepted}
use Rattle.controller.specs.Calls.{step_number, answered, refused, call, call_storage, call_both, reset_call, set_size_call, set_enabled_call, storage_present_call, capacity_bytes_call, trigger_call, read_call, write_call, dma_active_call, bus_action_call, cpu_ready_call, debug_register_call, c64_access_call, tick_call, cycle_call}
use Rattle.image.specs.Open.{Opened}
use Rattle.image.specs.Layout.{image_size, pack_image}
use Rattle.image.specs.Open.{open_image}
use Rattle.image.proofs.Packed.{open_pack, pack_long}
use Rattle.reu.specs.Exports.{flag, refusal_unit, refusal, code, image_after, look, changed, change, changed_storage, change_storage, changed_both, change_both, reu_new}
use Rattle.claims.specs.Calls.{Other, new, reset, set_size, set_enabled, storage_present, capacity_bytes, trigger_ff00, dma_active, bus_action, cpu_ready, debug_register, c64_access, tick_dma, Kind, read, write, cycle, other, Done, looked, on_image, on_storage, on_both, does_other, does, accepts, NumbersFit}
use Rattle.image.proofs.Sound.{Sound}
use Rattle.image.proofs.Valid.{sound_well, sound_typed}
use Rattle.claims.proofs.States.{St, held, on, Act, looks, sizes, changes, stores, ticks, other_act, act, value_by, left_by, number_by, value_of, step_of, number_of, Steady, Ready, ready_left}

-- ---- the number by the lengths

abbrev number : Bool → Bool → Bool → ℕ
number controller bus storage = first_refusal ((controller, 2) ∷ (bus, 3) ∷ (storage, 4) ∷ [])

-- a number that is 0 with a bus is 0 without
pub without_bus : (u : Reu) (b s : ℕ) → refusal_of u b s ≡ 0 → refusal_of u bus_size s ≡ 0
unfolding refusal_of
without_bus u b s = go (well_formed u) (eqb b bus_size) (eqb s u.size)
  where
    go : (w p q : Bool) → number w p q ≡ 0 → number w true q ≡ 0
    go true true q e = e
    go true false q e = absurd (omega arith)
    go false p q e = absurd (omega arith)

pub zero_number : (u : Reu) → Sound u → (b s : ℕ) → b ≡ bus_size → s ≡ u.size → refusal_of u b s ≡ 0
unfolding refusal_of
zero_number u sound b s hb hs = λ i. number (sound_well u sound i) (eq-eqb b bus_size hb i) (eq-eqb s u.size hs i)

-- ---- a call, by the number that it is tested for

-- an answer with the memories, and what is then answered and left
abbrev Whole : Type 0
Whole = Answer × List ℕ × List ℕ

module _ (x : St) (sound : Sound x.u) where
  abbrev through : Whole → Done
  through y = record { answer = code y.0; left = record { image = image_after y.0 (pack_image x.u); bus = y.1; storage = y.2 } }

  abbrev tested : ℕ → Whole → Done
  tested n y = through (checked n (λ k. (refused x.u k, x.m, x.s)) y)

  abbrev tested_by : Act → Done
  tested_by a = tested (number_by x a) (answered (value_by a) (left_by x a).u, (left_by x a).m, (left_by x a).s)

  opened : open_image (pack_image x.u) ≡ record { refusal = 0; reu = x.u }
  opened = open_pack x.u (sound_typed x.u sound) (sound_well x.u sound)

  -- a call that is lent no memory is not refused
  pub alone : refusal_of x.u bus_size x.u.size ≡ 0
  alone = zero_number x.u sound bus_size x.u.size refl refl

  -- a family g of calls tells the two arms of a test as `through` does
  alike : {A : Type 0} (g : A → Done) (n : ℕ) (r : ℕ → A) (d : A) (y : Whole) → ((k : ℕ) → g (r k) ≡ through (refused x.u k, x.m, x.s))
      → g d ≡ through y → g (checked n r d) ≡ tested n y
  unfolding checked
  alike g n r d y h e = go (eqb n 0)
    where
      go : (b : Bool) → g (cond b d (r n)) ≡ through (cond b y (refused x.u n, x.m, x.s))
      go true = e
      go false = h n

  looks_is : (f : Reu → Answer) (v : ℕ) → f x.u ≡ call x.u (answered v x.u) → looked (held x) (look f (pack_image x.u)) ≡ tested_by (looks v)
  unfolding look checked image_after
  looks_is f v e =
      ap (λ (o : Opened). looked (held x) (checked o.refusal refusal (code (f o.reu)))) opened
      ∙ ap (λ (a : Answer). looked (held x) (code a)) e
      ∙ ap (λ (n : ℕ). looked (held x) (code (checked n (refused x.u) (answered v x.u)))) alone
      ∙ sym (ap (λ (n : ℕ). tested n (answered v x.u, x.m, x.s)) alone)

  changes_is : (f : Reu → Answer) (v : ℕ) (w : Reu) → f x.u ≡ call x.u (answered v w) → on_image (held x) (change f (pack_image x.u)) ≡ tested_by (changes v w)
  unfolding change checked
  changes_is f v w e =
      ap (λ (o : Opened). on_image (held x) (checked o.refusal (λ n. (refusal n, pack_image x.u)) (changed (f o.reu) (pack_image x.u)))) opened
      ∙ ap (λ (a : Answer). on_image (held x) (changed a (pack_image x.u))) e
      ∙ alike (λ (a : Answer). on_image (held x) (changed a (pack_image x.u))) (refusal_of x.u bus_size x.u.size) (refused x.u) (answered v w) _ (λ k. refl) refl

  sizes_is : (n : ℕ) → on_image (held x) (change (λ w. set_size_call w n) (pack_image x.u)) ≡ tested_by (sizes n)
  unfolding change checked set_size_call
  sizes_is n =
      ap (λ (o : Opened). on_image (held x) (checked o.refusal (λ k. (refusal k, pack_image x.u)) (changed (set_size_call o.reu n) (pack_image x.u)))) opened
      ∙ alike (λ (a : Answer). on_image (held x) (changed a (pack_image x.u))) (size_refusal x.u n) (refused x.u) (answered 0 (core_set_size x.u n)) _ (λ k. refl) refl

  stores_is : (f : Reu → List ℕ → (Answer × List ℕ)) (v : ℕ) (w : Reu) (t : List ℕ) → f x.u x.s ≡ call_storage x.u x.s (answered v w, t)
      → on_storage (held x) (change_storage f (pack_image x.u) x.s) ≡ tested_by (stores v w t)
  unfolding change_storage checked
  stores_is f v w t e =
      ap (λ (o : Opened). on_storage (held x) (checked o.refusal (λ n. (refusal n, pack_image x.u, x.s)) (changed_storage (f o.reu x.s) (pack_image x.u)))) opened
      ∙ ap (λ (a : Answer × List ℕ). on_storage (held x) (changed_storage a (pack_image x.u))) e
      ∙ alike (λ (a : Answer × List ℕ). on_storage (held x) (changed_storage a (pack_image x.u))) (refusal_of x.u bus_size (length x.s)) (λ k. (refused x.u k, x.s)) (answered v w, t) _ (λ k. refl) refl

  moves_is : (f : Reu → List ℕ → List ℕ → Ticked) (y : Ticked) → y.0.refusal ≡ 0 → f x.u x.m x.s ≡ call_both x.u x.m x.s y
      → on_both (change_both f (pack_image x.u) x.m x.s) ≡ tested_by (ticks y)
  unfolding change_both checked
  moves_is f y z e =
      ap (λ (o : Opened). on_both (checked o.refusal (λ n. (refusal n, pack_image x.u, x.m, x.s)) (changed_both (f o.reu x.m x.s) (pack_image x.u)))) opened
      ∙ ap (λ (a : Ticked). on_both (changed_both a (pack_image x.u))) e
      ∙ alike (λ (a : Ticked). on_both (changed_both a (pack_image x.u))) (refusal_of x.u (length x.m) (length x.s)) (λ k. (quiet_step k false x.u, x.m, x.s)) y _ (λ k. refl)
      (ap (λ (n : ℕ). through (record { refusal = n; value = step_number y.0.flag y.0.passed; reu = y.0.reu }, y.1, y.2)) z)

  -- what is tested for 0
  done : (a : Act) → number_by x a ≡ 0 → tested_by a ≡ record { answer = value_by a; left = held (left_by x a) }
  unfolding checked code image_after
  done a z =
      ap (λ (n : ℕ). tested n (answered (value_by a) (left_by x a).u, (left_by x a).m, (left_by x a).s)) z
      ∙ (λ i. record { answer = zero-add (value_by a) i; left = held (left_by x a) })

  -- "Making a new image tests only" its length
  new_is : on_image (held x) (reu_new (pack_image x.u)) ≡ tested_by (changes 0 new_reu)
  unfolding reu_new
  new_is =
      ap (λ (t : Bool). on_image (held x) (cond t (0, pack_image new_reu) (refusal 1, pack_image x.u)))
      (eq-eqb (length (pack_image x.u)) image_size (pack_long x.u (sound_typed x.u sound) (sound_well x.u sound)))
      ∙ sym (done (changes 0 new_reu) alone)

  -- ---- the calls

  other_is : (o : Other) → does_other o (held x) ≡ tested_by (other_act o x)
  unfolding reset_call set_enabled_call storage_present_call capacity_bytes_call trigger_call dma_active_call bus_action_call cpu_ready_call debug_register_call c64_access_call tick_call
  other_is new = new_is
  other_is (reset h) = changes_is reset_call _ _ refl
  other_is (set_size n) = sizes_is n
  other_is (set_enabled e) = stores_is (λ w t. set_enabled_call w t (flag e)) _ _ _ refl
  other_is storage_present = looks_is storage_present_call _ refl
  other_is capacity_bytes = looks_is capacity_bytes_call _ refl
  other_is trigger_ff00 = changes_is trigger_call _ _ refl
  other_is dma_active = looks_is dma_active_call _ refl
  other_is (bus_action h p n) = stores_is (λ w t. bus_action_call w t (flag h) (flag p) n) _ _ _ refl
  other_is (cpu_ready h) = changes_is (λ w. cpu_ready_call w (flag h)) _ _ refl
  other_is (debug_register i) = looks_is (λ w. debug_register_call w i) _ refl
  other_is c64_access = looks_is c64_access_call _ refl
  other_is (tick_dma n l) = moves_is (λ w b t. tick_call w b t n (flag l)) _ (tick_accepted x.u x.m x.s n (flag l)) refl

  tested_is : (k : Kind) → does k (held x) ≡ tested_by (act k x)
  unfolding read_call write_call cycle_call
  tested_is (read a) = changes_is (λ w. read_call w a) _ _ refl
  tested_is (write a v) = changes_is (λ w. write_call w a v) _ _ refl
  tested_is (cycle h n l p) = moves_is (λ w b t. cycle_call w b t (flag h) (flag p) n (flag l)) _ (cycle_accepted x.u x.m x.s (flag h) (flag p) n (flag l)) refl
  tested_is (other o) = other_is o

  -- ---- accepted

  pub does_is : (k : Kind) → number_of k x ≡ 0 → does k (held x) ≡ record { answer = value_of k x; left = held (step_of k x) }
  does_is k z = tested_is k ∙ done (act k x) z

  pub leaves_is : (k : Kind) → number_of k x ≡ 0 → (does k (held x)).left ≡ held (step_of k x)
  leaves_is k z = ap (λ (d : Done). d.left) (does_is k z)

  pub answer_is : (k : Kind) → number_of k x ≡ 0 → (does k (held x)).answer ≡ value_of k x
  answer_is k z = ap (λ (d : Done). d.answer) (does_is k z)

  small_number : (n : ℕ) (y : Whole) → (tested n y).answer < refusal_unit → n ≡ 0
  unfolding checked code
  small_number n y = go (eqb n 0) refl
    where
      go : (b : Bool) → eqb n 0 ≡ b → code (cond b y (refused x.u n, x.m, x.s)).0 < refusal_unit → n ≡ 0
      go true e h = eqb-true n 0 e
      go false e h = absurd (omega (arith, eqb-false n 0 e))

  -- a refusal's answer is no smaller than 16,777,216, so an accepted call's number is 0
  pub accepted_number : (k : Kind) → accepts (on x k) ≡ true → number_of k x ≡ 0
  accepted_number k ok =
      small_number (number_of k x) _ (ltb-true _ refusal_unit (ap (λ (d : Done). ltb d.answer refusal_unit) (sym (tested_is k)) ∙ ok))

  -- a call whose value is small is accepted
  pub is_accepted : (k : Kind) → number_of k x ≡ 0 → value_of k x < refusal_unit → accepts (on x k) ≡ true
  is_accepted k z h = ap (λ (n : ℕ). ltb n refusal_unit) (answer_is k z) ∙ lt-ltb (value_of k x) refusal_unit h

-- where the lengths are right every number is 0, but of setting a size
pub ready_number : (x : St) → Ready x → (k : Kind) → Steady k → number_of k x ≡ 0
ready_number x r k s = go k s
  where
    none : refusal_of x.u bus_size x.u.size ≡ 0
    none = zero_number x.u r.sound _ _ refl refl

    with_storage : refusal_of x.u bus_size (length x.s) ≡ 0
    with_storage = zero_number x.u r.sound _ _ refl r.storage.size

    with_both : refusal_of x.u (length x.m) (length x.s) ≡ 0
    with_both = zero_number x.u r.sound _ _ r.bus.size r.storage.size

    by_other : (o : Other) → Steady (other o) → number_of (other o) x ≡ 0
    by_other new t = none
    by_other (reset h) t = none
    by_other (set_size n) t = absurd t
    by_other (set_enabled e) t = with_storage
    by_other storage_present t = none
    by_other capacity_bytes t = none
    by_other trigger_ff00 t = none
    by_other dma_active t = none
    by_other (bus_action h p n) t = with_storage
    by_other (cpu_ready h) t = none
    by_other (debug_register i) t = none
    by_other c64_access t = none
    by_other (tick_dma n l) t = with_both

    go : (k : Kind) → Steady k → number_of k x ≡ 0
    go (read a) t = none
    go (write a v) t = none
    go (cycle h n l p) t = with_both
    go (other o) t = by_other o t

pub ready_step : (x : St) → Ready x → (k : Kind) → Steady k → NumbersFit k → Ready (step_of k x)
ready_step x r k s f = ready_left x r k s (ready_number x r k s) f
