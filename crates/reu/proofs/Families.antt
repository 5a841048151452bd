-- What a call of each family is, by what opening the image i gave: a refusal, or a controller u.
use Rattle.std.proofs.Common.{◌≡◌, ℕ, true, false, List, length, sym, ap, ap₂, ◌∙◌, subst, refl, arith, eqb, eqb-true, ne_eqb, Bool, cond, Fits, w8}
use borrow.Author.Tests.{eqb-false, eq-eqb}
use Rattle.controller.specs.Enable.{new_reu}
use Rattle.image.specs.Open.{store_image}
use Rattle.image.proofs.Opening.{store_good, store_other}
use Rattle.image.proofs.SoundCalls.{sound_new}
use Rattle.std.specs.Prelude.{None, Result, Ok, Err, get_or}
use Rattle.regs.specs.Stores.{Stores}
use Rattle.controller.specs.declared.refusals.Refusal.{Refusal}
use Rattle.controller.specs.declared.reu.Answered.{Answered}
use Rattle.controller.specs.declared.reu.Step.{Step}
use Rattle.controller.specs.declared.reu.Reu.{Reu}
use Rattle.controller.specs.Answers.{Answer, refusal_number, answer_of, step_answer_of}
use Rattle.controller.specs.TickDma.{Ticked}
use Rattle.controller.specs.Calls.{answered, call, numbered, refused}
use Rattle.controller.proofs.Checked.{done, not_done, refusal_some}
use Rattle.image.specs.Open.{Opened, bytes_ok, image_ok, opened, open_image}
use Rattle.image.specs.Valid.{Bytes, Typed}
use Rattle.image.proofs.Fields.{and_right}
use Rattle.image.proofs.Opening.{opened_long, opened_is, opened_ok}
use Rattle.image.proofs.Sound.{Sound}
use Rattle.image.proofs.Valid.{open_sound, sound_typed, sound_well}
use Rattle.image.specs.Layout.{image_size, pack_image, reu_at}
use Rattle.reu.specs.Exports.{refusal, reu_new, code, image_after, changed, changed_storage, changed_both, look, change, change_storage, change_both}
use Rattle.controller.specs.Refusals.{checked, refusal_of, well_formed}
use Rattle.reu.specs.Inner.{ended, Kept, Left}
use Rattle.reu.specs.Logged.{logged, logged_both, stores_by}

-- the bytes of a slice are bytes
pub bytes_of : (s : List ℕ) → ((j : ℕ) → Fits w8 (get_or s j 0)) → Bytes s
bytes_of s given = record { below = λ j. (given j).fits }

module _ (i : List ℕ) where
  -- ---- refused: x is the number that is answered
  module _ (e : Refusal) (h : opened (Err e) ≡ open_image i) where
    number : refusal_number e ≡ (open_image i).refusal
    number = ap (λ (y : Opened). y.refusal) h

    pub look_refused : (f : Reu → Answer) (x : ℕ) → x ≡ refusal (refusal_number e) → x ≡ look f i
    unfolding look
    look_refused f x q = not_done (refusal_number e) _ number refusal x _ (refusal_some e) q

    pub change_refused : (f : Reu → Answer) (x : ℕ) → x ≡ refusal (refusal_number e) → (x, i) ≡ change f i
    unfolding change
    change_refused f x q = not_done (refusal_number e) _ number (λ n. (refusal n, i)) (x, i) _ (refusal_some e) (ap (λ (n : ℕ). (n, i)) q)

    pub storage_refused : (s : List ℕ) (f : Reu → List ℕ → (Answer × List ℕ)) (x : ℕ) → x ≡ refusal (refusal_number e) → (x, i, s) ≡ change_storage f i s
    unfolding change_storage
    storage_refused s f x q =
        not_done (refusal_number e) _ number (λ n. (refusal n, i, s)) (x, i, s) _ (refusal_some e) (ap (λ (n : ℕ). (n, i, s)) q)

    pub both_refused : (m s : List ℕ) (f : Reu → List ℕ → List ℕ → Ticked) (x : ℕ) → x ≡ refusal (refusal_number e)
        → (record { answer = x; stores = None }, i, m, s) ≡ logged_both f i m s
    unfolding change_both stores_by
    both_refused m s f x q =
        ap₂ logged
        (not_done (refusal_number e) _ number (λ n. (refusal n, i, m, s)) (x, i, m, s) _ (refusal_some e) (ap (λ (n : ℕ). (n, i, m, s)) q))
        (not_done (refusal_number e) _ number (λ n. None) None _ (refusal_some e) refl)

  -- ---- done: r is what the call on the controller answered
  module _ (u : Reu) (h : opened (Ok u) ≡ open_image i) where
    accepted : 0 ≡ (open_image i).refusal
    accepted = ap (λ (y : Opened). y.refusal) h

    -- the number and the image by what the code does with r, and by the definitions
    ended_is : (r : Result (Answered ℕ) Refusal) → ended r i ≡ changed (answer_of u r) i
    unfolding code image_after
    ended_is (Ok a) = ap (λ (n : ℕ). (n, pack_image a.reu)) (omega arith)
    ended_is (Err e) =
        ap (λ (n : ℕ). (n, i)) (omega arith)
        ∙ ap (λ (t : Bool). (code (answer_of u (Err e)), cond t (pack_image u) i)) (sym (ne_eqb (refusal_number e) 0 (refusal_some e)))

    well : well_formed u ≡ true
    unfolding image_ok
    well = sym (ap (λ (y : Opened). well_formed y.reu) (sym (h ∙ opened_is i (sym accepted)))) ∙ and_right (bytes_ok i) (well_formed (reu_at i)) (opened_ok i (sym accepted))

    pub look_done : (f : Reu → Answer) (x : ℕ) → (well_formed u ≡ true → answered x u ≡ f u) → x ≡ look f i
    unfolding look code
    look_done f x hx = done 0 _ accepted refusal x _ refl (omega arith ∙ ap code (hx well) ∙ ap (λ (y : Opened). code (f y.reu)) h)

    pub change_done : (f : Reu → Answer) (r : Result (Answered ℕ) Refusal) (x : ℕ) (j : List ℕ) → answer_of u r ≡ f u → (x, j) ≡ ended r i → (x, j) ≡ change f i
    unfolding change
    change_done f r x j ha hx =
        done 0 _ accepted (λ n. (refusal n, i)) (x, j) _ refl
        (hx ∙ ended_is r ∙ ap (λ (b : Answer). changed b i) ha ∙ ap (λ (y : Opened). changed (f y.reu) i) h)

    pub storage_done : (s t : List ℕ) (f : Reu → List ℕ → (Answer × List ℕ)) (r : Result (Answered ℕ) Refusal) (x : ℕ) (j : List ℕ)
        → (answer_of u r, t) ≡ f u s → (x, j) ≡ ended r i → (x, j, t) ≡ change_storage f i s
    unfolding change_storage
    storage_done s t f r x j ha hx =
        done 0 _ accepted (λ n. (refusal n, i, s)) (x, j, t) _ refl
        (ap (λ (y : ℕ × List ℕ). (y.0, y.1, t)) (hx ∙ ended_is r) ∙ ap (λ (b : Answer × List ℕ). changed_storage b i) ha
        ∙ ap (λ (y : Opened). changed_storage (f y.reu s) i) h)

    -- n is the answer with its value as a number, l its stores
    pub both_done : (m s b t : List ℕ) (f : Reu → List ℕ → List ℕ → Ticked) (r : Result (Answered Step) Refusal) (n : Result (Answered ℕ) Refusal) (l : Stores) (x : ℕ) (j : List ℕ)
        → (step_answer_of u r, b, t) ≡ f u m s → answer_of u n ≡ numbered (step_answer_of u r) → l ≡ (step_answer_of u r).stores → (x, j) ≡ ended n i
        → (record { answer = x; stores = l }, j, b, t) ≡ logged_both f i m s
    unfolding change_both stores_by
    both_done m s b t f r n l x j ha hn hl hx =
        ap₂ logged
        (done 0 _ accepted (λ n. (refusal n, i, m, s)) (x, j, b, t) _ refl
        (ap (λ (y : ℕ × List ℕ). (y.0, y.1, b, t)) (hx ∙ ended_is n ∙ ap (λ (y : Answer). changed y i) hn) ∙ ap (λ (y : Ticked). changed_both y i) ha
        ∙ ap (λ (y : Opened). changed_both (f y.reu m s) i) h))
        (done 0 _ accepted (λ n. None) l _ refl (hl ∙ ap (λ (y : Ticked). y.0.stores) ha ∙ ap (λ (y : Opened). (f y.reu m s).0.stores) h))

    -- what is left can be stored
    pub sound : Bytes i → Sound u
    sound b = subst (λ (y : Opened). Sound y.reu) (sym (h ∙ opened_is i (sym accepted))) (open_sound i b (sym accepted))

    left_kept : (r : Result (Answered ℕ) Refusal) → Left r → Kept r i
    left_kept (Ok a) w = (w, opened_long i (sym accepted))
    left_kept (Err e) w = tt

    pub kept_by : (r : Result (Answered ℕ) Refusal) → ((j : ℕ) → Fits w8 (get_or i j 0)) → (Typed u → well_formed u ≡ true → Left r) → Kept r i
    kept_by r b w = let s = sound (bytes_of i b) in left_kept r (w (sound_typed u s) (sound_well u s))

-- ---- a controller in range is not refused by a call that lends nothing
pub served : (u : Reu) (v x : ℕ) (w : Reu) → well_formed u ≡ true → x ≡ v → answered x w ≡ call u (answered v w)
unfolding refusal_of checked
served u v x w ok h =
    ap (λ (n : ℕ). answered n w) h ∙ sym (λ i. checked (cond (ok i) (cond (eq-eqb u.size u.size refl i) 0 4) 2) (refused u) (answered v w))

-- ---- a new image

new_well : well_formed new_reu ≡ true
new_well = sound_well new_reu sound_new

-- storing a new controller is making a new image: the refusal as a call answers it
abbrev pub coded : (ℕ × List ℕ) → (ℕ × List ℕ)
coded x = (refusal x.0, x.1)

pub stored_new : (i : List ℕ) → coded (store_image new_reu i) ≡ reu_new i
unfolding reu_new
stored_new i = go (eqb (length i) image_size) refl
  where
    go : (b : Bool) → eqb (length i) image_size ≡ b
        → coded (store_image new_reu i) ≡ cond b (0, pack_image new_reu) (refusal 1, i)
    go true e = ap coded (store_good new_reu i (eqb-true (length i) image_size e) new_well)
    go false e = ap coded (store_other new_reu i (eqb-false (length i) image_size e))
