-- What opening and storing give, by the tests that decide.
use mathlib.Core.Path.{◌≡◌, refl, sym, ap, ◌∙◌}
use mathlib.Core.Bool.{Bool, true, false, cond}
use mathlib.Core.List.{List}
use Prim.Native.Nat.{ℕ}
use native.Mathlib.Omega.{arith}
use lib.ListN.{length}
use lib.Dec.{eqb}
use borrow.Author.Tests.{eq-eqb, ne_eqb, eqb-true}
use Rattle.controller.specs.declared.reu.Reu.{Reu}
use Rattle.controller.specs.Enable.{new_reu}
use Rattle.controller.specs.Refusals.{well_formed, checked}
use Rattle.image.specs.Open.{Opened, image_ok, open_image, store_image}
use Rattle.image.specs.Layout.{image_size, pack_image, reu_at}

module _ (s : List ℕ) where
  -- the answer by the two tests
  answer : Bool → Bool → Opened
  answer a b =
      checked (cond a (cond b 0 2) 1) (λ n. record { refusal = n; reu = new_reu }) (record { refusal = 0; reu = reu_at s })

  by_tests : (a b : Bool) → eqb (length s) image_size ≡ a → image_ok s ≡ b → open_image s ≡ answer a b
  unfolding open_image answer
  by_tests a b p q = λ i. checked (cond (p i) (cond (q i) 0 2) 1) (λ n. record { refusal = n; reu = new_reu }) (record { refusal = 0; reu = reu_at s })

  pub open_other : (length s ≡ image_size → ⊥) → open_image s ≡ record { refusal = 1; reu = new_reu }
  unfolding answer checked
  open_other h = by_tests false (image_ok s) (ne_eqb _ _ h) refl

  pub open_good : length s ≡ image_size → image_ok s ≡ true → open_image s ≡ record { refusal = 0; reu = reu_at s }
  unfolding answer checked
  open_good h e = by_tests true true (eq-eqb _ _ h) e

  pub open_bad : length s ≡ image_size → image_ok s ≡ false → open_image s ≡ record { refusal = 2; reu = new_reu }
  unfolding answer checked
  open_bad h e = by_tests true false (eq-eqb _ _ h) e

  both : (a b : Bool) → (answer a b).refusal ≡ 0 → (a ≡ true) × (b ≡ true)
  unfolding answer checked
  both true true q = (refl, refl)
  both true false q = absurd (omega arith)
  both false b q = absurd (omega arith)

  -- what an accepted image is
  module _ (z : (open_image s).refusal ≡ 0) where
    passed : (eqb (length s) image_size ≡ true) × (image_ok s ≡ true)
    passed = both _ _ (sym (ap (λ (o : Opened). o.refusal) (by_tests _ _ refl refl)) ∙ z)

    pub opened_long : length s ≡ image_size
    opened_long = eqb-true (length s) image_size passed.0

    pub opened_ok : image_ok s ≡ true
    opened_ok = passed.1

    pub opened_is : open_image s ≡ record { refusal = 0; reu = reu_at s }
    opened_is = open_good opened_long opened_ok

-- ---- storing

module _ (u : Reu) (s : List ℕ) where
  stored : (a b : Bool) → eqb (length s) image_size ≡ a → well_formed u ≡ b
      → store_image u s ≡ checked (cond a (cond b 0 2) 1) (λ n. (n, s)) (0, pack_image u)
  unfolding store_image
  stored a b p q = λ i. checked (cond (p i) (cond (q i) 0 2) 1) (λ n. (n, s)) (0, pack_image u)

  pub store_other : (length s ≡ image_size → ⊥) → store_image u s ≡ (1, s)
  unfolding checked
  store_other h = stored false (well_formed u) (ne_eqb (length s) image_size h) refl

  module _ (h : length s ≡ image_size) where
    pub store_good : well_formed u ≡ true → store_image u s ≡ (0, pack_image u)
    unfolding checked
    store_good e = stored true true (eq-eqb (length s) image_size h) e
