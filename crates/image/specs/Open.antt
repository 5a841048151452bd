-- When an image is refused, and what opening and storing one give.
use Rattle.controller.specs.Prelude.{ℕ, Bool, true, not, Result, Ok, Err, List, [], eqb, length}
use Rattle.controller.specs.declared.refusals.Refusal.{Refusal}
use Rattle.controller.specs.Answers.{refusal_number}
use Rattle.std.specs.Prelude.{take, drop, ◌&&◌, ◌||◌, ◌∷◌}
use Rattle.controller.specs.Enable.{new_reu}
use Rattle.controller.specs.declared.reu.Reu.{Reu}
use Rattle.controller.specs.Refusals.{well_formed, first_refusal, checked}
use Rattle.image.specs.Radix.{below}
use Rattle.image.specs.Fields.{values, lifted}
use Rattle.image.specs.Layout.{fields, image_size, transfer, kind, transfer_fields, at, pack_image, reu_at}

-- every element of s is 0
abbrev pub all_zero : List ℕ → Bool
all_zero [] = true
all_zero (a ∷ s) = eqb a 0 && all_zero s

-- not "a transfer field not 0 without a transfer"
abbrev pub idle_ok : List ℕ → Bool
idle_ok ns = not (eqb (at ns transfer) 0) || all_zero (take transfer_fields (drop kind ns))

-- no "field outside the ranges above"
unfoldable pub bytes_ok : List ℕ → Bool
bytes_ok s = below (values fields) (lifted fields s) && idle_ok (lifted fields s)

-- "A controller value handed over directly is tested alike"
unfoldable pub image_ok : List ℕ → Bool
image_ok s = bytes_ok s && well_formed (reu_at s)

-- L3: "Refusal 1 reads 37". "1: image length isn't 34. 2: a field outside the ranges above, .."
abbrev pub open_refusal : List ℕ → ℕ
open_refusal s = first_refusal ((eqb (length s) image_size, 1) ∷ (image_ok s, 2) ∷ [])

-- what opening gives: the refusal number, 0 if the image is accepted, and the controller
pub record Opened : Type 0 where
  pub refusal : ℕ
  pub reu : Reu

-- what the code hands back, in these terms: a refused image gives the new controller
abbrev pub opened : Result Reu Refusal → Opened
opened (Ok u) = record { refusal = 0; reu = u }
opened (Err e) = record { refusal = refusal_number e; reu = new_reu }

unfoldable pub open_image : List ℕ → Opened
open_image s =
    checked (open_refusal s) (λ n. record { refusal = n; reu = new_reu }) (record { refusal = 0; reu = reu_at s })

-- storing refuses what opening would; then the slice stays
abbrev pub store_refusal : Reu → ℕ → ℕ
store_refusal u size = first_refusal ((eqb size image_size, 1) ∷ (well_formed u, 2) ∷ [])

unfoldable pub store_image : Reu → List ℕ → (ℕ × List ℕ)
store_image u s = checked (store_refusal u (length s)) (λ n. (n, s)) (0, pack_image u)
