-- What the end of a call does, and what it may assume of the call on the controller. No exported contract cites this file.
use Rattle.std.specs.Prelude.{◌≡◌, Result, Ok, Err}
use Rattle.std.specs.Borrow.{MutBor}
use Rattle.controller.specs.Prelude.{ℕ, true, List, length}
use Rattle.controller.specs.declared.refusals.Refusal.{Refusal}
use Rattle.controller.specs.declared.reu.Answered.{Answered}
use Rattle.controller.specs.declared.reu.Reu.{Reu}
use Rattle.controller.specs.declared.reu.Step.{Step}
use Rattle.controller.specs.Answers.{Answer, refusal_number, answer_of, step_answer_of}
use Rattle.controller.specs.Calls.{answered}
use Rattle.controller.specs.TickDma.{Ticked}
use Rattle.controller.specs.Refusals.{well_formed}
use Rattle.image.specs.Layout.{image_size, pack_image}
use Rattle.image.specs.Valid.{Bytes, Typed}
use Rattle.reu.specs.Exports.{refusal}

-- the number that is answered, and the image with what is left, which can be stored in it: "A refusal has value 0"
abbrev pub ended : Result (Answered ℕ) Refusal → List ℕ → (ℕ × List ℕ)
ended (Ok a) i = (a.value, pack_image a.reu)
ended (Err e) i = (refusal (refusal_number e), i)

-- that image takes what is left: the controller is in range, and the slice has an image's length
abbrev pub Kept : Result (Answered ℕ) Refusal → List ℕ → Type 0
Kept (Ok a) i = (well_formed a.reu ≡ true) × (length i ≡ image_size)
Kept (Err e) i = Unit {0}

-- what a call leaves of a controller whose fields are in range is one
abbrev pub Left : {A : Type 0} → Result (Answered A) Refusal → Type 0
Left (Ok a) = well_formed a.reu ≡ true
Left (Err e) = Unit {0}

-- ---- of a call that is handed over, by its predicate `post`

-- what it answers is what f says of the controller
abbrev pub Gives : {F : Type 0} → (F → Reu → Result (Answered ℕ) Refusal → Type 0) → F → (Reu → Answer) → Type 0
Gives post call f = (u : Reu) (r : Result (Answered ℕ) Refusal) → post call u r → answer_of u r ≡ f u

-- the value that it shows of a controller in range is what f answers
abbrev pub Shows : {F : Type 0} → (F → Reu → ℕ → Type 0) → F → (Reu → Answer) → Type 0
Shows post value f = (u : Reu) (x : ℕ) → well_formed u ≡ true → post value u x → answered x u ≡ f u

-- what it leaves of a controller that can be stored can be stored
abbrev pub Keeps : {F : Type 0} → (F → Reu → Result (Answered ℕ) Refusal → Type 0) → F → Type 0
Keeps post call = (u : Reu) (r : Result (Answered ℕ) Refusal) → Typed u → well_formed u ≡ true → post call u r → Left r

-- ---- the same of a call that is lent the storage s too, and leaves it as t
module _ {F : Type 0} (post : F → Reu → MutBor (List ℕ) → Result (Answered ℕ) Refusal → MutBor (List ℕ) → Type 0) (call : F) where
  -- what it answers and leaves is what f says of the controller and the storage
  abbrev pub GivesStored : (Reu → List ℕ → (Answer × List ℕ)) → Type 0
  GivesStored f =
      (u : Reu) (s t : MutBor (List ℕ)) (r : Result (Answered ℕ) Refusal) → post call u s r t → (answer_of u r, t.now) ≡ f u s.now

  -- the controller that it leaves can be stored
  abbrev pub KeepsStored : Type 0
  KeepsStored =
      (u : Reu) (s t : MutBor (List ℕ)) (r : Result (Answered ℕ) Refusal) → Typed u → well_formed u ≡ true → post call u s r t → Left r

-- ---- and of one that is lent the bus m and the storage s, and leaves them as b and t
module _ {F : Type 0} (post : F → Reu → MutBor (List ℕ) → MutBor (List ℕ) → Result (Answered Step) Refusal → MutBor (List ℕ) → MutBor (List ℕ) → Type 0) (call : F) where
  -- what it answers and leaves is what f says of the controller, the bus and the storage
  abbrev pub GivesBoth : (Reu → List ℕ → List ℕ → Ticked) → Type 0
  GivesBoth f =
      (u : Reu) (m s b t : MutBor (List ℕ)) (r : Result (Answered Step) Refusal) → post call u m s r b t
      → (step_answer_of u r, b.now, t.now) ≡ f u m.now s.now

  -- of slices of bytes, the controller that it leaves can be stored
  abbrev pub KeepsBoth : Type 0
  KeepsBoth =
      (u : Reu) (m s b t : MutBor (List ℕ)) (r : Result (Answered Step) Refusal) → Typed u → well_formed u ≡ true
      → Bytes m.now → Bytes s.now → post call u m s r b t → Left r
