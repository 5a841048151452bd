-- The saved machine: packing and opening are each other's inverse, and every state reached from new can be packed and opened.
use Rattle.std.specs.Prelude.{ℕ, true, ◌≡◌, List}
use Rattle.controller.specs.declared.reu.Reu.{Reu}
use Rattle.controller.specs.Enable.{new_reu}
use Rattle.controller.specs.Refusals.{well_formed}
use Rattle.image.specs.Layout.{pack_image}
use Rattle.image.specs.Open.{open_image}
use Rattle.image.specs.Valid.{Bytes, Typed}
use Rattle.claims.specs.Calls.{Held, Call, Fits, leaves, accepts, after, Each, All}

pub record RoundTrips : Type 0 where
  -- a controller whose fields fit their types and that passes the test is packed as an image that opens as it
  pub opened : (u : Reu) → Typed u → well_formed u ≡ true → open_image (pack_image u) ≡ record { refusal = 0; reu = u }
  pub bytes : (u : Reu) → Typed u → well_formed u ≡ true → Bytes (pack_image u)
  -- an accepted image opens as a controller that is packed as the image
  pub packed : (image : List ℕ) → Bytes image → (open_image image).refusal ≡ 0 → pack_image (open_image image).reu ≡ image

-- an image that is a packed controller, and opens as that controller
pub record Opens (image : List ℕ) : Type 0 where
  pub reu : Reu
  pub packed : image ≡ pack_image reu
  pub opened : open_image image ≡ record { refusal = 0; reu = reu }
  pub bytes : Bytes image

-- Calls made one after another on one image. A bus and a storage are lent anew at each call: the host writes them between calls as it
-- likes, or hands others, of any lengths. A refused call takes no part, and may be lent any image too
pub record OnOneImage (k : Held) (calls : List Call) : Type 0 where
  pub lent : Each (λ h c. c.lent.image ≡ h.image) k calls
  pub fits : All Fits calls

-- of any of the sixteen calls, refused ones included
pub record EveryStateOpens : Type 0 where
  -- an accepted call on an accepted image leaves an accepted image
  pub stays :
      (c : Call) → Fits c → (open_image c.lent.image).refusal ≡ 0 → accepts c ≡ true → (open_image (leaves c).image).refusal ≡ 0
  -- "every state reached from new can be packed and opened"
  pub opens : (k : Held) (calls : List Call) → k.image ≡ pack_image new_reu → OnOneImage k calls → Opens (after k calls).image
