-- L3: remaining in two bytes of the image. Quotations are L3's words.
use Rattle.std.specs.Prelude.{ℕ, ◌+◌, ◌≤◌, ◌<◌, true, false, ◌≡◌, ◌≢◌, List, [], ◌∷◌, map, length, set, take, drop, replicate, Option, None, Some}
use Rattle.transfer.specs.declared.dma.DmaState.{DmaState}
use Rattle.transfer.specs.Bytes.{low_byte, high_byte, word}
use Rattle.transfer.specs.Constants.{full_length}
use Rattle.transfer.specs.Dma.{length_of}
use Rattle.controller.specs.declared.reu.Reu.{Reu}
use Rattle.controller.specs.Refusals.{refusal_of}
use Rattle.controller.specs.Reu.{with_dma}
use Rattle.image.specs.Layout.{at, image_size, place_of, remaining, latch, options, granted_field, pack_image}
use Rattle.image.specs.Open.{open_image}
use Rattle.image.specs.Valid.{Bytes, Typed}
use Rattle.claims.specs.Constants.{remaining_byte}

-- ---- a pair of bytes, the low byte first, and the remaining that it says: "0 meaning 65,536"

abbrev pub pair_of : ℕ → (ℕ × ℕ)
pair_of n = (low_byte n, high_byte n)

abbrev pub remaining_of : (ℕ × ℕ) → ℕ
remaining_of p = length_of (word p.0 p.1)

abbrev pub IsPair : (ℕ × ℕ) → Type 0
IsPair p = (p.0 < 256) × (p.1 < 256)

-- "from 1 to 65,536"
abbrev pub IsRemaining : ℕ → Type 0
IsRemaining n = (1 ≤ n) × (n ≤ full_length)

-- ---- in an image, and in a transfer

-- an image that is accepted, with this transfer or none
pub record OpensAs (image : List ℕ) (m : Option DmaState) : Type 0 where
  pub bytes : Bytes image
  pub accepted : (open_image image).refusal ≡ 0
  pub runs : (open_image image).reu.dma ≡ m

abbrev pub pair_in : List ℕ → (ℕ × ℕ)
pair_in image = (at image remaining_byte, at image (remaining_byte + 1))

abbrev pub with_pair : List ℕ → (ℕ × ℕ) → List ℕ
with_pair image p = set (set image remaining_byte p.0) (remaining_byte + 1) p.1

abbrev pub with_remaining : DmaState → ℕ → DmaState
with_remaining d n = record d { remaining = n }

-- ---- the claim

pub record RemainingBytes : Type 0 where
  -- "Each remaining from 1 to 65,536 has its own pair of bytes and comes back from it"
  pub back : (n : ℕ) → IsRemaining n → IsPair (pair_of n) × (remaining_of (pair_of n) ≡ n)
  -- and each pair of bytes has its own remaining
  pub own : (p : ℕ × ℕ) → IsPair p → IsRemaining (remaining_of p) × (pair_of (remaining_of p) ≡ p)
  pub some : map pair_of (1 ∷ 255 ∷ 256 ∷ 65535 ∷ 65536 ∷ []) ≡ (1, 0) ∷ (255, 0) ∷ (0, 1) ∷ (255, 255) ∷ (0, 0) ∷ []
  -- "Remaining goes into image bytes 29-30, .. and later fields move down by one. The image is 37 bytes, the count at 33-36"
  pub places : map place_of (remaining ∷ latch ∷ options ∷ granted_field ∷ []) ≡ 29 ∷ 31 ∷ 32 ∷ 33 ∷ []
  pub size : image_size ≡ 37
  -- packing a controller puts its pair there, and opening an image takes the pair's remaining from there
  pub packed : (u : Reu) (d : DmaState) → Typed u → u.dma ≡ Some d → pair_in (pack_image u) ≡ pair_of d.remaining
  pub opened :
      (image : List ℕ) (d : DmaState) → OpensAs image (Some d) → d.remaining ≡ remaining_of (pair_in image)
  -- any pair can stand there while a transfer runs, but in a verify tail: nothing else of the controller depends on it
  pub any :
      (image : List ℕ) (d : DmaState) (p : ℕ × ℕ) → OpensAs image (Some d) → d.verify_tail ≡ false → IsPair p
      → open_image (with_pair image p)
      ≡ record { refusal = 0; reu = with_dma (open_image image).reu (Some (with_remaining d (remaining_of p))) }
  -- a tail asks for remaining 1
  pub tail : (image : List ℕ) (d : DmaState) → OpensAs image (Some d) → d.verify_tail ≡ true → pair_in image ≡ (1, 0)
  -- "without a transfer 22-32 are 0"
  pub idle : (image : List ℕ) → OpensAs image None → take 11 (drop 22 image) ≡ replicate 11 0
  -- "Earlier images are refused. Refusal 1 reads 37"
  pub other : (image : List ℕ) → length image ≢ 37 → (open_image image).refusal ≡ 1
  -- a remaining of 0 or above 65,536 can be in a controller value only, and is refused by 2 there
  pub value :
      (u : Reu) (d : DmaState) (bus storage : ℕ) → u.dma ≡ Some d → ¬ IsRemaining d.remaining → refusal_of u bus storage ≡ 2
