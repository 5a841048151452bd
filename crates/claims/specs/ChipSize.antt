-- L4: the size that is set, and the chip-size mark in STATUS. Quotations are L4's words.
use Rattle.std.specs.Prelude.{ℕ, ◌+◌, ◌*◌, ◌%◌, ◌^◌, ◌<◌, Bool, true, not, cond, ◌≢◌, ◌⊎◌, ◌↔◌, ◌≡◌, List, [], ◌∷◌, map, eqb, length, set}
use Rattle.transfer.specs.Bytes.{bit}
use Rattle.transfer.specs.Constants.{new_size, status, version}
use Rattle.transfer.specs.Memory.{lines, is_size, chip_mark}
use Rattle.controller.specs.Enable.{new_reu, with_mark}
use Rattle.controller.specs.Refusals.{first_refusal}
use Rattle.image.specs.Layout.{at, image_size, pack_image, size_code}
use Rattle.image.specs.Open.{open_image}
use Rattle.image.specs.Valid.{Bytes}
use Rattle.reu.specs.Exports.{refusal, reu_capacity_bytes, reu_set_size}
use Rattle.claims.specs.Constants.{more_flags_byte}
use Rattle.claims.specs.Calls.{Held, Other, new, reset, set_size, set_enabled, storage_present, capacity_bytes, trigger_ff00, dma_active, bus_action, cpu_ready, debug_register, c64_access, tick_dma, Kind, read, write, cycle, other, Call, accepts, after}
use Rattle.claims.specs.SavedMachine.{OnOneImage}
use Rattle.claims.specs.SwapTwice.{byte, size_set}
use Rattle.claims.specs.GrantedCycles.{has_storage}

-- ---- setting a size

-- the mark, as an image holds it
abbrev pub mark_in : Held → Bool
mark_in k = bit (byte k status) version

-- "Refusal 5 is another size, 6 setting one when attached; .. 5 first"
abbrev pub refused_by : Held → ℕ → ℕ
refused_by k size = first_refusal ((is_size size, 5) ∷ (not (has_storage k), 6) ∷ [])

-- another size, with its mark: STATUS bit 4 and "byte 19 bits 2-3", and nothing else
abbrev pub with_size : List ℕ → ℕ → List ℕ
with_size image size =
    set (set image status (with_mark size (at image status))) more_flags_byte (at image more_flags_byte % 4 + 4 * size_code size)

-- ---- the size over lists of calls: new makes 512 KiB, set_size sets its own, and no other call changes it

abbrev pub size_by_other : Other → ℕ → ℕ
size_by_other new before = new_size
size_by_other (reset hard) before = before
size_by_other (set_size size) before = size
size_by_other (set_enabled enabled) before = before
size_by_other storage_present before = before
size_by_other capacity_bytes before = before
size_by_other trigger_ff00 before = before
size_by_other dma_active before = before
size_by_other (bus_action high phi1 number) before = before
size_by_other (cpu_ready high) before = before
size_by_other (debug_register index) before = before
size_by_other c64_access before = before
size_by_other (tick_dma number low) before = before

abbrev pub size_by : Kind → ℕ → ℕ
size_by (read address) before = before
size_by (write address value) before = before
size_by (cycle high number low phi1) before = before
size_by (other o) before = size_by_other o before

-- a refused call takes no part
abbrev pub size_after : ℕ → List Call → ℕ
size_after before [] = before
size_after before (c ∷ cs) = size_after (cond (accepts c) (size_by c.kind before) before) cs

-- ---- the claim

pub record ChipSize : Type 0 where
  -- "131,072, 262,144 or 524,288. A size has a single one bit": these three numbers pass, and no other does
  pub three : (n : ℕ) → (is_size n ≡ true) ↔ ((n ≡ 131072) ⊎ (n ≡ 262144) ⊎ (n ≡ 524288))
  -- "the number of zero bits below it is the number of address lines connected"; so what folding keeps is the remainder by the size
  pub connected : map lines (131072 ∷ 262144 ∷ 524288 ∷ []) ≡ 17 ∷ 18 ∷ 19 ∷ []
  pub power : (n : ℕ) → is_size n ≡ true → 2 ^ lines n ≡ n
  -- what setting answers and leaves, of an accepted image
  pub sets :
      (k : Held) (size : ℕ) → Bytes k.image → (open_image k.image).refusal ≡ 0
      → reu_set_size k.image size
      ≡ cond (eqb (refused_by k size) 0) (0, with_size k.image size) (refusal (refused_by k size), k.image)
  -- "`capacity_bytes` gives it once attached"
  pub capacity :
      (k : Held) → Bytes k.image → (open_image k.image).refusal ≡ 0
      → reu_capacity_bytes k.image ≡ cond (has_storage k) (size_set k) 0
  -- of any of the sixteen calls, refused ones included, made one after another on one image: from new, and from any accepted image, the size
  -- is the one set last, and the mark "is 0 for 131,072 bytes, 1 for the others"
  pub from_new :
      (k : Held) (calls : List Call) → k.image ≡ pack_image new_reu → OnOneImage k calls
      → (size_set (after k calls) ≡ size_after new_size calls) × (mark_in (after k calls) ≡ chip_mark (size_after new_size calls))
  pub goes_on :
      (k : Held) (calls : List Call) → Bytes k.image → (open_image k.image).refusal ≡ 0 → OnOneImage k calls
      → (size_set (after k calls) ≡ size_after (size_set k) calls) × (mark_in (after k calls) ≡ chip_mark (size_after (size_set k) calls))
  -- an accepted image has a code below 3, no bit above it, and the mark of its size; what has not "falls under 2"
  pub agrees :
      (k : Held) → Bytes k.image → (open_image k.image).refusal ≡ 0
      → (byte k more_flags_byte < 12) × (mark_in k ≡ chip_mark (size_set k))
  pub else : (image : List ℕ) → length image ≡ image_size → (open_image image).refusal ≢ 0 → (open_image image).refusal ≡ 2
