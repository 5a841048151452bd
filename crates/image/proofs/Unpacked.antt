-- Packing what opening gave is the image again.
use mathlib.Core.Path.{◌≡◌, refl, sym, ap, ap₂, ◌∙◌}
use mathlib.Core.Bool.{Bool, true, false, cond, not, ◌||◌}
use mathlib.Core.List.{List, [], ◌∷◌, ◌++◌}
use Prim.Native.Nat.{ℕ, zero, suc, ◌-◌, ◌<◌}
use native.Mathlib.Omega.{arith}
use lib.ListN.{length, get_or, take, drop, replicate, take-append-drop}
use lib.Seq.{length-take-le}
use lib.Dec.{eqb}
use borrow.Author.Tests.{eqb-true, eqb-false}
use Rattle.std.specs.Prelude.{Option, None, Some}
use Rattle.transfer.specs.Dma.{type_number, type_of}
use Rattle.controller.specs.Refusals.{well_formed}
use Rattle.image.specs.Open.{Opened, all_zero, idle_ok, bytes_ok, image_ok, open_image}
use Rattle.image.specs.Radix.{below}
use Rattle.image.specs.Fields.{radices, values, laid, lifted}
use Rattle.transfer.specs.Constants.{register_count}
use Rattle.image.specs.Layout.{fields, image_size, at, shadow_c64, shadow_exp, shadow_length, flags, more_flags, delay, transfer, kind, phase, transfer_c64, transfer_exp, remaining, latch, options, granted_field, transfer_fields, phase_number, phase_of, present, transfer_numbers, numbers_of, pack_image, transfer_of, dma_in, controller_of, reu_at}
use Rattle.image.specs.Valid.{Bytes, Typed, DmaTyped}
use Rattle.image.proofs.Radix.{Below}
use Rattle.image.proofs.Fields.{and_left, and_right, below_test, below_at, below_front, byte_of, lifted_long, laid_lifted}
use Rattle.image.proofs.Flags.{flags_back}
use Rattle.image.specs.Inner.{gets}
use Rattle.image.proofs.Gets.{gets_slice, gets_rest}
use Rattle.image.proofs.Remaining.{two_bytes_back}
use Rattle.image.proofs.Size.{more_back}
use Rattle.image.proofs.Opening.{opened_is, opened_long, opened_ok}
use Rattle.transfer.specs.declared.dma.DmaState.{DmaState}

type_number_back : (n : ℕ) → n < 4 → type_number (type_of n) ≡ n
unfolding type_of
type_number_back zero h = refl
type_number_back (suc zero) h = refl
type_number_back (suc (suc zero)) h = refl
type_number_back (suc (suc (suc zero))) h = refl
type_number_back (suc (suc (suc (suc n)))) h = absurd (omega arith)

phase_number_back : (n : ℕ) → n < 2 → phase_number (phase_of n) ≡ n
phase_number_back zero h = refl
phase_number_back (suc zero) h = refl
phase_number_back (suc (suc n)) h = absurd (omega arith)

-- a list that is all zeros
zeros_are : (l : List ℕ) → all_zero l ≡ true → l ≡ replicate (length l) 0
zeros_are [] h = refl
zeros_are (a ∷ l) h = ap₂ ◌∷◌ (eqb-true a 0 (and_left (eqb a 0) (all_zero l) h)) (zeros_are l (and_right (eqb a 0) (all_zero l) h))

-- ---- numbers in their ranges are those of their controller

abbrev count : ℕ
count = length (values fields)

module _ (ns : List ℕ) (long : length ns ≡ count) (fit : Below (values fields) ns) (idle : idle_ok ns ≡ true) where
  under : (k : ℕ) → k < count → at ns k < get_or (values fields) k 0
  under k h = below_at (values fields) ns fit k h

  -- the transfer's numbers, and whether there is one
  abbrev Tail : Option DmaState → Type 0
  Tail m = (present m ≡ at ns transfer) × (transfer_numbers m ≡ gets kind transfer_fields ns)

  idle_tail : at ns transfer ≡ 0 → all_zero (take transfer_fields (drop kind ns)) ≡ true → Tail None
  idle_tail none zeros =
      let t : gets kind transfer_fields ns ≡ take transfer_fields (drop kind ns) = gets_slice ns kind transfer_fields (omega arith) in
      (sym none, sym (zeros_are (gets kind transfer_fields ns) (ap all_zero t ∙ zeros)))

  moving_tail : (at ns transfer ≡ 0 → ⊥) → Tail (Some (transfer_of ns))
  moving_tail some = (
    omega (arith, under transfer (omega arith), some),
    λ i. type_number_back (at ns kind) (under kind (omega arith)) i ∷ phase_number_back (at ns phase) (under phase (omega arith)) i
        ∷ at ns transfer_c64 ∷ at ns transfer_exp ∷ two_bytes_back (at ns remaining) (under remaining (omega arith)) i ∷ at ns latch ∷ flags_back 5 (at ns options) (under options (omega arith)) i ∷ [],
  )

  tail : Tail (dma_in ns)
  tail = go (eqb (at ns transfer) 0) refl idle
    where
      go : (t : Bool) → eqb (at ns transfer) 0 ≡ t → not t || all_zero (take transfer_fields (drop kind ns)) ≡ true
          → Tail (cond t None (Some (transfer_of ns)))
      go true e z = idle_tail (eqb-true _ _ e) z
      go false e z = moving_tail (eqb-false _ _ e)

  pub numbers_of_lem : numbers_of (controller_of ns) ≡ ns
  numbers_of_lem =
      ap (λ (l : List ℕ). take register_count ns ++ l)
      ((λ i. at ns shadow_c64 ∷ at ns shadow_exp ∷ at ns shadow_length ∷ flags_back 7 (at ns flags) (under flags (omega arith)) i ∷ more_back (at ns more_flags) (under more_flags (omega arith)) i
      ∷ at ns delay ∷ tail.0 i ∷ (tail.1 i ++ (at ns granted_field ∷ [])))
      ∙ gets_rest ns register_count (count - register_count) long)
      ∙ take-append-drop register_count ns

  dma_typed : DmaTyped (dma_in ns)
  dma_typed = go (eqb (at ns transfer) 0)
    where
      go : (t : Bool) → DmaTyped (cond t None (Some (transfer_of ns)))
      go true = tt
      go false = (under transfer_c64 (omega arith), under latch (omega arith))

  pub numbers_typed : Typed (controller_of ns)
  numbers_typed = record {
    regs_long = length-take-le register_count ns (omega arith);
    regs_bytes = record { below = byte_of register_count (take register_count ns) (below_front (radices register_count) (drop register_count (values fields)) ns fit) };
    c64_fits = under shadow_c64 (omega arith);
    len_fits = under shadow_length (omega arith);
    dma_fits = dma_typed;
    granted_fits = under granted_field (omega arith);
  }

module _ (s : List ℕ) (whole : Bytes s) (long : length s ≡ image_size) (ok : image_ok s ≡ true) where
  good : bytes_ok s ≡ true
  unfolding image_ok
  good = and_left (bytes_ok s) (well_formed (reu_at s)) ok

  counted : length (lifted fields s) ≡ count
  counted = lifted_long fields s

  fit : Below (values fields) (lifted fields s)
  unfolding bytes_ok
  fit = below_test (values fields) (lifted fields s) counted (and_left (below (values fields) (lifted fields s)) (idle_ok (lifted fields s)) good)

  idle : idle_ok (lifted fields s) ≡ true
  unfolding bytes_ok
  idle = and_right (below (values fields) (lifted fields s)) (idle_ok (lifted fields s)) good

  -- packing what opening gave is the image again
  pub pack_open : pack_image (reu_at s) ≡ s
  unfolding pack_image reu_at
  pack_open = ap (laid fields) (numbers_of_lem (lifted fields s) counted fit idle) ∙ laid_lifted fields s whole.below long

  -- a controller that was opened is in range
  pub opened_typed : Typed (reu_at s)
  unfolding reu_at
  opened_typed = numbers_typed (lifted fields s) counted fit idle

  pub opened_well : well_formed (reu_at s) ≡ true
  unfolding image_ok
  opened_well = and_right (bytes_ok s) (well_formed (reu_at s)) ok

-- the same, as opening says it
pub pack_opened : (s : List ℕ) → Bytes s → (open_image s).refusal ≡ 0 → pack_image (open_image s).reu ≡ s
pack_opened s whole z =
    ap (λ (o : Opened). pack_image o.reu) (opened_is s z) ∙ pack_open s whole (opened_long s z) (opened_ok s z)
