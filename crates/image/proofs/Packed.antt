-- Opening what packing made gives the controller back.
use mathlib.Core.Path.{◌≡◌, refl, sym, ap, ◌∙◌, subst}
use mathlib.Core.Bool.{true, cond, not, ◌&&◌, ◌||◌}
use mathlib.Core.List.{List, [], ◌∷◌, ◌++◌}
use Prim.Native.Nat.{ℕ, zero, suc, ◌<◌}
use native.Mathlib.Omega.{arith}
use lib.ListN.{length, get_or, take, drop, replicate}
use lib.Dec.{eqb}
use Rattle.controller.specs.declared.reu.Reu.{Reu}
use Rattle.transfer.specs.declared.dma.DmaState.{DmaState}
use Rattle.std.specs.Prelude.{Option, None, Some}
use Rattle.transfer.specs.declared.dma.TransferType.{TransferType}
use Rattle.transfer.specs.declared.dma.TransferType.TheVariants.{Store, Recall, Swap, Verify}
use Rattle.transfer.specs.declared.dma.SwapPhase.{SwapPhase}
use Rattle.transfer.specs.declared.dma.SwapPhase.TheVariants.{ReadC64, WriteC64}
use Rattle.controller.specs.Reu.{with_regs}
use Rattle.transfer.specs.Dma.{type_number, type_of}
use Rattle.transfer.specs.Memory.{is_size}
use Rattle.controller.specs.Refusals.{well_formed}
use Rattle.controller.specs.Inner.{InRange, InRangeDma}
use Rattle.transfer.proofs.Pick.{fst}
use Rattle.controller.proofs.WellFormed.{well_range, well_shadow, well_delay, well_size_lem}
use Rattle.image.specs.Radix.{below}
use Rattle.transfer.specs.Constants.{register_count}
use Rattle.image.specs.Fields.{radices, values, laid, lifted}
use Rattle.image.specs.Layout.{fields, image_size, at, kind, granted_field, phase_number, phase_of, present, flag_bits, more_bits, size_code, option_bits, transfer_fields, transfer_numbers, other_with, other_numbers, numbers_of, pack_image, transfer_of, controller_of, reu_at}
use Rattle.image.specs.Open.{all_zero, idle_ok, bytes_ok, image_ok, open_image}
use Rattle.image.specs.Valid.{Typed, DmaTyped, Bytes}
use Rattle.image.proofs.Radix.{Below}
use Rattle.image.proofs.Fields.{Roomy, roomy_test, bytes_below, below_append, test_below, lifted_laid, laid_long, laid_bytes}
use Rattle.image.proofs.Flags.{flag_back, flags_below}
use Rattle.image.specs.Inner.{gets}
use Rattle.image.proofs.Gets.{gets_all}
use Rattle.image.proofs.Remaining.{remaining_back}
use Rattle.image.proofs.Size.{code_most, more_bit, more_size}
use Rattle.image.proofs.Opening.{open_good}

type_back : (t : TransferType) → type_of (type_number t) ≡ t
unfolding type_of
type_back Store = refl
type_back Recall = refl
type_back Swap = refl
type_back Verify = refl

phase_back : (p : SwapPhase) → phase_of (phase_number p) ≡ p
phase_back ReadC64 = refl
phase_back WriteC64 = refl

-- ---- every number is below its values

pub fields_roomy : Roomy fields
fields_roomy = roomy_test fields refl

type_below : (t : TransferType) → type_number t < 4
type_below Store = omega arith
type_below Recall = omega arith
type_below Swap = omega arith
type_below Verify = omega arith

phase_below : (p : SwapPhase) → phase_number p < 2
phase_below ReadC64 = omega arith
phase_below WriteC64 = omega arith

module _ (r : Reu) (typed : Typed r) (ok : well_formed r ≡ true) where
  below_with : (m : Option DmaState) → DmaTyped m → InRangeDma m → Below (drop register_count (values fields)) (other_with r m)
  below_with None h s =
      omega (arith, typed.c64_fits, well_shadow r ok, typed.len_fits, flags_below (flag_bits r), flags_below (more_bits r), code_most r.size, well_delay r ok, typed.granted_fits)
  below_with (Some d) h s =
      omega (arith, typed.c64_fits, well_shadow r ok, typed.len_fits, flags_below (flag_bits r), flags_below (more_bits r), code_most r.size, well_delay r ok, type_below d.transfer_type, phase_below d.swap_phase, h.0, h.1, s.addr, s.high, flags_below (option_bits d), typed.granted_fits)

  numbers_below : Below (values fields) (numbers_of r)
  numbers_below =
      below_append (radices register_count) r.regs (drop register_count (values fields)) (other_numbers r)
      (bytes_below register_count r.regs typed.regs_bytes.below typed.regs_long)
      (below_with r.dma typed.dma_fits (well_range r ok))

  pub pack_long : length (pack_image r) ≡ image_size
  unfolding pack_image
  pack_long = laid_long fields (numbers_of r) numbers_below

  pub pack_bytes : Bytes (pack_image r)
  unfolding pack_image
  pack_bytes = record { below = laid_bytes fields (numbers_of r) fields_roomy numbers_below }

-- the registers come first
pub pack_is : (r : Reu) → length r.regs ≡ register_count → pack_image r ≡ r.regs ++ laid (drop register_count fields) (other_numbers r)
unfolding pack_image
pack_is r h =
    ap (λ (l : List ℕ). laid fields (l ++ other_numbers r)) (sym (gets_all r.regs register_count h))
    ∙ ap (λ (l : List ℕ). l ++ laid (drop register_count fields) (other_numbers r)) (gets_all r.regs register_count h)

-- every element of a list that is written out
abbrev pub AllBelow : List ℕ → Type 0
AllBelow [] = Unit {0}
AllBelow (x ∷ l) = (x < 256) × AllBelow l

pub all_below : (l : List ℕ) → AllBelow l → (j : ℕ) → get_or l j 0 < 256
all_below [] h j = omega arith
all_below (x ∷ l) h zero = h.0
all_below (x ∷ l) h (suc j) = all_below l h.1 j

-- ---- the controller of its numbers is the controller

-- the transfer of its numbers, behind the other fields and before the count
transfer_back : (d : DmaState) (g : ℕ) → InRange d → transfer_of (replicate kind 0 ++ (transfer_numbers (Some d) ++ (g ∷ []))) ≡ d
transfer_back d g s = λ i. record {
  transfer_type = type_back d.transfer_type i;
  swap_phase = phase_back d.swap_phase i;
  c64_addr = d.c64_addr;
  reu_addr = d.reu_addr;
  remaining = remaining_back d.remaining s.low s.high i;
  fix_c64 = flag_back (option_bits d) 0 (omega arith) i;
  fix_reu = flag_back (option_bits d) 1 (omega arith) i;
  autoload = flag_back (option_bits d) 2 (omega arith) i;
  latch = d.latch;
  first_byte = flag_back (option_bits d) 3 (omega arith) i;
  read_clock_odd = flag_back (option_bits d) 4 (omega arith) i;
  verify_tail = flag_back (option_bits d) 5 (omega arith) i;
}

dma_back : (m : Option DmaState) (g : ℕ) → InRangeDma m → cond (eqb (present m) 0) None (Some (transfer_of (replicate kind 0 ++ (transfer_numbers m ++ (g ∷ []))))) ≡ m
dma_back None g s = refl
dma_back (Some d) g s = ap Some (transfer_back d g s)

granted_back : (m : Option DmaState) (g : ℕ) → at (replicate kind 0 ++ (transfer_numbers m ++ (g ∷ []))) granted_field ≡ g
granted_back None g = refl
granted_back (Some d) g = refl

idle_good : (m : Option DmaState) (g : ℕ) → not (eqb (present m) 0) || all_zero (take transfer_fields (transfer_numbers m ++ (g ∷ []))) ≡ true
idle_good None g = refl
idle_good (Some d) g = refl

module _ (r : Reu) where
  abbrev listed : Reu
  listed = with_regs r (gets 0 register_count r.regs)

  listed_back : InRangeDma r.dma → is_size r.size ≡ true → controller_of (numbers_of listed) ≡ listed
  listed_back s z = λ i. record {
    regs = gets 0 register_count r.regs;
    shadow_c64_addr = r.shadow_c64_addr;
    shadow_reu_addr = r.shadow_reu_addr;
    shadow_len = r.shadow_len;
    enabled = flag_back (flag_bits r) 0 (omega arith) i;
    irq_pending = flag_back (flag_bits r) 1 (omega arith) i;
    attached = flag_back (flag_bits r) 2 (omega arith) i;
    waiting_ff00 = flag_back (flag_bits r) 3 (omega arith) i;
    ba_was_high = flag_back (flag_bits r) 4 (omega arith) i;
    recall_repeat = flag_back (flag_bits r) 5 (omega arith) i;
    terminal_swap_write = flag_back (flag_bits r) 6 (omega arith) i;
    late_ba_fall = flag_back (flag_bits r) 7 (omega arith) i;
    swap_refresh = (more_bit (more_bits r) (size_code r.size) 0 (omega arith) ∙ flag_back (more_bits r) 0 (omega arith)) i;
    swap_release_pending = (more_bit (more_bits r) (size_code r.size) 1 (omega arith) ∙ flag_back (more_bits r) 1 (omega arith)) i;
    swap_read_delay = r.swap_read_delay;
    dma = dma_back r.dma r.granted_cycles s i;
    granted_cycles = granted_back r.dma r.granted_cycles i;
    size = more_size (more_bits r) r.size (flags_below (more_bits r)) z i;
  }

module _ (r : Reu) (typed : Typed r) (ok : well_formed r ≡ true) where
  -- with the registers one by one
  pub listed_is : listed r ≡ r
  listed_is = ap (with_regs r) (gets_all r.regs register_count typed.regs_long)

  numbers_back : lifted fields (pack_image r) ≡ numbers_of r
  unfolding pack_image
  numbers_back = lifted_laid fields (numbers_of r) fields_roomy (numbers_below r typed ok)

  image_back : reu_at (pack_image r) ≡ r
  unfolding reu_at
  image_back = ap controller_of numbers_back ∙ subst (λ (u : Reu). controller_of (numbers_of u) ≡ u) listed_is (listed_back r (well_range r ok) (fst (is_size r.size) _ (well_size_lem r ok)))

  idle_ok_lem : idle_ok (numbers_of r) ≡ true
  idle_ok_lem = subst (λ (u : Reu). idle_ok (numbers_of u) ≡ true) listed_is (idle_good r.dma r.granted_cycles)

  image_good : image_ok (pack_image r) ≡ true
  unfolding image_ok bytes_ok
  image_good =
      λ i. ((ap (below (values fields)) numbers_back ∙ test_below (values fields) (numbers_of r) (numbers_below r typed ok)) i
      && (ap idle_ok numbers_back ∙ idle_ok_lem) i) && (ap well_formed image_back ∙ ok) i

  -- opening what packing made gives the controller back
  pub open_pack : open_image (pack_image r) ≡ record { refusal = 0; reu = r }
  open_pack =
      open_good (pack_image r) (pack_long r typed ok) image_good ∙ (λ i. record { refusal = 0; reu = image_back i })
