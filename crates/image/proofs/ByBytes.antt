-- What an image's numbers are, byte by byte: how the code reads them.
use mathlib.Core.Path.{◌≡◌, refl, sym, ap, ◌∙◌}
use mathlib.Core.Bool.{Bool, true, false, cond, not, ◌&&◌, ◌||◌}
use mathlib.Core.List.{List, ◌++◌}
use Prim.Native.Nat.{ℕ, ◌+◌, ◌*◌, ◌<◌}
use native.Mathlib.Omega.{arith}
use lib.ListN.{length, get_or, take, drop}
use lib.Seq.{sets}
use lib.Dec.{eqb}
use Rattle.std.specs.Int.{w64, from_le_bytes}
use borrow.Author.Tests.{eq-eqb, eqb-true, ne_eqb}
use Rattle.std.specs.Cmp.{both_ways}
use Rattle.transfer.specs.Constants.{register_count}
use Rattle.controller.specs.declared.reu.Reu.{Reu}
use Rattle.std.specs.Prelude.{Option, None, Some}
use Rattle.image.specs.Radix.{below}
use Rattle.image.specs.Fields.{values, laid, lifted}
use Rattle.image.specs.Layout.{fields, image_size, at, shadow_c64, shadow_exp, shadow_length, flags, more_flags, delay, transfer, kind, granted_field, place_of, flags_of, flag_bits, more_number, present, transfer_fields, transfer_numbers, other_with, pack_image, transfer_of, dma_in}
use Rattle.image.specs.Inner.{transfer_part, gets, stored}
use Rattle.image.specs.Open.{all_zero, bytes_ok}
use Rattle.image.proofs.Fields.{and_left, and_right, needed, needed_are, all_true, lifted_below}
use Rattle.image.proofs.Gets.{gets_slice, gets_all}
use Rattle.transfer.specs.declared.dma.DmaState.{DmaState}

module _ (s : List ℕ) (long : length s ≡ image_size) where
  -- the same bytes, written out
  pub listed : gets 0 image_size s ≡ s
  listed = gets_all s image_size long

  pub transfer_listed : transfer_of (lifted fields (gets 0 image_size s)) ≡ transfer_of (lifted fields s)
  transfer_listed = ap (λ (l : List ℕ). transfer_of (lifted fields l)) listed

  pub transfer_byte_lem : at (lifted fields s) transfer ≡ at s (place_of transfer)
  transfer_byte_lem = ap (λ (l : List ℕ). at (lifted fields l) transfer) (sym listed)

  pub flags_byte_lem : at (lifted fields s) flags ≡ at s (place_of flags)
  flags_byte_lem = ap (λ (l : List ℕ). at (lifted fields l) flags) (sym listed)

  pub more_byte : at (lifted fields s) more_flags ≡ at s (place_of more_flags)
  more_byte = ap (λ (l : List ℕ). at (lifted fields l) more_flags) (sym listed)

  pub registers_are : take register_count (lifted fields s) ≡ take register_count s
  registers_are = ap (λ (l : List ℕ). take register_count (lifted fields l)) (sym listed) ∙ gets_slice s 0 register_count (omega arith)

  pub dma_none : at s (place_of transfer) ≡ 0 → dma_in (lifted fields s) ≡ None
  dma_none z = ap (λ (t : Bool). cond t None (Some (transfer_of (lifted fields s)))) (eq-eqb _ 0 (transfer_byte_lem ∙ z))

  -- the ranges by the tests that bytes need
  pub ranges_are : ((i : ℕ) → get_or s i 0 < 256) → below (values fields) (lifted fields s) ≡ all_true (needed fields (lifted fields (gets 0 image_size s)))
  ranges_are b = needed_are fields (lifted fields s) (lifted_below fields s b long) ∙ ap (λ (l : List ℕ). all_true (needed fields (lifted fields l))) (sym listed)

  abbrev pub ranges : Bool
  ranges = below (values fields) (lifted fields s)

  abbrev pub zeros : Bool
  zeros = all_zero (take transfer_fields (drop kind (lifted fields s)))

  pub ok_idle : at s (place_of transfer) ≡ 0 → ranges && zeros ≡ bytes_ok s
  unfolding bytes_ok
  ok_idle z = ap (λ (t : Bool). ranges && (not t || zeros)) (sym (eq-eqb _ 0 (transfer_byte_lem ∙ z)))

  pub ok_some : (at s (place_of transfer) ≡ 0 → ⊥) → ranges ≡ bytes_ok s
  unfolding bytes_ok
  ok_some z = and_true ranges ∙ ap (λ (t : Bool). ranges && (not t || zeros)) (sym (ne_eqb _ 0 (λ e. z (sym transfer_byte_lem ∙ e))))
    where
      and_true : (b : Bool) → b ≡ b && true
      and_true true = refl
      and_true false = refl

-- ---- without a transfer: bytes that are all 0 say fields that are

-- the numbers of these fields, and a number of a transfer's eight bytes from its C64 address on
abbrev pub number_c64 : List ℕ → ℕ
number_c64 s = at s 24 + 256 * at s 25

abbrev pub number_exp : List ℕ → ℕ
number_exp s = at s 26 + 256 * (at s 27 + 256 * at s 28)

abbrev pub number_left : List ℕ → ℕ
number_left s = at s 29 + 256 * at s 30

abbrev pub all_seven : List ℕ → Bool
all_seven s =
    eqb (at s 22) 0 && (eqb (at s 23) 0
    && (eqb (number_c64 s) 0 && (eqb (number_exp s) 0 && (eqb (number_left s) 0 && (eqb (at s 31) 0 && (eqb (at s 32) 0 && true))))))

pub seven_zeros : (s : List ℕ) → all_seven s ≡ true
    → (at s 22 ≡ 0) × (at s 23 ≡ 0) × (number_c64 s ≡ 0) × (number_exp s ≡ 0) × (number_left s ≡ 0) × (at s 31 ≡ 0) × (at s 32 ≡ 0)
seven_zeros s h =
    let r1 = and_right (eqb (at s 22) 0) _ h in
    let r2 = and_right (eqb (at s 23) 0) _ r1 in
    let r3 = and_right (eqb (number_c64 s) 0) _ r2 in
    let r4 = and_right (eqb (number_exp s) 0) _ r3 in
    let r5 = and_right (eqb (number_left s) 0) _ r4 in
    let r6 = and_right (eqb (at s 31) 0) _ r5 in (
      eqb-true _ 0 (and_left (eqb (at s 22) 0) _ h),
      eqb-true _ 0 (and_left (eqb (at s 23) 0) _ r1),
      eqb-true _ 0 (and_left (eqb (number_c64 s) 0) _ r2),
      eqb-true _ 0 (and_left (eqb (number_exp s) 0) _ r3),
      eqb-true _ 0 (and_left (eqb (number_left s) 0) _ r4),
      eqb-true _ 0 (and_left (eqb (at s 31) 0) _ r5),
      eqb-true _ 0 (and_left (eqb (at s 32) 0) true r6),
    )

pub all_zeros : (s : List ℕ) → at s 22 ≡ 0 → at s 23 ≡ 0 → number_c64 s ≡ 0 → number_exp s ≡ 0 → number_left s ≡ 0 → at s 31 ≡ 0 → at s 32 ≡ 0
    → all_seven s ≡ true
all_zeros s a b c e l h o =
    λ i. eq-eqb (at s 22) 0 a i
    && (eq-eqb (at s 23) 0 b i
    && (eq-eqb (number_c64 s) 0 c i
    && (eq-eqb (number_exp s) 0 e i && (eq-eqb (number_left s) 0 l i && (eq-eqb (at s 31) 0 h i && (eq-eqb (at s 32) 0 o i && true))))))

-- the twelve bytes from the transfer's presence on, looked at as eight and eight
abbrev pub front : List ℕ → ℕ
front s = from_le_bytes w64 (gets 21 8 s)

abbrev pub back : List ℕ → ℕ
back s = from_le_bytes w64 (gets 25 8 s)

-- they are all 0 where there is no transfer and its fields are
pub idle_bytes : (s : List ℕ) → eqb (front s) 0 && eqb (back s) 0 ≡ eqb (at s 21) 0 && all_seven s
idle_bytes s = both_ways (eqb (front s) 0 && eqb (back s) 0) (eqb (at s 21) 0 && all_seven s) to from
  where
    to : eqb (front s) 0 && eqb (back s) 0 ≡ true → eqb (at s 21) 0 && all_seven s ≡ true
    to h =
        let a = eqb-true (front s) 0 (and_left (eqb (front s) 0) _ h) in
        let b = eqb-true (back s) 0 (and_right (eqb (front s) 0) _ h) in
        λ i. eq-eqb (at s 21) 0 (omega (arith, a)) i
        && all_zeros s (omega (arith, a)) (omega (arith, a)) (omega (arith, a)) (omega (arith, a, b)) (omega (arith, b)) (omega (arith, b)) (omega (arith, b)) i

    from : eqb (at s 21) 0 && all_seven s ≡ true → eqb (front s) 0 && eqb (back s) 0 ≡ true
    from h =
        let n = eqb-true (at s 21) 0 (and_left (eqb (at s 21) 0) _ h) in
        let e = seven_zeros s (and_right (eqb (at s 21) 0) _ h) in
        λ i. eq-eqb (front s) 0 (omega (arith, n, e.0, e.1, e.2, e.3)) i && eq-eqb (back s) 0 (omega (arith, e.2, e.3, e.4, e.5, e.6)) i

-- ---- packing: what the stores of the fields leave of a list of the image's length

module _ (r : Reu) where
  abbrev laid_over : Option DmaState → List ℕ → List ℕ → List ℕ
  laid_over m regs out =
      let l1 : List ℕ = stored shadow_c64 (sets out 0 regs) r.shadow_c64_addr in
      let l2 : List ℕ = stored shadow_length (stored shadow_exp l1 r.shadow_reu_addr) r.shadow_len in
      let l3 : List ℕ = stored more_flags (stored flags l2 (flags_of (flag_bits r))) (more_number r) in
      let l4 : List ℕ = stored transfer (stored delay l3 r.swap_read_delay) (present m) in
      stored granted_field (sets l4 (place_of kind) (laid transfer_part (transfer_numbers m))) r.granted_cycles

  abbrev laid_down : Option DmaState → List ℕ → List ℕ
  laid_down m regs = laid fields (regs ++ other_with r m)

  -- of lists that are written out both compute
  same : (m : Option DmaState) (regs out : List ℕ) → laid_over m (gets 0 register_count regs) (gets 0 image_size out) ≡ laid_down m (gets 0 register_count regs)
  same None regs out = refl
  same (Some d) regs out = refl

  size_of : (m : Option DmaState) (regs : List ℕ) → length (laid_down m (gets 0 register_count regs)) ≡ image_size
  size_of None regs = refl
  size_of (Some d) regs = refl

  abbrev pub over : List ℕ → List ℕ
  over out = laid_over r.dma r.regs out

  module _ (out : List ℕ) (hr : length r.regs ≡ register_count) (ho : length out ≡ image_size) where
    written : gets 0 register_count r.regs ≡ r.regs
    written = gets_all r.regs register_count hr

    pub over_is : over out ≡ pack_image r
    unfolding pack_image
    over_is =
        (λ i. laid_over r.dma (sym written i) (sym (gets_all out image_size ho) i)) ∙ same r.dma r.regs out
        ∙ ap (laid_down r.dma) written
