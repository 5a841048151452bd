-- An image is accepted by the bytes that are looked at: without a transfer, and with one.
use mathlib.Core.Path.{◌≡◌, refl, sym, ap, ◌∙◌}
use mathlib.Core.Bool.{Bool, true, false, cond, not, ◌&&◌}
use mathlib.Core.List.{List}
use Prim.Native.Nat.{ℕ, zero, suc, ◌+◌, ◌*◌, ◌<◌, ◌/◌, ◌%◌}
use native.Mathlib.Omega.{arith}
use lib.ListN.{length, get_or, take, drop}
use lib.Dec.{eqb, ltb, leb}
use Rattle.std.specs.Cmp.{both_ways}
use borrow.Author.Tests.{eqb-false, le-ltb, eq-eqb, eqb-true, lt-ltb, le-leb, leb-true, ltb-true}
use Rattle.transfer.proofs.Bits.{bit_div, kept}
use lib.Bits.{bit_and}
use Rattle.std.proofs.Common.{mod-lt}
use Rattle.transfer.proofs.Pick.{by_test}
use Rattle.std.specs.Prelude.{None, Some}
use Rattle.controller.specs.Refusals.{well_formed}
use Rattle.transfer.specs.Memory.{is_size}
use Rattle.transfer.proofs.Sizes.{size_128, size_256, size_512}
use Rattle.image.specs.Fields.{lifted}
use Rattle.image.specs.Inner.{gets}
use Rattle.image.specs.Layout.{at, fields, kind, transfer_fields, image_size, size_of, reu_at, transfer_of}
use Rattle.transfer.specs.Bytes.{bit}
use Rattle.transfer.specs.Dma.{well_dma}
use Rattle.controller.specs.Prelude.{bool_eq}
use Rattle.transfer.specs.Memory.{chip_mark}
use Rattle.image.specs.Open.{all_zero, image_ok}
use Rattle.image.specs.InPlace.{marked_at}
use Rattle.image.proofs.ByBytes.{listed, seven_zeros, ranges, ranges_are, zeros, ok_idle, ok_some}

-- each code stands for a size
pub coded_size : (n : ℕ) → is_size (size_of n) ≡ true
coded_size n =
    by_test (λ x. is_size x ≡ true) (eqb n 0) 524288 _ (λ _. size_512)
    (λ _. by_test (λ x. is_size x ≡ true) (eqb n 1) 262144 131072 (λ _. size_256) (λ _. size_128))

below_three : (n : ℕ) → leb n 2 ≡ ltb n 3
below_three n = both_ways (leb n 2) (ltb n 3) (λ e. lt-ltb n 3 (omega (arith, leb-true n 2 e))) (λ e. le-leb n 2 (omega (arith, ltb-true n 3 e)))

-- the sizes of codes 0 and 1 have the mark
mark_of_code : (m : ℕ) → ltb m 8 ≡ chip_mark (size_of (m / 4))
mark_of_code m =
    by_test (λ x. ltb m 8 ≡ chip_mark x) (eqb (m / 4) 0) 524288 _ (λ e. lt-ltb m 8 (omega (arith, eqb-true (m / 4) 0 e)))
    (λ e. by_test (λ x. ltb m 8 ≡ chip_mark x) (eqb (m / 4) 1) 262144 131072 (λ k. lt-ltb m 8 (omega (arith, eqb-true (m / 4) 1 k)))
    (λ k. le-ltb m 8 (omega (arith, eqb-false (m / 4) 0 e, eqb-false (m / 4) 1 k))))

-- bit 3 of a number below 12 is 0 where it is below 8, and only there
not_smallest : (m : ℕ) → m < 12 → not (bit m 3) ≡ ltb m 8
not_smallest m h = ap not (bit_div m 3) ∙ go (m / 8 % 2) refl
  where
    go : (q : ℕ) → m / 8 % 2 ≡ q → not (eqb q 1) ≡ ltb m 8
    go zero e = sym (lt-ltb m 8 (omega (arith, e, h)))
    go (suc zero) e = sym (le-ltb m 8 (omega (arith, e)))
    go (suc (suc q)) e = absurd (omega arith)

-- STATUS v and more flags m: bit 4 of the one is not bit 3 of the other
abbrev pub mark_in : ℕ → ℕ → Bool
mark_in v m = bool_eq (bit v 4) (not (bit m 3))

pub one_of_two : (v m : ℕ) → not (eqb (bit_and v 16) (2 * bit_and m 8)) ≡ mark_in v m
one_of_two v m =
    (λ i. not (eqb (kept v 4 i) (2 * kept m 3 i))) ∙ go (v / 16 % 2) (m / 8 % 2) (mod-lt (v / 16) (omega arith)) (mod-lt (m / 8) (omega arith))
    ∙ (λ i. bool_eq (sym (bit_div v 4) i) (not (sym (bit_div m 3) i)))
  where
    go : (p q : ℕ) → p < 2 → q < 2 → not (eqb (p * 16) (2 * (q * 8))) ≡ bool_eq (eqb p 1) (not (eqb q 1))
    go zero zero h k = refl
    go zero (suc zero) h k = refl
    go (suc zero) zero h k = refl
    go (suc zero) (suc zero) h k = refl
    go (suc (suc p)) q h k = absurd (omega arith)
    go p (suc (suc q)) h k = absurd (omega arith)

-- of a size that is coded this is its mark
pub marked_same : (v m : ℕ) (c : Bool)
    → (ltb m 12 && c) && mark_in v m ≡ (ltb m 12 && c) && bool_eq (bit v 4) (chip_mark (size_of (m / 4)))
marked_same v m c = go (ltb m 12) refl
  where
    go : (t : Bool) → ltb m 12 ≡ t → (t && c) && mark_in v m ≡ (t && c) && bool_eq (bit v 4) (chip_mark (size_of (m / 4)))
    go true e = ap (λ (x : Bool). c && bool_eq (bit v 4) x) (not_smallest m (ltb-true m 12 e) ∙ mark_of_code m)
    go false e = refl

-- with zeros behind it, few of the ranges are left
less : (a c d e f g h m z : Bool) → (z ≡ true → (d ≡ true) × (e ≡ true) × (f ≡ true) × (g ≡ true))
    → z && ((a && c) && m) ≡ ((a && (c && (d && (e && (f && (g && true)))))) && z) && (c && m)
less a c d e f g h m true k = rw ((k refl).0, (k refl).1, (k refl).2, (k refl).3) (go a c m)
  where
    go : (a c m : Bool) → (a && c) && m ≡ ((a && (c && true)) && true) && (c && m)
    go true true m = refl
    go true false m = refl
    go false c m = refl
less a c d e f g h m false k = go (a && (c && (d && (e && (f && (g && true))))))
  where
    go : (r : Bool) → false ≡ (r && false) && (c && m)
    go true = refl
    go false = refl

module _ (s : List ℕ) (long : length s ≡ image_size) (b : (i : ℕ) → get_or s i 0 < 256) where
  -- the same list, written out
  abbrev out : List ℕ
  out = gets 0 image_size s

  -- the controller's own tests, where no transfer runs
  well_out : at s 21 ≡ 0 → well_formed (reu_at out) ≡ ltb (at s 20) 3 && marked_at s
  unfolding well_formed reu_at
  well_out z =
      λ i. below_three (at s 20) i
      && (lt-ltb (at s 13 + 256 * (at s 14 + 256 * at s 15)) 16777216 (omega (arith, b 13, b 14, b 15)) i
      && (well_dma (bit (at s 18) 2) (cond (eq-eqb (at s 21) 0 z i) None (Some (transfer_of (lifted fields out))))
      && (coded_size (at s 19 / 4) i && bool_eq (bit (at s 0) 4) (chip_mark (size_of (at s 19 / 4))))))

  well_idle : at s 21 ≡ 0 → well_formed (reu_at s) ≡ ltb (at s 20) 3 && marked_at s
  well_idle z = ap (λ (l : List ℕ). well_formed (reu_at l)) (sym (listed s long)) ∙ well_out z

  abbrev tests : Bool
  tests = ltb (at s 19) 12 && (ltb (at s 20) 3 && (ltb (at s 21) 2 && (ltb (at s 22) 4 && (ltb (at s 23) 2 && (ltb (at s 32) 64 && true)))))

  -- the bytes that are 0 there are below their bounds
  small : at s 21 ≡ 0 → zeros s long ≡ true → (ltb (at s 21) 2 ≡ true) × (ltb (at s 22) 4 ≡ true) × (ltb (at s 23) 2 ≡ true) × (ltb (at s 32) 64 ≡ true)
  small none z =
      let all : all_zero (take transfer_fields (drop kind (lifted fields out))) ≡ true = ap (λ (l : List ℕ). all_zero (take transfer_fields (drop kind (lifted fields l)))) (listed s long) ∙ z in
      let e = seven_zeros s all in (
        lt-ltb (at s 21) 2 (omega arith),
        lt-ltb (at s 22) 4 (omega (arith, e.0)),
        lt-ltb (at s 23) 2 (omega (arith, e.1)),
        lt-ltb (at s 32) 64 (omega (arith, e.6)),
      )

  pub rest_ok : at s 21 ≡ 0 → zeros s long && ((ltb (at s 19) 12 && ltb (at s 20) 3) && marked_at s) ≡ image_ok s
  unfolding image_ok
  rest_ok z =
      less (ltb (at s 19) 12) (ltb (at s 20) 3) (ltb (at s 21) 2) (ltb (at s 22) 4) (ltb (at s 23) 2) (ltb (at s 32) 64) true (marked_at s) (zeros s long) (small z)
      ∙ (λ i. (sym (ranges_are s long b) i && zeros s long) && sym (well_idle z) i)
      ∙ ap (λ (t : Bool). t && well_formed (reu_at s)) (ok_idle s long z)

  pub some_ok : (at s 21 ≡ 0 → ⊥) → ranges s long && well_formed (reu_at s) ≡ image_ok s
  unfolding image_ok
  some_ok z = ap (λ (t : Bool). t && well_formed (reu_at s)) (ok_some s long z)
