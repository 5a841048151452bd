-- Which images are refused is what opening them says: of one that is refused no row shows a byte, and every row of another shows what it holds.
use mathlib.Core.Path.{◌≡◌, refl}
use mathlib.Core.Bool.{Bool, true, false, cond, ◌&&◌}
use mathlib.Core.List.{List}
use Prim.Native.Nat.{ℕ, ◌≤◌, ◌<◌}
use native.Mathlib.Omega.{arith}
use lib.Dec.{eqb}
use lib.ListN.{length, replicate}
use borrow.Author.Tests.{eq-eqb, lt-ltb, le-ltb, ne_eqb}
use Rattle.transfer.specs.Bytes.{bit_of}
use Rattle.controller.specs.Calls.{dma_active_call}
use Rattle.transfer.specs.Dma.{active}
use Rattle.controller.specs.Refusals.{checked, refusal_of, well_formed}
use Rattle.image.specs.Layout.{image_size, reu_at}
use Rattle.image.specs.Open.{bytes_ok, image_ok, open_image}
use Rattle.image.proofs.Opening.{opened_is, opened_ok}
use Rattle.reu.specs.Exports.{code, look, refusal, refusal_unit, reu_dma_active}
use Rattle.pane.specs.Rows.{copy_of, held_row, refused_row, row_of}

second : (a b : Bool) → a && b ≡ true → b ≡ true
second true b p = p
second false b p = cc

small : (b : Bool) → bit_of b < refusal_unit
small true = omega arith
small false = omega arith

module _ (i : List ℕ) (n : ℕ) where
  pub refused_row_lem : ((open_image i).refusal ≡ 0 → ⊥) → row_of i n ≡ refused_row (refusal (open_image i).refusal) n
  unfolding row_of look checked
  refused_row_lem bad =
      let k = (open_image i).refusal in
      let large : refusal_unit ≤ refusal k = omega arith in
      rw (ne_eqb k 0 bad, le-ltb (refusal k) refusal_unit large)

  module _ (good : (open_image i).refusal ≡ 0) where
    well : well_formed (reu_at i) ≡ true
    unfolding image_ok
    well = second (bytes_ok i) _ (opened_ok i good)

    answer : reu_dma_active i ≡ bit_of (active (reu_at i).dma)
    unfolding look checked dma_active_call refusal_of code
    answer = rw (opened_is i good, well, eq-eqb (reu_at i).size (reu_at i).size refl) (omega arith)

    pub accepted_row : row_of i n ≡ held_row i n
    unfolding row_of
    accepted_row = rw (answer, lt-ltb _ refusal_unit (small (active (reu_at i).dma)))

-- a copy of a refused image, kept to be shown as what was there before, is refused too
kept : (b : Bool) (i : List ℕ) → ((open_image i).refusal ≡ 0 → ⊥) → (open_image (cond b i (replicate image_size 255))).refusal ≡ 0 → ⊥
unfolding open_image checked image_ok bytes_ok
kept true i bad = bad
kept false i bad = λ z. omega arith

pub refused_copy : (i : List ℕ) → ((open_image i).refusal ≡ 0 → ⊥) → (open_image (copy_of i)).refusal ≡ 0 → ⊥
refused_copy i = kept (eqb (length i) image_size) i
