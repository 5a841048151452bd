-- Two panes side by side: what is shown of a row.
use Rattle.std.proofs.Common.{◌≡◌, ℕ, ◌<◌, Bool, true, false, cond, eqb, List, [], length, sym, refl, ◌∙◌, arith}
use Rattle.lines.specs.declared.beside.Between.{Between}
use Rattle.text.specs.Shown.{◌⊕◌}
use Rattle.text.specs.Typed.{same}
use Rattle.lines.specs.Beside.{beside_row, every_of, is_shown, marked, sign_of, two_rows}

-- a mark at least
has_mark : (sign : ℕ) (row : List ℕ) → 0 < length (marked sign row)
unfolding ◌⊕◌
has_mark sign row = omega arith

module _ (row : List ℕ) (between : Between) (other : List ℕ) {a b : List ℕ} {agree none shown : Bool} (v : a ≡ row)
    (w : b ≡ other) (p : agree ≡ same a b) (q : none ≡ eqb (length row) 0) (r : shown ≡ is_shown agree (every_of between) none) where
  -- a row and another beside it, once it is known whether they agree and whether it is shown
  decided : beside_row row between other ≡ cond shown (marked (cond agree 32 42) (two_rows row (sign_of between) other)) []
  unfolding beside_row
  decided = rw (r, p, v, w, q) refl

  -- one that is not shown
  pub hidden : shown ≡ false → beside_row row between other ≡ []
  hidden e = decided ∙ rw e refl

  -- one that is shown
  pub as_marked : {x : Bool} {line : List ℕ} → shown ≡ true → agree ≡ x
      → line ≡ marked (cond x 32 42) (two_rows row (sign_of between) other)
      → (line ≡ beside_row row between other) × (0 < length (beside_row row between other))
  as_marked e a m = let q = decided ∙ rw (e, a) refl in (m ∙ sym q, rw q (has_mark _ _))
