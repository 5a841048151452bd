-- Rows of the pane, put together from what their parts looked up.
use mathlib.Core.Path.{◌≡◌, ◌∙◌}
use mathlib.Core.Bool.{true, false, cond}
use mathlib.Core.List.{List, []}
use Prim.Native.Nat.{ℕ, ◌/◌}
use lib.Dec.{eqb}
use borrow.Author.Tests.{eq-eqb, ne_eqb}
use Rattle.reu.specs.Exports.{refusal_unit, reu_dma_active}
use Rattle.pane.specs.Answers.{accepted, refused_as}
use Rattle.pane.specs.Rows.{held_row, refused_row, row_of}
use Rattle.pane.specs.Rows.{held, reads, register_name, register_row, spelled}
use Rattle.text.specs.Shown.{◌⊕◌, ascii, hex_of}

-- a register: what it holds, and what a read gives
module _ (i : List ℕ) (n : ℕ) {value read : ℕ} (v : value ≡ held i n) (r : read ≡ reads i n)
    {named valued row : List ℕ} (a : named ≡ [] ⊕ ascii "DF0" ⊕ hex_of 1 n ⊕ register_name n)
    (b : valued ≡ named ⊕ hex_of 2 value) (s : row ≡ spelled i n valued) where
  whole : row ≡ spelled i n ([] ⊕ ascii "DF0" ⊕ hex_of 1 n ⊕ register_name n ⊕ hex_of 2 value)
  whole = s ∙ (λ j. spelled i n (b j)) ∙ (λ j. spelled i n (a j ⊕ hex_of 2 value))

  -- where a read gives that
  pub agrees : read ≡ value → row ≡ register_row i n
  unfolding register_row
  agrees h = rw (← v, ← r, eq-eqb read value h) whole

  -- where it gives something else
  pub differs : {text : List ℕ} → (read ≡ value → ⊥) → text ≡ row ⊕ ascii " reads " ⊕ hex_of 2 read → text ≡ register_row i n
  unfolding register_row
  differs h p = rw (← v, ← r, ne_eqb read value h) (p ∙ (λ j. whole j ⊕ ascii " reads " ⊕ hex_of 2 read))

-- a row of an image, by what a call on it answered
module _ (i : List ℕ) (n : ℕ) {code : ℕ} {row : List ℕ} (a : code ≡ reu_dma_active i) where
  -- an accepted image shows what it holds
  pub shown : accepted code ≡ true → row ≡ held_row i n → row ≡ row_of i n
  unfolding row_of
  shown h p = rw (← a, h) p

  -- a refused one that it is
  pub refused : {number : ℕ} → (accepted code ≡ false) × (number ≡ code / refusal_unit)
      → row ≡ cond (eqb n 23) ([] ⊕ ascii "image        " ⊕ refused_as number ⊕ ascii ": no controller") [] → row ≡ row_of i n
  unfolding row_of refused_row
  refused h p = rw (← a, h.0, ← h.1) p
