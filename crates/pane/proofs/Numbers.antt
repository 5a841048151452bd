-- The numbers of the image's list, and the bytes that the rows read: the size, the count of granted cycles, and what remains of a transfer.
use mathlib.Core.Path.{◌≡◌, refl, sym, ◌∙◌, ap}
use mathlib.Core.Bool.{Bool, true, false, cond}
use mathlib.Core.List.{List, [], ◌∷◌, ◌++◌}
use Prim.Native.Nat.{ℕ, ◌+◌, ◌*◌, ◌/◌, ◌%◌}
use native.Mathlib.Omega.{arith}
use lib.Dec.{eqb}
use lib.ListN.{length, drop, take}
use lib.Seq.{drop-drop, get_or-drop}
use Rattle.std.specs.Int.{from_le_bytes, w32}
use Rattle.transfer.specs.Dma.{length_of}
use Rattle.transfer.specs.Memory.{is_size, physical_offset}
use Rattle.transfer.proofs.Sizes.{size_128, size_256, size_512, size_lines}
use Rattle.image.specs.Fields.{lifted, radices, size}
use Rattle.image.specs.Layout.{at, fields, granted_field, more_flags, place_of, remaining, reu_at, size_of}
use Rattle.image.specs.Radix.{joined}
use Rattle.text.specs.Bytes.{byte_at}
use Rattle.pane.specs.Rows.{granted_in, remaining_in, size_in, word_at}

-- the number behind some fields is the first of the bytes behind them
behind : (fs gs : List (ℕ × ℕ)) (s : List ℕ) → at (lifted (fs ++ gs) s) (length fs) ≡ at (lifted gs (drop (size fs) s)) 0
behind [] gs s = refl
behind (f ∷ fs) gs s =
    behind fs gs (drop f.0 s) ∙ ap (λ (l : List ℕ). at (lifted gs l) 0) (drop-drop (size fs) f.0 s)

one : (s : List ℕ) → joined (radices 1) (take 1 s) ≡ byte_at s 0
one [] = refl
one (a ∷ s) = omega arith

-- two bytes, and four, which are two numbers of two; bytes past the end are 0
two : (s : List ℕ) → joined (radices 2) (take 2 s) ≡ word_at s 0
two [] = refl
two (a ∷ []) = omega arith
two (a ∷ b ∷ s) = refl

four : (s : List ℕ) → joined (radices 4) (take 4 s) ≡ word_at s 0 + 65536 * word_at s 2
four [] = refl
four (a ∷ []) = omega arith
four (a ∷ b ∷ []) = omega arith
four (a ∷ b ∷ c ∷ []) = omega arith
four (a ∷ b ∷ c ∷ d ∷ s) = omega arith

module _ (s : List ℕ) where
  flags_there : byte_at (drop (place_of more_flags) s) 0 ≡ byte_at s (place_of more_flags)
  flags_there = simp get_or-drop refl

  -- the size that is shown is the one that the opened controller has
  pub opened_size : (reu_at s).size ≡ size_in s
  unfolding reu_at size_in
  opened_size =
      ap (λ (n : ℕ). size_of (n / 4))
      (behind (take more_flags fields) (drop more_flags fields) s ∙ one (drop (place_of more_flags) s) ∙ flags_there)

  -- it is one of the three, so that what an address leaves by it is the address's place in the storage
  pub one_of_three : is_size (size_in s) ≡ true
  unfolding size_in
  one_of_three = go (eqb code 0) (eqb code 1)
    where
      code : ℕ
      code = byte_at s (place_of more_flags) / 4

      go : (x y : Bool) → is_size (cond x 524288 (cond y 262144 131072)) ≡ true
      go true y = size_512
      go false true = size_256
      go false false = size_128

  pub its_place : (a : ℕ) → a % size_in s ≡ (physical_offset (size_in s) record { 0 = a }).0
  its_place a = ap (λ (n : ℕ). a % n) (sym (size_lines (size_in s) one_of_three).power)

  there : word_at (drop (place_of granted_field) s) 0 + 65536 * word_at (drop (place_of granted_field) s) 2
      ≡ word_at s (place_of granted_field) + 65536 * word_at s (place_of granted_field + 2)
  there = simp get_or-drop refl

  counted : granted_in s ≡ word_at s (place_of granted_field) + 65536 * word_at s (place_of granted_field + 2)
  unfolding granted_in
  counted =
      behind (take granted_field fields) (drop granted_field fields) s ∙ four (drop (place_of granted_field) s) ∙ there

  -- read as a number of four bytes
  pub four_bytes : {a b c d n : ℕ} → a ≡ byte_at s (place_of granted_field) → b ≡ byte_at s (place_of granted_field + 1)
      → c ≡ byte_at s (place_of granted_field + 2) → d ≡ byte_at s (place_of granted_field + 3)
      → n ≡ from_le_bytes w32 (a ∷ b ∷ c ∷ d ∷ []) → n ≡ granted_in s
  four_bytes p q r t e = rw counted (omega arith)

  left_there : word_at (drop (place_of remaining) s) 0 ≡ word_at s (place_of remaining)
  left_there = simp get_or-drop refl

  -- read as the length that two bytes say
  pub left : {a : ℕ} → a ≡ word_at s (place_of remaining) → length_of a ≡ remaining_in s
  unfolding remaining_in
  left p =
      ap length_of
      (p ∙ sym (behind (take remaining fields) (drop remaining fields) s ∙ two (drop (place_of remaining) s) ∙ left_there))
