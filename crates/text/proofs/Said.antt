-- What a check of what was typed says, and the first fault of several words.
use mathlib.Core.Path.{◌≡◌, refl, sym, ◌∙◌, ap}
use mathlib.Core.List.{List, [], ◌∷◌}
use Prim.Native.Nat.{ℕ, suc, ◌+◌, ◌-◌, ◌≤◌, ◌<◌}
use native.Mathlib.Omega.{arith}
use lib.ListN.{length}
use borrow.Author.Tests.{lt-leb, ne_eqb}
use Rattle.std.specs.Prelude.{Ok, Err}
use Rattle.text.specs.declared.number.NumberFault.TheVariants.{Bad, TooLarge}
use Rattle.text.specs.Faults.{fault_by, fault_of, faults_from, larger, or_else}
use Rattle.text.specs.Shown.{◌⊕◌, fill_from}
use Rattle.text.specs.Typed.{number_of, word_of}

-- a text with more behind it
pub longer : (t s : List ℕ) → 0 < length t → 0 < length (t ⊕ s)
unfolding ◌⊕◌
longer [] s h = absurd (omega arith)
longer (a ∷ t) s h = omega arith

larger_said : (w : List ℕ) (most : ℕ) → 0 < length (larger w most)
unfolding ◌⊕◌ fill_from
larger_said w most = omega arith

-- what is said of a word: that it is no number, and that the number is too large
pub bad_said : (w : List ℕ) (most : ℕ) {t : List ℕ} → Err Bad ≡ number_of w → t ≡ fault_by (Err Bad) w most
    → (t ≡ fault_of w most) × (0 < length (fault_of w most))
unfolding fault_of ◌⊕◌ fill_from
bad_said w most e p = rw (← e) (p, omega arith)

pub over_said : (n : ℕ) (w : List ℕ) (most : ℕ) {t : List ℕ} → Ok n ≡ number_of w → most < n → t ≡ larger w most
    → (t ≡ fault_of w most) × (0 < length (fault_of w most))
unfolding fault_of
over_said n w most e over p = rw (← e, lt-leb n most over) (p, larger_said w most)

pub large_said : (w : List ℕ) (most : ℕ) {t : List ℕ} → Err TooLarge ≡ number_of w → t ≡ larger w most
    → (t ≡ fault_of w most) × (0 < length (fault_of w most))
unfolding fault_of
large_said w most e p = rw (← e) (p, larger_said w most)

-- ---- the first of two faults

pub none_then : {a : List ℕ} (b : List ℕ) → a ≡ [] → or_else a b ≡ b
none_then b e = rw e refl

pub some_then : {a : List ℕ} (b : List ℕ) → 0 < length a → or_else a b ≡ a
some_then {a} b h = rw (ne_eqb (length a) 0 (λ e. omega arith)) refl

-- ---- the first fault of several words, k of which are left

module _ (t : List ℕ) (i most words : ℕ) (h : i < words) where
  first : faults_from (words - i) i t most ≡ or_else (fault_of (word_of i t) most) (faults_from (words - (i + 1)) (i + 1) t most)
  unfolding faults_from
  first = let e : words - i ≡ suc (words - (i + 1)) = omega arith in ap (λ (k : ℕ). faults_from k i t most) e

  -- no fault in this word
  pub fault_more : {w whole : List ℕ} → whole ≡ faults_from (words - i) i t most → w ≡ word_of i t → fault_of w most ≡ []
      → whole ≡ faults_from (words - (i + 1)) (i + 1) t most
  fault_more inv e f = inv ∙ first ∙ none_then _ (ap (λ (v : List ℕ). fault_of v most) (sym e) ∙ f)

  -- the first fault
  pub fault_found : {w line whole : List ℕ} → whole ≡ faults_from (words - i) i t most → w ≡ word_of i t
      → (line ≡ fault_of w most) × (0 < length (fault_of w most)) → (line ≡ whole) × (0 < length whole)
  fault_found {w} inv e said =
      let whole = inv ∙ first ∙ some_then _ (rw (← e) said.1) ∙ ap (λ (v : List ℕ). fault_of v most) (sym e) in
      (said.0 ∙ sym whole, rw whole said.1)

-- no more words
pub fault_none : (t : List ℕ) (i most words : ℕ) {whole : List ℕ} → words ≤ i → whole ≡ faults_from (words - i) i t most → whole ≡ []
unfolding faults_from
fault_none t i most words h inv = let e : words - i ≡ 0 = omega arith in inv ∙ ap (λ (k : ℕ). faults_from k i t most) e
