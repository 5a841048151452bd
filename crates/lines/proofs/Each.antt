-- Bytes one after another to one address after another, as a loop over a line's words does it.
use Rattle.std.proofs.Common.{◌≡◌, ℕ, suc, ◌+◌, ◌-◌, ◌<◌, ◌≤◌, List, length, sym, ap, ◌∙◌, arith}
use Rattle.lines.specs.Memory.{address, bytes_from, bytes_of, each, typed}

-- before word i, with m so far: what is left of the words makes of m what all of them make of m₀
pub record Left (f : ℕ → ℕ → List ℕ → List ℕ) (t m₀ : List ℕ) (a words i : ℕ) (m : List ℕ) : Type 0 where
  pub past : 2 ≤ i
  pub size : length m ≡ length m₀
  pub says : each f (address t) (bytes_of t) m₀ ≡ each f (a + (i - 2)) (bytes_from (words - i) i t) m

module _ (f : ℕ → ℕ → List ℕ → List ℕ) (t m₀ : List ℕ) (a words : ℕ) where
  module _ (i : ℕ) (m : List ℕ) (l : Left f t m₀ a words i m) where
    -- one byte more
    pub onward :
        {b : ℕ} {n : List ℕ} → i < words → b ≡ typed t i → n ≡ f (a + (i - 2)) b m → length n ≡ length m →
        Left f t m₀ a words (i + 1) n
    unfolding each bytes_from
    onward {b} {n} h p q k =
        let e : words - i ≡ suc (words - (i + 1)) = omega arith in
        let d : a + (i - 2) + 1 ≡ a + (i + 1 - 2) = omega arith in
        let r : f (a + (i - 2)) (typed t i) m ≡ n = sym (q ∙ ap (λ (x : ℕ). f (a + (i - 2)) x m) p) in
        record {
          past = omega arith;
          size = k ∙ l.size;
          says =
              l.says ∙ ap (λ (x : ℕ). each f (a + (i - 2)) (bytes_from x i t) m) e
              ∙ (λ j. each f (d j) (bytes_from (words - (i + 1)) (i + 1) t) (r j));
        }

    -- no more bytes
    pub ended : words ≤ i → m ≡ each f (address t) (bytes_of t) m₀
    unfolding each bytes_from
    ended h =
        let e : words - i ≡ 0 = omega arith in
        sym (l.says ∙ ap (λ (x : ℕ). each f (a + (i - 2)) (bytes_from x i t) m) e)
