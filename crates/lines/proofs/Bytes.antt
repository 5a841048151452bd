-- A line of bytes, one after another as far as an end, as a loop shows it.
use Rattle.std.proofs.Common.{◌≡◌, ℕ, zero, suc, ◌+◌, ◌-◌, ◌<◌, ◌≤◌, min, List, refl, sym, ap, ◌∙◌, arith, Bool, cond}
use borrow.Author.Tests.{le-leb, lt-leb}
use Rattle.text.specs.Bytes.{byte_at}
use Rattle.text.specs.Shown.{◌⊕◌, ascii, hex_of}
use Rattle.lines.specs.Memory.{bytes_text}

-- past the end nothing is shown
past : (k : ℕ) (m : List ℕ) (a end : ℕ) (t : List ℕ) → end < a → bytes_text k m a end t ≡ t
unfolding bytes_text
past zero m a end t h = refl
past (suc k) m a end t h = rw (lt-leb a end h) (past k m (a + 1) end t (omega arith))

-- nor is it where no places are left
stays : (k : ℕ) (m : List ℕ) (a end : ℕ) (t : List ℕ) → (0 < k → end < a) → bytes_text k m a end t ≡ t
unfolding bytes_text
stays zero m a end t h = refl
stays (suc k) m a end t h = past (suc k) m a end t (h (omega arith))

-- places from a on, before a place where the line ends and no further than `end`
module _ (k : ℕ) (m : List ℕ) (a end : ℕ) (t : List ℕ) where
  shown : (n : ℕ) → a ≤ end → bytes_text (suc n) m a end t ≡ bytes_text n m (a + 1) end (t ⊕ ascii " " ⊕ hex_of 2 (byte_at m a))
  unfolding bytes_text
  shown n h =
      ap (λ (b : Bool). bytes_text n m (a + 1) end (cond b (t ⊕ ascii " " ⊕ hex_of 2 (byte_at m a)) t)) (le-leb a end h)

  -- one byte more
  pub onward :
      {u whole : List ℕ} → whole ≡ bytes_text (k - a) m a end t → a < min k (end + 1) → u ≡ t ⊕ ascii " " ⊕ hex_of 2 (byte_at m a)
      → whole ≡ bytes_text (k - (a + 1)) m (a + 1) end u
  onward inv h p =
      let e : k - a ≡ suc (k - (a + 1)) = omega arith in
      inv ∙ ap (λ (x : ℕ). bytes_text x m a end t) e ∙ shown (k - (a + 1)) (omega arith)
      ∙ ap (λ (u : List ℕ). bytes_text (k - (a + 1)) m (a + 1) end u) (sym p)

  -- no more bytes
  pub ended : {whole : List ℕ} → whole ≡ bytes_text (k - a) m a end t → min k (end + 1) ≤ a → t ≡ whole
  ended inv h = sym (inv ∙ stays (k - a) m a end t (λ l. omega arith))
