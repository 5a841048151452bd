-- Lines that are made longer, and what does not fit.
use mathlib.Core.Path.{◌≡◌, refl, sym, ◌∙◌, ap}
use mathlib.Core.List.{List, [], ◌∷◌, ◌++◌, append_assoc, append-nil}
use Prim.Native.Nat.{ℕ, zero, suc, ◌+◌, ◌-◌, ◌≤◌, ◌<◌}
use native.Mathlib.Omega.{arith}
use native.Mathlib.Numerals.{add-one}
use lib.ListN.{length, take, set, replicate, length-take, length-append}
use lib.Seq.{take-append-add, take-suc-set, take_all}
use Rattle.std.proofs.lemmas.List.{length-take-le, take_at}
use Rattle.text.specs.Shown.{◌⊕◌}

again : (n : ℕ) (x y : List ℕ) → take n (take n x ++ y) ≡ take n (x ++ y)
again zero x y = refl
again (suc n) [] y = refl
again (suc n) (a ∷ x) y = ap (λ (l : List ℕ). a ∷ l) (again n x y)

-- one text after another
pub both : (t a b : List ℕ) → t ⊕ a ⊕ b ≡ t ⊕ (a ++ b)
unfolding ◌⊕◌
both t a b = again 160 (t ++ a) b ∙ ap (take 160) (append_assoc t a b)

pub joined : (t a b : List ℕ) {u v : List ℕ} → u ≡ t ⊕ a → v ≡ u ⊕ b → v ≡ t ⊕ (a ++ b)
joined t a b {u} {v} p q = q ∙ ap (λ (l : List ℕ). l ⊕ b) p ∙ both t a b

-- a text behind one that is known: with this law `search` closes a chain of calls that put texts into a line
pub then : (b : List ℕ) {t u v : List ℕ} → u ≡ t → v ≡ u ⊕ b → v ≡ t ⊕ b
then b p q = q ∙ ap (λ (l : List ℕ). l ⊕ b) p

-- what fits is all there
pub room : (t s : List ℕ) → length t + length s ≤ 160 → t ++ s ≡ t ⊕ s
unfolding ◌⊕◌
room t s h = sym (take_all 160 (t ++ s) (rw length-append h))

-- nothing more
pub none : (t : List ℕ) → length t ≤ 160 → t ≡ t ⊕ []
none t h = sym (append-nil t) ∙ room t [] (omega arith)

-- a line has no more
pub within : (bytes : List ℕ) (used : ℕ) → used ≤ 160 → length (take used bytes) ≤ 160
within bytes used h = rw length-take (omega arith)

-- as much as there is room for
pub part : (t s : List ℕ) (n : ℕ) → n + length t ≡ 160 → t ++ take n s ≡ t ⊕ s
unfolding ◌⊕◌
part t s n h =
    let e : 160 ≡ length t + n = omega arith in
    sym (ap (λ (k : ℕ). take k (t ++ s)) e ∙ take-append-add t s n)

-- blanks, of which a whole line is enough
enough : (m : ℕ) (t : List ℕ) (n c : ℕ) → m ≤ c → take m (t ++ take n (replicate c 32)) ≡ take m (t ++ replicate n 32)
enough zero t n c h = refl
enough (suc m) (a ∷ t) n c h = ap (λ (l : List ℕ). a ∷ l) (enough m t n c (omega arith))
enough (suc m) [] zero c h = refl
enough (suc m) [] (suc n) zero h = absurd (omega arith)
enough (suc m) [] (suc n) (suc c) h = ap (λ (l : List ℕ). 32 ∷ l) (enough m [] n c (omega arith))

pub blanks : (t s : List ℕ) (n : ℕ) {u : List ℕ} → u ≡ t ⊕ s → s ≡ take n (replicate 160 32) → u ≡ t ⊕ replicate n 32
unfolding ◌⊕◌
blanks t s n p e = p ∙ ap (λ (l : List ℕ). t ⊕ l) e ∙ enough 160 t n 160 (omega arith)

module _ (bytes : List ℕ) (used b : ℕ) (n : length bytes ≡ 160) where
  -- a byte behind what a line has
  pub put_behind : used < 160 → take (used + 1) (set bytes used b) ≡ take used bytes ⊕ (b ∷ [])
  put_behind h =
      let long : length (take used bytes) ≡ used = length-take-le used bytes (omega (arith, n)) in
      rw (add-one, take-suc-set bytes used b (omega (arith, n))) (room (take used bytes) (b ∷ []) (rw long (omega arith)))

  -- there is no room for it
  pub left_out : used ≤ 160 → 160 ≤ used → take used bytes ≡ take used bytes ⊕ (b ∷ [])
  left_out h k =
      let long : length (take used bytes) ≡ used = length-take-le used bytes (omega (arith, n)) in
      sym (append-nil (take used bytes)) ∙ part (take used bytes) (b ∷ []) 0 (rw long (omega arith))

-- a text laid behind what a line has, as much of it as there is room for
pub extended : (bytes s rest : List ℕ) {first laid : List ℕ} (used : ℕ) → used ≤ 160 → length bytes ≡ 160 → first ≡ take (160 - used) s
    → laid ≡ first → take (used + length first) (take used bytes ++ (laid ++ rest)) ≡ take used bytes ⊕ s
extended bytes s rest {first} {laid} used h n e f =
    let t : List ℕ = take used bytes in
    let long : length t ≡ used = length-take-le used bytes (omega (arith, n)) in
    let ends : length (t ++ laid) ≡ used + length first = length-append t laid ∙ rw (long, f) refl in
    ap (take (used + length first)) (sym (append_assoc t laid rest)) ∙ take_at (t ++ laid) rest (used + length first) ends
    ∙ ap (λ (l : List ℕ). t ++ l) (f ∙ e) ∙ part t s (160 - used) (rw long (omega arith))

-- ---- a loop that puts a text into a line: the line becomes `goal` with what is left of the text

-- a turn puts the first part of what is left
pub onward : (line a b : List ℕ) {goal rest next : List ℕ} → rest ≡ a ++ b → goal ≡ line ⊕ rest → next ≡ line ⊕ a → goal ≡ next ⊕ b
onward line a b e l p = l ∙ ap (λ (s : List ℕ). line ⊕ s) e ∙ sym (both line a b) ∙ ap (λ (s : List ℕ). s ⊕ b) (sym p)

-- nothing is left
pub ended : (line : List ℕ) {goal rest : List ℕ} → length line ≤ 160 → rest ≡ [] → goal ≡ line ⊕ rest → line ≡ goal
ended line h e l = none line h ∙ ap (λ (s : List ℕ). line ⊕ s) (sym e) ∙ sym l
