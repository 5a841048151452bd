-- A text that fits in a line, and one that is cut before more is put behind it.
use Rattle.std.proofs.Common.{◌≡◌, ℕ, zero, suc, ◌<◌, ◌≤◌, Bool, true, false, cond, eqb, List, [], ◌∷◌, ◌++◌, length, take, sym, refl, ap, ◌∙◌, append-nil, arith, length-append, length-take}
use Rattle.text.proofs.Cuts.{both, room}
use Rattle.text.specs.Shown.{◌⊕◌, ascii, fill_from, fill_of}
use Rattle.lines.specs.declared.files.Length.{Length}
use Rattle.lines.specs.declared.files.Length.TheVariants.{Exactly, MoreThan}
use Rattle.lines.specs.declared.files.Part.{Part}
use Rattle.lines.specs.declared.files.Part.TheVariants.{Image, Bus, Storage}
use Rattle.lines.specs.Commands.{HasText, has_text}
use Rattle.lines.specs.Files.{length_text, part_name, suffix_of}

-- what fits is all there
pub whole : (s : List ℕ) → length s ≤ 160 → [] ⊕ s ≡ s
whole s h = sym (room [] s (omega arith))

short : (t s : List ℕ) → length (t ⊕ s) ≤ 160
unfolding ◌⊕◌
short t s = let n = length-take 160 (t ++ s) in omega (arith, n)

-- and so is what is cut already
pub twice : (t s : List ℕ) → [] ⊕ (t ⊕ s) ≡ t ⊕ s
twice t s = whole (t ⊕ s) (short t s)

-- what is cut before more is put behind it
pub early : (t s : List ℕ) → [] ⊕ t ⊕ s ≡ t ⊕ s
unfolding ◌⊕◌
early t s = both [] t s

-- ---- the name of a file

pub named : (name : List ℕ) (p : Part) → [] ⊕ name ⊕ suffix_of p ≡ [] ⊕ part_name name p
unfolding ◌⊕◌
named name Image = early name [] ∙ ap (take 160) (append-nil name)
named name Bus = early name (ascii ".bus") ∙ sym (twice name (ascii ".bus"))
named name Storage = early name (ascii ".storage") ∙ sym (twice name (ascii ".storage"))

pub named_whole : (name : List ℕ) (p : Part) → length name ≤ 160 → [] ⊕ part_name name p ≡ part_name name p
named_whole name Image h = whole name h
named_whole name Bus h = twice name (ascii ".bus")
named_whole name Storage h = twice name (ascii ".storage")

deep : (n m : ℕ) (x y : List ℕ) → n ≤ m → take n (take m x ++ y) ≡ take n (x ++ y)
deep zero m x y h = refl
deep (suc n) zero x y h = absurd (omega arith)
deep (suc n) (suc m) [] y h = refl
deep (suc n) (suc m) (a ∷ x) y h = ap (λ (l : List ℕ). a ∷ l) (deep n m x y (omega arith))

-- of a name that is cut as much is said
filled : (name : List ℕ) → fill_of "refused: % has " ([] ⊕ name) ≡ fill_of "refused: % has " name
unfolding ◌⊕◌ fill_from
filled name = ap (λ (l : List ℕ). ascii "refused: " ++ l) (deep 151 160 name (ascii " has ") (omega arith))

pub as_much : (name : List ℕ) (got : Length) → length_text ([] ⊕ name) got ≡ length_text name got
unfolding length_text
as_much name (Exactly n) = rw (filled name) refl
as_much name (MoreThan n) = rw (filled name) refl

-- ---- what is wrong is said

-- a template with more in it than %
shown : (b : Bool) (c : ℕ) (s w t : List ℕ) → (has_text s ≡ true → 0 < length t) → cond b (has_text s) true ≡ true
    → 0 < length (cond b w (c ∷ []) ++ t)
shown true c s w t further e = let h = further e in omega (arith, length-append w t)
shown false c s w t further e = omega arith

filled_out : (s w : List ℕ) → HasText s → 0 < length (fill_from s w)
unfolding fill_from
filled_out [] w e = cc
filled_out (c ∷ s) w e = shown (eqb c 37) c s w (fill_from s w) (filled_out s w) e

pub said : (s w : List ℕ) → HasText s → 0 < length ([] ⊕ fill_from s w)
unfolding ◌⊕◌
said s w e =
    let h = filled_out s w e in
    let n = length-take 160 (fill_from s w) in
    omega (arith, n)
