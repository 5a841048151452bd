-- A list that is long enough, element by element: what the code reads, and what the definitions then compute on.
use mathlib.Core.Path.{◌≡◌, refl, sym, ap, ◌∙◌}
use mathlib.Core.List.{List, ◌∷◌}
use Prim.Native.Nat.{ℕ, zero, suc, ◌+◌, ◌≤◌}
use native.Mathlib.Omega.{arith}
use lib.ListN.{length, get_or, take, drop, length-drop}
use lib.Seq.{drop-cons, take-length, take_all}
use Rattle.image.specs.Inner.{gets}

pub gets_slice : (s : List ℕ) (i n : ℕ) → i + n ≤ length s → gets i n s ≡ take n (drop i s)
gets_slice s i zero h = refl
gets_slice s i (suc n) h = rw (drop-cons s i 0 (omega arith)) (ap (λ (l : List ℕ). get_or s i 0 ∷ l) (gets_slice s (suc i) n (omega arith)))

pub gets_all : (s : List ℕ) (n : ℕ) → length s ≡ n → gets 0 n s ≡ s
gets_all s n h = gets_slice s 0 n (omega arith) ∙ rw (sym h) (take-length s)

pub gets_rest : (s : List ℕ) (i n : ℕ) → length s ≡ i + n → gets i n s ≡ drop i s
gets_rest s i n h = gets_slice s i n (omega arith) ∙ take_all n (drop i s) (simp length-drop (omega arith))
