-- Texts are the same where `==` of their bytes says so.
use mathlib.Core.Path.{◌≡◌, refl}
use mathlib.Core.Bool.{Bool, true, false, cond, ◌&&◌}
use mathlib.Core.List.{List, [], ◌∷◌}
use Prim.Native.Nat.{ℕ}
use lib.Dec.{eqb}
use Rattle.std.specs.Prelude.{nat_eq}
use Rattle.std.specs.Cmp.Lexicographic.{pointwise}
use Rattle.text.specs.Typed.{same}

both : (p : Bool) {q r : Bool} → q ≡ r → (p && q) ≡ cond p r false
both true e = e
both false e = refl

pub same_is : (s t : List ℕ) → pointwise nat_eq s t ≡ same s t
unfolding same
same_is [] [] = refl
same_is [] (b ∷ t) = refl
same_is (a ∷ s) [] = refl
same_is (a ∷ s) (b ∷ t) = both (eqb a b) (same_is s t)
