-- A number and its digits, by induction on the radices.
use mathlib.Core.Path.{◌≡◌, refl, ap, ap₂, ◌∙◌}
use mathlib.Core.List.{List, [], ◌∷◌}
use Prim.Native.Nat.{ℕ, zero, suc, ◌+◌, ◌*◌, ◌/◌, ◌%◌, ◌<◌}
use native.Mathlib.Omega.{arith}
use native.Mathlib.Nat.{div-add-mod, mod-lt, mod-eq_of_lt, add-mul-mod_self_left, add-mul-div_left, mul-le-mul_left, div-lt_iff_lt-mul, mul_comm, mul-one, div-eq_of_lt, mul-suc}
use lib.ListN.{length}
use Rattle.image.specs.Radix.{joined, parted, product}

-- as many digits as radices, each below its own
abbrev pub Below : List ℕ → List ℕ → Type 0
Below [] [] = Unit {0}
Below [] (d ∷ ds) = ⊥
Below (r ∷ rs) [] = ⊥
Below (r ∷ rs) (d ∷ ds) = (d < r) × Below rs ds

pub joined_parted : (r : ℕ) (rs : List ℕ) (n : ℕ) → joined (r ∷ rs) (parted (r ∷ rs) n) ≡ n
joined_parted r [] n = refl
joined_parted r (q ∷ rs) n = ap (λ (m : ℕ). n % r + r * m) (joined_parted q rs (n / r)) ∙ omega (arith, div-add-mod n r)

pub parted_joined : (rs ds : List ℕ) → Below rs ds → parted rs (joined rs ds) ≡ ds
parted_joined [] [] h = refl
parted_joined [] (d ∷ ds) h = absurd h
parted_joined (r ∷ rs) [] h = absurd h
parted_joined (r ∷ []) (d ∷ []) h = refl
parted_joined (r ∷ []) (d ∷ e ∷ ds) h = absurd h.1
parted_joined (r ∷ q ∷ rs) (d ∷ ds) h =
    let m = joined (q ∷ rs) ds in
    ap₂ ◌∷◌ (add-mul-mod_self_left d r m ∙ mod-eq_of_lt h.0)
    (ap (parted (q ∷ rs)) (add-mul-div_left d m (omega arith) ∙ ap (λ (k : ℕ). k + m) (div-eq_of_lt h.0) ∙ omega arith) ∙ parted_joined (q ∷ rs) ds h.1)

pub joined_below : (rs ds : List ℕ) → Below rs ds → joined rs ds < product rs
joined_below [] [] h = omega arith
joined_below [] (d ∷ ds) h = absurd h
joined_below (r ∷ rs) [] h = absurd h
joined_below (r ∷ []) (d ∷ ds) h = omega (arith, h.0, mul-one r)
joined_below (r ∷ q ∷ rs) (d ∷ ds) h =
    omega (arith, h.0, mul-le-mul_left r (joined_below (q ∷ rs) ds h.1), mul-suc r (joined (q ∷ rs) ds))

pub parted_below : (rs : List ℕ) (n : ℕ) → n < product rs → Below rs (parted rs n)
parted_below [] n h = tt
parted_below (r ∷ []) n h = (omega (arith, mul-one r), tt)
parted_below (zero ∷ q ∷ rs) n h = absurd (omega arith)
parted_below (suc r ∷ q ∷ rs) n h =
    (mod-lt n (omega arith), parted_below (q ∷ rs) (n / suc r) ((div-lt_iff_lt-mul (omega arith)).1 (omega (arith, mul_comm (suc r) (product (q ∷ rs))))))

pub length_parted : (rs : List ℕ) (n : ℕ) → length (parted rs n) ≡ length rs
length_parted [] n = refl
length_parted (r ∷ []) n = refl
length_parted (r ∷ q ∷ rs) n = ap suc (length_parted (q ∷ rs) (n / r))
