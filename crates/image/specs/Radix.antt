-- Numbers by their digits, the lowest first, each digit with a radix of its own.
use Rattle.std.specs.Prelude.{ℕ, ◌+◌, ◌*◌, ◌/◌, ◌%◌, List, [], ◌∷◌, Bool, true, false, ◌&&◌, ltb}

-- the number of these digits
abbrev pub joined : List ℕ → List ℕ → ℕ
joined [] ds = 0
joined (r ∷ rs) [] = 0
joined (r ∷ []) (d ∷ ds) = d
joined (r ∷ q ∷ rs) (d ∷ ds) = d + r * joined (q ∷ rs) ds

-- the digits of a number: the last is what the others leave, below its radix or not
abbrev pub parted : List ℕ → ℕ → List ℕ
parted [] n = []
parted (r ∷ []) n = n ∷ []
parted (r ∷ q ∷ rs) n = n % r ∷ parted (q ∷ rs) (n / r)

-- every digit is below its radix
abbrev pub below : List ℕ → List ℕ → Bool
below [] ds = true
below (r ∷ rs) [] = false
below (r ∷ rs) (d ∷ ds) = ltb d r && below rs ds

-- how many numbers these radices can say
abbrev pub product : List ℕ → ℕ
product [] = 1
product (r ∷ rs) = r * product rs
