-- Numbers laid down one after another, each in the bytes of its field, the low byte first.
use Rattle.std.specs.Prelude.{ℕ, ◌+◌, List, [], ◌∷◌, ◌++◌, take, drop, replicate}
use Rattle.image.specs.Radix.{joined, parted}

-- a field is its width in bytes, and how many values it has

abbrev pub radices : ℕ → List ℕ
radices width = replicate width 256

abbrev pub size : List (ℕ × ℕ) → ℕ
size [] = 0
size (f ∷ fs) = f.0 + size fs

abbrev pub values : List (ℕ × ℕ) → List ℕ
values [] = []
values (f ∷ fs) = f.1 ∷ values fs

-- the bytes of the numbers, a number for each field
abbrev pub laid : List (ℕ × ℕ) → List ℕ → List ℕ
laid [] ns = []
laid (f ∷ fs) [] = []
laid (f ∷ fs) (n ∷ ns) = parted (radices f.0) n ++ laid fs ns

-- the numbers of the bytes
abbrev pub lifted : List (ℕ × ℕ) → List ℕ → List ℕ
lifted [] s = []
lifted (f ∷ fs) s = joined (radices f.0) (take f.0 s) ∷ lifted fs (drop f.0 s)
