-- A byte of a memory or of an image.
use Rattle.std.specs.Prelude.{ℕ, List, get_or}

-- byte i, and 0 past the end
abbrev pub byte_at : List ℕ → ℕ → ℕ
byte_at s i = get_or s i 0
