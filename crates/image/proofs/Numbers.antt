-- The bytes that the library's calls make of a number.
use Rattle.std.proofs.Common.{◌≡◌, ℕ, ◌<◌, List, ◌∷◌, refl, ap₂, arith}
use Rattle.std.specs.Int.{w16, w32, to_le_bytes}
use Rattle.image.specs.Radix.{parted}
use Rattle.image.specs.Fields.{radices}

cons : {a b : ℕ} {s t : List ℕ} → a ≡ b → s ≡ t → a ∷ s ≡ b ∷ t
cons e f = ap₂ (λ (x : ℕ) (l : List ℕ). x ∷ l) e f

pub word_bytes : (v : ℕ) → v < 65536 → to_le_bytes w16 v ≡ parted (radices 2) v
word_bytes v h = cons refl (cons (omega arith) refl)

pub count_bytes : (v : ℕ) → v < 4294967296 → to_le_bytes w32 v ≡ parted (radices 4) v
count_bytes v h = cons refl (cons refl (cons (omega arith) (cons (omega arith) refl)))
