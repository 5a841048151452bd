-- As many bytes as are counted, of those that are lent.
use mathlib.Core.Path.{◌≡◌}
use mathlib.Core.List.{List}
use Prim.Native.Nat.{ℕ, ◌≤◌}
use native.Mathlib.Omega.{arith}
use lib.ListN.{length, length-take, take}

-- as many bytes as are counted
pub counted : (s : List ℕ) {n : ℕ} → n ≤ length s → n ≡ length (take n s)
counted s {n} h = let k = length-take n s in omega (arith, k)
