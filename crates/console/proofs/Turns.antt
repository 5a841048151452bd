-- Turns: what the calls answered and left put together.
use Rattle.std.proofs.Common.{◌≡◌, ℕ, ◌≤◌, Bool, true, false, List, le-ltb}
use Rattle.console.specs.declared.session.Session.{Session}
use Rattle.console.specs.Session.{Turn, dropped_turn, fault_in, is_dropped, obey_turn, turn_of}

module _ (z : Session) (i m s : List ℕ) where
  module _ (t : List ℕ) where
    module _ (h : z.left ≤ 0) {b : Bool} (e : b ≡ is_dropped t (fault_in i t)) where
      pub forgets : {x : Turn} → b ≡ true → x ≡ dropped_turn t z i m s → x ≡ turn_of t z i m s
      unfolding turn_of
      forgets q p = rw (le-ltb _ _ h, ← e, q) p

      pub obeys : {x : Turn} → b ≡ false → x ≡ obey_turn t z i m s → x ≡ turn_of t z i m s
      unfolding turn_of
      obeys q p = rw (le-ltb _ _ h, ← e, q) p
