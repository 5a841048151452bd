-- Demand 3 holds.
use Rattle.claims.specs.SwapTwice.{SwapTwice}
use Rattle.claims.proofs.Outcome.{outcome}
use Rattle.claims.proofs.SomeRuns.{some_start, some_a, some_b}

pub swap_twice : SwapTwice
swap_twice = record { runs = outcome; some_start = some_start; some_a = some_a; some_b = some_b }
