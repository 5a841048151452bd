-- Cycles one after another: one is played, and the rest are to come.
use Rattle.std.proofs.Common.{◌≡◌, ℕ, suc, ◌+◌, ◌-◌, ◌<◌, ap, arith}
use Rattle.script.specs.declared.rows.Inputs.{Inputs}
use Rattle.script.specs.Operations.{Played, and_then, cycle_row, play_cycles}

-- cycles up to a last one that is left out
pub tick : (inputs : Inputs) (answer n last : ℕ) (x : Played) → n < last
    → play_cycles inputs answer (last - n) n x ≡ play_cycles inputs answer (last - (n + 1)) (n + 1) (and_then x (cycle_row inputs answer n))
unfolding play_cycles
tick inputs answer n last x h =
    let more : last - n ≡ suc (last - (n + 1)) = omega arith in
    ap (λ (k : ℕ). play_cycles inputs answer k n x) more
