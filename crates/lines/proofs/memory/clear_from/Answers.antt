-- Bytes cleared from a place on.
use Rattle.std.proofs.Common.{◌≡◌, ℕ, ◌≤◌, List, ◌++◌, length, sym, ◌∙◌, append-nil, drop_of_length-le, take_all}
use Rattle.transfer.specs.Memory.{zeros}
use Rattle.lines.specs.Memory.{cleared_from}
use Rattle.lines.proofs.memory.clear_from.Goals as goal

-- there is none
nothing_there : (n : ℕ) (m : List ℕ) → length m ≤ n → m ≡ cleared_from n m
unfolding zeros
nothing_there n m h =
    sym ((λ j. take_all n m h j ++ zeros (drop_of_length-le m {i = n} h j)) ∙ append-nil m)

pub returns-else-from-memory : goal.returns-else-from-memory
returns-else-from-memory c = nothing_there c.args.from c.args.memory.now c.if-from-memory.false
