use Rattle.std.proofs.Common.{◌-◌, ◌≤◌, length}
use Rattle.monitor.proofs.files.read_full.Given as goal

abbrev pub invariant-loop-count : goal.invariant-loop-count
invariant-loop-count g l = l.done ≤ length l.bytes

abbrev pub decreases-loop-count : goal.decreases-loop-count
decreases-loop-count g l = length l.bytes - l.done
