use Rattle.std.proofs.Common.{◌≡◌, ◌-◌}
use Rattle.text.specs.Faults.{faults_from, faults_of}
use Rattle.text.specs.Typed.{words_of}
use Rattle.text.proofs.faults.numbers.Given as goal

abbrev pub invariant-loop-i : goal.invariant-loop-i
invariant-loop-i l = faults_of l.line l.fn.from l.most ≡ faults_from (words_of l.line - l.i) l.i l.line l.most
