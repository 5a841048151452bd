use Rattle.std.proofs.Common.{◌≡◌, ◌-◌}
use Rattle.console.specs.Step.{go_of}
use Rattle.console.proofs.step.go.Given as goal

abbrev pub invariant-loop : goal.invariant-loop
invariant-loop l =
    go_of l.limit (l.initial.run, l.initial.image, l.initial.bus, l.initial.storage)
    ≡ go_of (l.limit - l.counter) (l.run, l.image, l.bus, l.storage)
