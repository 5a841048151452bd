use Rattle.std.proofs.Common.{sym, ◌∙◌}
use Rattle.console.proofs.Runs.{over, turn}
use Rattle.console.proofs.step.go.Goals as goal

pub loop-preserved : goal.loop-preserved
loop-preserved c = c.loop.invariant ∙ turn _ c.loop.counter _ _ c.loop-test.true c.advance-run.ensures

pub returns : goal.returns
returns c = over _ _ _ c.loop-test.false ∙ sym c.loop.invariant
