use Rattle.std.proofs.Common.{sym, ◌∙◌, rules, eq-eqb, ne_eqb}
use Rattle.text.proofs.Cuts.{then}
use Rattle.console.proofs.Runs.{some_code}
use Rattle.console.specs.Step.{run_text}
use Rattle.console.proofs.step.run_text.Goals as goal

pub returns-in-Ok-eq0 : goal.returns-in-Ok-eq0
unfolding run_text
returns-in-Ok-eq0 c =
    rw (← c.reu_dma_active.ensures, eq-eqb _ 0 (sym c.in-Ok-eq0.ensures.1 ∙ c.in-Ok-eq0.field-0-test))
    (search (rules, then) depth 8)

pub returns-in-Ok : goal.returns-in-Ok
unfolding run_text
returns-in-Ok c =
    rw (
      ← c.reu_dma_active.ensures,
      ne_eqb _ 0 (λ e. c.in-Ok.field-0-test.1 (c.in-Ok.ensures.1 ∙ e)),
      c.in-Ok.ensures.0,
    )
    (search (rules, then) depth 8)

pub returns-in-Err : goal.returns-in-Err
unfolding run_text
returns-in-Err c =
    rw (
      ← c.reu_dma_active.ensures,
      ne_eqb _ 0 (some_code c.in-Err.ensures.0),
      c.in-Err.ensures.0,
      ← c.in-Err.ensures.1,
    )
    (search (rules, then) depth 8)
