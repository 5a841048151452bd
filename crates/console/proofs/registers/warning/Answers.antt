use Rattle.std.proofs.Common.{rules, ap, ne_eqb, Some}
use Rattle.text.proofs.Cuts.{then}
use Rattle.console.proofs.Runs.{some_code}
use Rattle.console.specs.Registers.{warning_of}
use Rattle.console.proofs.registers.warning.Goals as goal

pub returns-in-Err : goal.returns-in-Err
unfolding warning_of
returns-in-Err c =
    rw (
      ← c.reu_storage_present.ensures,
      ne_eqb _ 0 (some_code c.in-Err.ensures.0),
      c.in-Err.ensures.0,
      ← c.in-Err.ensures.1,
    )
    (search (rules, then))

pub returns-in-Ok-eq0 : goal.returns-in-Ok-eq0
unfolding warning_of
returns-in-Ok-eq0 c =
    rw (← c.reu_storage_present.ensures, ← c.in-Ok-eq0.ensures.1, c.in-Ok-eq0.field-0-test)
    (ap Some (then _ c.new-line.ensures c.text.ensures))
