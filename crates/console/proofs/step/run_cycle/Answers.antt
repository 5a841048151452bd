use Rattle.std.proofs.Common.{refl}
use Rattle.std.proofs.lemmas.Result.{err_from_is_err_and}
use Rattle.console.proofs.Runs.{not_run, ran, ran_unasked, was_asked}
use Rattle.console.proofs.step.run_cycle.Goals as goal

pub returns-in_err-value : goal.returns-in_err-value
returns-in_err-value c =
    let p = err_from_is_err_and c.from_residual.result c.from_residual.ensures.1 in
    rw (p.1, p.2)
    (not_run c.args.inputs c.args.number c.args.image.now c.args.bus.now c.args.storage.now _ _ c.ask_before-asked.ensures
    c.from-high.ensures c.from-low.ensures c.from-phi1.ensures _ c.logged_cycle-logged.ensures c.in_err-value.ensures)

pub unreachable-requires : goal.unreachable-requires
unreachable-requires c =
    was_asked c.args.inputs c.args.number c.args.image.now c.args.bus.now c.args.storage.now _ _ c.ask_before-asked.ensures
    c.from-high.ensures c.from-low.ensures c.from-phi1.ensures _ c.logged_cycle-logged.ensures c.in_ok-value.ensures.0 c.in_default.is

pub returns-in_err-asked : goal.returns-in_err-asked
returns-in_err-asked c =
    let p = err_from_is_err_and c.from_residual-in_err-asked.result c.from_residual-in_err-asked.ensures.1 in
    rw (p.1, p.2)
    (ran_unasked c.args.inputs c.args.number c.args.image.now c.args.bus.now c.args.storage.now _ _ c.ask_before-asked.ensures
    c.from-high.ensures c.from-low.ensures c.from-phi1.ensures _ c.logged_cycle-logged.ensures c.in-Some.is c.in_ok-value.ensures.0 c.in_err-asked.was)

pub returns : goal.returns
returns c =
    ran c.args.inputs c.args.number c.args.image.now c.args.bus.now c.args.storage.now _ _ c.ask_before-asked.ensures
    c.from-high.ensures c.from-low.ensures c.from-phi1.ensures _ c.logged_cycle-logged.ensures c.in-Some.is c.in_ok-value.ensures c.in_ok-asked.was
    c.from.ensures refl
