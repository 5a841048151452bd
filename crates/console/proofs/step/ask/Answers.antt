use Rattle.std.proofs.lemmas.Result.{err_from_is_err_and}
use Rattle.console.proofs.Runs.{asked, unasked}
use Rattle.console.proofs.step.ask.Goals as goal

pub returns-in_err-grant : goal.returns-in_err-grant
returns-in_err-grant c =
    let p = err_from_is_err_and c.from_residual.result c.from_residual.ensures.1 in
    rw (p.1, p.2)
    (unasked c.args.inputs c.args.number c.args.image.now c.args.storage.now
    c.copied-copy.ensures.value c.from-high.ensures c.from-phi1.ensures c.reu_bus_action.ensures c.in_err-grant.ensures)

pub returns : goal.returns
returns c =
    asked c.args.inputs c.args.number c.args.image.now c.args.storage.now
    c.copied-copy.ensures.value c.from-high.ensures c.from-phi1.ensures c.reu_bus_action.ensures c.in_ok-grant.ensures
    c.action_in.ensures c.access_ready.ensures c.transfer_expansion.ensures c.size_in.ensures.value
