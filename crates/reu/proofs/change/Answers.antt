use Rattle.reu.proofs.Families.{change_refused, change_done}
use Rattle.reu.proofs.change.Goals as goal

pub returns-in-Ok : goal.returns-in-Ok
returns-in-Ok g c =
    λ f h. change_done c.args.image.now c.in-Ok.reu c.in-Ok.ensures f c.call.result _ _ (h _ _ c.call.ensures) c.finish.ensures

pub returns-in-Err : goal.returns-in-Err
returns-in-Err g c = λ f h. change_refused c.args.image.now c.in-Err.reason c.in-Err.ensures f _ c.refused.ensures
