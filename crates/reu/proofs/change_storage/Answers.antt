use Rattle.reu.proofs.Families.{storage_refused, storage_done}
use Rattle.reu.proofs.change_storage.Goals as goal

pub returns-in-Ok : goal.returns-in-Ok
returns-in-Ok g c =
    λ f h. storage_done c.args.image.now c.in-Ok.reu c.in-Ok.ensures c.args.storage.now _ f c.call.result _ _ (h _ _ _ _ c.call.ensures) c.finish.ensures

pub returns-in-Err : goal.returns-in-Err
returns-in-Err g c = λ f h. storage_refused c.args.image.now c.in-Err.reason c.in-Err.ensures c.args.storage.now f _ c.refused.ensures
