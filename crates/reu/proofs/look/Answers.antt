use Rattle.reu.proofs.Families.{look_refused, look_done}
use Rattle.reu.proofs.look.Goals as goal

pub returns-in-Ok : goal.returns-in-Ok
returns-in-Ok g c = λ f h. look_done c.args.image.now c.in-Ok.reu c.in-Ok.ensures f _ (λ w. h _ _ w c.value.ensures)

pub returns-in-Err : goal.returns-in-Err
returns-in-Err g c = λ f h. look_refused c.args.image.now c.in-Err.reason c.in-Err.ensures f _ c.refused.ensures
