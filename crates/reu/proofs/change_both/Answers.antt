use Rattle.std.proofs.Common.{rules}
use Rattle.reu.proofs.Families.{both_refused, both_done, kept_by, bytes_of}
use Rattle.reu.proofs.Keeping.{numbered_left}
use Rattle.reu.proofs.change_both.Goals as goal

pub finish-requires : goal.finish-requires
finish-requires g c =
    kept_by c.args.image.now c.in-Ok.reu c.in-Ok.ensures c.numbered.result (λ j. search rules)
    (λ t w. numbered_left c.in-Ok.reu c.call-answer.result c.numbered.result (c.numbered.ensures c.in-Ok.reu)
    (c.requires.keeps _ _ _ _ _ _ t w (bytes_of c.args.bus.now (λ j. search rules)) (bytes_of c.args.storage.now (λ j. search rules)) c.call-answer.ensures))

pub returns-in-Ok : goal.returns-in-Ok
returns-in-Ok g c =
    λ f h. both_done c.args.image.now c.in-Ok.reu c.in-Ok.ensures c.args.bus.now c.args.storage.now _ _ f c.call-answer.result c.numbered.result _ _ _ (h _ _ _ _ _ _ c.call-answer.ensures) (c.numbered.ensures c.in-Ok.reu) (c.handed.ensures c.in-Ok.reu) c.finish.ensures

pub returns-in-Err : goal.returns-in-Err
returns-in-Err g c = λ f h. both_refused c.args.image.now c.in-Err.reason c.in-Err.ensures c.args.bus.now c.args.storage.now f _ c.refused.ensures
