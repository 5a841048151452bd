use Rattle.std.proofs.Common.{ℕ, List, rules, ap, ◌∙◌}
use Rattle.reu.proofs.Families.{bytes_of}
use Rattle.reu.proofs.Ways.{rest_way}
use Rattle.reu.proofs.direct.rest.Goals as goal

pub returns : goal.returns
returns c =
    λ n low. ap (λ (l : List ℕ). (0, l, c.args.bus.now, c.args.storage.now)) c.remember.ensures
    ∙ rest_way c.args.image.now (bytes_of c.args.image.now (λ j. search rules)) c.told-image c.args.bus.now c.args.storage.now c.args.ba_high n low c.args.ba_high_phi1 (c.rests.ensures c.if-not-rests.false)
