use Rattle.std.proofs.Common.{◌≡◌, ℕ, ap, ◌∙◌, sym, rules, bit_and}
use Rattle.image.proofs.InPlace.{moving}
use Rattle.image.proofs.in_place.moves.Goals as goal

pub returns : goal.returns
returns c =
    let h : bit_and c.length_to_phase.result 0xFEFCFFFFF1640000 ≡ 0x10000040000 = search rules in
    λ e. moving c.args.image.now c.told-image (λ j. search rules) c.args.bus c.args.storage (search rules) (c.sized.ensures e)
    (ap (λ (n : ℕ). bit_and n 0xFEFCFFFFF1640000) (sym c.length_to_phase.ensures) ∙ h) (search rules) (λ q. search rules)
