use Rattle.std.proofs.Common.{◌≡◌, ℕ, ap, ◌∙◌, sym, rules, bit_and}
use Rattle.std.specs.Int.{w64, from_le_bytes}
use Rattle.image.proofs.InPlace.{resting}
use Rattle.image.proofs.in_place.rests.Goals as goal

pub returns : goal.returns
returns c =
    let h : bit_and c.length_to_phase.result 0xFFFFFFFFF0400000 ≡ 0 = search rules in
    let z : c.from_le_bytes.result ≡ 0 = search rules in
    λ e. resting c.args.image.now c.told-image (λ j. search rules) c.args.bus c.args.storage (search rules) (c.sized.ensures e)
    (ap (λ (n : ℕ). bit_and n 0xFFFFFFFFF0400000) (sym c.length_to_phase.ensures) ∙ h)
    (sym (c.from_le_bytes.ensures ∙ ap (from_le_bytes w64) c.bytes.ensures) ∙ z) (search rules)
