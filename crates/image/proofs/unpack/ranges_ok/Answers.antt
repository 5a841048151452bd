use Rattle.std.proofs.Common.{rules, true, [], ◌∷◌, ltb, sym, ◌∙◌}
use Rattle.image.specs.Layout.{at, place_of, more_flags, delay, transfer, kind, phase, options}
use Rattle.image.proofs.Fields.{all_from_lem}
use Rattle.image.proofs.ByBytes.{ranges_are}
use Rattle.image.proofs.unpack.ranges_ok.Goals as goal

pub returns : goal.returns
returns c =
    let s = c.args.image.now in
    all_from_lem true
    (ltb (at s (place_of more_flags)) 12 ∷ ltb (at s (place_of delay)) 3 ∷ ltb (at s (place_of transfer)) 2 ∷ ltb (at s (place_of kind)) 4 ∷ ltb (at s (place_of phase)) 2 ∷ ltb (at s (place_of options)) 64 ∷ [])
    ∙ sym (ranges_are s c.told-image (λ j. search rules))
