use Rattle.std.proofs.Common.{ℕ, List, eqb, take, drop, ap, ◌∙◌, ◌&&◌}
use Rattle.std.specs.Int.{w64, from_le_bytes}
use Rattle.image.specs.Fields.{lifted}
use Rattle.image.specs.Layout.{at, fields, kind, transfer_fields}
use Rattle.image.specs.Open.{all_zero}
use Rattle.image.proofs.ByBytes.{listed, idle_bytes}
use Rattle.image.proofs.unpack.idle_ok.Goals as goal

pub returns : goal.returns
returns c =
    let s = c.args.image.now in
    (λ i. eqb ((c.from_le_bytes-front.ensures ∙ ap (from_le_bytes w64) c.bytes.ensures) i) 0 && eqb ((c.from_le_bytes-back.ensures ∙ ap (from_le_bytes w64) c.bytes-2.ensures) i) 0)
    ∙ idle_bytes s ∙ ap (λ (l : List ℕ). eqb (at s 21) 0 && all_zero (take transfer_fields (drop kind (lifted fields l)))) (listed s c.told-image)
