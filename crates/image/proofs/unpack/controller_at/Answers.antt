use Rattle.std.proofs.Common.{◌≡◌, ℕ, List, sym, ap, ◌∙◌, arith}
use Rattle.std.specs.Int.{w32, from_le_bytes}
use Rattle.image.specs.Radix.{joined}
use Rattle.image.specs.Fields.{lifted, radices}
use Rattle.image.specs.Inner.{gets}
use Rattle.image.specs.Layout.{fields, dma_in, reu_at}
use Rattle.image.proofs.ByBytes.{listed}
use Rattle.image.proofs.unpack.controller_at.Goals as goal

pub returns : goal.returns
unfolding reu_at
returns c =
    let s = c.args.image.now in
    let out = listed s c.told-image in
    let granted : c.from_le_bytes.result ≡ joined (radices 4) (gets 33 4 s) = c.from_le_bytes.ensures ∙ ap (from_le_bytes w32) c.bytes-2.ensures ∙ omega arith in
    let dma : c.dma_at.result ≡ dma_in (lifted fields (gets 0 37 s)) = c.dma_at.ensures ∙ ap (λ (l : List ℕ). dma_in (lifted fields l)) (sym out) in
    simp (c.size_of.ensures, granted, c.word-2.ensures, c.three.ensures, c.word.ensures, dma, c.bytes.ensures) (ap reu_at out)
