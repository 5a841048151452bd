use Rattle.std.proofs.Common.{rules, ◌≡◌, ◌∷◌, [], add-one, cond, drop-cons, drop_of_length-le, eqb, slice_index_or}
use Rattle.text.specs.Shown.{◌⊕◌, fill_from, text_of}
use Rattle.text.proofs.Cuts.{onward, ended, within}
use Rattle.text.proofs.line.Line.fill.Goals.{in-37, in_default}
use Rattle.text.proofs.line.Line.fill.Goals as goal

pub loop-next-preserved : goal.loop-next-preserved
unfolding fill_from
loop-next-preserved c =
    let next = slice_index_or c.args.template.now c.loop-next.next-index 0 in
    let put : text_of c.match-next.line ≡ text_of c.loop-next.line ⊕ cond (eqb next 37) c.args.word.now (next ∷ []) =
    elim c.match-next.branch [ in-37 w ↦ search rules | in_default w ↦ search rules ] in
    onward _ _ _ (rw (add-one, drop-cons c.args.template.now c.loop-next.next-index 0 c.loop-next-test.true)) c.loop-next.invariant put

pub returns : goal.returns
unfolding fill_from
returns c = ended _ (within _ _ c.loop-next.line.fits) (rw (drop_of_length-le c.args.template.now c.loop-next-test.false)) c.loop-next.invariant
