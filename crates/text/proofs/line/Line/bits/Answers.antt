use Rattle.std.proofs.Common.{add-one, drop-cons, drop_of_length-le}
use Rattle.text.specs.Shown.{bits_from}
use Rattle.text.proofs.Cuts.{onward, ended, within}
use Rattle.text.proofs.line.Line.bits.Goals as goal

pub loop-next-preserved : goal.loop-next-preserved
unfolding bits_from
loop-next-preserved c =
    onward _ _ _ (rw (add-one, c.shown.ensures, drop-cons c.args.template.now c.loop-next.next-index 0 c.loop-next-test.true))
    c.loop-next.invariant c.put-line.ensures

pub returns : goal.returns
unfolding bits_from
returns c = ended _ (within _ _ c.loop-next.line.fits) (rw (drop_of_length-le c.args.template.now c.loop-next-test.false)) c.loop-next.invariant
