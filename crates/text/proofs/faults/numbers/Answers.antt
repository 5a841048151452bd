use Rattle.std.proofs.Common.{arith}
use Rattle.std.proofs.lemmas.Result.{err_from_is_err_and}
use Rattle.text.proofs.Said.{fault_found, fault_more, fault_none}
use Rattle.text.proofs.faults.numbers.Goals as goal

pub returns-in_err-number : goal.returns-in_err-number
returns-in_err-number c =
    let p = err_from_is_err_and c.from_residual.result c.from_residual.ensures.1 in
    rw (p.1, p.2) (fault_found c.args.line.now c.loop-i.i c.args.most _ (omega arith) c.loop-i.invariant c.word.ensures.value c.in_err-number.ensures.says)

pub loop-i-preserved : goal.loop-i-preserved
loop-i-preserved c =
    fault_more c.args.line.now c.loop-i.i c.args.most _ (omega arith) c.loop-i.invariant c.word.ensures.value c.in_ok-number.ensures.says

pub returns : goal.returns
returns c = fault_none c.args.line.now c.loop-i.i c.args.most _ (omega arith) c.loop-i.invariant
