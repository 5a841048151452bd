use Rattle.std.proofs.Common.{arith, ap, ◌∙◌, Err}
use Rattle.std.proofs.lemmas.Result.{err_from_is_err_and}
use Rattle.text.proofs.Numerals.{bad, large, again, done}
use Rattle.text.proofs.number.digits_of.Goals as goal

pub returns-in_err-digit : goal.returns-in_err-digit
returns-in_err-digit c =
    let p = err_from_is_err_and c.from_residual.result c.from_residual.ensures.1 in
    let none = c.in_err-digit.ensures.ok_part in
    p.1 ∙ ap Err p.2 ∙ (rw none at c.in_err-digit.ensures.value)
    ∙ bad _ _ _ 0 _ (omega arith) c.loop-byte.invariant.1 c.requires.upper_bound c.loop-byte-test.true
    (rw (← c.from.ensures) (rw none at c.to_digit.ensures.value))

pub returns-then-value-gt-LARGEST : goal.returns-then-value-gt-LARGEST
returns-then-value-gt-LARGEST c =
    large _ _ _ _ _ (omega arith) c.loop-byte.invariant.1 c.requires.upper_bound c.loop-byte-test.true
    (rw (← c.from.ensures) (rw c.in_ok-digit.ensures.ok_part at c.to_digit.ensures.value)) c.if-value-gt-LARGEST.true

pub loop-byte-preserved : goal.loop-byte-preserved
loop-byte-preserved c = (
  omega arith,
  again _ _ _ _ _ (omega arith) c.loop-byte.invariant.1 c.requires.upper_bound c.loop-byte-test.true
      (rw (← c.from.ensures) (rw c.in_ok-digit.ensures.ok_part at c.to_digit.ensures.value)) c.if-value-gt-LARGEST.false,
)

pub returns : goal.returns
returns c = done _ _ _ 0 _ (grind arith) c.loop-byte.invariant.1 c.loop-byte-test.false
