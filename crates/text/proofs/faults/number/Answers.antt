use Rattle.std.proofs.Common.{rules, sym, ◌∙◌, ap, Err}
use Rattle.text.specs.Shown.{◌⊕◌, fill_from}
use Rattle.text.proofs.Said.{bad_said, large_said, over_said}
use Rattle.text.proofs.faults.number.Goals as goal

pub returns-in-Ok-2-clause-says : goal.returns-in-Ok-2-clause-says
returns-in-Ok-2-clause-says c =
    over_said _ c.args.word.now c.args.most (sym c.in-Ok.is ∙ c.value_of.ensures) c.if-value-most.false c.larger.ensures

pub returns-in-Err-TooLarge-clause-says : goal.returns-in-Err-TooLarge-clause-says
returns-in-Err-TooLarge-clause-says c =
    large_said c.args.word.now c.args.most (ap Err (sym c.in-Err-TooLarge.field-0-is) ∙ sym c.in-Err-TooLarge.is ∙ c.value_of.ensures)
    c.larger-in-Err-TooLarge.ensures

pub returns-in-Err-Bad-clause-says : goal.returns-in-Err-Bad-clause-says
unfolding ◌⊕◌ fill_from
returns-in-Err-Bad-clause-says c =
    bad_said c.args.word.now c.args.most (ap Err (sym c.in-Err-Bad.field-0-is) ∙ sym c.in-Err-Bad.is ∙ c.value_of.ensures) (search rules)
