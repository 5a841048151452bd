use Rattle.std.proofs.Common.{rules}
use Rattle.text.proofs.Numerals.{small}
use Rattle.text.proofs.faults.value.Goals as goal

pub returns-clause-upper_bound : goal.returns-clause-upper_bound
returns-clause-upper_bound c = search (rules, small c.args.word.now)
