use Rattle.std.proofs.Common.{rules, tests, ◌∙◌, sym}
use Rattle.std.proofs.lemmas.Iterator.Consumers.{YieldsList-at, YieldsList-from_filter, count_from_yields_List}
use Rattle.std.proofs.lemmas.Iterator.Splits.{YieldsList-from_slice_split}
use Rattle.text.specs.Typed.{is_blank}
use Rattle.text.proofs.Parts.{some, words_are, words_within}
use Rattle.text.proofs.words.word_count.Goals as goal

pub returns-clause-value : goal.returns-clause-value
returns-clause-value c =
    count_from_yields_List _ _ c.count.ensures.ran
    (YieldsList-from_filter _ some
    (YieldsList-at c.filter.ensures.source
    (YieldsList-from_slice_split _ is_blank c.args.line.now c.split.ensures.rest c.split.ensures.done c.split.ensures.closure
    (λ x r q k. search (rules, tests))))
    c.filter.ensures.closure (λ x r q k. search (rules, tests)))
    ∙ sym (words_are c.args.line.now)

pub returns-clause-upper_bound : goal.returns-clause-upper_bound
returns-clause-upper_bound c = rw (returns-clause-value c) (words_within c.args.line.now)
