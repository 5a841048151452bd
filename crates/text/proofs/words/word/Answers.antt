use Rattle.std.proofs.Common.{rules, tests, ◌∙◌, ap, Bor, List, [], ℕ}
use Rattle.std.proofs.lemmas.Iterator.Consumers.{YieldsList-at, YieldsList-from_filter, nth_from_yields_List}
use Rattle.std.proofs.lemmas.Iterator.Splits.{YieldsList-from_slice_split}
use Rattle.std.proofs.lemmas.Option.{unwrap_or-slice_get}
use Rattle.std.specs.Prelude.{Option}
use Rattle.std.specs.Option.{unwrap_or}
use Rattle.text.specs.Typed.{is_blank}
use Rattle.text.proofs.Parts.{shows, some, word_is, word_within}
use Rattle.text.proofs.words.word.Goals as goal

pub returns-clause-value : goal.returns-clause-value
returns-clause-value c =
    ap (λ (r : Bor (List ℕ)). r.now) c.unwrap_or.ensures
    ∙ shows (λ (r : Bor (List ℕ)). r.now) c.nth.result _
    ∙ ap (λ (o : Option (List ℕ)). unwrap_or o [])
    (nth_from_yields_List _ _ c.args.wanted c.nth.ensures.ran
    (YieldsList-from_filter _ some
    (YieldsList-at c.filter.ensures.source
    (YieldsList-from_slice_split _ is_blank c.args.line.now c.split.ensures.rest c.split.ensures.done c.split.ensures.closure
    (λ x r q k. search (rules, tests))))
    c.filter.ensures.closure (λ x r q k. search (rules, tests))))
    ∙ unwrap_or-slice_get _ c.args.wanted []
    ∙ word_is c.args.line.now c.args.wanted

pub returns-clause-upper_bound : goal.returns-clause-upper_bound
returns-clause-upper_bound c = rw (returns-clause-value c) (word_within c.args.line.now c.args.wanted)
