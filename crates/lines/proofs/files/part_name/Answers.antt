use Rattle.std.proofs.Common.{List, ℕ, [], ap, ◌∙◌}
use Rattle.text.proofs.Cuts.{then}
use Rattle.text.specs.Shown.{◌⊕◌}
use Rattle.lines.proofs.Whole.{named, named_whole}
use Rattle.lines.proofs.files.part_name.Goals as goal

pub returns-clause-cut : goal.returns-clause-cut
returns-clause-cut c =
    then _ c.from.ensures c.text.ensures
    ∙ ap (λ (s : List ℕ). [] ⊕ c.args.name.now ⊕ s) c.suffix.ensures ∙ named _ _

pub returns-clause-whole : goal.returns-clause-whole
returns-clause-whole c h = returns-clause-cut c ∙ named_whole _ _ h
