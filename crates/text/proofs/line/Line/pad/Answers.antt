use Rattle.std.proofs.Common.{ℕ, ◌-◌, List, ap, length, replicate, ◌∙◌}
use Rattle.text.specs.Shown.{◌⊕◌, text_of}
use Rattle.text.proofs.Cuts.{blanks}
use Rattle.text.proofs.line.Line.pad.Goals as goal

pub returns : goal.returns
returns c =
    blanks _ _ _ c.text.ensures c.first.ensures
    ∙ ap (λ (n : ℕ). text_of c.args.self ⊕ replicate n 32) (c.saturating_sub-missing.ensures ∙ ap (λ (l : List ℕ). c.args.column - length l) c.as_bytes.ensures.value)
