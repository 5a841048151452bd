use Rattle.std.proofs.Common.{List, ℕ, ap, ◌∙◌}
use Rattle.text.proofs.Cuts.{then}
use Rattle.lines.specs.Files.{length_text, reason_text}
use Rattle.lines.proofs.Whole.{as_much}
use Rattle.lines.proofs.files.length_fault.Goals as goal

pub returns : goal.returns
returns c =
    let file = c.as_bytes.ensures.value ∙ c.part_name-file.ensures.cut in
    let has = c.length_text.ensures ∙ ap (λ (n : List ℕ). length_text n c.args.got) file ∙ as_much _ _ in
    c.reason.ensures
    ∙ ap (λ (t : List ℕ). reason_text t c.args.part c.args.got)
    (then _ (then _ (then _ has c.text.ensures) c.digits.ensures) c.text-line.ensures)
