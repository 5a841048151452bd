use Rattle.std.proofs.Common.{◌≡◌, drop}
use Rattle.text.specs.Shown.{◌⊕◌, text_of, fill_from}
use Rattle.text.proofs.line.Line.fill.Given as goal

abbrev pub invariant-loop-next : goal.invariant-loop-next
invariant-loop-next l =
    text_of l.initial.line ⊕ fill_from l.template l.word ≡ text_of l.line ⊕ fill_from (drop l.next-index l.template) l.word
