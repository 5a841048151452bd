use Rattle.std.proofs.Common.{◌≡◌, false, drop}
use Rattle.text.specs.Shown.{◌⊕◌, text_of, bits_from}
use Rattle.text.proofs.line.Line.bits.Given as goal

abbrev pub invariant-loop-next : goal.invariant-loop-next
invariant-loop-next l =
    text_of l.initial.line ⊕ bits_from false l.template l.byte
    ≡ text_of l.line ⊕ bits_from l.named (drop l.next-index l.template) l.byte
