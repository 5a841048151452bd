use Rattle.std.proofs.Common.{◌≡◌, ◌≤◌, drop}
use Rattle.text.specs.Typed.{digits_from}
use Rattle.text.proofs.number.digits_of.Given as goal

abbrev pub invariant-loop-byte : goal.invariant-loop-byte
invariant-loop-byte l =
    (l.value ≤ 16777215) × (digits_from l.base 0 l.s ≡ digits_from l.base l.value (drop l.byte-index l.s))
