-- What is still to be made gives what all the stores give.
use Rattle.std.proofs.Common.{◌≡◌, length, drop}
use Rattle.regs.specs.Stores.{made}
use Rattle.regs.proofs.stores.made.Given as goal

abbrev pub invariant-loop-one : goal.invariant-loop-one
invariant-loop-one l = (length l.regs ≡ 11) × (made (drop l.one-index l.fn.stores) l.regs ≡ made l.fn.stores l.fn.regs)
