use Rattle.std.proofs.Common.{◌≡◌, ℕ, ◌%◌, ◌^◌, bit_and, ap, ◌∙◌, arith}
use Rattle.transfer.specs.Memory.{lines}
use Rattle.transfer.proofs.Sizes.{fold_some, fold_all}
use Rattle.transfer.proofs.memory.ExpansionAddress.physical_offset.Goals as goal
use Rattle.transfer.proofs.memory.ExpansionAddress.physical_offset.Goals.{then-connected-lt32, else-connected-lt32}

pub returns : goal.returns
returns c =
    let a = c.args.self.0 in
    let folded : bit_and c.args.self.0 c.if-connected-lt32.kept ≡ c.args.self.0 % 2 ^ c.lines-connected.result
    = elim c.if-connected-lt32.branch [
      | then-connected-lt32 w ↦ ap (bit_and a) w.kept-is ∙ fold_some a c.lines-connected.result w.if-connected-lt32.true
      | else-connected-lt32 w ↦ ap (bit_and a) w.kept-is ∙ fold_all a c.lines-connected.result (omega arith) w.if-connected-lt32.false
    ] in
    ap (λ (n : ℕ). record { 0 = n }) (folded ∙ ap (λ (k : ℕ). a % 2 ^ k) (c.lines-connected.ensures ∙ ap lines c.from.ensures))
