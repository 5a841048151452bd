use Rattle.std.proofs.Common.{rules, ◌≡◌, ◌∙◌, ◌%◌, ap}
use Rattle.transfer.specs.Dma.{type_number}
use Rattle.text.specs.Bytes.{byte_at}
use Rattle.text.proofs.Cuts.{then}
use Rattle.pane.specs.Rows.{spelled, type_name}
use Rattle.pane.proofs.Types.{of_command}
use Rattle.pane.proofs.rows.spelled.Goals as goal

pub returns-in-1 : goal.returns-in-1
unfolding spelled
returns-in-1 c =
    let kind : c.type_name.result.now ≡ type_name (byte_at c.args.image.now 1 % 4) =
    c.type_name.ensures
    ∙ ap type_name (ap type_number c.from_command.ensures ∙ of_command c.byte-in-1-2.result ∙ ap (λ b. b % 4) c.byte-in-1-2.ensures) in
    rw c.in-1.is (then _ (rw c.byte-in-1.ensures at c.bits-in-1.ensures) (rw kind at c.text.ensures))

pub returns-in-9 : goal.returns-in-9
unfolding spelled
returns-in-9 c = rw (c.in-9.is, ← c.byte-in-9.ensures) (search (rules, then))
