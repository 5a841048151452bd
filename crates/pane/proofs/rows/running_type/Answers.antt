use Rattle.std.proofs.Common.{rules, ◌≡◌, min}
use Rattle.pane.proofs.Types.{of_image}
use Rattle.pane.proofs.rows.running_type.Goals as goal

pub returns : goal.returns
returns c =
    let least : c.min.result ≡ min c.byte.result 3 = search rules in
    rw (c.from_command.ensures, least, c.byte.ensures) (of_image _)
