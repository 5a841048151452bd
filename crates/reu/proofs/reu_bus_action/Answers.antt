use Rattle.std.proofs.Common.{rules}
use Rattle.reu.specs.Exports.{flag}
use Rattle.reu.proofs.Keeping.{bus_action_keeps}
use Rattle.reu.proofs.reu_bus_action.Goals as goal

pub change_storage-requires-clause-keeps : goal.change_storage-requires-clause-keeps
change_storage-requires-clause-keeps c =
    λ u s t r typed w p. bus_action_keeps u r typed w s.now t.now (flag c.args.ba_high) (flag c.args.ba_high_phi1) c.args.cycle (search rules)
