use Rattle.std.proofs.Common.{rules}
use Rattle.reu.specs.Exports.{flag}
use Rattle.reu.proofs.Keeping.{set_enabled_keeps}
use Rattle.reu.proofs.reu_set_enabled.Goals as goal

pub change_storage-requires-clause-keeps : goal.change_storage-requires-clause-keeps
change_storage-requires-clause-keeps c = λ u s t r typed w p. set_enabled_keeps u r typed w s.now t.now (flag c.args.enabled) (search rules)
