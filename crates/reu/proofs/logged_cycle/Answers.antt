use Rattle.std.proofs.Common.{rules}
use Rattle.reu.specs.Exports.{flag}
use Rattle.reu.proofs.Keeping.{cycle_keeps}
use Rattle.reu.proofs.logged_cycle.Goals as goal

pub change_both-requires-clause-keeps : goal.change_both-requires-clause-keeps
change_both-requires-clause-keeps c =
    λ u m s b t r typed w bm bs p. cycle_keeps u r typed w m.now s.now b.now t.now bm bs (flag c.args.ba_high) (flag c.args.ba_high_phi1) c.args.cycle (flag c.args.ba_low) (search rules)
