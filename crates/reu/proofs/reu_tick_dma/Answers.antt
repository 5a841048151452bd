use Rattle.std.proofs.Common.{rules}
use Rattle.reu.specs.Exports.{flag}
use Rattle.reu.proofs.Keeping.{tick_keeps}
use Rattle.reu.proofs.reu_tick_dma.Goals as goal

pub change_both-requires-clause-keeps : goal.change_both-requires-clause-keeps
change_both-requires-clause-keeps c =
    λ u m s b t r typed w bm bs p. tick_keeps u r typed w m.now s.now b.now t.now bm bs c.args.cycle (flag c.args.ba_low) (search rules)
