use Rattle.std.proofs.Common.{ℕ, List, true, ap, ◌∙◌}
use Rattle.reu.specs.Exports.{reu_cycle}
use Rattle.reu.proofs.reu_run_reu_cycle.Goals as goal

-- no short way was taken: nothing has changed
pub returns-in-None : goal.returns-in-None
returns-in-None c =
    c.plain_cycle.ensures
    ∙ ap (λ (x : List ℕ × List ℕ × List ℕ). reu_cycle x.0 x.1 x.2 c.args.ba_high c.args.cycle c.args.ba_low c.args.ba_high_phi1) (c.in-None.ensures true)
