use Rattle.std.proofs.Common.{sym}
use Rattle.reu.proofs.direct.cycle.Goals as goal

pub returns-then-fields-eq0 : goal.returns-then-fields-eq0
returns-then-fields-eq0 c = λ low. rw (sym c.in_ok-fields.ensures.cases.same) (c.rest.ensures c.args.cycle low)

pub returns-else-fields-eq0 : goal.returns-else-fields-eq0
returns-else-fields-eq0 c = rw (sym c.in_ok-fields.ensures.cases.same) c.go_on.ensures
