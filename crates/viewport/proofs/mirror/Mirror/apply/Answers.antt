use Rattle.std.proofs.Common.{◌≡◌, subst, sym}
use Rattle.viewport.proofs.mirror.Mirror.apply.Goals as goal

-- the change makes of the mirror's table what it makes of the mirror
pub returns-clause-exact : goal.returns-clause-exact
returns-clause-exact c tick lawful from told =
    c.in_ok-table.ensures.exact tick lawful (subst (λ self. self.new ≡ tick.old) (sym c.self.view_is) from) told
