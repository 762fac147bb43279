use Rattle.std.proofs.Common.{ap, ◌∙◌}
use Rattle.tick_table.specs.Ticking.{Ticking}
use Rattle.tick_table.proofs.table.TickTable.bring_on.Goals as goal

pub returns-clause-exact : goal.returns-clause-exact
returns-clause-exact c tick h old change =
    c.drop.view_is ∙ c.in_ok-self-inside.ensures.exact tick h (ap (λ (table : Ticking). table.new) c.replace-table.ensures.value ∙ old) change
