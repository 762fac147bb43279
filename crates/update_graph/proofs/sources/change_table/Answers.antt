use Rattle.std.proofs.Common.{rules, ◌≡◌, ap, ◌∙◌}
use Rattle.std.specs.Arc.{arc_value}
use Rattle.tick_table.specs.Ticking.{Ticking}
use Rattle.update_graph.proofs.sources.change_table.Goals as goal

pub returns-in_ok-table-in-None : goal.returns-in_ok-table-in-None
returns-in_ok-table-in-None c tick is old change =
    let own : c.in_ok-own-in-None.own ≡ arc_value {X = Ticking} c.args.table.now = search rules in
    c.in_ok-table-in-None.ensures.ok ∙ c.in_ok-bring_on-in-None.ensures.exact tick is (ap (λ (table : Ticking). table.new) own ∙ old) change
