use Rattle.std.proofs.Common.{refl, ap₂, ◌∙◌, List, ℤ}
use Rattle.std.{specs.Arc.arc_value, proofs.lemmas.Result.on_ok_weaker}
use Rattle.tick_laws.proofs.SourceTicks.{unchanged_tick}
use Rattle.tick_model.{specs.Changes.Change, specs.Sources.unchanged, specs.Updates.Update}
use Rattle.tick_table.specs.Ticking.{Ticking}
use Rattle.update_graph.{proofs.Changing.{change_fits, change_lawful}, proofs.Staying.no_change}
use Rattle.update_graph.proofs.sources.rest_table.Goals as goal

pub change_table-requires-clause-lawful : goal.change_table-requires-clause-lawful
change_table-requires-clause-lawful c =
    let table = (arc_value {X = Ticking} c.args.table.now).new in
    change_lawful (unchanged table) (unchanged_tick table c.requires.tick.new_table) table refl (record { update = c.none.result; cells = c.new.result })
    (ap₂ (λ (update : Update) (cells : List ℤ). let change : Change = record { update = update; cells = cells } in change) c.none.ensures c.new.ensures ∙ no_change table)

pub change_table-requires-clause-whole : goal.change_table-requires-clause-whole
change_table-requires-clause-whole c =
    let table = (arc_value {X = Ticking} c.args.table.now).new in
    change_fits (unchanged table) (unchanged_tick table c.requires.tick.new_table) table refl (record { update = c.none.result; cells = c.new.result })
    (ap₂ (λ (update : Update) (cells : List ℤ). let change : Change = record { update = update; cells = cells } in change) c.none.ensures c.new.ensures ∙ no_change table)

pub returns : goal.returns
returns c =
    let table = (arc_value {X = Ticking} c.args.table.now).new in
    on_ok_weaker c.change_table.result (λ is. is (unchanged table) (unchanged_tick table c.requires.tick.new_table) refl
    (ap₂ (λ (update : Update) (cells : List ℤ). let change : Change = record { update = update; cells = cells } in change) c.none.ensures c.new.ensures ∙ no_change table)) c.change_table.ensures
