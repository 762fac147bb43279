use Rattle.std.proofs.Common.{ap, sym, ◌∙◌, subst}
use Rattle.std.specs.Arc.{arc_value}
use Rattle.tick_model.specs.Changes.{is_empty}
use Rattle.tick_table.{specs.Exact.IsExact, specs.Ticking.Ticking}
use Rattle.update_graph.{specs.declared.work.LiveNode.LiveNode, proofs.Staying.still_table}
use Rattle.update_graph.proofs.work.rest.Goals as goal

pub returns-then-is_empty-clause-table : goal.returns-then-is_empty-clause-table
returns-then-is_empty-clause-table c =
    let here = ap (λ (ready : LiveNode). arc_value {X = Ticking} ready.table) c.deref_mut.ensures.value in
    let same = c.update.ensures ∙ ap (λ (table : Ticking). table.update) (c.deref-2.ensures ∙ ap (λ (ready : LiveNode). arc_value {X = Ticking} ready.table) c.deref.ensures ∙ here) in
    here ∙ still_table (arc_value {X = Ticking} c.args.ready.value.table) c.requires (ap is_empty (sym same) ∙ sym c.is_empty.ensures ∙ c.if-is_empty.true)

pub rest_table-requires : goal.rest_table-requires
rest_table-requires c =
    let Holds : LiveNode → Type 0 = λ ready. IsExact (arc_value {X = Ticking} ready.table) in
    subst Holds (sym c.deref_mut-2.ensures.value) (subst Holds (sym c.deref_mut.ensures.value) c.requires)
