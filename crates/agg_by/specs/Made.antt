-- An aggregation as an operator of a plan.
--     agg_made agg      what it is made of
--     KeepsFirst agg tables      it keeps the rows of its input
--     CanAggregate op widths      it can be made of this operator of a plan, for inputs of these widths
use Rattle.std.specs.Prelude.{ℕ, List, [], ◌∷◌, slice_index}
use Rattle.tick_model.{specs.declared.plan.Op.Op, specs.declared.plan.Op.TheVariants.Agg, specs.declared.table.PlainTable.PlainTable, specs.Ready.table_in}
use Rattle.table_operator.specs.Made.{Made}
use Rattle.agg_by.specs.Aggregator.{Grouping, IsAggregator, KeepsRows}

abbrev pub agg_made : Grouping → Made
agg_made agg = record { op = Agg 0 agg.by agg.aggs; widths = agg.width ∷ [] }

abbrev pub KeepsFirst : Grouping → List PlainTable → Type 0
KeepsFirst agg tables = KeepsRows agg (table_in tables 0)

abbrev pub CanAggregate : Op → List ℕ → Type 0
CanAggregate op widths = elim op [ Agg input by aggs ↦ IsAggregator by aggs (slice_index widths 0) | _ ↦ ⊥ ]
