-- The inputs of an operator, in a list.
--     tables shared      the tables that several may read
--     olds inputs, news inputs      what they were before the step, and what they are now
--     counted_in inputs      what their updates count
--     tick_in inputs      the tick of each input by its number in the list
use Rattle.std.{specs.Prelude.{ℕ, List, [], map, slice_index_or, sum_by}, specs.Arc.arc_value, specs.declared.alloc.Global.Global, specs.declared.sync.Arc.Arc}
use Rattle.tick_model.{specs.declared.table.PlainTable.PlainTable, specs.Tables.no_table, specs.Updates.Tick}
use Rattle.tick_table.{specs.Exact.counted, specs.Ticking.Ticking}

abbrev pub tables : List (Arc Ticking Global) → List Ticking
tables = map (λ shared. arc_value {X = Ticking} shared)

abbrev pub olds : List Ticking → List PlainTable
olds = map (λ input. input.old)

abbrev pub news : List Ticking → List PlainTable
news = map (λ input. input.new)

abbrev pub counted_in : List Ticking → ℕ
counted_in = sum_by (λ input. counted input.update)

abbrev pub tick_in : List Tick → ℕ → Tick
tick_in ticks input = slice_index_or ticks input (record { old = no_table; new = no_table; kept = [] })
