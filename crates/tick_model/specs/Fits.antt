-- Whether tables may be the sources of a plan.
--     fit_sources plan sources      one table for each source, in order of the nodes' numbers: of its width, with at most 4,194,304 rows, whole ones, under rising keys below 2 ^ 40
use Rattle.std.{specs.Prelude.{ℕ, ◌^◌, ◌==◌, ◌&&◌, Bool, true, false, List, [], ◌∷◌, length, filter, nat_lt, nat_le}, specs.List.list_all}
use Rattle.tick_model.{specs.declared.plan.Node.Node, specs.declared.plan.Plan.Plan, specs.declared.table.PlainRow.PlainRow, specs.declared.table.PlainTable.PlainTable, specs.Tables.keys, specs.Plans.rises, specs.Evaluation.is_source}

abbrev pub is_source_row : ℕ → PlainRow → Bool
is_source_row width row = nat_lt row.key (2 ^ 40) && (length row.cells == width)

abbrev pub is_source_table : ℕ → PlainTable → Bool
is_source_table width table = (table.width == width) && nat_le (length table.rows) 4194304 && rises (keys table.rows) && list_all (is_source_row width) table.rows

abbrev pub are_source_tables : List Node → List PlainTable → Bool
are_source_tables [] [] = true
are_source_tables [] (table ∷ tables) = false
are_source_tables (source ∷ others) [] = false
are_source_tables (source ∷ others) (table ∷ tables) = is_source_table (length source.columns) table && are_source_tables others tables

abbrev pub fit_sources : Plan → List PlainTable → Bool
fit_sources plan sources = are_source_tables (filter is_source plan.nodes) sources
