-- A merge of tables that tick.
--     merged inputs      the tick of the merge, from those of its inputs
--     merged_in version inputs      the table of the merge, before the step or now
--     rows_in inputs      how many rows they have together
--     Merging      how many inputs a merge has, and of what width
--     Merger      the same, and the keys of the merged rows
use Rattle.std.specs.Prelude.{ℕ, List, length, map, sum_by}
use Rattle.tick_model.{specs.declared.table.PlainTable.PlainTable, specs.Merge.{merge_pairs, merge_table}, specs.Updates.Tick}
use Rattle.tick_table.{specs.declared.version.Version.Version, specs.Exact.tick_of, specs.Ticking.Ticking, specs.Versions.table_in}
use Rattle.table_operator.specs.Inputs.{news, olds}

pub record Merging : Type 0 where
  pub count : ℕ
  pub width : ℕ

pub record Merger : Type 0 where
  pub count : ℕ
  pub width : ℕ
  pub shown : List ℕ

abbrev pub merged : List Ticking → Tick
merged inputs = record { old = merge_table (olds inputs); new = merge_table (news inputs); kept = merge_pairs (map tick_of inputs) }

abbrev pub merged_in : Version → List Ticking → PlainTable
merged_in version inputs = merge_table (map (table_in version) inputs)

abbrev pub rows_in : List Ticking → ℕ
rows_in = sum_by (λ input. length input.new.rows)
