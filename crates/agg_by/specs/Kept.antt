-- What is kept of an input's rows.
--     indexed by column rows      the rows by their key cells, and in each group in order of a column or of their keys
--     group_rows by cells rows      the rows with these key cells
--     agg_of running      the aggregate that is answered
--     cells_in by column rows named      the cells of a column that hold something, of the group that is named by its key cells
--     AreMade none make by names column rows entries      for each group by its number there is what is made of these
--     Answers by names rows running      what is kept for the aggregate is that of these rows
--     Are by names aggs rows running      these answer the aggregates of these rows; they are begun at the first step, before which there are no rows
--     Keeps kept rows      all that is kept is that of these rows
use Rattle.std.{specs.Prelude.{◌≡◌, ℕ, List, [], Option, None, Some, filter, length, map, ℤ, pos, ◌⊎◌}, specs.List.AllByRecursion, specs.Option.option_map_or}
use Rattle.agg_by.{specs.declared.kept.AggIndex.AggIndex, specs.declared.running.Accumulator.Accumulator, specs.declared.running.Accumulator.TheVariants.{Count, Sum, Min, Max, First, Last}, specs.ByNumber.at_number, specs.Sums.{no_total, total_of}, specs.Values.{in_order, opposites}}
use Rattle.row_groups.specs.Members.{Grouped, Member, Names, groups_of, member_of, name_at}
use Rattle.tick_model.{specs.Agg.{column_of, key_cells, present}, specs.Tables.{cell, same_cells}, specs.declared.plan.Agg.Agg, specs.declared.plan.Agg.TheVariants.{Count as CountAgg, Sum as SumAgg, Min as MinAgg, Max as MaxAgg, First as FirstAgg, Last as LastAgg}, specs.declared.table.PlainRow.PlainRow}

-- by what a row stands in its group
abbrev pub place_in : Option ℕ → List ℤ → ℤ
place_in None cells = pos 0
place_in (Some column) cells = cell cells column

abbrev pub member_by : List ℕ → Option ℕ → PlainRow → Member
member_by by column row = member_of row.key (key_cells by row.cells) (place_in column row.cells)

abbrev pub indexed : List ℕ → Option ℕ → List PlainRow → Grouped
indexed by column rows = record { width = length by; members = map (member_by by column) rows }

abbrev pub group_rows : List ℕ → List ℤ → List PlainRow → List PlainRow
group_rows by cells = filter (λ row. same_cells cells (key_cells by row.cells))

-- none where no group is named
abbrev pub cells_in : List ℕ → ℕ → List PlainRow → Option (List ℤ) → List ℤ
cells_in by column rows named = option_map_or (λ cells. present (column_of (group_rows by cells rows) column)) named []

abbrev pub AreMade : {X : Type 0} → X → (List ℤ → X) → List ℕ → Names → ℕ → List PlainRow → List X → Type 0
AreMade none make by names column rows entries = (number : ℕ) → at_number none number entries ≡ make (cells_in by column rows (name_at number names))

abbrev pub agg_of : Accumulator → Agg
agg_of Count = CountAgg
agg_of (Sum column sums) = SumAgg column
agg_of (Min column values) = MinAgg column
agg_of (Max column values) = MaxAgg column
agg_of (First column) = FirstAgg column
agg_of (Last column) = LastAgg column

abbrev pub Answers : List ℕ → Names → List PlainRow → Accumulator → Type 0
Answers by names rows Count = Unit {0}
Answers by names rows (Sum column sums) = AreMade no_total total_of by names column rows sums
Answers by names rows (Min column values) = AreMade [] opposites by names column rows values
Answers by names rows (Max column values) = AreMade [] in_order by names column rows values
Answers by names rows (First column) = Unit {0}
Answers by names rows (Last column) = Unit {0}

abbrev pub AnswerAll : List ℕ → Names → List Agg → List PlainRow → List Accumulator → Type 0
AnswerAll by names aggs rows running = (map agg_of running ≡ aggs) × AllByRecursion (Answers by names rows) running

abbrev pub Are : List ℕ → Names → List Agg → List PlainRow → List Accumulator → Type 0
Are by names aggs rows running = ((rows ≡ []) × (running ≡ [])) ⊎ AnswerAll by names aggs rows running

-- made of the same
pub record IsMade (old new : AggIndex) : Type 0 where
  pub by : new.by ≡ old.by
  pub aggs : new.aggs ≡ old.aggs

pub record Keeps (kept : AggIndex) (seen : List PlainRow) : Type 0 where
  pub rows : groups_of kept.rows ≡ indexed kept.by None seen
  pub running : AnswerAll kept.by kept.rows.names kept.aggs seen kept.running.items
