-- What an aggregation keeps.
--     Grouping      what it was made of, and what is kept of the rows
--     Aggregator      the same, and the rows of the groups
--     IsAggregator by aggs width      its columns are the input's, and the result has few
--     KeepsRows grouping table      what is kept is that of the rows of this table
--     StandsFor aggregator table      and so are the rows of the groups
--     grouped by aggs tick      the tick of an aggregation, from that of its input
use Rattle.std.{specs.Prelude.{◌≡◌, ℕ, ◌+◌, ◌<◌, ◌≤◌, List, length, None}, specs.List.AllByRecursion}
use Rattle.agg_by.{specs.declared.running.Accumulator.Accumulator, specs.Kept.{Are, indexed}}
use Rattle.row_groups.specs.Members.{Numbered, groups_of}
use Rattle.tick_model.{specs.Agg.agg_table, specs.declared.plan.Agg.Agg, specs.declared.plan.Agg.TheVariants.{Count, Sum, Min, Max, First, Last}, specs.declared.plan.Op.TheVariants.Agg as Aggregated, specs.declared.table.PlainTable.PlainTable, specs.Updates.Tick}
use Rattle.tick_laws.specs.Operated.{operated}

pub record Grouping : Type 0 where
  pub by : List ℕ
  pub aggs : List Agg
  pub width : ℕ
  pub rows : Numbered
  pub running : List Accumulator

pub record Aggregator : Type 0 where
  pub by : List ℕ
  pub aggs : List Agg
  pub width : ℕ
  pub rows : Numbered
  pub running : List Accumulator
  pub shown : PlainTable

-- the column that an aggregate names is one of so many
abbrev pub IsColumn : ℕ → Agg → Type 0
IsColumn width Count = Unit {0}
IsColumn width (Sum column) = column < width
IsColumn width (Min column) = column < width
IsColumn width (Max column) = column < width
IsColumn width (First column) = column < width
IsColumn width (Last column) = column < width

pub record IsAggregator (columns : List ℕ) (all : List Agg) (input_width : ℕ) : Type 0 where
  pub some : 1 ≤ length columns + length all
  pub few : length columns + length all ≤ 32
  pub by_within : AllByRecursion (λ column. column < input_width) columns
  pub aggs_within : AllByRecursion (IsColumn input_width) all

pub record KeepsRows (grouping : Grouping) (table : PlainTable) : Type 0 where
  pub rows : groups_of grouping.rows ≡ indexed grouping.by None table.rows
  pub running : Are grouping.by grouping.rows.names grouping.aggs table.rows grouping.running

pub record StandsFor (aggregator : Aggregator) (table : PlainTable) : Type 0 where
  pub rows : groups_of aggregator.rows ≡ indexed aggregator.by None table.rows
  pub running : Are aggregator.by aggregator.rows.names aggregator.aggs table.rows aggregator.running
  pub shown : aggregator.shown ≡ agg_table aggregator.by aggregator.aggs table

abbrev pub grouped : List ℕ → List Agg → Tick → Tick
grouped by aggs input = operated (Aggregated 0 by aggs) (λ _. input)
