-- Runs that are put together from a script, table files and a feed.
--     plain_run run      a run, without where the formulas of its plan lie in memory
--     run_of script tables feed      the run
--     AreTablesOf sources tables      each source's table is one that is read for its columns, or has no rows
use Rattle.std.specs.Prelude.{◌≡◌, ℕ, ◌⊎◌, List, [], ◌∷◌, Ok}
use Rattle.tick_model.{specs.declared.feed.Run.Run, specs.declared.plan.ColumnSpec.ColumnSpec, specs.declared.plan.Node.Node, specs.LawfulRuns.sources_of}
use Rattle.script_reader.{specs.declared.script.Script.Script, specs.Binding.bound, specs.Plain.plain_plan}
use Rattle.feed_reader.{specs.declared.raw.RawFeed.RawFeed, specs.declared.raw.RawTable.RawTable, specs.Coding.{texts_of, coded_feed}, specs.Runs.opening_of, specs.Tables.table_of}

abbrev pub plain_run : Run → Run
plain_run run = record { plan = plain_plan run.plan; opening = run.opening; batches = run.batches; texts = run.texts }

-- by the ranks of these texts
abbrev pub run_with : List (List ℕ) → Script → List RawTable → RawFeed → Run
run_with texts script tables feed = record {
  plan = bound script texts;
  opening = opening_of texts (sources_of script.plan.nodes) tables;
  batches = coded_feed texts feed;
  texts = texts;
}

abbrev pub run_of : Script → List RawTable → RawFeed → Run
run_of script tables feed = run_with (texts_of script.literals tables feed) script tables feed

abbrev pub IsTableOf : List ColumnSpec → RawTable → Type 0
IsTableOf columns table = (table.rows ≡ []) ⊎ ((bytes : List ℕ) × (table_of columns bytes ≡ Ok table))

abbrev pub AreTablesOf : List Node → List RawTable → Type 0
AreTablesOf [] [] = Unit {0}
AreTablesOf [] (table ∷ tables) = ⊥
AreTablesOf (source ∷ sources) [] = ⊥
AreTablesOf (source ∷ sources) (table ∷ tables) = IsTableOf source.columns table × AreTablesOf sources tables
