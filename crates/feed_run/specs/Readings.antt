-- What the files of a run say.
--     run_found content script feed      the run of the script and the feed that lie in the files of these names
--     files_read content script feed      the names of the files that are read: up to the first that is not there or is refused
use Rattle.std.{specs.Prelude.{ℕ, List, [], ◌∷◌, ◌++◌, drop, Option, Some, None, Result, Ok, Err, option_map}, specs.Option.option_to_list}
use Rattle.tick_model.{specs.declared.feed.Run.Run, specs.declared.plan.Node.Node, specs.declared.plan.Plan.Plan, specs.LawfulRuns.sources_of}
use Rattle.script_reader.{specs.declared.script.Script.Script, specs.declared.script.SourceFile.SourceFile, specs.Scripts.{Refusal as Refused, script_of}}
use Rattle.feed_reader.{specs.declared.raw.RawFeed.RawFeed, specs.declared.raw.RawTable.RawTable, specs.Answers.Reading, specs.Assembled.run_of, specs.Feeds.feed_of, specs.Tables.table_of}
use Rattle.feed_run.{specs.declared.refusal.Refusal.Refusal, specs.declared.refusal.Refusal.TheVariants.{Script as ScriptRefused, Table as TableRefused, Feed as FeedRefused}, specs.Found.{Found, after, names_after}}

-- the bytes of the files, by their names
abbrev pub Content : Type 0
Content = List ℕ → Option (List ℕ)

-- a script
abbrev pub script_read : Result Script Refused → Result Script Refusal
script_read (Ok script) = Ok script
script_read (Err refused) = Err (ScriptRefused refused.line refused.kind)

abbrev pub script_in : List ℕ → Result Script Refusal
script_in bytes = script_read (script_of bytes)

-- a table file of a source
abbrev pub table_read : List ℕ → Reading RawTable → Result RawTable Refusal
table_read source (Ok table) = Ok table
table_read source (Err (number, kind)) = Err (TableRefused source number kind)

abbrev pub table_in : Node → List ℕ → Result RawTable Refusal
table_in source bytes = table_read source.name (table_of source.columns bytes)

-- what a source opens with: the rows of its file, and none where it has no file
abbrev pub no_rows : RawTable
no_rows = record { rows = [] }

abbrev pub opening_by : Content → Node → Option (List ℕ) → Found RawTable
opening_by content source None = Some (Ok no_rows)
opening_by content source (Some file) = option_map (table_in source) (content file)

-- the sources one after the other, each with its file
abbrev pub first_file : List SourceFile → Option (List ℕ)
first_file [] = None
first_file (file ∷ files) = file.file

abbrev pub with_table : RawTable → List RawTable → Found (List RawTable)
with_table table tables = Some (Ok (table ∷ tables))

abbrev pub tables_found : Content → List Node → List SourceFile → Found (List RawTable)
tables_found content [] files = Some (Ok [])
tables_found content (source ∷ sources) files =
    after (opening_by content source (first_file files)) (λ table. after (tables_found content sources (drop 1 files)) (with_table table))

abbrev pub tables_read : Content → List Node → List SourceFile → List (List ℕ)
tables_read content [] files = []
tables_read content (source ∷ sources) files =
    option_to_list (first_file files) ++ names_after (opening_by content source (first_file files)) (λ table. tables_read content sources (drop 1 files))

-- a feed of a plan
abbrev pub feed_read : Reading RawFeed → Result RawFeed Refusal
feed_read (Ok feed) = Ok feed
feed_read (Err (number, kind)) = Err (FeedRefused number kind)

abbrev pub feed_in : Plan → List ℕ → Result RawFeed Refusal
feed_in plan bytes = feed_read (feed_of plan bytes)

-- the script, then the table files in the order of the script, then the feed
abbrev pub feed_found : Content → Script → List RawTable → List ℕ → Found Run
feed_found content script tables feed = after (option_map (feed_in script.plan) (content feed)) (λ read. Some (Ok (run_of script tables read)))

abbrev pub plan_found : Content → Script → List ℕ → Found Run
plan_found content script feed = after (tables_found content (sources_of script.plan.nodes) script.files) (λ tables. feed_found content script tables feed)

abbrev pub plan_read : Content → Script → List ℕ → List (List ℕ)
plan_read content script feed =
    tables_read content (sources_of script.plan.nodes) script.files
    ++ names_after (tables_found content (sources_of script.plan.nodes) script.files) (λ tables. feed ∷ [])

abbrev pub run_found : Content → List ℕ → List ℕ → Found Run
run_found content script feed = after (option_map script_in (content script)) (λ read. plan_found content read feed)

abbrev pub files_read : Content → List ℕ → List ℕ → List (List ℕ)
files_read content script feed = script ∷ names_after (option_map script_in (content script)) (λ read. plan_read content read feed)
