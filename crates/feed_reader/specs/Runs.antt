-- What a run is given, from what is read.
--     opening_of texts sources tables      the opening tables of sources
--     IsAmong texts text      a text is one of the texts, unless it is empty
use Rattle.std.{specs.Prelude.{◌≡◌, ℕ, true, false, List, map, length}, specs.List.{zip, list_any}, specs.Str.bytes_eq}
use Rattle.tick_model.{specs.Changes.is_none, specs.declared.plan.Node.Node, specs.declared.table.PlainTable.PlainTable}
use Rattle.feed_reader.{specs.declared.raw.RawTable.RawTable, specs.Coding.coded_table}

-- each source with its table
abbrev pub opened : List (List ℕ) → Node × RawTable → PlainTable
opened texts source = coded_table texts (length source.0.columns) source.1

abbrev pub opening_of : List (List ℕ) → List Node → List RawTable → List PlainTable
opening_of texts sources tables = map (opened texts) (zip sources tables)

abbrev pub IsAmong : List (List ℕ) → List ℕ → Type 0
IsAmong texts text = is_none text ≡ false → list_any (bytes_eq text) texts ≡ true
