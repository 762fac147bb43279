-- The entries of an output, and their text.
--     shown_at tables table      what is shown of the table at a place
--     entry_text tables texts entry      the text of an entry
--     output_text tables texts entries      the text of entries, one after the other
--     IsEntry tables texts entry      an entry that can be told
--     AreShown tables texts      tables of distinct names, with 1 to 32 columns of distinct names each, and texts that rise
use Rattle.std.{specs.Prelude.{◌≡◌, ℕ, ◌^◌, ◌<◌, ◌≤◌, true, List, [], ◌∷◌, codes, flat_map, length, map, slice_index_or}, specs.List.AllByRecursion}
use Rattle.tick_model.{specs.LawfulRuns.AreTexts, specs.Names.are_distinct, specs.Texts.{done_record, records_text}}
use Rattle.update_text.{specs.declared.shown.Shown.Shown, specs.OneToOne.IsPrinted, specs.Snapshots.{IsSnapshot, snapshot_shown}, specs.Told.change_shown}
use Rattle.run_output.{specs.declared.entry.OutputEntry.OutputEntry, specs.declared.entry.OutputEntry.TheVariants.{Update, Snapshot, Done, Fault}}

abbrev pub shown_at : List Shown → ℕ → Shown
shown_at tables table = slice_index_or tables table (record { name = []; columns = [] })

abbrev pub entry_records : List Shown → List (List ℕ) → OutputEntry → List (List (List ℕ))
entry_records tables texts (Update table step change) = change_shown step (shown_at tables table) texts change
entry_records tables texts (Snapshot table snapshot) = snapshot_shown snapshot.caller snapshot.call snapshot.step (shown_at tables table) texts snapshot.rows
entry_records tables texts (Done step) = done_record step ∷ []
entry_records tables texts (Fault fields) = (codes "fault" ∷ fields) ∷ []

abbrev pub entry_text : List Shown → List (List ℕ) → OutputEntry → List ℕ
entry_text tables texts entry = records_text (entry_records tables texts entry)

abbrev pub output_text : List Shown → List (List ℕ) → List OutputEntry → List ℕ
output_text tables texts = flat_map (entry_text tables texts)

-- the table is there; an update can be printed and is not empty; a snapshot has rows under rising keys; a step is of 64 bits
abbrev pub IsEntry : List Shown → List (List ℕ) → OutputEntry → Type 0
IsEntry tables texts (Update table step change) = (table < length tables) × IsPrinted (shown_at tables table).columns texts step change
IsEntry tables texts (Snapshot table snapshot) = (table < length tables) × IsSnapshot (shown_at tables table).columns texts snapshot
IsEntry tables texts (Done step) = step < 2 ^ 64
IsEntry tables texts (Fault fields) = Unit {0}

pub record IsShown (shown : Shown) : Type 0 where
  pub some : 1 ≤ length shown.columns
  pub few : length shown.columns ≤ 32
  pub distinct : are_distinct (map (λ column. column.name) shown.columns) ≡ true

pub record AreShown (tables : List Shown) (texts : List (List ℕ)) : Type 0 where
  pub names : are_distinct (map (λ shown. shown.name) tables) ≡ true
  pub each : AllByRecursion IsShown tables
  pub rising : AreTexts texts
