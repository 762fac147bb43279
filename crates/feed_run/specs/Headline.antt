-- What is said of one call of the program.
--     TellsVerdict verdict status old new      a status of a verdict is that of the verdict, and its whole text was written
--     TellsLoadFault failed reached old new      a load of a file failed that has to be read, and the record that says so was written
--     WritesPrefix verdict failed reached old new      a prefix of an allowed text was written
--     IsComplete verdict status      memory ran out, or the status is that of the verdict
use Rattle.std.{specs.Prelude.{◌≡◌, ◌≤◌, ◌⊎◌, ℕ, true, List, Option, Some, None}, specs.Io.KnownBytes.append_known, specs.List.list_any, specs.Str.bytes_eq}
use Rattle.tick_io.{specs.Counts.Rose, specs.Written.AppendsPrefix}
use Rattle.tick_model.specs.Texts.{record_text}
use Rattle.command_words.{specs.declared.command.Command.Command, specs.declared.command.Task.Task, specs.declared.command.Task.TheVariants.{Run as RunTask, Demo, Watch as WatchTask}, specs.Commands.command}
use Rattle.feed_run.{specs.Readings.Content, specs.Verdicts.{Verdict, files, status_of}, specs.Wholes.{whole, unread_record, IsLawful}}

-- a name is one of the names; a file has to be read
abbrev pub IsOneOf : List (List ℕ) → List ℕ → Type 0
IsOneOf names name = list_any (bytes_eq name) names ≡ true

abbrev pub IsRead : List (List ℕ) → Content → List ℕ → Type 0
IsRead words content = IsOneOf (files words content)

-- the count of failed loads of a name rose
abbrev pub LoadFailed : {I : Type 0} → (I → List ℕ → ℕ) → I → I → List ℕ → Type 0
LoadFailed failures old new name = Rose (failures old name) (failures new name)

-- no such count changed
abbrev pub NoLoadFailed : {I : Type 0} → (I → List ℕ → ℕ) → I → I → Type 0
NoLoadFailed failures old new = (name : List ℕ) → failures new name ≡ failures old name

abbrev pub SomeName : (List ℕ → Type 0) → Type 0
SomeName failed = (name : List ℕ) × failed name

abbrev pub NoneFailed : (List ℕ → Type 0) → (List ℕ → Type 0) → Type 0
NoneFailed failed read = (name : List ℕ) → read name → failed name → ⊥

-- a status with which all was written: memory did not run out, and no write failed
abbrev pub IsWritten : ℕ → Type 0
IsWritten status = (status ≡ 1 → ⊥) × (status ≡ 10 → ⊥)

-- a status that a verdict has: memory did not run out, no load failed and no write
abbrev pub IsOfVerdict : ℕ → Type 0
IsOfVerdict status = (status ≡ 1 → ⊥) × (status ≡ 3 → ⊥) × (status ≡ 10 → ⊥)

abbrev pub WritesWhole : Verdict → Option (List ℕ) → Option (List ℕ) → Type 0
WritesWhole told old new = (choice : List (List ℕ)) × IsLawful told choice × (new ≡ append_known old (whole told choice))

abbrev pub TellsVerdict : Option Verdict → ℕ → Option (List ℕ) → Option (List ℕ) → Type 0
TellsVerdict verdict status old new = IsOfVerdict status → (told : Verdict) × (verdict ≡ Some told) × (status ≡ status_of told) × WritesWhole told old new

abbrev pub TellsLoadFault : (List ℕ → Type 0) → (List ℕ → Type 0) → Option (List ℕ) → Option (List ℕ) → Type 0
TellsLoadFault failed read old new = (name : List ℕ) × failed name × read name × (new ≡ append_known old (record_text (unread_record name)))

-- the texts of which a prefix may be written: that of the verdict, and that of a load that failed
pub data AllowedText (verdict : Option Verdict) (failed read : List ℕ → Type 0) : Type 0 where
  OfVerdict : (told : Verdict) (choice : List (List ℕ)) → verdict ≡ Some told → IsLawful told choice → AllowedText verdict failed read
  OfLoad : (name : List ℕ) → failed name → read name → AllowedText verdict failed read

abbrev pub allowed_text : {verdict : Option Verdict} {failed read : List ℕ → Type 0} → AllowedText verdict failed read → List ℕ
allowed_text (OfVerdict told choice is lawful) = whole told choice
allowed_text (OfLoad name failed read) = record_text (unread_record name)

abbrev pub WritesPrefix : Option Verdict → (List ℕ → Type 0) → (List ℕ → Type 0) → Option (List ℕ) → Option (List ℕ) → Type 0
WritesPrefix verdict failed read old new = (text : AllowedText verdict failed read) × AppendsPrefix old new (allowed_text text)

abbrev pub WritesPrefixOrNothing : Option Verdict → (List ℕ → Type 0) → (List ℕ → Type 0) → Option (List ℕ) → Option (List ℕ) → Type 0
WritesPrefixOrNothing verdict failed read old new = WritesPrefix verdict failed read old new ⊎ (new ≡ old)

abbrev pub IsComplete : Option Verdict → ℕ → Type 0
IsComplete verdict status = (status ≡ 1) ⊎ ((told : Verdict) × (verdict ≡ Some told) × (status ≡ status_of told))

-- the statuses that there are: the last one where a watched run is asked for alone
abbrev pub AsksForWatch : Task → Type 0
AsksForWatch (RunTask script feed) = ⊥
AsksForWatch (Demo steps) = ⊥
AsksForWatch (WatchTask script feed name first count) = Unit {0}

abbrev pub IsTaskStatus : Task → ℕ → Type 0
IsTaskStatus task status = (status ≤ 10) ⊎ ((status ≡ 12) × AsksForWatch task)

abbrev pub IsWatch : Option Command → Type 0
IsWatch None = ⊥
IsWatch (Some asked) = AsksForWatch asked.task

abbrev pub IsStatus : List (List ℕ) → ℕ → Type 0
IsStatus words status = (status ≤ 10) ⊎ ((status ≡ 12) × IsWatch (command words))
