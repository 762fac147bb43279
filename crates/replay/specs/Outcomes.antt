-- What the run of a feed ends with, and what it writes.
--     IsVerdict run knobs outcome      the outcome is the one that the definitions give to the run and to how it is run
--     IsTold outcome      memory did not run out, and the sink did not fail
--     OnTold result P      this holds where a value is given, or an outcome that is told
--     IsComplete run knobs outcome      memory ran out, or the outcome is that of the run
--     WritesWhole run knobs old new      the whole text was written, with the snapshots of a choice that callers may make
--     WritesPrefix run knobs old new      a prefix of such a text was written
use Rattle.std.{specs.Prelude.{◌≡◌, ℕ, ◌<◌, ◌≤◌, ◌++◌, List, [], Option, Some, None, Result, Ok, Err, length, map, nat_lt, slice_index_or, if◌then◌else◌}, specs.Io.KnownBytes.append_known}
use Rattle.tick_io.specs.Written.{AppendsPrefix}
use Rattle.tick_model.{specs.declared.feed.Run.Run, specs.Choices.IsChoice, specs.Evaluation.table_of, specs.Spoiled.{Cause, ByBatch, ByNode, ByPublication, first_spoiled, good, spoiled_by}, specs.States.state, specs.Texts.{snapshots_text, updates_records, updates_text}}
use Rattle.replay.{specs.declared.outcome.Knobs.Knobs, specs.declared.outcome.Outcome.Outcome, specs.declared.outcome.Outcome.TheVariants.{Done, Memory, Kept, Feed, Node, Publish, Write}, specs.Kept.{kept_words, most_words}}

-- how many rows each node has at a step
abbrev pub row_counts : Run → ℕ → List ℕ
row_counts run step = map (λ outcome. length (table_of outcome).rows) (state run step)

-- no step is spoiled: the last step, how many records the updates of all steps have, and the rows of each node at the end
pub record IsDone (run : Run) (step records : ℕ) (rows : List ℕ) : Type 0 where
  pub unspoiled : first_spoiled run ≡ None
  pub step_is : step ≡ length run.batches
  pub records_are : records ≡ length (updates_records run step)
  pub rows_are : rows ≡ row_counts run step

-- this step is the first that is spoiled, and by this
pub record IsFirstSpoiled (run : Run) (step : ℕ) (cause : Cause) : Type 0 where
  pub first : first_spoiled run ≡ Some step
  pub by : spoiled_by run step ≡ Some cause

-- the most rows of a published table
abbrev pub limit_at : Run → ℕ → ℕ
limit_at run number = slice_index_or (map (λ published. published.limit) run.plan.published) number 0

-- what the steps end with
abbrev pub IsEnd : Run → Outcome → Type 0
IsEnd run (Done step records rows) = IsDone run step records rows
IsEnd run Memory = ⊥
IsEnd run (Kept words) = ⊥
IsEnd run (Feed step number fault) = IsFirstSpoiled run step (ByBatch number fault)
IsEnd run (Node step node kind) = IsFirstSpoiled run step (ByNode node kind)
IsEnd run (Publish step number rows limit) = IsFirstSpoiled run step (ByPublication number rows) × (limit ≡ limit_at run number)
IsEnd run Write = ⊥

-- the words to be kept are too many; or they are not, and the steps end so
abbrev pub IsVerdict : Run → Knobs → Outcome → Type 0
IsVerdict run knobs (Kept words) = (words ≡ kept_words run knobs) × (most_words < words)
IsVerdict run knobs outcome = (kept_words run knobs ≤ most_words) × IsEnd run outcome

abbrev pub IsTold : Outcome → Type 0
IsTold Memory = ⊥
IsTold Write = ⊥
IsTold outcome = Unit {0}

abbrev pub OnTold : {T : Type 0} → Result T Outcome → Type 0 → Type 0
OnTold (Ok value) P = P
OnTold (Err outcome) P = IsTold outcome → P

abbrev pub IsComplete : Run → Knobs → Outcome → Type 0
IsComplete run knobs Memory = Unit {0}
IsComplete run knobs outcome = IsVerdict run knobs outcome

-- the last step that is written: the last good one, and none where there is no good step or too many words would be kept
abbrev pub last_written : Run → Knobs → Option ℕ
last_written run knobs = if nat_lt most_words (kept_words run knobs) then None else good run

-- the updates up to a step, and the snapshots at the steps of a choice
abbrev pub text_until : Run → Option ℕ → List (List ℕ) → List ℕ
text_until run None choice = []
text_until run (Some last) choice = updates_text run last ++ snapshots_text run choice

-- a choice that the callers may make, up to the last step that is written
abbrev pub IsLawfulChoice : Knobs → Option ℕ → List (List ℕ) → Type 0
IsLawfulChoice knobs None choice = choice ≡ []
IsLawfulChoice knobs (Some last) choice = IsChoice knobs.callers knobs.snaps last choice

pub record WritesWhole (run : Run) (knobs : Knobs) (old new : Option (List ℕ)) : Type 0 where
  pub choice : List (List ℕ)
  pub lawful : IsLawfulChoice knobs (last_written run knobs) choice
  pub written : new ≡ append_known old (text_until run (last_written run knobs) choice)

pub record WritesPrefix (run : Run) (knobs : Knobs) (old new : Option (List ℕ)) : Type 0 where
  pub choice : List (List ℕ)
  pub lawful : IsLawfulChoice knobs (last_written run knobs) choice
  pub written : AppendsPrefix old new (text_until run (last_written run knobs) choice)
