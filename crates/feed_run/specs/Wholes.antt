-- The text that goes with a verdict.
--     whole verdict choice      the whole text, where the choice gives the steps of the snapshots
--     IsLawful verdict choice      a choice that callers may make
use Rattle.std.{specs.Prelude.{◌≡◌, ℕ, List, [], ◌∷◌, ◌++◌, codes}, specs.Fmt.decimal}
use Rattle.tick_model.{specs.declared.feed.Run.Run, specs.Choices.IsChoice, specs.Spoiled.{Cause, ByBatch, ByNode, ByPublication, good}, specs.Texts.{record_text, updates_text, snapshots_text, summary_text, done_record, name_at, published_node}}
use Rattle.made_run.specs.Run.{made}
use Rattle.replay.specs.Outcomes.{IsLawfulChoice, limit_at, text_until}
use Rattle.feed_run.{specs.declared.refusal.Refusal.Refusal, specs.declared.refusal.Refusal.TheVariants.{Usage, Script, Table, Feed}, specs.FaultWords.{script_word, text_word, rule_fields, node_fields}, specs.Verdicts.{Verdict, Refused, Summary, Kept, Spoiled, Done, Unnamed, WatchSpoiled, WatchDone}}
use Rattle.watched_run.{specs.Messages.watch_text, specs.ToCome.watch_until}

-- the record of a fault: its status, what has it, and what it is
abbrev pub unread_record : List ℕ → List (List ℕ)
unread_record name = codes "fault" ∷ codes "3" ∷ codes "read" ∷ name ∷ []

abbrev pub refusal_record : Refusal → List (List ℕ)
refusal_record Usage = codes "fault" ∷ codes "2" ∷ codes "usage" ∷ []
refusal_record (Script line kind) = codes "fault" ∷ codes "4" ∷ codes "script" ∷ decimal line ∷ script_word kind ∷ []
refusal_record (Table source number kind) = codes "fault" ∷ codes "5" ∷ codes "table" ∷ source ∷ decimal number ∷ text_word kind ∷ []
refusal_record (Feed number kind) = codes "fault" ∷ codes "6" ∷ codes "feed" ∷ decimal number ∷ text_word kind ∷ []

abbrev pub kept_record : ℕ → List (List ℕ)
kept_record words = codes "fault" ∷ codes "2" ∷ codes "kept" ∷ decimal words ∷ []

abbrev pub unnamed_record : List ℕ → List (List ℕ)
unnamed_record name = codes "fault" ∷ codes "12" ∷ codes "watch" ∷ name ∷ []

-- a published table, and the most rows that it may have
abbrev pub publication_record : Run → ℕ → ℕ → ℕ → ℕ → List (List ℕ)
publication_record run step number rows limit =
    codes "fault" ∷ codes "9" ∷ codes "publish" ∷ decimal step ∷ name_at run (published_node run.plan.published number) ∷ decimal rows ∷ decimal limit ∷ []

abbrev pub cause_record : Run → ℕ → Cause → List (List ℕ)
cause_record run step (ByBatch number rule) = codes "fault" ∷ codes "7" ∷ codes "step" ∷ decimal step ∷ decimal number ∷ rule_fields rule
cause_record run step (ByNode node fault) = codes "fault" ∷ codes "8" ∷ codes "node" ∷ decimal step ∷ name_at run node ∷ node_fields fault
cause_record run step (ByPublication number rows) = publication_record run step number rows (limit_at run number)

-- the updates and the snapshots, or the messages, up to the last good step, where there is one, and then the end or the fault; or the one text
-- alone
abbrev pub whole : Verdict → List (List ℕ) → List ℕ
whole (Refused refusal) choice = record_text (refusal_record refusal)
whole (Summary steps) choice = summary_text (made steps) steps
whole (Kept words) choice = record_text (kept_record words)
whole (Spoiled run knobs step cause) choice = text_until run (good run) choice ++ record_text (cause_record run step cause)
whole (Done run knobs step) choice = updates_text run step ++ snapshots_text run choice ++ record_text (done_record step)
whole (Unnamed name) choice = record_text (unnamed_record name)
whole (WatchSpoiled run watch step cause) choice = watch_until run watch (good run) ++ record_text (cause_record run step cause)
whole (WatchDone run watch step) choice = watch_text run watch step ++ record_text (done_record step)

-- where a verdict has a last good step, callers choose up to it
abbrev pub IsLawful : Verdict → List (List ℕ) → Type 0
IsLawful (Refused refusal) choice = choice ≡ []
IsLawful (Summary steps) choice = choice ≡ []
IsLawful (Kept words) choice = choice ≡ []
IsLawful (Spoiled run knobs step cause) choice = IsLawfulChoice knobs (good run) choice
IsLawful (Done run knobs step) choice = IsChoice knobs.callers knobs.snaps step choice
IsLawful (Unnamed name) choice = choice ≡ []
IsLawful (WatchSpoiled run watch step cause) choice = choice ≡ []
IsLawful (WatchDone run watch step) choice = choice ≡ []
