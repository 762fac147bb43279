-- What the program writes of a verdict is the text of its entries.
use Rattle.std.proofs.Common.{◌≡◌, refl, ap, sym, ◌∙◌, subst, ℕ, arith, List, [], ◌∷◌, ◌++◌, drop, Some}
use Rattle.std.{specs.Prelude.codes, specs.List.AllByRecursion, proofs.lemmas.Grind.flat_map-append, proofs.lemmas.List.append-nil}
use Rattle.feed_run.{specs.declared.refusal.Refusal.Refusal, specs.declared.refusal.Refusal.TheVariants.{Usage, Script, Table, Feed}, specs.Verdicts.{Verdict, Refused, Summary, Kept, Spoiled, Done, Unnamed, WatchSpoiled, WatchDone}, specs.Wholes.{IsLawful, cause_record, kept_record, refusal_record, unnamed_record, whole}}
use Rattle.key_lists.proofs.Every.{every-append}
use Rattle.replay.specs.Outcomes.{text_until}
use Rattle.tick_model.{specs.declared.feed.Run.Run, specs.Spoiled.{Cause, ByBatch, ByNode, ByPublication, good}, specs.Texts.{done_record, record_text}}
use Rattle.update_text.specs.declared.shown.Shown.{Shown}
use Rattle.watched_run.{specs.Messages.watch_text, specs.ToCome.watch_until}
use Rattle.run_output.{specs.declared.entry.OutputEntry.OutputEntry, specs.declared.entry.OutputEntry.TheVariants.{Done as End, Fault}, specs.Entries.{IsEntry, entry_text, output_text}, specs.Runs.tables_of, proofs.RunTold.step_small}
use Rattle.output_laws.{specs.Wholes.{AreOf, IsRun, IsShownTo, fault_of, verdict_entries}, specs.Written.{messages, run_entries, watch_entries}, proofs.WatchedEntries.{messages_are, messages_told, watch_are, watch_told}, proofs.WrittenEntries.{text_is, until}}

-- the records of faults
refusal_is : (refusal : Refusal) → refusal_record refusal ≡ codes "fault" ∷ drop 1 (refusal_record refusal)
refusal_is Usage = refl
refusal_is (Script line kind) = refl
refusal_is (Table source number kind) = refl
refusal_is (Feed number kind) = refl

cause_is : (run : Run) (step : ℕ) (cause : Cause) → cause_record run step cause ≡ codes "fault" ∷ drop 1 (cause_record run step cause)
cause_is run step (ByBatch number rule) = refl
cause_is run step (ByNode node fault) = refl
cause_is run step (ByPublication number rows) = refl

module _ (tables : List Shown) (texts : List (List ℕ)) where
  fault_told : (fields : List (List ℕ)) → fields ≡ codes "fault" ∷ drop 1 fields → record_text fields ≡ output_text tables texts (fault_of fields)
  fault_told fields is =
      ap record_text is ∙ sym (append-nil (record_text (codes "fault" ∷ drop 1 fields))) ∙ sym (append-nil (entry_text tables texts (Fault (drop 1 fields))))

  end_told : (step : ℕ) → record_text (done_record step) ≡ output_text tables texts (End step ∷ [])
  end_told step = sym (append-nil (record_text (done_record step))) ∙ sym (append-nil (entry_text tables texts (End step)))

  both_told : (text end : List ℕ) (entries last : List OutputEntry) → text ≡ output_text tables texts entries → end ≡ output_text tables texts last → text ++ end ≡ output_text tables texts (entries ++ last)
  both_told text end entries last e f =
      ap (λ (some : List ℕ). some ++ end) e ∙ ap (λ (some : List ℕ). output_text tables texts entries ++ some) f ∙ sym (flat_map-append (entry_text tables texts) entries last)

-- read with the tables and the texts of the run
with_own : (run : Run) (tables : List Shown) (texts : List (List ℕ)) (P : List Shown → List (List ℕ) → Type 0) → AreOf run tables texts → P (tables_of run) run.texts → P tables texts
with_own run tables texts P are h = subst (λ some. P some texts) (sym are.0) (subst (P (tables_of run)) (sym are.1) h)

pub verdict_told : (verdict : Verdict) (choice : List (List ℕ)) (tables : List Shown) (texts : List (List ℕ)) → IsShownTo verdict tables texts → whole verdict choice ≡ output_text tables texts (verdict_entries verdict choice)
verdict_told (Refused refusal) choice tables texts shown = fault_told tables texts (refusal_record refusal) (refusal_is refusal)
verdict_told (Summary steps) choice tables texts shown = absurd shown
verdict_told (Kept words) choice tables texts shown = fault_told tables texts (kept_record words) refl
verdict_told (Spoiled run knobs step cause) choice tables texts shown =
    with_own run tables texts (λ a b. whole (Spoiled run knobs step cause) choice ≡ output_text a b (verdict_entries (Spoiled run knobs step cause) choice)) shown
    (both_told (tables_of run) run.texts (text_until run (good run) choice) (record_text (cause_record run step cause)) (run_entries run (good run) choice) (fault_of (cause_record run step cause))
    (text_is run (good run) choice) (fault_told (tables_of run) run.texts (cause_record run step cause) (cause_is run step cause)))
verdict_told (Done run knobs step) choice tables texts shown =
    with_own run tables texts (λ a b. whole (Done run knobs step) choice ≡ output_text a b (verdict_entries (Done run knobs step) choice)) shown
    (both_told (tables_of run) run.texts (text_until run (Some step) choice) (record_text (done_record step)) (run_entries run (Some step) choice) (End step ∷ [])
    (text_is run (Some step) choice) (end_told (tables_of run) run.texts step))
verdict_told (Unnamed name) choice tables texts shown = fault_told tables texts (unnamed_record name) refl
verdict_told (WatchSpoiled run watch step cause) choice tables texts shown =
    with_own run tables texts (λ a b. whole (WatchSpoiled run watch step cause) choice ≡ output_text a b (verdict_entries (WatchSpoiled run watch step cause) choice)) shown
    (both_told (tables_of run) run.texts (watch_until run watch (good run)) (record_text (cause_record run step cause)) (watch_entries run watch (good run)) (fault_of (cause_record run step cause))
    (watch_told run watch (good run)) (fault_told (tables_of run) run.texts (cause_record run step cause) (cause_is run step cause)))
verdict_told (WatchDone run watch step) choice tables texts shown =
    with_own run tables texts (λ a b. whole (WatchDone run watch step) choice ≡ output_text a b (verdict_entries (WatchDone run watch step) choice)) shown
    (both_told (tables_of run) run.texts (watch_text run watch step) (record_text (done_record step)) (messages run watch step) (End step ∷ []) (messages_told run watch step) (end_told (tables_of run) run.texts step))

pub verdict_are : (verdict : Verdict) (choice : List (List ℕ)) (tables : List Shown) (texts : List (List ℕ)) → IsShownTo verdict tables texts → IsRun verdict → IsLawful verdict choice →
    AllByRecursion (IsEntry tables texts) (verdict_entries verdict choice)
verdict_are (Refused refusal) choice tables texts shown is lawful = (tt, tt)
verdict_are (Summary steps) choice tables texts shown is lawful = absurd shown
verdict_are (Kept words) choice tables texts shown is lawful = (tt, tt)
verdict_are (Spoiled run knobs step cause) choice tables texts shown is lawful =
    with_own run tables texts (λ a b. AllByRecursion (IsEntry a b) (verdict_entries (Spoiled run knobs step cause) choice)) shown
    (every-append (IsEntry (tables_of run) run.texts) (run_entries run (good run) choice) (fault_of (cause_record run step cause)) (until run is.0 knobs is.1.callers is.1.snaps choice (good run) refl lawful) (tt, tt))
verdict_are (Done run knobs step) choice tables texts shown is lawful =
    with_own run tables texts (λ a b. AllByRecursion (IsEntry a b) (verdict_entries (Done run knobs step) choice)) shown
    (every-append (IsEntry (tables_of run) run.texts) (run_entries run (Some step) choice) (End step ∷ []) (until run is.0 knobs is.1.callers is.1.snaps choice (Some step) is.2 lawful) (step_small run is.0 step step is.2 (omega arith), tt))
verdict_are (Unnamed name) choice tables texts shown is lawful = (tt, tt)
verdict_are (WatchSpoiled run watch step cause) choice tables texts shown is lawful =
    with_own run tables texts (λ a b. AllByRecursion (IsEntry a b) (verdict_entries (WatchSpoiled run watch step cause) choice)) shown
    (every-append (IsEntry (tables_of run) run.texts) (watch_entries run watch (good run)) (fault_of (cause_record run step cause)) (watch_are run is.0 watch is.1 (good run) refl) (tt, tt))
verdict_are (WatchDone run watch step) choice tables texts shown is lawful =
    with_own run tables texts (λ a b. AllByRecursion (IsEntry a b) (verdict_entries (WatchDone run watch step) choice)) shown
    (every-append (IsEntry (tables_of run) run.texts) (messages run watch step) (End step ∷ []) (messages_are run is.0 watch is.1 step is.2) (step_small run is.0 step step is.2 (omega arith), tt))
