-- What is written of a run is the text of its entries.
use Rattle.std.proofs.Common.{◌≡◌, refl, ap, sym, ◌∙◌, true, false, cond, ℕ, ◌≤◌, arith, List, ◌++◌, Option, Some, None}
use Rattle.std.{specs.Prelude.nat_lt, specs.List.AllByRecursion, proofs.lemmas.Grind.flat_map-append}
use Rattle.key_lists.proofs.Every.{every-append}
use Rattle.replay.{specs.declared.outcome.Knobs.Knobs, specs.Kept.{kept_words, most_words}, specs.Outcomes.{IsLawfulChoice, last_written, text_until}}
use Rattle.tick_model.{specs.declared.feed.Run.Run, specs.LawfulRuns.IsLawfulRun, specs.Spoiled.good, specs.Texts.snapshots_text}
use Rattle.run_output.{specs.declared.entry.OutputEntry.OutputEntry, specs.Entries.{IsEntry, entry_text, output_text}, specs.Runs.{snapshot_entries, tables_of, update_entries}, proofs.RunTexts.{snapshots_told, updates_told}, proofs.RunTold.{snapshots_are, updates_are}}
use Rattle.output_laws.specs.Written.{run_entries}

pub text_is : (run : Run) (last : Option ℕ) (choice : List (List ℕ)) → text_until run last choice ≡ output_text (tables_of run) run.texts (run_entries run last choice)
text_is run None choice = refl
text_is run (Some last) choice =
    ap (λ (text : List ℕ). text ++ snapshots_text run choice) (updates_told run last)
    ∙ ap (λ (text : List ℕ). output_text (tables_of run) run.texts (update_entries run last) ++ text) (snapshots_told run choice)
    ∙ sym (flat_map-append (entry_text (tables_of run) run.texts) (update_entries run last) (snapshot_entries run choice))

module _ (run : Run) (h : IsLawfulRun run) (knobs : Knobs) (callers : knobs.callers ≤ 16) (snaps : knobs.snaps ≤ 64) (choice : List (List ℕ)) where
  abbrev Told : List OutputEntry → Type 0
  Told = AllByRecursion (IsEntry (tables_of run) run.texts)

  pub until : (last : Option ℕ) → good run ≡ last → IsLawfulChoice knobs last choice → Told (run_entries run last choice)
  until None is lawful = tt
  until (Some last) is lawful =
      every-append (IsEntry (tables_of run) run.texts) (update_entries run last) (snapshot_entries run choice) (updates_are run h last is)
      (snapshots_are run h last knobs.callers knobs.snaps choice is (omega (arith, callers)) (omega (arith, snaps)) lawful)

  pub entries_are : IsLawfulChoice knobs (last_written run knobs) choice → Told (run_entries run (last_written run knobs) choice)
  entries_are lawful =
      (elim (nat_lt most_words (kept_words run knobs)) as (λ b. IsLawfulChoice knobs (let last : Option ℕ = cond b None (good run) in last) choice → Told (run_entries run (let last : Option ℕ = cond b None (good run) in last) choice)) [
        | true ↦ λ _. tt
        | false ↦ λ lawful. until (good run) refl lawful
      ]) lawful
