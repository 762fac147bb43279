-- The messages of a watched run are the text of their entries, and make the watched rows.
use Rattle.std.proofs.Common.{◌≡◌, refl, ap, sym, ◌∙◌, true, false, cond, ℕ, zero, suc, ◌+◌, ◌≤◌, arith, List, [], ◌∷◌, ◌++◌, length, Option, Some, None, ◌==◌, eqb-true}
use Rattle.std.{specs.List.AllByRecursion, proofs.lemmas.List.append-nil, proofs.lemmas.Grind.flat_map-append}
use Rattle.key_lists.proofs.Every.{every-append}
use Rattle.tick_laws.{specs.Reached.IsReached, proofs.GoodSteps.good_reached, proofs.PrintedChanges.change_printable, proofs.RunTicks.reached_before, proofs.SliceTicks.{slice_first_tick, slice_is_tick}}
use Rattle.tick_model.{specs.declared.feed.Run.Run, specs.declared.table.PlainTable.PlainTable, specs.Changes.change_of, specs.Evaluation.table_at, specs.LawfulRuns.IsLawfulRun, specs.Slices.{first_tick, slice_tick}, specs.Spoiled.good, specs.States.state, specs.Texts.{columns_at, record_text, records_text}, specs.Updates.IsTick}
use Rattle.tick_table.specs.Ticking.{no_rows}
use Rattle.viewport.{specs.declared.slice.Slice.Slice, specs.Slices.cut}
use Rattle.watched_run.{specs.declared.watch.Watch.Watch, specs.Messages.{IsWatch, first_records, gaps, later_records, message_records, slice_of, watch_text}, specs.ToCome.watch_until, proofs.WatchedRows.{column_count, fits}}
use Rattle.run_output.{specs.declared.entry.OutputEntry.OutputEntry, specs.Entries.{IsEntry, entry_text, output_text}, specs.Runs.{applied, copy_after, tables_of, told_update}, proofs.RunTables.{fold-append, told_moves}, proofs.RunTexts.told_is, proofs.RunTold.{change_told, step_small}}
use Rattle.output_laws.specs.Written.{later_entries, message_entry, messages, watch_entries}

module _ (run : Run) (watch : Watch) where
  later_told : (step : ℕ) (steps : List ℕ) → records_text (later_records run watch step steps) ≡ output_text (tables_of run) run.texts (later_entries run watch step steps)
  later_told step [] = refl
  later_told step (more ∷ others) =
      flat_map-append record_text (message_records run watch step more) (later_records run watch (step + more) others)
      ∙ ap (λ (text : List ℕ). text ++ records_text (later_records run watch (step + more) others)) (told_is run watch.node (step + more) (change_of (slice_tick run watch.node (cut (slice_of run watch)) step more)))
      ∙ ap (λ (text : List ℕ). output_text (tables_of run) run.texts (message_entry run watch step more) ++ text) (later_told (step + more) others)
      ∙ sym (flat_map-append (entry_text (tables_of run) run.texts) (message_entry run watch step more) (later_entries run watch (step + more) others))

  pub messages_told : (last : ℕ) → watch_text run watch last ≡ output_text (tables_of run) run.texts (messages run watch last)
  messages_told last =
      let first = change_of (first_tick run watch.node (cut (slice_of run watch)) 0) in
      flat_map-append record_text (first_records run watch) (later_records run watch 0 (gaps watch.every 0 last))
      ∙ ap (λ (text : List ℕ). text ++ records_text (later_records run watch 0 (gaps watch.every 0 last))) (told_is run watch.node 0 first)
      ∙ ap (λ (text : List ℕ). output_text (tables_of run) run.texts (told_update watch.node 0 first) ++ text) (later_told 0 (gaps watch.every 0 last))
      ∙ sym (flat_map-append (entry_text (tables_of run) run.texts) (told_update watch.node 0 first) (later_entries run watch 0 (gaps watch.every 0 last)))

  pub watch_told : (last : Option ℕ) → watch_until run watch last ≡ output_text (tables_of run) run.texts (watch_entries run watch last)
  watch_told None = refl
  watch_told (Some last) = messages_told last

module _ (run : Run) (h : IsLawfulRun run) (watch : Watch) (w : IsWatch run watch) (last : ℕ) (is : good run ≡ Some last) where
  abbrev asked : Slice
  asked = slice_of run watch

  abbrev at : ℕ → PlainTable
  at step = cut asked (table_at (state run step) watch.node)

  abbrev Told : List OutputEntry → Type 0
  Told = AllByRecursion (IsEntry (tables_of run) run.texts)

  reached : (step : ℕ) → step ≤ last → IsReached run step
  reached step within = reached_before run step last within (good_reached run last is)

  first_is_tick : IsTick (first_tick run watch.node (cut asked) 0)
  first_is_tick = slice_first_tick run h watch.node w.node asked.first asked.count asked.columns 0 (reached 0 (omega arith))

  later_is_tick : (step more : ℕ) → step + more ≤ last → IsTick (slice_tick run watch.node (cut asked) step more)
  later_is_tick step more within = slice_is_tick run h watch.node w.node asked.first asked.count asked.columns step more (reached (step + more) within)

  -- each message can be told
  first_are : Told (told_update watch.node 0 (change_of (first_tick run watch.node (cut asked) 0)))
  first_are =
      let tick = first_tick run watch.node (cut asked) 0 in
      change_told run h 0 watch.node (change_of tick) (omega arith) w.node
      (change_printable (columns_at run watch.node) run.texts tick first_is_tick (column_count run h watch w) (fits run h watch w 0 (reached 0 (omega arith))))

  message_are : (step more : ℕ) → step + more ≤ last → Told (message_entry run watch step more)
  message_are step more within =
      let tick = slice_tick run watch.node (cut asked) step more in
      change_told run h (step + more) watch.node (change_of tick) (step_small run h (step + more) last is within) w.node
      (change_printable (columns_at run watch.node) run.texts tick (later_is_tick step more within) (column_count run h watch w) (fits run h watch w (step + more) (reached (step + more) within)))

  later_are : (step more left : ℕ) → step + more + left ≤ last → Told (later_entries run watch step (gaps watch.every more left))
  later_are step more zero within =
      elim (more == 0) as (λ b. Told (later_entries run watch step (cond b [] (more ∷ [])))) [
        | true ↦ tt
        | false ↦ every-append (IsEntry (tables_of run) run.texts) (message_entry run watch step more) [] (message_are step more (omega (arith, within))) tt
      ]
  later_are step more (suc left) within =
      elim (suc more == watch.every) as (λ b. Told (later_entries run watch step (cond b (suc more ∷ gaps watch.every 0 left) (gaps watch.every (suc more) left)))) [
        | true ↦
            every-append (IsEntry (tables_of run) run.texts) (message_entry run watch step (suc more)) (later_entries run watch (step + suc more) (gaps watch.every 0 left))
            (message_are step (suc more) (omega (arith, within))) (later_are (step + suc more) 0 left (omega (arith, within)))
        | false ↦ later_are step (suc more) left (omega (arith, within))
      ]

  pub messages_are : Told (messages run watch last)
  messages_are =
      every-append (IsEntry (tables_of run) run.texts) (told_update watch.node 0 (change_of (first_tick run watch.node (cut asked) 0))) (later_entries run watch 0 (gaps watch.every 0 last))
      first_are (later_are 0 0 last (omega arith))

  -- and they make the watched rows
  message_moves : (step more : ℕ) → step + more ≤ last → copy_after watch.node (at step) (message_entry run watch step more) ≡ at (step + more)
  message_moves step more within =
      told_moves watch.node (step + more) (at step) (at (step + more)) (slice_tick run watch.node (cut asked) step more) (record { is_tick = later_is_tick step more within; old_is = refl; new_is = refl })

  later_move : (step more left : ℕ) → step + more + left ≤ last → copy_after watch.node (at step) (later_entries run watch step (gaps watch.every more left)) ≡ at (step + more + left)
  later_move step more zero within =
      (elim (more == 0) as (λ b. (more == 0) ≡ b → copy_after watch.node (at step) (later_entries run watch step (cond b [] (more ∷ []))) ≡ at (step + more + 0)) [
        | true ↦ λ none. let same : step ≡ step + more + 0 = omega (arith, eqb-true more 0 none) in ap at same
        | false ↦ λ _.
            let same : step + more ≡ step + more + 0 = omega arith in
            ap (copy_after watch.node (at step)) (append-nil (message_entry run watch step more)) ∙ message_moves step more (omega (arith, within)) ∙ ap at same
      ]) refl
  later_move step more (suc left) within =
      elim (suc more == watch.every) as (λ b. copy_after watch.node (at step) (later_entries run watch step (cond b (suc more ∷ gaps watch.every 0 left) (gaps watch.every (suc more) left))) ≡ at (step + more + suc left)) [
        | true ↦
            let same : step + suc more + 0 + left ≡ step + more + suc left = omega arith in
            fold-append (applied watch.node) (at step) (message_entry run watch step (suc more)) (later_entries run watch (step + suc more) (gaps watch.every 0 left))
            ∙ ap (λ (some : PlainTable). copy_after watch.node some (later_entries run watch (step + suc more) (gaps watch.every 0 left))) (message_moves step (suc more) (omega (arith, within)))
            ∙ later_move (step + suc more) 0 left (omega (arith, within))
            ∙ ap at same
        | false ↦ let same : step + suc more + left ≡ step + more + suc left = omega arith in later_move step (suc more) left (omega (arith, within)) ∙ ap at same
      ]

  pub slices_made : copy_after watch.node (no_rows (length asked.columns)) (messages run watch last) ≡ at last
  slices_made =
      let first = first_tick run watch.node (cut asked) 0 in
      let later = later_entries run watch 0 (gaps watch.every 0 last) in
      let same : 0 + 0 + last ≡ last = omega arith in
      fold-append (applied watch.node) (no_rows (length asked.columns)) (told_update watch.node 0 (change_of first)) later
      ∙ ap (λ (some : PlainTable). copy_after watch.node some later) (told_moves watch.node 0 (no_rows (length asked.columns)) (at 0) first (record { is_tick = first_is_tick; old_is = refl; new_is = refl }))
      ∙ later_move 0 0 last (omega arith)
      ∙ ap at same

-- whether or not there is a good step
pub watch_are : (run : Run) (h : IsLawfulRun run) (watch : Watch) (w : IsWatch run watch) (last : Option ℕ) → good run ≡ last → AllByRecursion (IsEntry (tables_of run) run.texts) (watch_entries run watch last)
watch_are run h watch w None is = tt
watch_are run h watch w (Some last) is = messages_are run h watch w last is
