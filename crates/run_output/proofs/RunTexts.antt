-- The texts of a run are those of its entries.
use Rattle.std.proofs.Common.{◌≡◌, refl, ap, sym, ◌∙◌, true, false, cond, ℕ, zero, suc, ◌+◌, ◌%◌, List, [], ◌∷◌, ◌++◌, map, length, get_or}
use Rattle.std.{specs.Prelude.flat_map, specs.List.range_with_len, proofs.lemmas.Grind.flat_map-append, proofs.lemmas.List.append-nil}
use Rattle.tick_model.{specs.declared.feed.Run.Run, specs.declared.plan.Node.Node, specs.declared.plan.Published.Published, specs.Changes.{Change, change_of, is_empty}, specs.Evaluation.table_at, specs.States.{state, tick}, specs.Texts.{calls_records, callers_records, change_records, columns_at, name_at, node_records, published_node, records_text, record_text, snapshot_of, snapshot_records, snapshots_text, some_published, step_records, told_records, updates_text}}
use Rattle.update_text.specs.declared.shown.Shown.{Shown}
use Rattle.run_output.{specs.declared.entry.OutputEntry.OutputEntry, specs.declared.entry.OutputEntry.TheVariants.Update, specs.Entries.{entry_text, output_text, shown_at}, specs.Runs.{callers_entries, calls_entries, shown_node, snapshot_entries, snapshot_entry, step_entries, tables_of, told_update, update_entries, update_entry, where_published}}

-- a node as it is shown
pub shown_is : (nodes : List Node) (node : ℕ) →
    shown_at (map shown_node nodes) node ≡ (let shown : Shown = record { name = get_or (map (λ (n : Node). n.name) nodes) node []; columns = get_or (map (λ (n : Node). n.columns) nodes) node [] } in shown)
shown_is [] node = refl
shown_is (first ∷ nodes) zero = refl
shown_is (first ∷ nodes) (suc node) = shown_is nodes node

-- records and entries that have one text, of each of some
texts_same : {X : Type 0} (tables : List Shown) (texts : List (List ℕ)) (records_of : X → List (List (List ℕ))) (entries_of : X → List OutputEntry) →
    ((x : X) → records_text (records_of x) ≡ output_text tables texts (entries_of x)) → (xs : List X) → records_text (flat_map records_of xs) ≡ output_text tables texts (flat_map entries_of xs)
texts_same tables texts records_of entries_of same [] = refl
texts_same tables texts records_of entries_of same (x ∷ xs) =
    flat_map-append record_text (records_of x) (flat_map records_of xs)
    ∙ ap (λ (text : List ℕ). text ++ records_text (flat_map records_of xs)) (same x)
    ∙ ap (λ (text : List ℕ). output_text tables texts (entries_of x) ++ text) (texts_same tables texts records_of entries_of same xs)
    ∙ sym (flat_map-append (entry_text tables texts) (entries_of x) (flat_map entries_of xs))

module _ (run : Run) where
  abbrev tables : List Shown
  tables = tables_of run

  pub told_is : (node step : ℕ) (change : Change) → records_text (change_records step (name_at run node) (columns_at run node) run.texts change) ≡ output_text tables run.texts (told_update node step change)
  told_is node step change =
      let one = λ (shown : Shown). records_text (change_records step shown.name shown.columns run.texts change) in
      ap one (sym (shown_is run.plan.nodes node)) ∙
      (elim (is_empty change.update) as (λ b. is_empty change.update ≡ b → one (shown_at tables node) ≡ output_text tables run.texts (cond b [] (Update node step change ∷ []))) [
        | true ↦ λ e. ap (λ b. records_text (cond b [] (told_records step (shown_at tables node).name (shown_at tables node).columns run.texts change))) e
        | false ↦ λ e. sym (append-nil (entry_text tables run.texts (Update node step change)))
      ]) refl

  node_text : (step node : ℕ) → records_text (node_records run step node) ≡ output_text tables run.texts (update_entry run step node)
  node_text step node = told_is node step (change_of (tick run step node))

  pub updates_told : (last : ℕ) → updates_text run last ≡ output_text tables run.texts (update_entries run last)
  updates_told last =
      texts_same tables run.texts (step_records run) (step_entries run) (λ step. texts_same tables run.texts (node_records run step) (update_entry run step) (node_text step) run.plan.printed) (range_with_len 0 (last + 1))

  snapshot_text_is : (caller call step : ℕ) → records_text (snapshot_records run caller call step) ≡ entry_text tables run.texts (snapshot_entry run caller call step)
  snapshot_text_is caller call step =
      let node = published_node run.plan.published ((caller + call) % length run.plan.published) in
      ap (λ (shown : Shown). records_text (snapshot_of caller call step shown.name shown.columns run.texts (table_at (state run step) node).rows)) (sym (shown_is run.plan.nodes node))

  calls_told : (caller call : ℕ) (steps : List ℕ) → records_text (calls_records run caller call steps) ≡ output_text tables run.texts (calls_entries run caller call steps)
  calls_told caller call [] = refl
  calls_told caller call (step ∷ steps) =
      flat_map-append record_text (snapshot_records run caller call step) (calls_records run caller (call + 1) steps)
      ∙ ap (λ (text : List ℕ). text ++ records_text (calls_records run caller (call + 1) steps)) (snapshot_text_is caller call step)
      ∙ ap (λ (text : List ℕ). entry_text tables run.texts (snapshot_entry run caller call step) ++ text) (calls_told caller (call + 1) steps)

  callers_told : (caller : ℕ) (choice : List (List ℕ)) → records_text (callers_records run caller choice) ≡ output_text tables run.texts (callers_entries run caller choice)
  callers_told caller [] = refl
  callers_told caller (steps ∷ others) =
      flat_map-append record_text (calls_records run caller 0 steps) (callers_records run (caller + 1) others)
      ∙ ap (λ (text : List ℕ). text ++ records_text (callers_records run (caller + 1) others)) (calls_told caller 0 steps)
      ∙ ap (λ (text : List ℕ). output_text tables run.texts (calls_entries run caller 0 steps) ++ text) (callers_told (caller + 1) others)
      ∙ sym (flat_map-append (entry_text tables run.texts) (calls_entries run caller 0 steps) (callers_entries run (caller + 1) others))

  published_told : (published : List Published) (records : List (List (List ℕ))) (entries : List OutputEntry) → records_text records ≡ output_text tables run.texts entries →
      records_text (some_published published records) ≡ output_text tables run.texts (where_published published entries)
  published_told [] records entries same = refl
  published_told (first ∷ others) records entries same = same

  pub snapshots_told : (choice : List (List ℕ)) → snapshots_text run choice ≡ output_text tables run.texts (snapshot_entries run choice)
  snapshots_told choice = published_told run.plan.published (callers_records run 0 choice) (callers_entries run 0 choice) (callers_told 0 choice)
