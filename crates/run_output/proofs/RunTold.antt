-- The entries of a lawful run, up to its last good step, can be told.
use Rattle.std.proofs.Common.{◌≡◌, refl, ap, sym, subst, true, false, cond, ℕ, ◌+◌, ◌%◌, ◌^◌, ◌<◌, ◌≤◌, arith, List, [], ◌∷◌, map, length}
use Rattle.std.{specs.Prelude.{flat_map, nat_le, nat_lt, Some}, specs.List.{AllByRecursion, list_all, range_with_len}, proofs.lemmas.Bool.{and_parts, ltb-true}, proofs.lemmas.List.length-map, proofs.lemmas.Nat.mod_below}
use Rattle.key_lists.{proofs.Every.{every-append, every_both}, proofs.Parts.every_at, proofs.Ranges.range_below}
use Rattle.tick_laws.{specs.Fitting.FitsColumns, specs.Reached.IsReached, proofs.FittingNodes.{node_fits, node_printable}, proofs.GoodSteps.{good_reached, good_within}, proofs.ReachedTables.reached_tables, proofs.RunTicks.reached_before}
use Rattle.tick_model.{specs.declared.feed.Run.Run, specs.declared.plan.ColumnSpec.ColumnSpec, specs.declared.plan.Node.Node, specs.declared.plan.Published.Published, specs.declared.table.PlainRow.PlainRow, specs.Changes.{Change, change_of, is_empty}, specs.Choices.{IsCalls, IsChoice}, specs.Evaluation.table_at, specs.LawfulRuns.IsLawfulRun, specs.Plans.publication_lawful, specs.Printable.IsPrintable, specs.Spoiled.good, specs.States.{state, tick}, specs.Tables.IsRow, specs.Texts.{columns_at, published_node}}
use Rattle.update_text.{specs.declared.shown.Shown.Shown, specs.Reading.IsToldRow}
use Rattle.run_output.{specs.declared.entry.OutputEntry.OutputEntry, specs.declared.entry.OutputEntry.TheVariants.Update, specs.Entries.{IsEntry, shown_at}, specs.Runs.{callers_entries, calls_entries, shown_node, snapshot_entries, snapshot_entry, step_entries, tables_of, told_update, update_entries, update_entry, where_published}, proofs.RunEntries.{has_passed, printed_are}, proofs.RunTexts.shown_is}

pub every_flat : {X Y : Type 0} (P : Y → Type 0) (Q : X → Type 0) (f : X → List Y) → ((x : X) → Q x → AllByRecursion P (f x)) → (xs : List X) → AllByRecursion Q xs → AllByRecursion P (flat_map f xs)
every_flat P Q f each [] h = tt
every_flat P Q f each (x ∷ xs) h = every-append P (f x) (flat_map f xs) (each x h.0) (every_flat P Q f each xs h.1)

-- the published nodes are nodes
published_are : (nodes : List Node) (published : List Published) → list_all (publication_lawful nodes) published ≡ true → AllByRecursion (λ node. node < length nodes) (map (λ (p : Published). p.node) published)
published_are nodes [] h = tt
published_are nodes (first ∷ others) h =
    let parts = and_parts (publication_lawful nodes first) (list_all (publication_lawful nodes) others) h in
    let three = and_parts _ (nat_le first.limit 4194304) parts.0 in
    let two = and_parts _ (nat_le 1 first.limit) three.0 in
    let one = and_parts (nat_lt first.node (length nodes)) _ two.0 in
    (ltb-true first.node (length nodes) one.0, published_are nodes others parts.1)

module _ (run : Run) (h : IsLawfulRun run) where
  abbrev tables : List Shown
  tables = tables_of run

  abbrev Told : OutputEntry → Type 0
  Told = IsEntry tables run.texts

  columns_same : (node : ℕ) → columns_at run node ≡ (shown_at tables node).columns
  columns_same node = ap (λ (shown : Shown). shown.columns) (sym (shown_is run.plan.nodes node))

  there : (node : ℕ) → node < length run.plan.nodes → node < length tables
  there node less = omega (arith, less, length-map run.plan.nodes shown_node)

  pub step_small : (step last : ℕ) → good run ≡ Some last → step ≤ last → step < 2 ^ 64
  step_small step last is within = omega (arith, within, good_within run last is, h.steps)

  pub change_told : (step node : ℕ) (change : Change) → step < 2 ^ 64 → node < length run.plan.nodes → IsPrintable (columns_at run node) run.texts change → AllByRecursion Told (told_update node step change)
  change_told step node change small less printable =
      (elim (is_empty change.update) as (λ b. is_empty change.update ≡ b → AllByRecursion Told (cond b [] (Update node step change ∷ []))) [
        | true ↦ λ _. tt
        | false ↦ λ some. (
          (
            there node less,
            record {
              printable = subst (λ (columns : List ColumnSpec). IsPrintable columns run.texts change) (columns_same node) printable;
              some = some;
              within = small;
            },
          ),
          tt,
        )
      ]) refl

  update_told : (step : ℕ) → IsReached run step → step < 2 ^ 64 → (node : ℕ) → node < length run.plan.nodes → AllByRecursion Told (update_entry run step node)
  update_told step reached small node less = change_told step node (change_of (tick run step node)) small less (node_printable run h step reached node less)

  pub updates_are : (last : ℕ) → good run ≡ Some last → AllByRecursion Told (update_entries run last)
  updates_are last is =
      every_flat Told (λ step. step < 0 + (last + 1)) (step_entries run) (λ step less.
      let within : step ≤ last = omega (arith, less) in
      every_flat Told (λ node. node < length run.plan.nodes) (update_entry run step) (update_told step (reached_before run step last within (good_reached run last is)) (step_small step last is within)) run.plan.printed (printed_are run.plan h.plan))
      (range_with_len 0 (last + 1)) (range_below 0 (last + 1))

  module _ (last : ℕ) (is : good run ≡ Some last) (some : 0 < length run.plan.published) where
    snapshot_told : (caller call step : ℕ) → caller < 2 ^ 32 → call < 2 ^ 32 → step ≤ last → Told (snapshot_entry run caller call step)
    snapshot_told caller call step caller_small call_small within =
        let count = length run.plan.published in
        let turn = (caller + call) % count in
        let node = published_node run.plan.published turn in
        let less : node < length run.plan.nodes =
        every_at (λ n. n < length run.plan.nodes) (map (λ (p : Published). p.node) run.plan.published) turn 0
        (subst (λ n. turn < n) (sym (length-map run.plan.published (λ (p : Published). p.node))) (mod_below (caller + call) count some))
        (published_are run.plan.nodes run.plan.published (has_passed run.plan h.plan).published) in
        let reached = reached_before run step last within (good_reached run last is) in
        let all = reached_tables run h step reached in
        let table = table_at (state run step) node in
        let fits = node_fits run h step reached.batches node less (all.each node less) in (
          there node less,
          record {
            caller = caller_small;
            call = call_small;
            step = step_small step last is within;
            rising = (all.tables node).rising;
            rows =
                every_both (IsRow table.width) (λ (row : PlainRow). FitsColumns (columns_at run node) (length run.texts) row.cells) (IsToldRow (shown_at tables node).columns run.texts) table.rows
                (λ row own told. subst (λ (columns : List ColumnSpec). IsToldRow columns run.texts row) (columns_same node) (record { key = own.key; numbers = told.numbers; fit = told.kinds }))
                (all.tables node).rows fits;
          },
        )

    calls_told : (caller call : ℕ) (steps : List ℕ) → caller < 2 ^ 32 → call + length steps ≤ 2 ^ 32 → AllByRecursion (λ step. step ≤ last) steps → AllByRecursion Told (calls_entries run caller call steps)
    calls_told caller call [] small few within = tt
    calls_told caller call (step ∷ steps) small few within =
        (snapshot_told caller call step small (omega (arith, few)) within.0, calls_told caller (call + 1) steps small (omega (arith, few)) within.1)

    callers_told : (snaps caller : ℕ) (choice : List (List ℕ)) → caller + length choice ≤ 2 ^ 32 → snaps + 1 ≤ 2 ^ 32 → AllByRecursion (IsCalls snaps last) choice → AllByRecursion Told (callers_entries run caller choice)
    callers_told snaps caller [] few calls_few each = tt
    callers_told snaps caller (steps ∷ others) few calls_few each =
        every-append Told (calls_entries run caller 0 steps) (callers_entries run (caller + 1) others)
        (calls_told caller 0 steps (omega (arith, few)) (omega (arith, each.0.count, calls_few)) each.0.none_past)
        (callers_told snaps (caller + 1) others (omega (arith, few)) calls_few each.1)

  where_told : (published : List Published) (entries : List OutputEntry) → (0 < length published → AllByRecursion Told entries) → AllByRecursion Told (where_published published entries)
  where_told [] entries each = tt
  where_told (first ∷ others) entries each = each (omega arith)

  pub snapshots_are : (last callers snaps : ℕ) (choice : List (List ℕ)) → good run ≡ Some last → callers < 2 ^ 32 → snaps + 1 < 2 ^ 32 → IsChoice callers snaps last choice → AllByRecursion Told (snapshot_entries run choice)
  snapshots_are last callers snaps choice is few calls_few chosen =
      where_told run.plan.published (callers_entries run 0 choice)
      (λ some. callers_told last is some snaps 0 choice (omega (arith, chosen.count, few)) (omega (arith, calls_few)) chosen.each)
