-- What updates make of a copy.
use Rattle.std.proofs.Common.{◌≡◌, refl, ap, sym, ◌∙◌, subst, true, false, true≢false, cond, ◌||◌, ◌==◌, ℕ, zero, suc, ◌+◌, ◌-◌, ◌<◌, ◌≤◌, add-one, arith, List, [], ◌∷◌, ◌++◌, eq-eqb, eqb-true}
use Rattle.std.{specs.Prelude.{flat_map, fold, nat_lt, Some}, specs.List.{AllByRecursion, range_with_len}, proofs.lemmas.Bool.{and_parts, ltb-true}, proofs.lemmas.Grind.flat_map-append}
use Rattle.key_lists.{specs.Keys.is_among, proofs.Among.among_below, proofs.Every.every_weaker, proofs.Ranges.range-append}
use Rattle.tick_model.{specs.declared.feed.Run.Run, specs.declared.table.PlainTable.PlainTable, specs.Changes.{Change, change_of, changed, is_empty}, specs.Evaluation.table_at, specs.LawfulRuns.IsLawfulRun, specs.Plans.rises, specs.Spoiled.good, specs.States.{empty_at, state, tick}, specs.Updates.{Tick, between}}
use Rattle.tick_laws.{specs.Reached.{IsReached, IsTickFrom, table_before}, proofs.EmptyUpdates.unchanged_by_empty, proofs.GoodSteps.good_reached, proofs.RunTicks.{lawful_ticks, reached_before}, proofs.ToldRows.change-carries}
use Rattle.run_output.{specs.declared.entry.OutputEntry.OutputEntry, specs.declared.entry.OutputEntry.TheVariants.Update, specs.Runs.{applied, copy_after, step_entries, told_update, update_entries, update_entry}, proofs.RunEntries.{printed_there, printed_rise}}

pub fold-append : {A B : Type 0} (f : B → A → B) (a : B) (xs ys : List A) → fold f a (xs ++ ys) ≡ fold f (fold f a xs) ys
fold-append f a [] ys = refl
fold-append f a (x ∷ xs) ys = fold-append f (f a x) xs ys

-- the copy after the update of a node, that of another and the node's own
abbrev moved : PlainTable → Change → PlainTable
moved table change = cond (is_empty change.update) table (changed table change)

told_other : (node other step : ℕ) (change : Change) (table : PlainTable) → (other == node) ≡ false → copy_after node table (told_update other step change) ≡ table
told_other node other step change table differs =
    elim (is_empty change.update) as (λ b. copy_after node table (cond b [] (Update other step change ∷ [])) ≡ table) [
      | true ↦ refl
      | false ↦ ap (λ b. cond b (changed table change) table) differs
    ]

told_own : (node other step : ℕ) (change : Change) (table : PlainTable) → (other == node) ≡ true → copy_after node table (told_update other step change) ≡ moved table change
told_own node other step change table own =
    elim (is_empty change.update) as (λ b. copy_after node table (cond b [] (Update other step change ∷ [])) ≡ cond b table (changed table change)) [
      | true ↦ refl
      | false ↦ ap (λ b. cond b (changed table change) table) own
    ]

-- numbers that rise are above the first of them
rises_above : (x : ℕ) (xs : List ℕ) → rises (x ∷ xs) ≡ true → AllByRecursion (λ y. x < y) xs
rises_above x [] e = tt
rises_above x (y ∷ ys) e =
    let parts = and_parts (nat_lt x y) (rises (y ∷ ys)) e in
    let first = ltb-true x y parts.0 in
    (first, every_weaker (λ z. y < z) (λ z. x < z) ys (λ z more. omega (arith, first, more)) (rises_above y ys parts.1))

rises_later : (x : ℕ) (xs : List ℕ) → rises (x ∷ xs) ≡ true → rises xs ≡ true
rises_later x [] e = refl
rises_later x (y ∷ ys) e = (and_parts (nat_lt x y) (rises (y ∷ ys)) e).1

module _ (run : Run) (step node : ℕ) where
  abbrev told : ℕ → Change
  told other = change_of (tick run step other)

  others_leave : (printed : List ℕ) (table : PlainTable) → is_among node printed ≡ false → copy_after node table (flat_map (update_entry run step) printed) ≡ table
  others_leave [] table absent = refl
  others_leave (other ∷ printed) table absent =
      (elim (other == node) as (λ b. (other == node) ≡ b → (b || is_among node printed) ≡ false → copy_after node table (flat_map (update_entry run step) (other ∷ printed)) ≡ table) [
        | true ↦ λ _ absent. absurd (true≢false absent)
        | false ↦ λ differs absent.
            fold-append (applied node) table (update_entry run step other) (flat_map (update_entry run step) printed)
            ∙ ap (λ (some : PlainTable). copy_after node some (flat_map (update_entry run step) printed)) (told_other node other step (told other) table differs)
            ∙ others_leave printed table absent
      ]) refl absent

  own_moves : (printed : List ℕ) (table : PlainTable) → rises printed ≡ true → is_among node printed ≡ true → copy_after node table (flat_map (update_entry run step) printed) ≡ moved table (told node)
  own_moves [] table rising there = absurd (true≢false (sym there))
  own_moves (other ∷ printed) table rising there =
      (elim (other == node) as (λ b. (other == node) ≡ b → (b || is_among node printed) ≡ true → copy_after node table (flat_map (update_entry run step) (other ∷ printed)) ≡ moved table (told node)) [
        | true ↦ λ own _.
            let same : other ≡ node = eqb-true other node own in
            let later : is_among node printed ≡ false = subst (λ n. is_among n printed ≡ false) same (among_below other printed (rises_above other printed rising)) in
            fold-append (applied node) table (update_entry run step other) (flat_map (update_entry run step) printed)
            ∙ ap (λ (some : PlainTable). copy_after node some (flat_map (update_entry run step) printed)) (told_own node other step (told other) table own)
            ∙ others_leave printed (moved table (told other)) later
            ∙ ap (λ n. moved table (told n)) same
        | false ↦ λ differs there.
            fold-append (applied node) table (update_entry run step other) (flat_map (update_entry run step) printed)
            ∙ ap (λ (some : PlainTable). copy_after node some (flat_map (update_entry run step) printed)) (told_other node other step (told other) table differs)
            ∙ own_moves printed table (rises_later other printed rising) there
      ]) refl there

-- the change of a tick moves the old table to the new one
tick_moves : (old new : PlainTable) (tick : Tick) → IsTickFrom old new tick → moved old (change_of tick) ≡ new
tick_moves old new tick from =
    (elim (is_empty (between tick)) as (λ b. is_empty (between tick) ≡ b → cond b old (changed old (change_of tick)) ≡ new) [
      | true ↦ λ none. sym from.old_is ∙ sym (unchanged_by_empty tick from.is_tick none) ∙ from.new_is
      | false ↦ λ _. ap (λ (table : PlainTable). changed table (change_of tick)) (sym from.old_is) ∙ change-carries tick from.is_tick ∙ from.new_is
    ]) refl

pub told_moves : (node step : ℕ) (old new : PlainTable) (tick : Tick) → IsTickFrom old new tick → copy_after node old (told_update node step (change_of tick)) ≡ new
told_moves node step old new tick from = told_own node node step (change_of tick) old (eq-eqb node node refl) ∙ tick_moves old new tick from

module _ (run : Run) (h : IsLawfulRun run) (node : ℕ) (there : is_among node run.plan.printed ≡ true) where
  step_moves : (step : ℕ) → IsReached run step → copy_after node (table_before run step node) (step_entries run step) ≡ table_at (state run step) node
  step_moves step reached =
      own_moves run step node run.plan.printed (table_before run step node) (printed_rise run.plan h.plan) there
      ∙ tick_moves (table_before run step node) (table_at (state run step) node) (tick run step node) (lawful_ticks run h step reached node (printed_there run.plan h.plan node there))

  steps_move : (first count : ℕ) → ((s : ℕ) → s < first + count → IsReached run s) → copy_after node (table_before run first node) (flat_map (step_entries run) (range_with_len first count)) ≡ table_before run (first + count) node
  steps_move first zero reached = let same : first ≡ first + 0 = omega arith in ap (λ s. table_before run s node) same
  steps_move first (suc count) reached =
      let rest = flat_map (step_entries run) (range_with_len (first + 1) count) in
      let next : suc first ≡ first + 1 = sym (add-one first) in
      let end : first + 1 + count ≡ first + suc count = omega arith in
      fold-append (applied node) (table_before run first node) (step_entries run first) rest
      ∙ ap (λ (some : PlainTable). copy_after node some rest) (step_moves first (reached first (omega arith)) ∙ ap (λ s. table_before run s node) next)
      ∙ steps_move (first + 1) count (λ s less. reached s (omega (arith, less)))
      ∙ ap (λ s. table_before run s node) end

  pub tables_made : (step last : ℕ) → good run ≡ Some last → step ≤ last → copy_after node (empty_at run.plan node) (update_entries run step) ≡ table_at (state run step) node
  tables_made step last is within =
      let next : 0 + (step + 1) ≡ suc step = omega arith in
      steps_move 0 (step + 1) (λ s less. reached_before run s last (omega (arith, less, within)) (good_reached run last is)) ∙ ap (λ s. table_before run s node) next

-- the updates up to a step stand first
pub updates_before : (run : Run) (step last : ℕ) → step ≤ last → (later : List OutputEntry) × (update_entries run last ≡ update_entries run step ++ later)
updates_before run step last within =
    let count : last + 1 ≡ (step + 1) + (last - step) = omega (arith, within) in (
      flat_map (step_entries run) (range_with_len (0 + (step + 1)) (last - step)),
      ap (λ n. flat_map (step_entries run) (range_with_len 0 n)) count
          ∙ ap (flat_map (step_entries run)) (range-append 0 (step + 1) (last - step))
          ∙ flat_map-append (step_entries run) (range_with_len 0 (step + 1)) (range_with_len (0 + (step + 1)) (last - step)),
    )
