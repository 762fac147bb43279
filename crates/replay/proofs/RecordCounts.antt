-- How many records a run prints at most.
use Rattle.std.proofs.Common.{◌≡◌, refl, sym, ap, ◌∙◌, subst, ℕ, zero, suc, ◌+◌, ◌*◌, ◌^◌, ◌<◌, ◌≤◌, ◌++◌, arith, Bool, true, false, cond, length, length-append, List, [], ◌∷◌, not, pos, take}
use Rattle.std.{specs.Prelude.{filter, flat_map, nat_le, nat_lt, ◌==◌}, specs.List.{AllByRecursion, list_all, range_with_len}, specs.Ordering.int_eq, proofs.lemmas.Bool.{and_parts, ltb-true, leb-true}, proofs.lemmas.List.{append-nil, length-map}, proofs.lemmas.List.FromFn.length-range_with_len, proofs.lemmas.Grind.flat_map-append}
use Rattle.key_lists.{specs.Keys.{is_among, IsRising, run_with, runs}, proofs.Every.every_weaker, proofs.Rising.as_filter, proofs.Ranges.{range_last, range_below}}
use Rattle.tick_model.{specs.declared.feed.Run.Run, specs.declared.plan.ColumnSpec.ColumnSpec, specs.declared.plan.Plan.Plan, specs.declared.table.PlainRow.PlainRow, specs.declared.table.PlainTable.PlainTable, specs.declared.update.KeyPair.KeyPair, specs.declared.update.ShiftRange.ShiftRange, specs.Changes.{Change, change_of, is_empty, is_none}, specs.Evaluation.table_at, specs.LawfulRuns.IsLawfulRun, specs.Plans.{is_lawful, rises}, specs.Shifts.{delta, extend, one, stretches}, specs.States.{state, tick}, specs.Tables.keys, specs.Texts.{change_records, columns_at, name_at, told_records, node_records, step_records, updates_records}, specs.Updates.{IsTick, Tick, between, differs, new_keys, old_keys}}
use Rattle.tick_laws.{specs.Reached.{IsReached, table_before}, proofs.EvalNodes.all_pass, proofs.ReachedTables.{bounded_at, reached_tables}, proofs.RunTicks.{lawful_ticks, reached_before}, proofs.ResultCells.length-filter_most}
use Rattle.update_text.{specs.Told.records_of, proofs.ChangeRecords.{first_and_parts, length-parts}}

-- runs and stretches are at most as many as what they are made of
run_with_le : (key : ℕ) (others : List (ℕ × ℕ)) → length (run_with key others) ≤ length others + 1
run_with_le key [] = omega arith
run_with_le key (next ∷ others) =
    elim (next.0 == key + 1) as (λ b. length (cond b ((key, next.1) ∷ others) ((key, key) ∷ next ∷ others)) ≤ length (next ∷ others) + 1) [
      | true ↦ omega arith
      | false ↦ omega arith
    ]

runs_le : (ks : List ℕ) → length (runs ks) ≤ length ks
runs_le [] = omega arith
runs_le (k ∷ ks) = omega (arith, run_with_le k (runs ks), runs_le ks)

extend_le : (pair : KeyPair) (ranges : List ShiftRange) → length (extend pair ranges) ≤ length ranges + 1
extend_le pair [] = omega arith
extend_le pair (range ∷ ranges) =
    elim (int_eq (delta pair) range.delta) as (λ b. length (cond b ((record range { begin = pair.old }) ∷ ranges) (one pair ∷ range ∷ ranges)) ≤ length (range ∷ ranges) + 1) [
      | true ↦ omega arith
      | false ↦ omega arith
    ]

stretches_le : (pairs : List KeyPair) → length (stretches pairs) ≤ length pairs
stretches_le [] = omega arith
stretches_le (pair ∷ pairs) = omega (arith, extend_le pair (stretches pairs), stretches_le pairs)

-- rising keys among others are at most as many
rising_le : (xs ys : List ℕ) → IsRising xs → IsRising ys → AllByRecursion (λ x. is_among x ys ≡ true) xs → length xs ≤ length ys
rising_le xs ys rising others among =
    subst (λ zs. length zs ≤ length ys) (as_filter xs ys rising others among) (length-filter_most (λ y. is_among y xs) ys)

-- the records of a change
records_le : (step : ℕ) (name : List ℕ) (columns : List ColumnSpec) (texts : List (List ℕ)) (change : Change) → length (change_records step name columns texts change) ≤ records_of change.update
records_le step name columns texts change = go (is_empty change.update) refl
  where
    go : (b : Bool) → is_empty change.update ≡ b → length (change_records step name columns texts change) ≤ records_of change.update
    go true none = subst (λ b. length (cond b [] (told_records step name columns texts change)) ≤ records_of change.update) (sym none) (omega arith)
    go false some = omega (arith, ap length (first_and_parts step name columns texts change some), length-parts columns texts change)

abbrev most : ℕ
most = 4194304

told_le : (tick : Tick) → IsTick tick → length tick.old.rows ≤ most → length tick.new.rows ≤ most → records_of (between tick) ≤ 2 ^ 25
told_le tick is olds news =
    let update = between tick in
    let old = keys tick.old.rows in
    let new = keys tick.new.rows in
    let kept : length (old_keys tick.kept) ≤ length old = rising_le (old_keys tick.kept) old is.rising_old is.old_table.rising is.of_old in
    let columns : (bs : List ℕ) → cond (is_none bs) 0 1 ≤ 1 = λ bs. elim (is_none bs) as (λ b. cond b 0 1 ≤ 1) [ true ↦ omega arith | false ↦ omega arith ] in
    omega (
      arith,
      runs_le update.removed,
      length-filter_most (λ key. not (is_among key (old_keys tick.kept))) old,
      length-filter_most (λ key. not (is_among key (new_keys tick.kept))) new,
      length-filter_most (λ (range : ShiftRange). not (int_eq range.delta (pos 0))) (stretches tick.kept),
      stretches_le tick.kept,
      length-filter_most (differs tick.old tick.new) tick.kept,
      length-map tick.old.rows (λ (row : PlainRow). row.key),
      length-map tick.new.rows (λ (row : PlainRow). row.key),
      length-map tick.kept (λ (pair : KeyPair). pair.old),
      length-map (filter (differs tick.old tick.new) tick.kept) (λ (pair : KeyPair). pair.new),
      kept,
      columns update.columns,
      olds,
      news,
    )

-- lists that are joined end to end
flat_few : {X : Type 0} (f : ℕ → List X) (bound : ℕ) (xs : List ℕ) → AllByRecursion (λ x. length (f x) ≤ bound) xs → length (flat_map f xs) ≤ length xs * bound
flat_few f bound [] all = omega arith
flat_few f bound (x ∷ xs) all = omega (arith, length-append (f x) (flat_map f xs), all.0, flat_few f bound xs all.1)

pub flat_take_le : {X : Type 0} (f : ℕ → List X) (k : ℕ) (xs : List ℕ) → length (flat_map f (take k xs)) ≤ length (flat_map f xs)
flat_take_le f zero xs = omega arith
flat_take_le f (suc k) [] = omega arith
flat_take_le f (suc k) (x ∷ xs) = omega (arith, length-append (f x) (flat_map f (take k xs)), length-append (f x) (flat_map f xs), flat_take_le f k xs)

-- numbers that rise below a limit are few
rises_few : (limit x : ℕ) (xs : List ℕ) → rises (x ∷ xs) ≡ true → AllByRecursion (λ y. y < limit) (x ∷ xs) → x + length (x ∷ xs) ≤ limit
rises_few limit x [] rising below = omega (arith, below.0)
rises_few limit x (y ∷ ys) rising below =
    let parts = and_parts (nat_lt x y) (rises (y ∷ ys)) rising in
    omega (arith, ltb-true x y parts.0, rises_few limit y ys parts.1 below.1)

all_few : (limit : ℕ) (xs : List ℕ) → rises xs ≡ true → AllByRecursion (λ y. y < limit) xs → length xs ≤ limit
all_few limit [] rising below = omega arith
all_few limit (x ∷ xs) rising below = omega (arith, rises_few limit x xs rising below)

-- the printed nodes of a lawful plan are nodes, and few
pub record ArePrinted (plan : Plan) : Type 0 where
  pub there : AllByRecursion (λ node. node < length plan.nodes) plan.printed
  pub few : length plan.printed ≤ 256
  pub nodes_few : length plan.nodes ≤ 256

pub lawful_printed : (plan : Plan) → is_lawful plan ≡ true → ArePrinted plan
lawful_printed plan h =
    let p1 = and_parts _ _ h in
    let p2 = and_parts _ _ p1.0 in
    let p3 = and_parts _ _ p2.0 in
    let p4 = and_parts _ (list_all (λ node. nat_lt node (length plan.nodes)) plan.printed) p3.0 in
    let p5 = and_parts _ (rises plan.printed) p4.0 in
    let p6 = and_parts _ _ p5.0 in
    let p7 = and_parts _ _ p6.0 in
    let p8 = and_parts (nat_le (length plan.nodes) 256) _ p7.0 in
    let nodes_few : length plan.nodes ≤ 256 = leb-true (length plan.nodes) 256 p8.0 in
    let there = every_weaker (λ node. nat_lt node (length plan.nodes) ≡ true) (λ node. node < length plan.nodes) plan.printed (λ node less. ltb-true node (length plan.nodes) less) (all_pass (λ node. nat_lt node (length plan.nodes)) plan.printed p4.1) in
    record { there = there; few = omega (arith, all_few (length plan.nodes) plan.printed p5.1 there, nodes_few); nodes_few = nodes_few }

-- the records of a run, up to a step
pub updates_more : (run : Run) (step : ℕ) → updates_records run (step + 1) ≡ updates_records run step ++ step_records run (step + 1)
updates_more run step =
    ap (flat_map (step_records run)) (range_last 0 (step + 1))
    ∙ flat_map-append (step_records run) (range_with_len 0 (step + 1)) ((0 + (step + 1)) ∷ [])
    ∙ ap (λ records. updates_records run step ++ records) (append-nil (step_records run (0 + (step + 1))) ∙ ap (step_records run) (zero_plus (step + 1)))
  where
    zero_plus : (n : ℕ) → 0 + n ≡ n
    zero_plus n = omega arith

pub length-updates_more : (run : Run) (step : ℕ) → length (updates_records run (step + 1)) ≡ length (updates_records run step) + length (step_records run (step + 1))
length-updates_more run step = ap length (updates_more run step) ∙ length-append (updates_records run step) (step_records run (step + 1))

pub length-updates_none : (run : Run) → length (updates_records run 0) ≡ length (step_records run 0)
length-updates_none run = ap length (append-nil (step_records run 0))

module _ (run : Run) (lawful : IsLawfulRun run) where
  rows_few : (step : ℕ) → IsReached run step → (node : ℕ) → node < length run.plan.nodes → length (table_at (state run step) node).rows ≤ most
  rows_few step reached node less = (bounded_at run lawful step reached.batches node less ((reached_tables run lawful step reached).each node less)).count

  before_few : (step : ℕ) → IsReached run step → (node : ℕ) → node < length run.plan.nodes → length (table_before run step node).rows ≤ most
  before_few zero reached node less = omega arith
  before_few (suc step) reached node less = rows_few step (reached_before run step (suc step) (omega arith) reached) node less

  node_few : (step : ℕ) → IsReached run step → (node : ℕ) → node < length run.plan.nodes → length (node_records run step node) ≤ 2 ^ 25
  node_few step reached node less =
      let from = lawful_ticks run lawful step reached node less in
      let told = told_le (tick run step node) from.is_tick
      (subst (λ (table : PlainTable). length table.rows ≤ most) (sym from.old_is) (before_few step reached node less))
      (subst (λ (table : PlainTable). length table.rows ≤ most) (sym from.new_is) (rows_few step reached node less)) in
      omega (arith, records_le step (name_at run node) (columns_at run node) run.texts (change_of (tick run step node)), told)

  pub step_few : (step : ℕ) → IsReached run step → length (step_records run step) ≤ 2 ^ 33
  step_few step reached =
      let printed = lawful_printed run.plan lawful.plan in
      omega (
        arith,
        flat_few (node_records run step) (2 ^ 25) run.plan.printed
            (every_weaker (λ node. node < length run.plan.nodes) (λ node. length (node_records run step node) ≤ 2 ^ 25) run.plan.printed (node_few step reached) printed.there),
        printed.few,
      )

  pub updates_few : (last : ℕ) → last ≤ length run.batches → IsReached run last → length (updates_records run last) < 2 ^ 64
  updates_few last within reached =
      omega (
        arith,
        flat_few (step_records run) (2 ^ 33) (range_with_len 0 (last + 1))
            (every_weaker (λ step. step < 0 + (last + 1)) (λ step. length (step_records run step) ≤ 2 ^ 33) (range_with_len 0 (last + 1))
            (λ step below. step_few step (reached_before run step last (omega (arith, below)) reached)) (range_below 0 (last + 1))),
        length-range_with_len 0 (last + 1),
        within,
        lawful.steps,
      )
