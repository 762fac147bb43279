-- What is kept for an aggregate says of a group what the aggregate of its rows is.
use Rattle.std.proofs.Common.{◌≡◌, refl, ap, ap₂, sym, ◌∙◌, subst, Bool, true, false, not, cond, ◌==◌, ◌||◌, ℕ, zero, suc, ◌-◌, ◌^◌, ◌<◌, ◌≤◌, arith, List, [], ◌∷◌, ◌++◌, map, filter, length, Option, Some, None, ℤ, pos, ◌+ℤ◌, w64, fold, option_map, true≢false, append_assoc, is_some, is_ok, OnOk, Result, Ok, Err, if◌then◌else◌}
use Rattle.std.{specs.Cmp.signed_Decides, specs.Cmp.Rules.signed_items, specs.List.AllByRecursion, specs.Option.option_map_or, specs.Ordering.int_eq, specs.Prelude.{find, slice_get, unwrap_or}, proofs.lemmas.Bool.and_parts, proofs.lemmas.Int.{int_wrap_fits, ints}, proofs.lemmas.List.length-map}
use Rattle.key_lists.{specs.Keys.{is_among, IsRising}, proofs.Every.{every-filter, every-map, every_weaker, filter-map, filter_passes, map_map, map_same}}
use Rattle.row_changes.specs.Sums.{added_up}
use Rattle.row_groups.{proofs.Keys.some_of, specs.Members.{Grouped, Member, Names, by_at, group_of, keys_of, member_under, name_at, placed as member_placed}}
use Rattle.tick_laws.{proofs.ResultCells.length-filter_most, proofs.ResultTables.table_count}
use Rattle.tick_model.{proofs.Among.{each_found, rows_among}, specs.Agg.{agg_table, aggregate, column_of, key_cells, over, present, sum_of}, specs.declared.plan.Agg.Agg, specs.declared.table.PlainRow.PlainRow, specs.declared.table.PlainTable.PlainTable, specs.Formulas.wrap, specs.Tables.{cell, cells_at, is_null, keys, null, row_at, same_cells, IsTable}}
use Rattle.agg_by.{specs.declared.running.Accumulator.Accumulator, specs.declared.running.Accumulator.TheVariants.{Count, Sum, Min, Max, First, Last}, specs.Answers.{answer, cell_of}, specs.ByNumber.at_number, specs.Kept.{AnswerAll, Answers, agg_of, cells_in, group_rows, indexed, member_by}, specs.Steps.{first_keys, kept_cells, key_at}, specs.Sums.{no_total, sum_or_null, total_of}, specs.Values.{greatest, in_order, least, opposites}, proofs.Bringing.{keys-members, members}, proofs.GroupRows.{cells-agg, first_at}, proofs.Ordered.{greatest_is, least_is}}

-- the sum of cells
fold_added : (a : ℤ) (xs : List ℤ) → fold ◌+ℤ◌ a xs ≡ a +ℤ added_up (λ x. x) xs
fold_added a [] = none a
  where
    none : (a : ℤ) → a ≡ a +ℤ pos 0
    none a = omega (arith, ints)
fold_added a (x ∷ xs) = fold_added (a +ℤ x) xs ∙ through a x (added_up (λ x. x) xs)
  where
    through : (a x s : ℤ) → (a +ℤ x) +ℤ s ≡ a +ℤ (x +ℤ s)
    through a x s = omega (arith, ints)

with_none : (s : ℤ) → pos 0 +ℤ s ≡ s
with_none s = omega (arith, ints)

pub small_wraps : (n : ℕ) → n ≤ 2 ^ 62 → wrap (pos n) ≡ pos n
small_wraps n h = int_wrap_fits w64 (pos n) (record { sfits = below n h })
  where
    below : (n : ℕ) → n ≤ 2 ^ 62 → n < 2 ^ 63
    below n h = omega (arith, h)

not_none : (n : ℕ) → int_eq (pos (suc n)) (pos 0) ≡ false
not_none n = by (int_eq (pos (suc n)) (pos 0)) refl
  where
    by : (b : Bool) → int_eq (pos (suc n)) (pos 0) ≡ b → b ≡ false
    by false e = refl
    by true e = absurd (past ((signed_Decides (pos (suc n)) (pos 0)).0 e))
      where
        past : pos (suc n) ≡ pos 0 → ⊥
        past e = cc

sum_is : (xs : List ℤ) → length xs ≤ 2 ^ 62 → sum_or_null (total_of xs) ≡ sum_of xs
sum_is [] few = ap (λ z. if int_eq z (pos 0) then null else wrap (pos 0)) (small_wraps 0 few)
sum_is (x ∷ xs) few =
    ap (λ z. if int_eq z (pos 0) then null else wrap (added_up (λ x. x) (x ∷ xs))) (small_wraps (suc (length xs)) few)
    ∙ ap (λ b. if b then null else wrap (added_up (λ x. x) (x ∷ xs))) (not_none (length xs))
    ∙ ap wrap (sym (fold_added (pos 0) (x ∷ xs) ∙ with_none (added_up (λ x. x) (x ∷ xs))))

-- what is said of a group for which nothing is kept is said of no cells
told : {X : Type 0} (say : X → ℤ) (none : X) (entries : List X) (n : ℕ) → say none ≡ null → option_map_or say (slice_get entries n) null ≡ say (at_number none n entries)
told say none [] n e = sym e
told say none (entry ∷ entries) zero e = refl
told say none (entry ∷ entries) (suc n) e = told say none entries n e

fold_first : (x : ℤ) (xs : List ℤ) → fold (λ first _. first) x xs ≡ x
fold_first x [] = refl
fold_first x (y ∷ ys) = fold_first x ys

first_over : (column : ℕ) (some : List PlainRow) → option_map_or (λ (row : PlainRow). cell row.cells column) (slice_get some 0) null ≡ over (λ first _. first) (column_of some column)
first_over column [] = refl
first_over column (row ∷ some) = sym (fold_first (cell row.cells column) (column_of some column))

last_fold : (column : ℕ) (row : PlainRow) (some : List PlainRow) → option_map_or (λ (row : PlainRow). cell row.cells column) (slice_get (row ∷ some) (length (row ∷ some) - 1)) null ≡ fold (λ _ last. last) (cell row.cells column) (column_of some column)
last_fold column row [] = refl
last_fold column row (next ∷ some) =
    ap (λ n. option_map_or (λ (row : PlainRow). cell row.cells column) (slice_get (row ∷ next ∷ some) n) null) (back (length some)) ∙ last_fold column next some
  where
    back : (n : ℕ) → suc (suc n) - 1 ≡ suc (suc n - 1)
    back n = omega arith

last_over : (column : ℕ) (some : List PlainRow) → option_map_or (λ (row : PlainRow). cell row.cells column) (slice_get some (length some - 1)) null ≡ over (λ _ last. last) (column_of some column)
last_over column [] = refl
last_over column (row ∷ some) = last_fold column row some

-- the key cells of a row that is kept
pub cells_known : (by : List ℕ) (column : Option ℕ) (rows : List PlainRow) (key : ℕ) → is_among key (keys rows) ≡ true → option_map (λ (member : Member). member.cells) (member_under key (members by column rows)) ≡ Some (key_at by rows key)
cells_known by column [] key h = absurd (true≢false (sym h))
cells_known by column (row ∷ rows) key h = cases (row.key == key) refl (λ k. cells_known by column rows key k)
  where
    cases : (b : Bool) → (row.key == key) ≡ b → (is_among key (keys rows) ≡ true → option_map (λ (member : Member). member.cells) (member_under key (members by column rows)) ≡ Some (key_at by rows key))
        → option_map (λ (member : Member). member.cells) (cond b (Some (member_by by column row)) (member_under key (members by column rows))) ≡ Some (key_cells by (unwrap_or (option_map (λ (row : PlainRow). row.cells) (cond b (Some row) (find (λ row. row.key == key) rows))) []))
    cases true e rest = refl
    cases false e rest = rest (sym (ap (λ b. b || is_among key (keys rows)) e) ∙ h)

-- rows that all stand at one place stay in order of their keys
in_key_order : (by : List ℕ) (rows : List PlainRow) → by_at (members by None rows) ≡ members by None rows
in_key_order by [] = refl
in_key_order by (row ∷ rows) = ap (member_placed (member_by by None row)) (in_key_order by rows) ∙ before rows
  where
    before : (others : List PlainRow) → member_placed (member_by by None row) (members by None others) ≡ member_by by None row ∷ members by None others
    before [] = refl
    before (other ∷ others) = refl

module _ (by : List ℕ) (rows : List PlainRow) (cells : List ℤ) where
  abbrev pub group : List PlainRow
  group = group_rows by cells rows

  members-group : (column : Option ℕ) → filter (λ (member : Member). same_cells cells member.cells) (members by column rows) ≡ members by column group
  members-group column = filter-map (λ (member : Member). same_cells cells member.cells) (member_by by column) rows

  pub group_is : group_of cells (members by None rows) ≡ members by None group
  group_is = ap by_at (members-group None) ∙ in_key_order by group

  pub keys_group : keys_of (group_of cells (members by None rows)) ≡ keys group
  keys_group = ap keys_of group_is ∙ keys-members by None group

  pub length_group : length (group_of cells (members by None rows)) ≡ length group
  length_group = ap length group_is ∙ length-map group (member_by by None)

  -- its keys are those of rows
  pub group_there : AllByRecursion (λ key. is_among key (keys rows) ≡ true) (keys_of (group_of cells (members by None rows)))
  group_there =
      subst (AllByRecursion (λ key. is_among key (keys rows) ≡ true)) (sym keys_group)
      (every-map (λ key. is_among key (keys rows) ≡ true) (λ (row : PlainRow). row.key) group
      (every-filter (λ row. is_among row.key (keys rows) ≡ true) (λ row. same_cells cells (key_cells by row.cells)) rows (rows_among rows)))

  own_rows : IsRising (keys rows) → AllByRecursion (λ row. cells_at row.key rows ≡ row.cells) group
  own_rows rising =
      every-filter (λ row. cells_at row.key rows ≡ row.cells) (λ row. same_cells cells (key_cells by row.cells)) rows
      (every_weaker (λ row. row_at row.key rows ≡ Some row) (λ row. cells_at row.key rows ≡ row.cells) rows
      (λ row found. ap (λ (o : Option PlainRow). unwrap_or (option_map (λ (row : PlainRow). row.cells) o) []) found) (each_found rows rising))

  cell_at : (column : ℕ) (some : List PlainRow) (i : ℕ) → AllByRecursion (λ row. cells_at row.key rows ≡ row.cells) some → cell_of rows column (slice_get (keys some) i) ≡ option_map_or (λ (row : PlainRow). cell row.cells column) (slice_get some i) null
  cell_at column [] i h = refl
  cell_at column (row ∷ some) zero h = ap (λ cells. cell cells column) h.0
  cell_at column (row ∷ some) (suc i) h = cell_at column some i h.1

  -- what is said of the group is the aggregate of its rows
  pub answer_is : IsRising (keys rows) → length group ≤ 2 ^ 62 → (names : Names) (number : ℕ) → name_at number names ≡ Some cells → (running : Accumulator) → Answers by names rows running
      → answer running number (group_of cells (members by None rows)) rows ≡ aggregate group (agg_of running)
  answer_is rising few names number named Count p = ap pos length_group
  answer_is rising few names number named (Sum column sums) p =
      told sum_or_null no_total sums number refl
      ∙ ap sum_or_null (p number ∙ ap (λ (name : Option (List ℤ)). total_of (cells_in by column rows name)) named)
      ∙ sum_is (present (column_of group column)) (fewer (length group) (length (column_of group column)) (length (present (column_of group column))) few (length-map group (λ (row : PlainRow). cell row.cells column)) (length-filter_most (λ value. not (is_null value)) (column_of group column)))
    where
      fewer : (n m k : ℕ) → n ≤ 2 ^ 62 → m ≡ n → k ≤ m → k ≤ 2 ^ 62
      fewer n m k h e l = omega (arith, h, e, l)
  answer_is rising few names number named (Min column values) p =
      told least [] values number refl ∙ ap least (p number ∙ ap (λ (name : Option (List ℤ)). opposites (cells_in by column rows name)) named) ∙ least_is (present (column_of group column))
  answer_is rising few names number named (Max column values) p =
      told greatest [] values number refl ∙ ap greatest (p number ∙ ap (λ (name : Option (List ℤ)). in_order (cells_in by column rows name)) named) ∙ greatest_is (present (column_of group column))
  answer_is rising few names number named (First column) p = ap (λ ks. cell_of rows column (slice_get ks 0)) keys_group ∙ cell_at column group 0 (own_rows rising) ∙ first_over column group
  answer_is rising few names number named (Last column) p =
      ap₂ (λ ks n. cell_of rows column (slice_get ks (n - 1))) keys_group length_group ∙ cell_at column group (length group - 1) (own_rows rising) ∙ last_over column group

pub both_ok : {X E : Type 0} (r : Result X E) (P Q R : Type 0) → (P → Q → R) → OnOk r P → OnOk r Q → OnOk r R
both_ok (Ok x) P Q R f p q = f p q
both_ok (Err e) P Q R f p q = tt

-- the cells that the members of a group have, which a row leads
head_cells : (by : List ℕ) (first : ℕ) (rows : List PlainRow) (cells own : List ℤ) → option_map_or (λ (row : PlainRow). row.key == first) (slice_get rows 0) false ≡ true
    → AllByRecursion (λ (row : PlainRow). same_cells cells (key_cells by row.cells) ≡ true) rows → AllByRecursion (λ (member : Member). member.cells ≡ own) (members by None rows) → own ≡ cells
head_cells by first [] cells own e h k = absurd (true≢false (sym e))
head_cells by first (row ∷ rows) cells own e h k = sym k.0 ∙ sym ((signed_items cells (key_cells by row.cells)).0 h.0)

-- what is kept of the rows of a table
module _ (by : List ℕ) (table : PlainTable) (t : IsTable table) (kept : Grouped) (are : kept ≡ indexed by None table.rows) where
  members_are : kept.members ≡ members by None table.rows
  members_are = ap (λ (kept : Grouped). kept.members) are

  pub known_at : (key : ℕ) → is_among key (keys table.rows) ≡ true → option_map (λ (member : Member). member.cells) (member_under key kept.members) ≡ Some (key_at by table.rows key)
  known_at key own = ap (λ ms. option_map (λ (member : Member). member.cells) (member_under key ms)) members_are ∙ cells_known by None table.rows key own

  -- rows that are kept
  pub there_at : (key : ℕ) → is_among key (keys table.rows) ≡ true → is_some (member_under key kept.members) ≡ true
  there_at key own = some_of (λ (member : Member). member.cells) (member_under key kept.members) (key_at by table.rows key) (known_at key own)

  pub own_there : (ks : List ℕ) → AllByRecursion (λ key. is_among key (keys table.rows) ≡ true) ks → AllByRecursion (λ key. is_some (member_under key kept.members) ≡ true) ks
  own_there ks there = every_weaker (λ key. is_among key (keys table.rows) ≡ true) (λ key. is_some (member_under key kept.members) ≡ true) ks there_at there

  pub own_cells : (ks : List ℕ) → AllByRecursion (λ key. is_among key (keys table.rows) ≡ true) ks → map (kept_cells kept.members) ks ≡ map (key_at by table.rows) ks
  own_cells ks there =
      map_same (kept_cells kept.members) (key_at by table.rows) ks
      (every_weaker (λ key. is_among key (keys table.rows) ≡ true) (λ key. kept_cells kept.members key ≡ key_at by table.rows key) ks
      (λ key own. ap (λ (cells : Option (List ℤ)). unwrap_or cells []) (known_at key own)) there)

  -- a first row is a row
  pub led_row : (first : ℕ) → is_among first (first_keys by table.rows) ≡ true → is_among first (keys table.rows) ≡ true
  led_row first own = (and_parts _ _ (sym (first_at by table first t) ∙ own)).1

  pub led_cells : (first : ℕ) (rows : List Member) (cells : List ℤ) → is_among first (first_keys by table.rows) ≡ true → rows ≡ group_of (key_at by table.rows first) kept.members → AllByRecursion (λ member. member.cells ≡ cells) rows → cells ≡ key_at by table.rows first
  led_cells first rows cells own is all =
      let at = key_at by table.rows first in
      head_cells by first (group by table.rows at) at cells (and_parts _ _ (sym (first_at by table first t) ∙ own)).0
      (filter_passes (λ (row : PlainRow). same_cells at (key_cells by row.cells)) table.rows)
      (subst (AllByRecursion (λ (member : Member). member.cells ≡ cells)) (is ∙ ap (group_of at) members_are ∙ group_is by table.rows at) all)

  few_of : (cells : List ℤ) → length (group by table.rows cells) ≤ 2 ^ 62
  few_of cells = omega (arith, length-filter_most (λ row. same_cells cells (key_cells by row.cells)) table.rows, table_count table t)

  pub few_rows : (cells : List ℤ) (rows : List Member) → rows ≡ group_of cells kept.members → length rows ≤ 2 ^ 62
  few_rows cells rows is = subst (λ n. n ≤ 2 ^ 62) (sym (ap length (is ∙ ap (group_of cells) members_are) ∙ length_group by table.rows cells)) (few_of cells)

  pub rows_there : (cells : List ℤ) (rows : List Member) → rows ≡ group_of cells kept.members → AllByRecursion (λ key. is_among key (keys table.rows) ≡ true) (keys_of rows)
  rows_there cells rows is = subst (λ (ms : List Member). AllByRecursion (λ key. is_among key (keys table.rows) ≡ true) (keys_of ms)) (sym (is ∙ ap (group_of cells) members_are)) (group_there by table.rows cells)

  values_are : (names : Names) (number : ℕ) (aggs : List Agg) (running : List Accumulator) (cells : List ℤ) → name_at number names ≡ Some cells → AnswerAll by names aggs table.rows running
      → map (λ running. answer running number (group_of cells (members by None table.rows)) table.rows) running ≡ map (aggregate (group by table.rows cells)) aggs
  values_are names number aggs running cells named answers =
      map_same (λ running. answer running number (group_of cells (members by None table.rows)) table.rows) (λ running. aggregate (group by table.rows cells) (agg_of running)) running
      (every_weaker (Answers by names table.rows) (λ running. answer running number (group_of cells (members by None table.rows)) table.rows ≡ aggregate (group by table.rows cells) (agg_of running)) running
      (answer_is by table.rows cells t.rising (few_of cells) names number named) answers.1)
      ∙ sym (map_map (aggregate (group by table.rows cells)) agg_of running) ∙ ap (map (aggregate (group by table.rows cells))) answers.0

  -- the row of a group, put behind other cells
  pub put_row : (names : Names) (number : ℕ) (aggs : List Agg) (running : List Accumulator) (first : ℕ) (cells : List ℤ) (rows : List Member) (old read new : List ℤ) → AnswerAll by names aggs table.rows running → is_among first (first_keys by table.rows) ≡ true
      → name_at number names ≡ Some (key_at by table.rows first) → cells ≡ key_at by table.rows first → rows ≡ group_of (key_at by table.rows first) kept.members → read ≡ old ++ cells
      → new ≡ read ++ map (λ running. answer running number rows table.rows) running → new ≡ old ++ cells_at first (agg_table by aggs table).rows
  put_row names number aggs running first cells rows old read new answers own named cells_is rows_is begun made =
      let at = key_at by table.rows first in
      made
      ∙ ap₂ (λ (xs : List ℤ) (ms : List Member). xs ++ map (λ running. answer running number ms table.rows) running) (begun ∙ ap (λ (cells : List ℤ). old ++ cells) cells_is) (rows_is ∙ ap (group_of at) members_are)
      ∙ append_assoc old at (map (λ running. answer running number (group_of at (members by None table.rows)) table.rows) running)
      ∙ ap (λ (row : List ℤ). old ++ row) (ap (λ (values : List ℤ). at ++ values) (values_are names number aggs running at named answers) ∙ sym (cells-agg by aggs table first t own))

-- cells that are put behind others, by another name
pub items_put : {X E : Type 0} (r : Result X E) (old row cells new : List ℤ) → row ≡ cells → new ≡ (if is_ok r then old ++ row else old) → OnOk r (new ≡ old ++ cells)
items_put (Ok x) old row cells new e made = made ∙ ap (λ (row : List ℤ). old ++ row) e
items_put (Err e) old row cells new f made = tt
