-- What a node would be, from the nodes before it, operator by operator: its inputs are among them, its columns have names and are those of
-- its operator, and its formulas are written in the texts.
use Rattle.std.proofs.Common.{◌≡◌, refl, ap, sym, ◌∙◌, subst, Bool, true, ◌&&◌, ℕ, ◌<◌, ◌≤◌, arith, List, [], ◌∷◌, ◌++◌, map, length, Option, is_some, Result}
use Rattle.std.{specs.Prelude.{ℤ, unwrap_or, nat_le, slice_index}, specs.List.{AllByRecursion, list_all}, proofs.lemmas.Bool.{and_parts, and_from}, proofs.lemmas.List.length-map}
use Rattle.key_lists.proofs.Every.{every_weaker, every-append, every-map}
use Rattle.tick_model.{specs.declared.plan.Agg.Agg as Aggregate, specs.declared.plan.Choice.Choice, specs.declared.plan.ColumnSpec.ColumnSpec, specs.declared.plan.Expr.Expr, specs.declared.plan.Kind.Kind, specs.declared.plan.Kind.TheVariants.Long, specs.declared.plan.SortBy.SortBy, specs.declared.plan.Op.Op, specs.Operators.{inputs_of, columns_fit}, specs.Names.is_name, specs.Columns.{kinds_of, kind_of, kind_at, has_kind, agg_kind, some_of, is_bound, is_test_bound, test_fits, same_columns, have_kinds, keep_names, follow, same_kind_at}}
use Rattle.tick_model.specs.declared.plan.Op.TheVariants as ops
use Rattle.script_lines.{specs.declared.fault.ScriptKind.ScriptKind, specs.declared.line.Computed.Computed, specs.declared.line.Declared.Declared, specs.declared.line.AggColumn.AggColumn, specs.declared.making.Making.Making, specs.declared.making.Making.TheVariants.{Keep, View, Join, AsOf, Agg, Merge, Sort, Head, Tail}, specs.declared.line.Pair.Pair, specs.declared.line.Sorted.Sorted, specs.declared.line.Test.Test, specs.Answers.◌>>=◌, specs.Kept.{IsNamed, TestKeeps, DeclaredKeeps, ComputedKeeps, PairKeeps, GatheredKeeps, MembersKeep}, specs.Making.MakingKeeps}
use Rattle.script_reader.{specs.Binding.{bound_expr, bound_test, bound_op}, specs.Checks.{source_column, source_draft, Before, Draft, table_at, taken_of, gathered_of, kept, viewed, joined, joined_as_of, grouped, merged, sorted, headed, tailed, drafted, named_columns, all_there, expr_kinds, viewed_columns, joined_columns, pairs_fit, gathered_columns, column_at, rows_of, node_named, each, pair_of, sort_of}}
use Rattle.script_laws.{proofs.Reading.{Holds, done, then, whatever, each_read, each_long, node_found, column_found}, proofs.Bound.{kinds_bound, test_fits_bound, exprs_bound, test_bound}, proofs.Columns.{IsTable, table_within, some_alike, some_before, some_behind, same_columns-refl, follow-append, have_kinds-append, have_kinds-named, named-named, some-named, kind_there, kinds_there, kinds_of_columns, keep_names-append, names_of_columns, few_rows, first_within}, proofs.Texts.{AreWritten, Grow, not_grown, test_read, AreFormulas, exprs_read}, proofs.Written.IsWrittenDraft}

-- a draft over the nodes before it
pub record IsSound (ranks : List ℕ) (before : Before) (draft : Draft) : Type 0 where
  pub inputs : AllByRecursion (λ input. input < length before.tables) (inputs_of draft.op)
  pub table : IsTable draft.columns
  pub fits : draft.kinds_fit ≡ true → columns_fit (bound_op ranks draft.op) (table_at before.tables) draft.columns ≡ true
  pub written : IsWrittenDraft before.literals draft

taken_within : (columns : List ColumnSpec) (pair : Pair) → Holds (λ column. column < length columns) (taken_of columns pair)
unfolding taken_of
taken_within columns pair = column_found columns pair.second

sort_within : (columns : List ColumnSpec) (sorted : Sorted) → Holds (λ sort. sort.column < length columns) (sort_of columns sorted)
unfolding sort_of
sort_within columns sorted = then (column_found columns sorted.name) _ (λ column within. done within)

sorts_there : (columns : List ColumnSpec) (by : List SortBy) → AllByRecursion (λ sort. sort.column < length columns) by → list_all (λ sort. is_some (kind_at columns sort.column)) by ≡ true
sorts_there columns [] within = refl
sorts_there columns (sort ∷ by) within = and_from (is_some (kind_at columns sort.column)) _ (kind_there columns sort.column within.0) (sorts_there columns by within.1)

-- the columns of a join of either kind
module _ (left right : List ColumnSpec) (take : List Pair) (taken : List ℕ) (long : length taken ≡ length take) (within : AllByRecursion (λ column. column < length right) taken) where
  abbrev taken_names : List (List ℕ)
  taken_names = map (λ (pair : Pair). pair.first) take

  joined_table : IsTable left → AllByRecursion PairKeeps take → IsTable (joined_columns left right take taken)
  joined_table is keep = record {
    some = some_before left (named_columns taken_names (map (kind_at right) taken)) is.some;
    named = every-append (λ column. is_name column.name ≡ true) left (named_columns taken_names (map (kind_at right) taken)) is.named
        (named-named taken_names (map (kind_at right) taken)
        (every-map IsNamed (λ (pair : Pair). pair.first) take (every_weaker PairKeeps (λ pair. IsNamed pair.first) take (λ pair keeps. keeps.0) keep)));
  }

  joined_follow : follow (joined_columns left right take taken) left (map (kind_at right) taken) ≡ true
  joined_follow =
      follow-append left (named_columns taken_names (map (kind_at right) taken)) (map (kind_at right) taken)
      (have_kinds-named taken_names (map (kind_at right) taken) (length-map take (λ (pair : Pair). pair.first) ∙ sym long ∙ sym (length-map taken (kind_at right))) (kinds_there right taken within))

module _ (ranks : List ℕ) (before : Before) (long : length before.names ≡ length before.tables) (are : AllByRecursion IsTable before.tables) (written : AreWritten before.literals) where
  abbrev F : Draft → Type 0
  F = IsSound ranks before

  abbrev T : ℕ → List ColumnSpec
  T = table_at before.tables

  abbrev Within : ℕ → Type 0
  Within = λ input. input < length before.tables

  abbrev unchanged : Grow before.literals before.literals
  unchanged = not_grown before.literals written

  node_within : (name : List ℕ) → Holds Within (node_named before.names name)
  node_within name = subst (λ n. Holds (λ input. input < n) (node_named before.names name)) long (node_found before.names name)

  named : (name : List ℕ) (f : ℕ → Result Draft ScriptKind) → ((input : ℕ) → input < length before.tables → IsTable (T input) → Holds F (f input)) → Holds F (node_named before.names name >>= f)
  named name f next = then (node_within name) f (λ input within. next input within (table_within before.tables input are within))

  sound_keep : (name : List ℕ) (test : Test) → TestKeeps test → Holds F (kept before name test)
  unfolding kept
  sound_keep name test keeps =
      named name _ (λ input within is. then (test_read (T input) test before.literals written keeps) _ (λ found read. done (record {
        inputs = (within, tt);
        table = is;
        fits = λ e. and_from (same_columns (T input) (T input) && test_fits (bound_test ranks found.0) (kinds_of (T input))) (is_test_bound (bound_test ranks found.0))
            (and_from (same_columns (T input) (T input)) (test_fits (bound_test ranks found.0) (kinds_of (T input))) (same_columns-refl (T input)) (test_fits_bound ranks found.0 (kinds_of (T input)) ∙ e))
            (test_bound ranks found.0);
        written = record { grown = read.grown; literals = read.literals; numbers = tt };
      })))

  -- a view's columns
  viewed_is : (input : ℕ) (computed : List Computed) (exprs : List Expr) → input < length before.tables → IsTable (T input) → some_of computed ≡ true → AllByRecursion ComputedKeeps computed → (texts : List (List ℕ)) → AreFormulas before.literals (length computed) (exprs, texts)
      → F (record { op = ops.View input exprs; columns = viewed_columns (T input) computed exprs; kinds_fit = all_there (expr_kinds (T input) exprs); rows_fit = true; literals = texts })
  viewed_is input computed exprs within is some keep texts read =
      let names : List (List ℕ) = map (λ (c : Computed). c.name) computed in
      let kinds : List (Option Kind) = expr_kinds (T input) exprs in
      let counted : length names ≡ length kinds = length-map computed (λ (c : Computed). c.name) ∙ sym read.long ∙ sym (length-map exprs (λ expr. kind_of expr (kinds_of (T input)))) in
      record {
        inputs = (within, tt);
        table = record {
          some = some_before (T input) (named_columns names kinds) is.some;
          named = every-append (λ column. is_name column.name ≡ true) (T input) (named_columns names kinds) is.named
              (named-named names kinds (every-map IsNamed (λ (c : Computed). c.name) computed (every_weaker ComputedKeeps (λ c. IsNamed c.name) computed (λ c keeps. keeps.0) keep)));
        };
        fits = λ e.
            and_from (some_of (map (bound_expr ranks) exprs) && list_all is_bound (map (bound_expr ranks) exprs)) (follow (viewed_columns (T input) computed exprs) (T input) (map (λ expr. kind_of expr (kinds_of (T input))) (map (bound_expr ranks) exprs)))
            (and_from (some_of (map (bound_expr ranks) exprs)) (list_all is_bound (map (bound_expr ranks) exprs))
            (some_alike (map (bound_expr ranks) exprs) computed (length-map exprs (bound_expr ranks) ∙ read.long) some) (exprs_bound ranks exprs))
            (ap (follow (viewed_columns (T input) computed exprs) (T input)) (kinds_bound ranks exprs (kinds_of (T input)))
            ∙ follow-append (T input) (named_columns names kinds) kinds (have_kinds-named names kinds counted e));
        written = record { grown = read.grown; literals = read.literals; numbers = read.numbers };
      }

  sound_view : (name : List ℕ) (computed : List Computed) → MembersKeep ComputedKeeps computed → Holds F (viewed before name computed)
  unfolding viewed
  sound_view name computed keep =
      named name _ (λ input within is. then (exprs_read (T input) computed before.literals written keep.1) _ (λ found read. done (viewed_is input computed found.0 within is keep.0 keep.1 found.1 read)))

  sound_join : (left_name right_name : List ℕ) (on take : List Pair) (choice : Choice) → MembersKeep PairKeeps on → MembersKeep PairKeeps take → Holds F (joined before left_name right_name on take choice)
  unfolding joined
  sound_join left_name right_name on take choice keep_on keep_take =
      named left_name _ (λ left within_left is_left. named right_name _ (λ right within_right is_right.
      then (each_long (pair_of (T left) (T right)) on) _ (λ pairs paired. then (each_read (taken_within (T right)) take) _ (λ taken are_taken. done (record {
        inputs = (within_left, (within_right, tt));
        table = joined_table (T left) (T right) take taken are_taken.0 are_taken.1 is_left keep_take.1;
        fits = λ e.
            and_from (some_of pairs && some_of taken && pairs_fit (T left) (T right) pairs) (follow (joined_columns (T left) (T right) take taken) (T left) (map (kind_at (T right)) taken))
            (and_from (some_of pairs && some_of taken) (pairs_fit (T left) (T right) pairs)
            (and_from (some_of pairs) (some_of taken) (some_alike pairs on paired keep_on.0) (some_alike taken take are_taken.0 keep_take.0)) e)
            (joined_follow (T left) (T right) take taken are_taken.0 are_taken.1);
        written = record { grown = unchanged; literals = refl; numbers = tt };
      })))))

  sound_as_of : (left_name right_name : List ℕ) (on : List Pair) (at : Pair) (take : List Pair) → MembersKeep PairKeeps take → Holds F (joined_as_of before left_name right_name on at take)
  unfolding joined_as_of
  sound_as_of left_name right_name on at take keep =
      named left_name _ (λ left within_left is_left. named right_name _ (λ right within_right is_right.
      whatever (each (pair_of (T left) (T right)) on) _ (λ pairs. whatever (pair_of (T left) (T right) at) _ (λ time. then (each_read (taken_within (T right)) take) _ (λ taken are_taken. done (record {
        inputs = (within_left, (within_right, tt));
        table = joined_table (T left) (T right) take taken are_taken.0 are_taken.1 is_left keep.1;
        fits = λ e.
            let first : Bool = has_kind Long (kind_at (T left) time.left) in
            let second : Bool = has_kind Long (kind_at (T right) time.right) in
            let both = and_parts (pairs_fit (T left) (T right) pairs) (first && second) e in
            let times = and_parts first second both.1 in
            and_from (some_of taken && pairs_fit (T left) (T right) pairs && first && second) (follow (joined_columns (T left) (T right) take taken) (T left) (map (kind_at (T right)) taken))
            (and_from (some_of taken && pairs_fit (T left) (T right) pairs && first) second
            (and_from (some_of taken && pairs_fit (T left) (T right) pairs) first
            (and_from (some_of taken) (pairs_fit (T left) (T right) pairs) (some_alike taken take are_taken.0 keep.0) both.0) times.0) times.1)
            (joined_follow (T left) (T right) take taken are_taken.0 are_taken.1);
        written = record { grown = unchanged; literals = refl; numbers = tt };
      }))))))

  -- a group's columns
  grouped_is : (input : ℕ) (by : List ℕ) (gathered : List AggColumn) (aggs : List Aggregate) → input < length before.tables → IsTable (T input) → AllByRecursion (λ column. column < length (T input)) by → length aggs ≡ length gathered
      → some_of gathered ≡ true → AllByRecursion GatheredKeeps gathered
      → F (record { op = ops.Agg input by aggs; columns = gathered_columns (T input) by gathered aggs; kinds_fit = all_there (map (agg_kind (T input)) aggs); rows_fit = true; literals = before.literals })
  grouped_is input by gathered aggs within is by_within long some keep =
      let names : List (List ℕ) = map (λ (g : AggColumn). g.name) gathered in
      let kinds : List (Option Kind) = map (agg_kind (T input)) aggs in
      let counted : length names ≡ length kinds = length-map gathered (λ (g : AggColumn). g.name) ∙ sym long ∙ sym (length-map aggs (agg_kind (T input))) in
      record {
        inputs = (within, tt);
        table = record {
          some = some_behind (map (column_at (T input)) by) (named_columns names kinds) (some-named names kinds counted (some_alike names gathered (length-map gathered (λ (g : AggColumn). g.name)) some));
          named = every-append (λ column. is_name column.name ≡ true) (map (column_at (T input)) by) (named_columns names kinds) (names_of_columns (T input) by is.named by_within)
              (named-named names kinds (every-map IsNamed (λ (g : AggColumn). g.name) gathered keep));
        };
        fits = λ e.
            and_from (some_of aggs && have_kinds (gathered_columns (T input) by gathered aggs) (map (kind_at (T input)) by ++ kinds)) (keep_names (gathered_columns (T input) by gathered aggs) (T input) by)
            (and_from (some_of aggs) (have_kinds (gathered_columns (T input) by gathered aggs) (map (kind_at (T input)) by ++ kinds)) (some_alike aggs gathered long some)
            (have_kinds-append (map (column_at (T input)) by) (named_columns names kinds) (map (kind_at (T input)) by) kinds (kinds_of_columns (T input) by by_within) (have_kinds-named names kinds counted e)))
            (keep_names-append (T input) by (named_columns names kinds) by_within);
        written = record { grown = unchanged; literals = refl; numbers = tt };
      }

  sound_agg : (name : List ℕ) (by : List (List ℕ)) (gathered : List AggColumn) → MembersKeep GatheredKeeps gathered → Holds F (grouped before name by gathered)
  unfolding grouped
  sound_agg name by gathered keep =
      named name _ (λ input within is.
      then (each_read (column_found (T input)) by) _ (λ keys are_keys. then (each_long (gathered_of (T input)) gathered) _ (λ aggs long.
      done (grouped_is input keys gathered aggs within is are_keys.1 long keep.0 keep.1))))

  sound_merge : (names : List (List ℕ)) → 2 ≤ length names → Holds F (merged before names)
  unfolding merged
  sound_merge names two =
      then (each_read node_within names) _ (λ inputs found. done (record {
        inputs = found.1;
        table = let long = found.0 in table_within before.tables (slice_index inputs 0) are (first_within (length before.tables) inputs found.1 (omega (arith, long, two)));
        fits = λ e. e;
        written = record { grown = unchanged; literals = refl; numbers = tt };
      }))

  sound_sort : (name : List ℕ) (by : List Sorted) → some_of by ≡ true → Holds F (sorted before name by)
  unfolding sorted
  sound_sort name by some =
      named name _ (λ input within is. then (each_read (sort_within (T input)) by) _ (λ columns found. done (record {
        inputs = (within, tt);
        table = is;
        fits = λ e.
            and_from (some_of columns && same_columns (T input) (T input)) (list_all (λ (sort : SortBy). is_some (kind_at (T input) sort.column)) columns)
            (and_from (some_of columns) (same_columns (T input) (T input)) (some_alike columns by found.0 some) (same_columns-refl (T input))) (sorts_there (T input) columns found.1);
        written = record { grown = unchanged; literals = refl; numbers = tt };
      })))

  sound_head : (rows : ℤ) (name : List ℕ) → Holds F (headed before rows name)
  unfolding headed
  sound_head rows name = named name _ (λ input within is. done (record {
    inputs = (within, tt);
    table = is;
    fits = λ e. and_from (same_columns (T input) (T input)) (nat_le (unwrap_or (rows_of rows) 0) 4194304) (same_columns-refl (T input)) (few_rows rows);
    written = record { grown = unchanged; literals = refl; numbers = tt };
  }))

  sound_tail : (rows : ℤ) (name : List ℕ) → Holds F (tailed before rows name)
  unfolding tailed
  sound_tail rows name = named name _ (λ input within is. done (record {
    inputs = (within, tt);
    table = is;
    fits = λ e. and_from (same_columns (T input) (T input)) (nat_le (unwrap_or (rows_of rows) 0) 4194304) (same_columns-refl (T input)) (few_rows rows);
    written = record { grown = unchanged; literals = refl; numbers = tt };
  }))

  pub draft_sound : (making : Making) → MakingKeeps making → Holds F (drafted before making)
  unfolding drafted
  draft_sound (Keep name test) keeps = sound_keep name test keeps
  draft_sound (View name columns) keeps = sound_view name columns keeps
  draft_sound (Join left right on take choice) keeps = sound_join left right on take choice keeps.0 keeps.1
  draft_sound (AsOf left right on at take) keeps = sound_as_of left right on at take keeps.2
  draft_sound (Agg name by columns) keeps = sound_agg name by columns keeps.1
  draft_sound (Merge names) keeps = sound_merge names keeps.0
  draft_sound (Sort name by) keeps = sound_sort name by keeps
  draft_sound (Head rows name) keeps = sound_head rows name
  draft_sound (Tail rows name) keeps = sound_tail rows name

-- a source
pub source_sound : (ranks : List ℕ) (before : Before) (columns : List Declared) → AreWritten before.literals → MembersKeep DeclaredKeeps columns → IsSound ranks before (source_draft columns before.literals)
source_sound ranks before columns written keep = record {
  inputs = tt;
  table = record {
    some = some_alike (map source_column columns) columns (length-map columns source_column) keep.0;
    named = every-map (λ column. is_name column.name ≡ true) source_column columns keep.1;
  };
  fits = λ e. refl;
  written = record { grown = not_grown before.literals written; literals = refl; numbers = tt };
}
