-- Columns that fit each other: what an operator's columns are made of, and the tests that they pass.
use Rattle.std.proofs.Common.{◌≡◌, refl, sym, ◌∙◌, true, false, ◌&&◌, ℕ, zero, suc, ◌<◌, ◌≤◌, arith, List, [], ◌∷◌, ◌++◌, map, length, Option, Some, None, is_some}
use Rattle.std.{specs.Prelude.{ℤ, pos, negsuc, unwrap_or, nat_le, slice_get, slice_index}, specs.List.AllByRecursion, proofs.lemmas.Bool.{cond_both, and_parts, and_from, true≢false, false≢true, false_from_ne_true}, proofs.lemmas.Slice.Eq.bytes_eq-Decides}
use Rattle.tick_model.{specs.declared.plan.ColumnSpec.ColumnSpec, specs.declared.plan.Kind.Kind, specs.declared.plan.Kind.TheVariants.{Long, Text}, specs.Names.{is_name, same_name}, specs.Columns.{same_kind, kind_at, has_kind, same_columns, have_kinds, has_name, keep_names, follow, some_of}}
use Rattle.script_lines.specs.Kept.{IsNamed}
use Rattle.script_reader.specs.Checks.{named_columns, all_there, column_at, table_at, rows_of}

-- columns of a node: one at least, and each has a name
abbrev pub AreNamed : List ColumnSpec → Type 0
AreNamed = AllByRecursion (λ column. is_name column.name ≡ true)

pub record IsTable (columns : List ColumnSpec) : Type 0 where
  pub some : some_of columns ≡ true
  pub named : AreNamed columns

pub table_within : (tables : List (List ColumnSpec)) (i : ℕ) → AllByRecursion IsTable tables → i < length tables → IsTable (table_at tables i)
table_within [] i are less = absurd (omega (arith, less))
table_within (table ∷ tables) zero are less = are.0
table_within (table ∷ tables) (suc i) are less = table_within tables i are.1 (omega (arith, less))

-- some members
pub some_alike : {X Y : Type 0} (xs : List X) (ys : List Y) → length xs ≡ length ys → some_of ys ≡ true → some_of xs ≡ true
some_alike [] [] same some = some
some_alike [] (y ∷ ys) same some = absurd (omega (arith, same))
some_alike (x ∷ xs) ys same some = refl

pub some_before : {X : Type 0} (xs ys : List X) → some_of xs ≡ true → some_of (xs ++ ys) ≡ true
some_before [] ys some = absurd (false≢true some)
some_before (x ∷ xs) ys some = refl

pub some_behind : {X : Type 0} (xs ys : List X) → some_of ys ≡ true → some_of (xs ++ ys) ≡ true
some_behind [] ys some = some
some_behind (x ∷ xs) ys some = refl

pub one_or_more : {X : Type 0} (xs : List X) → some_of xs ≡ true → 1 ≤ length xs
one_or_more [] some = absurd (false≢true some)
one_or_more (x ∷ xs) some = omega arith

-- names and kinds
same_name-refl : (name : List ℕ) → same_name name name ≡ true
same_name-refl name = (bytes_eq-Decides name name).1 refl

pub other_names : (a b : List ℕ) → same_name a b ≡ false → same_name b a ≡ false
other_names a b h = false_from_ne_true (same_name b a) (λ e. true≢false (sym ((bytes_eq-Decides a b).1 (sym ((bytes_eq-Decides b a).0 e))) ∙ h))

same_kind-refl : (kind : Kind) → same_kind kind kind ≡ true
same_kind-refl Long = refl
same_kind-refl Text = refl

same_column : (column : ColumnSpec) → (same_name column.name column.name && same_kind column.kind column.kind) ≡ true
same_column column = and_from (same_name column.name column.name) (same_kind column.kind column.kind) (same_name-refl column.name) (same_kind-refl column.kind)

pub same_columns-refl : (columns : List ColumnSpec) → same_columns columns columns ≡ true
same_columns-refl [] = refl
same_columns-refl (column ∷ columns) = and_from (same_name column.name column.name && same_kind column.kind column.kind) (same_columns columns columns) (same_column column) (same_columns-refl columns)

pub follow-append : (columns new : List ColumnSpec) (kinds : List (Option Kind)) → have_kinds new kinds ≡ true → follow (columns ++ new) columns kinds ≡ true
follow-append [] new kinds have = have
follow-append (column ∷ columns) new kinds have =
    and_from (same_name column.name column.name && same_kind column.kind column.kind) (follow (columns ++ new) columns kinds) (same_column column) (follow-append columns new kinds have)

pub have_kinds-append : (columns new : List ColumnSpec) (kinds more : List (Option Kind)) → have_kinds columns kinds ≡ true → have_kinds new more ≡ true → have_kinds (columns ++ new) (kinds ++ more) ≡ true
have_kinds-append [] new [] more have later = later
have_kinds-append [] new (kind ∷ kinds) more have later = absurd (false≢true have)
have_kinds-append (column ∷ columns) new [] more have later = absurd (false≢true have)
have_kinds-append (column ∷ columns) new (kind ∷ kinds) more have later =
    let parts = and_parts (has_kind column.kind kind) (have_kinds columns kinds) have in
    and_from (has_kind column.kind kind) (have_kinds (columns ++ new) (kinds ++ more)) parts.0 (have_kinds-append columns new kinds more parts.1 later)

-- new columns
pub have_kinds-named : (names : List (List ℕ)) (kinds : List (Option Kind)) → length names ≡ length kinds → all_there kinds ≡ true → have_kinds (named_columns names kinds) kinds ≡ true
have_kinds-named [] [] same there = refl
have_kinds-named [] (kind ∷ kinds) same there = absurd (omega (arith, same))
have_kinds-named (name ∷ names) [] same there = absurd (omega (arith, same))
have_kinds-named (name ∷ names) (None ∷ kinds) same there = absurd (false≢true there)
have_kinds-named (name ∷ names) (Some kind ∷ kinds) same there =
    and_from (same_kind kind kind) (have_kinds (named_columns names kinds) kinds) (same_kind-refl kind) (have_kinds-named names kinds (omega (arith, same)) there)

pub named-named : (names : List (List ℕ)) (kinds : List (Option Kind)) → AllByRecursion IsNamed names → AreNamed (named_columns names kinds)
named-named [] kinds are = tt
named-named (name ∷ names) [] are = tt
named-named (name ∷ names) (kind ∷ kinds) are = (are.0, named-named names kinds are.1)

pub some-named : (names : List (List ℕ)) (kinds : List (Option Kind)) → length names ≡ length kinds → some_of names ≡ true → some_of (named_columns names kinds) ≡ true
some-named [] kinds same some = absurd (false≢true some)
some-named (name ∷ names) [] same some = absurd (omega (arith, same))
some-named (name ∷ names) (kind ∷ kinds) same some = refl

-- columns of an input
pub kind_there : (columns : List ColumnSpec) (column : ℕ) → column < length columns → is_some (kind_at columns column) ≡ true
kind_there [] column less = absurd (omega (arith, less))
kind_there (c ∷ columns) zero less = refl
kind_there (c ∷ columns) (suc column) less = kind_there columns column (omega (arith, less))

pub kinds_there : (columns : List ColumnSpec) (taken : List ℕ) → AllByRecursion (λ column. column < length columns) taken → all_there (map (kind_at columns) taken) ≡ true
kinds_there columns [] within = refl
kinds_there columns (column ∷ taken) within = and_from (is_some (kind_at columns column)) (all_there (map (kind_at columns) taken)) (kind_there columns column within.0) (kinds_there columns taken within.1)

kind_of_column : (columns : List ColumnSpec) (column : ℕ) → column < length columns → has_kind (column_at columns column).kind (kind_at columns column) ≡ true
kind_of_column [] column less = absurd (omega (arith, less))
kind_of_column (c ∷ columns) zero less = same_kind-refl c.kind
kind_of_column (c ∷ columns) (suc column) less = kind_of_column columns column (omega (arith, less))

pub kinds_of_columns : (columns : List ColumnSpec) (by : List ℕ) → AllByRecursion (λ column. column < length columns) by → have_kinds (map (column_at columns) by) (map (kind_at columns) by) ≡ true
kinds_of_columns columns [] within = refl
kinds_of_columns columns (column ∷ by) within =
    and_from (has_kind (column_at columns column).kind (kind_at columns column)) (have_kinds (map (column_at columns) by) (map (kind_at columns) by)) (kind_of_column columns column within.0) (kinds_of_columns columns by within.1)

own_name : (columns : List ColumnSpec) (column : ℕ) → column < length columns → has_name (column_at columns column).name (slice_get columns column) ≡ true
own_name [] column less = absurd (omega (arith, less))
own_name (c ∷ columns) zero less = same_name-refl c.name
own_name (c ∷ columns) (suc column) less = own_name columns column (omega (arith, less))

pub keep_names-append : (columns : List ColumnSpec) (by : List ℕ) (new : List ColumnSpec) → AllByRecursion (λ column. column < length columns) by → keep_names (map (column_at columns) by ++ new) columns by ≡ true
keep_names-append columns [] new within = refl
keep_names-append columns (column ∷ by) new within =
    and_from (has_name (column_at columns column).name (slice_get columns column)) (keep_names (map (column_at columns) by ++ new) columns by) (own_name columns column within.0) (keep_names-append columns by new within.1)

name_of_column : (columns : List ColumnSpec) (column : ℕ) → AreNamed columns → column < length columns → is_name (column_at columns column).name ≡ true
name_of_column [] column are less = absurd (omega (arith, less))
name_of_column (c ∷ columns) zero are less = are.0
name_of_column (c ∷ columns) (suc column) are less = name_of_column columns column are.1 (omega (arith, less))

pub names_of_columns : (columns : List ColumnSpec) (by : List ℕ) → AreNamed columns → AllByRecursion (λ column. column < length columns) by → AreNamed (map (column_at columns) by)
names_of_columns columns [] are within = tt
names_of_columns columns (column ∷ by) are within = (name_of_column columns column are within.0, names_of_columns columns by are within.1)

-- a number of rows that is wrong stands for none
pub few_rows : (rows : ℤ) → nat_le (unwrap_or (rows_of rows) 0) 4194304 ≡ true
few_rows (pos n) = cond_both (nat_le n 4194304) (Some n) None (λ rows. nat_le (unwrap_or rows 0) 4194304 ≡ true) (λ e. e) (λ _. refl)
few_rows (negsuc n) = refl

pub first_within : (n : ℕ) (inputs : List ℕ) → AllByRecursion (λ input. input < n) inputs → 2 ≤ length inputs → slice_index inputs 0 < n
first_within n [] within two = absurd (omega (arith, two))
first_within n (input ∷ inputs) within two = within.0
