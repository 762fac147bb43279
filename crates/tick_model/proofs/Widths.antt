-- How many columns a node has, and that its formulas are within its input's.
use Rattle.std.proofs.Common.{◌≡◌, refl, ap, sym, ◌∙◌, Bool, true, ◌&&◌, ◌||◌, ℕ, suc, ◌+◌, ◌<◌, arith, List, [], ◌∷◌, length, map, Option, Some, None, true≢false}
use Rattle.std.{specs.Prelude.{slice_get, is_some}, specs.List.{list_all, AllByRecursion}, proofs.lemmas.Bool.and_parts, proofs.lemmas.Option.slice_get_within}
use Rattle.tick_model.{specs.declared.plan.ColumnSpec.ColumnSpec, specs.declared.plan.Expr.{Expr, Cell, Number, Null, Literal, Rank, Neg', Add', Sub', Mul'}, specs.declared.plan.Kind.Kind, specs.declared.plan.Kind.TheVariants.{Long, Text}, specs.declared.plan.Pred.{Pred, Compare, And', Or', Not'}, specs.Formulas.{IsWithin, IsTestWithin}, specs.Names.same_name, specs.Columns.{same_kind, has_kind, long_alone, both_long, kind_of, is_null_alone, kinds_meet, test_fits, is_bound, is_test_bound, same_columns, have_kinds, follow}}

-- the same columns are as many
pub same_width : (xs ys : List ColumnSpec) → same_columns xs ys ≡ true → length xs ≡ length ys
same_width [] [] h = refl
same_width [] (y ∷ ys) h = absurd (true≢false (sym h))
same_width (x ∷ xs) [] h = absurd (true≢false (sym h))
same_width (x ∷ xs) (y ∷ ys) h = ap (λ n. suc n) (same_width xs ys (and_parts (same_name x.name y.name && same_kind x.kind y.kind) (same_columns xs ys) h).1)

pub kinds_width : (columns : List ColumnSpec) (kinds : List (Option Kind)) → have_kinds columns kinds ≡ true → length columns ≡ length kinds
kinds_width [] [] h = refl
kinds_width [] (k ∷ kinds) h = absurd (true≢false (sym h))
kinds_width (c ∷ columns) [] h = absurd (true≢false (sym h))
kinds_width (c ∷ columns) (k ∷ kinds) h = ap (λ n. suc n) (kinds_width columns kinds (and_parts (has_kind c.kind k) (have_kinds columns kinds) h).1)

pub follow_width : (columns input : List ColumnSpec) (kinds : List (Option Kind)) → follow columns input kinds ≡ true → length columns ≡ length input + length kinds
follow_width columns [] kinds h = kinds_width columns kinds h ∙ omega arith
follow_width [] (y ∷ ys) kinds h = absurd (true≢false (sym h))
follow_width (x ∷ xs) (y ∷ ys) kinds h =
    let rest = follow_width xs ys kinds (and_parts (same_name x.name y.name && same_kind x.kind y.kind) (follow xs ys kinds) h).1 in
    omega (arith, rest)

-- each of the kinds is there
some_kind : (kind : Kind) (k : Option Kind) → has_kind kind k ≡ true → is_some k ≡ true
some_kind kind None h = h
some_kind kind (Some other) h = refl

pub have_some : (columns : List ColumnSpec) (kinds : List (Option Kind)) → have_kinds columns kinds ≡ true → AllByRecursion (λ k. is_some k ≡ true) kinds
have_some columns [] h = tt
have_some [] (k ∷ kinds) h = absurd (true≢false (sym h))
have_some (c ∷ columns) (k ∷ kinds) h =
    let parts = and_parts (has_kind c.kind k) (have_kinds columns kinds) h in
    (some_kind c.kind k parts.0, have_some columns kinds parts.1)

pub follow_some : (columns input : List ColumnSpec) (kinds : List (Option Kind)) → follow columns input kinds ≡ true → AllByRecursion (λ k. is_some k ≡ true) kinds
follow_some [] [] kinds h = have_some [] kinds h
follow_some (x ∷ xs) [] kinds h = have_some (x ∷ xs) kinds h
follow_some [] (y ∷ ys) kinds h = absurd (true≢false (sym h))
follow_some (x ∷ xs) (y ∷ ys) kinds h = follow_some xs ys kinds (and_parts (same_name x.name y.name && same_kind x.kind y.kind) (follow xs ys kinds) h).1

-- what has a kind is within the columns
pub long_some : (k : Option Kind) → is_some (long_alone k) ≡ true → is_some k ≡ true
long_some None h = h
long_some (Some Long) h = refl
long_some (Some Text) h = refl

both_some : (a b : Option Kind) → is_some (both_long a b) ≡ true → (is_some a ≡ true) × (is_some b ≡ true)
both_some None b h = absurd (true≢false (sym h))
both_some (Some Long) b h = (refl, long_some b h)
both_some (Some Text) b h = absurd (true≢false (sym h))

column_within : (kinds : List Kind) (column : ℕ) → is_some (slice_get kinds column) ≡ true → column < length kinds
column_within kinds column h =
    (elim (slice_get kinds column) as (λ k. slice_get kinds column ≡ k → is_some k ≡ true → column < length kinds) [
      | None ↦ λ e s. absurd (true≢false (sym s))
      | Some kind ↦ λ e s. slice_get_within kinds column kind e
    ]) refl h

pub within : (expr : Expr) (kinds : List Kind) → is_some (kind_of expr kinds) ≡ true → is_bound expr ≡ true → IsWithin (length kinds) expr
within (Cell column) kinds s b = column_within kinds column s
within (Number n) kinds s b = tt
within Null kinds s b = tt
within (Literal text) kinds s b = absurd (true≢false (sym b))
within (Rank rank) kinds s b = tt
within (Neg' p a) kinds s b = within a kinds (long_some (kind_of a kinds) s) b
within (Add' p a q c) kinds s b =
    let some = both_some (kind_of a kinds) (kind_of c kinds) s in
    let bound = and_parts (is_bound a) (is_bound c) b in
    (within a kinds some.0 bound.0, within c kinds some.1 bound.1)
within (Sub' p a q c) kinds s b =
    let some = both_some (kind_of a kinds) (kind_of c kinds) s in
    let bound = and_parts (is_bound a) (is_bound c) b in
    (within a kinds some.0 bound.0, within c kinds some.1 bound.1)
within (Mul' p a q c) kinds s b =
    let some = both_some (kind_of a kinds) (kind_of c kinds) s in
    let bound = and_parts (is_bound a) (is_bound c) b in
    (within a kinds some.0 bound.0, within c kinds some.1 bound.1)

meet_some : (a b : Option Kind) (n : Bool) → kinds_meet a b n ≡ true → (is_some a ≡ true) × (is_some b ≡ true)
meet_some None b n h = absurd (true≢false (sym h))
meet_some (Some x) None n h = absurd (true≢false (sym h))
meet_some (Some x) (Some y) n h = (refl, refl)

pub test_within : (test : Pred) (kinds : List Kind) → test_fits test kinds ≡ true → is_test_bound test ≡ true → IsTestWithin (length kinds) test
test_within (Compare how a c) kinds s b =
    let some = meet_some (kind_of a kinds) (kind_of c kinds) (is_null_alone a || is_null_alone c) s in
    let bound = and_parts (is_bound a) (is_bound c) b in
    (within a kinds some.0 bound.0, within c kinds some.1 bound.1)
test_within (And' p a q c) kinds s b =
    let fits = and_parts (test_fits a kinds) (test_fits c kinds) s in
    let bound = and_parts (is_test_bound a) (is_test_bound c) b in
    (test_within a kinds fits.0 bound.0, test_within c kinds fits.1 bound.1)
test_within (Or' p a q c) kinds s b =
    let fits = and_parts (test_fits a kinds) (test_fits c kinds) s in
    let bound = and_parts (is_test_bound a) (is_test_bound c) b in
    (test_within a kinds fits.0 bound.0, test_within c kinds fits.1 bound.1)
test_within (Not' p a) kinds s b = test_within a kinds s b

-- each of several formulas
pub all_within : (exprs : List Expr) (kinds : List Kind) → AllByRecursion (λ k. is_some k ≡ true) (map (λ expr. kind_of expr kinds) exprs) → list_all is_bound exprs ≡ true → AllByRecursion (IsWithin (length kinds)) exprs
all_within [] kinds s b = tt
all_within (expr ∷ exprs) kinds s b =
    let bound = and_parts (is_bound expr) (list_all is_bound exprs) b in
    (within expr kinds s.0 bound.0, all_within exprs kinds s.1 bound.1)
