-- Columns and their kinds, and which formulas and columns go with them.
use Rattle.std.{specs.Prelude.{ℕ, ◌&&◌, ◌||◌, Bool, true, false, List, [], ◌∷◌, map, Option, Some, None, slice_get}, specs.List.{list_all, zip}}
use Rattle.tick_model.{specs.declared.plan.Agg.Agg, specs.declared.plan.Agg.TheVariants.{Count, Sum, Min, Max, First, Last}, specs.declared.plan.ColumnSpec.ColumnSpec, specs.declared.plan.Expr.{Expr, Cell, Number, Null, Literal, Rank, Neg', Add', Sub', Mul'}, specs.declared.plan.Kind.Kind, specs.declared.plan.Kind.TheVariants.{Long, Text}, specs.declared.plan.OnPair.OnPair, specs.declared.plan.Pred.{Pred, Compare, And', Or', Not'}, specs.Names.same_name}

abbrev pub same_kind : Kind → Kind → Bool
same_kind Long Long = true
same_kind Long Text = false
same_kind Text Long = false
same_kind Text Text = true

-- the kind of a formula, or none where a column is out of range or a text stands under arithmetic
abbrev pub long_alone : Option Kind → Option Kind
long_alone None = None
long_alone (Some Long) = Some Long
long_alone (Some Text) = None

abbrev pub both_long : Option Kind → Option Kind → Option Kind
both_long None b = None
both_long (Some Long) b = long_alone b
both_long (Some Text) b = None

abbrev pub kind_of : Expr → List Kind → Option Kind
kind_of (Cell column) kinds = slice_get kinds column
kind_of (Number n) kinds = Some Long
kind_of Null kinds = Some Long
kind_of (Literal text) kinds = Some Text
kind_of (Rank rank) kinds = Some Text
kind_of (Neg' p a) kinds = long_alone (kind_of a kinds)
kind_of (Add' p a q b) kinds = both_long (kind_of a kinds) (kind_of b kinds)
kind_of (Sub' p a q b) kinds = both_long (kind_of a kinds) (kind_of b kinds)
kind_of (Mul' p a q b) kinds = both_long (kind_of a kinds) (kind_of b kinds)

abbrev pub is_null_alone : Expr → Bool
is_null_alone Null = true
is_null_alone _ = false

abbrev pub kinds_meet : Option Kind → Option Kind → Bool → Bool
kinds_meet None b null_side = false
kinds_meet (Some x) None null_side = false
kinds_meet (Some x) (Some y) null_side = same_kind x y || null_side

-- the sides of each comparison have one kind, where null alone fits either
abbrev pub test_fits : Pred → List Kind → Bool
test_fits (Compare how a b) kinds = kinds_meet (kind_of a kinds) (kind_of b kinds) (is_null_alone a || is_null_alone b)
test_fits (And' p a q b) kinds = test_fits a kinds && test_fits b kinds
test_fits (Or' p a q b) kinds = test_fits a kinds && test_fits b kinds
test_fits (Not' p a) kinds = test_fits a kinds

abbrev pub is_bound : Expr → Bool
is_bound (Cell column) = true
is_bound (Number n) = true
is_bound Null = true
is_bound (Literal text) = false
is_bound (Rank rank) = true
is_bound (Neg' p a) = is_bound a
is_bound (Add' p a q b) = is_bound a && is_bound b
is_bound (Sub' p a q b) = is_bound a && is_bound b
is_bound (Mul' p a q b) = is_bound a && is_bound b

abbrev pub is_test_bound : Pred → Bool
is_test_bound (Compare how a b) = is_bound a && is_bound b
is_test_bound (And' p a q b) = is_test_bound a && is_test_bound b
is_test_bound (Or' p a q b) = is_test_bound a && is_test_bound b
is_test_bound (Not' p a) = is_test_bound a

-- columns and their kinds
abbrev pub kinds_of : List ColumnSpec → List Kind
kinds_of = map (λ column. column.kind)

abbrev pub has_kind : Kind → Option Kind → Bool
has_kind kind None = false
has_kind kind (Some other) = same_kind kind other

abbrev pub same_columns : List ColumnSpec → List ColumnSpec → Bool
same_columns [] [] = true
same_columns [] (y ∷ ys) = false
same_columns (x ∷ xs) [] = false
same_columns (x ∷ xs) (y ∷ ys) = same_name x.name y.name && same_kind x.kind y.kind && same_columns xs ys

-- the columns begin with these, and go on with columns of these kinds
abbrev pub have_kinds : List ColumnSpec → List (Option Kind) → Bool
have_kinds [] [] = true
have_kinds [] (k ∷ kinds) = false
have_kinds (c ∷ columns) [] = false
have_kinds (c ∷ columns) (k ∷ kinds) = has_kind c.kind k && have_kinds columns kinds

abbrev pub follow : List ColumnSpec → List ColumnSpec → List (Option Kind) → Bool
follow columns [] kinds = have_kinds columns kinds
follow [] (y ∷ ys) kinds = false
follow (x ∷ xs) (y ∷ ys) kinds = same_name x.name y.name && same_kind x.kind y.kind && follow xs ys kinds

abbrev pub kind_at : List ColumnSpec → ℕ → Option Kind
kind_at columns = slice_get (kinds_of columns)

abbrev pub same_kind_at : List ColumnSpec → List ColumnSpec → OnPair → Bool
same_kind_at left right pair = kinds_meet (kind_at left pair.left) (kind_at right pair.right) false

abbrev pub agg_kind : List ColumnSpec → Agg → Option Kind
agg_kind columns Count = Some Long
agg_kind columns (Sum column) = long_alone (kind_at columns column)
agg_kind columns (Min column) = kind_at columns column
agg_kind columns (Max column) = kind_at columns column
agg_kind columns (First column) = kind_at columns column
agg_kind columns (Last column) = kind_at columns column

-- the columns begin with those at these places of the input, by their names
abbrev pub has_name : List ℕ → Option ColumnSpec → Bool
has_name name None = false
has_name name (Some column) = same_name name column.name

abbrev pub keep_names : List ColumnSpec → List ColumnSpec → List ℕ → Bool
keep_names columns input by = list_all (λ pair. has_name pair.1.name (slice_get input pair.0)) (zip by columns)

abbrev pub some_of : {X : Type 0} → List X → Bool
some_of [] = false
some_of (x ∷ xs) = true
