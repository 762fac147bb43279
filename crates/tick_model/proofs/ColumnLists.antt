-- Columns against others and against kinds, a part at a time.
use Rattle.std.proofs.Common.{◌≡◌, refl, ap, sym, ◌∙◌, Bool, true, false, ◌&&◌, ◌==◌, ℕ, ◌<◌, ◌≤◌, arith, List, [], ◌∷◌, ◌++◌, map, length, take, drop, Option, inl, inr, drop-cons, eq-eqb}
use Rattle.std.{proofs.lemmas.Bool.{ne_eqb, cases_lt}, proofs.lemmas.List.{drop_all, length-map}}
use Rattle.key_lists.proofs.Booleans.{and_false}
use Rattle.tick_model.{specs.declared.plan.ColumnSpec.ColumnSpec, specs.declared.plan.Kind.Kind, specs.declared.plan.Kind.TheVariants.Long, specs.Names.same_name, specs.Columns.{same_kind, has_kind, same_columns, have_kinds, follow}}

no_column : ColumnSpec
no_column = record { name = []; kind = Long }

-- past the last column there may be no others
pub no_others_left : (n : ℕ) (others : List ColumnSpec) → n ≤ length others → same_columns [] (drop n others) ≡ (n == length others)
no_others_left n others h =
    elim (cases_lt n (length others)) [
      | inl before ↦ ap (same_columns []) (drop-cons others n no_column before) ∙ sym (ne_eqb n (length others) (λ e. omega arith))
      | inr after ↦ ap (same_columns []) (drop_all n others after) ∙ sym (eq-eqb n (length others) (omega arith))
    ]

pub no_columns_left : (n : ℕ) (columns : List ColumnSpec) → n ≤ length columns → have_kinds (drop n columns) [] ≡ (length columns == n)
no_columns_left n columns h =
    elim (cases_lt n (length columns)) [
      | inl before ↦ ap (λ rest. have_kinds rest []) (drop-cons columns n no_column before) ∙ sym (ne_eqb (length columns) n (λ e. omega arith))
      | inr after ↦ ap (λ rest. have_kinds rest []) (drop_all n columns after) ∙ sym (eq-eqb (length columns) n (omega arith))
    ]

and_apart : (a b c : Bool) → (a && (b && c)) ≡ ((a && b) && c)
and_apart true b c = refl
and_apart false b c = refl

-- columns that follow an input's are the input's, and then those of the kinds
pub follow_apart : (columns input : List ColumnSpec) (kinds : List (Option Kind)) → length input ≤ length columns
    → follow columns input kinds ≡ (same_columns (take (length input) columns) input && have_kinds (drop (length input) columns) kinds)
follow_apart [] [] kinds h = refl
follow_apart (x ∷ xs) [] kinds h = refl
follow_apart [] (y ∷ ys) kinds h = absurd (omega arith)
follow_apart (x ∷ xs) (y ∷ ys) kinds h =
    ap (λ rest. same_name x.name y.name && same_kind x.kind y.kind && rest) (follow_apart xs ys kinds (omega arith))
    ∙ and_apart (same_name x.name y.name && same_kind x.kind y.kind) (same_columns (take (length ys) xs) ys) (have_kinds (drop (length ys) xs) kinds)

pub follow_short : (columns input : List ColumnSpec) (kinds : List (Option Kind)) → length columns < length input → follow columns input kinds ≡ false
follow_short columns [] kinds h = absurd (omega arith)
follow_short [] (y ∷ ys) kinds h = refl
follow_short (x ∷ xs) (y ∷ ys) kinds h =
    ap (λ rest. same_name x.name y.name && same_kind x.kind y.kind && rest) (follow_short xs ys kinds (omega arith)) ∙ and_false (same_name x.name y.name && same_kind x.kind y.kind)

-- columns of two lists of kinds
pub kinds_apart : (columns : List ColumnSpec) (kinds others : List (Option Kind)) (n : ℕ) → n ≡ length kinds → n ≤ length columns
    → have_kinds columns (kinds ++ others) ≡ (have_kinds (take n columns) kinds && have_kinds (drop n columns) others)
kinds_apart columns kinds others n e h =
    by_length columns kinds others (omega arith) ∙ ap (λ n. have_kinds (take n columns) kinds && have_kinds (drop n columns) others) (sym e)
  where
    by_length : (columns : List ColumnSpec) (kinds others : List (Option Kind)) → length kinds ≤ length columns
        → have_kinds columns (kinds ++ others) ≡ (have_kinds (take (length kinds) columns) kinds && have_kinds (drop (length kinds) columns) others)
    by_length [] [] others h = refl
    by_length (x ∷ xs) [] others h = refl
    by_length [] (k ∷ kinds) others h = absurd (omega arith)
    by_length (x ∷ xs) (k ∷ kinds) others h =
        ap (λ rest. has_kind x.kind k && rest) (by_length xs kinds others (omega arith))
        ∙ and_apart (has_kind x.kind k) (have_kinds (take (length kinds) xs) kinds) (have_kinds (drop (length kinds) xs) others)

pub kinds_short : (columns : List ColumnSpec) (kinds others : List (Option Kind)) → length columns < length kinds → have_kinds columns (kinds ++ others) ≡ false
kinds_short columns [] others h = absurd (omega arith)
kinds_short [] (k ∷ kinds) others h = refl
kinds_short (x ∷ xs) (k ∷ kinds) others h = ap (λ rest. has_kind x.kind k && rest) (kinds_short xs kinds others (omega arith)) ∙ and_false (has_kind x.kind k)

-- the answer of two tests in a row
pub joined_true : {r a b t : Bool} → t ≡ true → t ≡ a → r ≡ b → r ≡ (a && b)
joined_true {r} {a} {b} on is e = e ∙ ap (λ a. a && b) (sym on ∙ is)

pub joined_false : {a t : Bool} (b : Bool) → t ≡ false → t ≡ a → t ≡ (a && b)
joined_false {a} b off is = off ∙ ap (λ a. a && b) (sym off ∙ is)

-- columns cut in two
pub follow_cut : (columns input own new : List ColumnSpec) (kinds : List (Option Kind)) → length input ≤ length columns → own ≡ take (length input) columns → new ≡ drop (length input) columns
    → (same_columns own input && have_kinds new kinds) ≡ follow columns input kinds
follow_cut columns input own new kinds h of_own of_new =
    ap (λ own. same_columns own input && have_kinds new kinds) of_own ∙ ap (λ new. same_columns (take (length input) columns) input && have_kinds new kinds) of_new
    ∙ sym (follow_apart columns input kinds h)

pub kinds_cut : {A : Type 0} (by : List A) (columns own new : List ColumnSpec) (f : A → Option Kind) (others : List (Option Kind)) → length by ≤ length columns → own ≡ take (length by) columns → new ≡ drop (length by) columns
    → (have_kinds own (map f by) && have_kinds new others) ≡ have_kinds columns (map f by ++ others)
kinds_cut by columns own new f others h of_own of_new =
    ap (λ own. have_kinds own (map f by) && have_kinds new others) of_own ∙ ap (λ new. have_kinds (take (length by) columns) (map f by) && have_kinds new others) of_new
    ∙ sym (kinds_apart columns (map f by) others (length by) (sym (length-map by f)) h)
