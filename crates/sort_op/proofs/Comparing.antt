-- The order of entries is total, and an entry stands neither before nor behind itself alone.
use Rattle.std.proofs.Common.{◌≡◌, refl, ap, ap₂, sym, ◌∙◌, true, false, cond, ◌&&◌, ◌==◌, ℕ, arith, List, [], ◌∷◌, length, drop, true≢false, inl, inr, ℤ, is_lt}
use Rattle.std.{specs.Cmp.IsTotalOrder, specs.Cmp.Derive.point_total, specs.Cmp.Rules.signed_items, specs.Ordering.{int_cmp, nat_cmp, ordering_then, ordering_index, ordering_reverse}, specs.declared.cmp.Ordering.Ordering, specs.declared.cmp.Ordering.TheVariants.{Less, Equal, Greater}, proofs.lemmas.Bool.{and_parts, eqb-true, eq-eqb, cases_Bool}, proofs.lemmas.Cmp.{int_cmp_total, nat_cmp_total, then_total, on_total, back_total, tied_itself, ranked, int_ranked}}
use Rattle.key_lists.proofs.Booleans.{less_from}
use Rattle.tick_model.{specs.declared.plan.SortBy.SortBy, specs.Tables.{cell, same_cells}, specs.Sort.column_cmp}
use Rattle.sort_op.{specs.declared.entry.Entry.Entry, specs.Cells.cells_cmp, specs.Entries.{entry_cmp, comes_before, is_same, IsWhole}}

column_total : (sort : SortBy) → IsTotalOrder (column_cmp sort)
column_total sort = elim sort.descending as (λ b. IsTotalOrder (λ x y. cond b (int_cmp y x) (int_cmp x y))) [ true ↦ back_total int_cmp_total | false ↦ int_cmp_total ]

cells_total : (by : List SortBy) → IsTotalOrder (cells_cmp by)
cells_total [] = point_total
cells_total (sort ∷ by) = then_total (on_total (λ (cells : List ℤ). cell cells 0) (column_total sort)) (on_total (λ (cells : List ℤ). drop 1 cells) (cells_total by))

pub entries_total : (by : List SortBy) → IsTotalOrder (entry_cmp by)
entries_total by = then_total (on_total (λ (entry : Entry). entry.cells) (cells_total by)) (on_total (λ (entry : Entry). entry.key) nat_cmp_total)

-- entries of equal cells and keys are one
then_parts : (r s : Ordering) → ordering_then r s ≡ Equal → (r ≡ Equal) × (s ≡ Equal)
then_parts Less s e = absurd (cc)
then_parts Equal s e = (refl, e)
then_parts Greater s e = absurd (cc)

tied_numbers : (x y : ℤ) → int_cmp x y ≡ Equal → x ≡ y
tied_numbers x y e = int_ranked x y Equal (sym e)

tied_cells : (sort : SortBy) (x y : ℤ) → column_cmp sort x y ≡ Equal → x ≡ y
tied_cells sort x y = elim sort.descending as (λ b. cond b (int_cmp y x) (int_cmp x y) ≡ Equal → x ≡ y) [ true ↦ λ e. sym (tied_numbers y x e) | false ↦ tied_numbers x y ]

cells_tied : (by : List SortBy) (xs ys : List ℤ) → length xs ≡ length by → length ys ≡ length by → cells_cmp by xs ys ≡ Equal → xs ≡ ys
cells_tied [] [] [] p q e = refl
cells_tied [] [] (y ∷ ys) p q e = absurd (omega (arith, q))
cells_tied [] (x ∷ xs) ys p q e = absurd (omega (arith, p))
cells_tied (sort ∷ by) [] ys p q e = absurd (omega (arith, p))
cells_tied (sort ∷ by) (x ∷ xs) [] p q e = absurd (omega (arith, q))
cells_tied (sort ∷ by) (x ∷ xs) (y ∷ ys) p q e =
    let parts = then_parts (column_cmp sort x y) (cells_cmp by xs ys) e in
    ap₂ (λ (z : ℤ) (zs : List ℤ). z ∷ zs) (tied_cells sort x y parts.0) (cells_tied by xs ys (omega (arith, p)) (omega (arith, q)) parts.1)

entry_with : List ℤ → ℕ → Entry
entry_with cells key = record { cells = cells; key = key }

same_fields : (a b : Entry) → a.cells ≡ b.cells → a.key ≡ b.key → a ≡ b
unfolding entry_with
same_fields a b e f = ap₂ entry_with e f

pub tied_same : (by : List SortBy) (a b : Entry) → IsWhole by a → IsWhole by b → entry_cmp by a b ≡ Equal → a ≡ b
tied_same by a b p q e =
    let parts = then_parts (cells_cmp by a.cells b.cells) (nat_cmp a.key b.key) e in
    same_fields a b (cells_tied by a.cells b.cells p q parts.0) (ranked a.key b.key Equal (sym parts.1))

pub same_is : (a b : Entry) → is_same a b ≡ true → a ≡ b
same_is a b e =
    let parts = and_parts (a.key == b.key) (same_cells a.cells b.cells) e in
    same_fields a b ((signed_items a.cells b.cells).0 parts.1) (eqb-true a.key b.key parts.0)

pub is_same_own : (a : Entry) → is_same a a ≡ true
is_same_own a = ap₂ (λ b c. b && c) (eq-eqb a.key a.key refl) ((signed_items a.cells a.cells).1 refl)

module _ (by : List SortBy) where
  o : IsTotalOrder (entry_cmp by)
  o = entries_total by

  pub before_trans : (x y z : Entry) → comes_before by x y ≡ true → comes_before by y z ≡ true → comes_before by x z ≡ true
  before_trans x y z h k = ap is_lt (o.trans x y z (less_from _ h) (less_from _ k))

  pub not_before_own : (x : Entry) → comes_before by x x ≡ false
  not_before_own x = ap is_lt (tied_itself o x)

  -- an entry is no other that stands before or behind it
  pub other_before : (x y : Entry) → comes_before by x y ≡ true → is_same x y ≡ false
  other_before x y h =
      elim (cases_Bool (is_same x y)) [
        | inl same ↦ absurd (true≢false (sym h ∙ ap (λ z. comes_before by z y) (same_is x y same) ∙ not_before_own y))
        | inr other ↦ other
      ]

  pub other_behind : (x y : Entry) → comes_before by y x ≡ true → is_same x y ≡ false
  other_behind x y h =
      elim (cases_Bool (is_same x y)) [
        | inl same ↦ absurd (true≢false (sym h ∙ ap (comes_before by y) (same_is x y same) ∙ not_before_own y))
        | inr other ↦ other
      ]

  -- what is not before an entry and is another stands behind it
  pub behind : (x y : Entry) → IsWhole by x → IsWhole by y → comes_before by x y ≡ false → is_same x y ≡ false → comes_before by y x ≡ true
  behind x y p q h other = go (entry_cmp by x y) refl h
    where
      go : (r : Ordering) → entry_cmp by x y ≡ r → is_lt r ≡ false → comes_before by y x ≡ true
      go Less e f = absurd (true≢false f)
      go Equal e f = absurd (true≢false (sym (is_same_own y) ∙ ap (λ z. is_same z y) (sym (tied_same by x y p q e)) ∙ other))
      go Greater e f = ap is_lt (o.antisymm y x ∙ ap ordering_reverse e)

  -- the test of an entry by the order
  pub tied_is_same : (x y : Entry) (r : Ordering) → IsWhole by x → IsWhole by y → r ≡ entry_cmp by x y → (ordering_index r == 1) ≡ is_same x y
  tied_is_same x y Less p q e = sym (other_before x y (ap is_lt (sym e)))
  tied_is_same x y Equal p q e = sym (ap (λ z. is_same z y) (tied_same by x y p q (sym e)) ∙ is_same_own y)
  tied_is_same x y Greater p q e = sym (other_behind x y (ap is_lt (o.antisymm y x ∙ ap ordering_reverse (sym e))))
