-- The entries of the rows of a table, in order: they rise, and lists that rise and have the same entries are one.
use Rattle.std.proofs.Common.{◌≡◌, refl, ap, ap₂, sym, ◌∙◌, subst, true, false, cond, ◌||◌, ℕ, ◌<◌, ◌==◌, List, [], ◌∷◌, map, true≢false, inl, inr, is_lt}
use Rattle.std.{specs.List.AllByRecursion, specs.Ordering.{nat_cmp, ordering_reverse, ordering_then}, specs.declared.cmp.Ordering.Ordering, specs.declared.cmp.Ordering.TheVariants.{Less, Equal, Greater}, proofs.lemmas.Bool.{cases_Bool, lt-ltb, or_cases}}
use Rattle.key_lists.{specs.Keys.IsRising, proofs.Every.{every_weaker, every-map}}
use Rattle.tick_model.{specs.declared.plan.SortBy.SortBy, specs.declared.table.PlainRow.PlainRow, specs.Sort.{column_cmp, in_order, sort_cmp}, specs.Tables.{cell, keys}, proofs.SortOrders.sort_total}
use Rattle.tick_laws.proofs.Placed.{in_order_placed, IsPlaced, Stands}
use Rattle.sort_op.{specs.declared.entry.Entry.Entry, specs.Cells.cells_cmp, specs.Entries.{Rises, comes_before, is_in, is_same}, specs.Sorted.{entries_of, entry_of, sort_cells}, proofs.Comparing.{before_trans, is_same_own, not_before_own, other_behind, same_is}}

-- the cells of rows stand to one another as the rows do
cells-rows : (by : List SortBy) (a b : PlainRow) → cells_cmp by (sort_cells by a.cells) (sort_cells by b.cells) ≡ sort_cmp by a b
cells-rows [] a b = refl
cells-rows (sort ∷ by) a b = ap (ordering_then (column_cmp sort (cell a.cells sort.column) (cell b.cells sort.column))) (cells-rows by a b)

-- of rows the one is behind where the other is before
ranked : (by : List SortBy) (a b : PlainRow) → sort_cmp by a b ≡ Greater → sort_cmp by b a ≡ Less
ranked by a b e = (sort_total by).antisymm b a ∙ ap ordering_reverse e

-- a row that stands before another has its entry before the other's
stands_before : (by : List SortBy) (a b : PlainRow) → Stands by a b → comes_before by (entry_of by a) (entry_of by b) ≡ true
stands_before by a b s = ap (λ o. is_lt (ordering_then o (nat_cmp a.key b.key))) (cells-rows by a b) ∙ go (sort_cmp by a b) refl
  where
    nearer : (x y : ℕ) → x < y → is_lt (nat_cmp x y) ≡ true
    nearer x y less = ap (λ t. is_lt (cond t Less (cond (x == y) Equal Greater))) (lt-ltb x y less)

    go : (o : Ordering) → sort_cmp by a b ≡ o → is_lt (ordering_then o (nat_cmp a.key b.key)) ≡ true
    go Less e = refl
    go Equal e = nearer a.key b.key (s.1 (ap is_lt e))
    go Greater e = absurd (true≢false (sym (ap is_lt (ranked by a b e)) ∙ s.0))

pub entries_rise : (by : List SortBy) (rows : List PlainRow) → IsPlaced by rows → Rises by (map (entry_of by) rows)
entries_rise by [] h = tt
entries_rise by (row ∷ rows) h =
    (every-map (λ other. comes_before by (entry_of by row) other ≡ true) (entry_of by) rows (every_weaker (Stands by row) (λ other. comes_before by (entry_of by row) (entry_of by other) ≡ true) rows (λ other s. stands_before by row other s) h.0), entries_rise by rows h.1)

-- the entries of a table's rows
pub sorted_rises : (by : List SortBy) (rows : List PlainRow) → IsRising (keys rows) → Rises by (entries_of by rows)
sorted_rises by rows r = entries_rise by (in_order by rows) (in_order_placed by rows r)

pub own_in : (entry : Entry) (entries : List Entry) → is_in entry (entry ∷ entries) ≡ true
own_in entry entries = ap (λ b. b || is_in entry entries) (is_same_own entry)

module _ (by : List SortBy) where
  -- an entry before all others is none of them
  in_before : (entry : Entry) (others : List Entry) → AllByRecursion (λ other. comes_before by entry other ≡ true) others → is_in entry others ≡ false
  in_before entry [] h = refl
  in_before entry (other ∷ others) h = ap (λ b. b || is_in entry others) (other_behind by other entry h.0) ∙ in_before entry others h.1

  -- what holds of all entries holds of one that is in
  of_in : (P : Entry → Type 0) (entry : Entry) (entries : List Entry) → AllByRecursion P entries → is_in entry entries ≡ true → P entry
  of_in P entry [] h e = absurd (true≢false (sym e))
  of_in P entry (other ∷ others) h e =
      elim (or_cases (is_same other entry) (is_in entry others) e) [
        | inl same ↦ subst P (same_is other entry same) h.0
        | inr rest ↦ of_in P entry others h.1 rest
      ]

  cons_in : (entry other : Entry) (others : List Entry) → is_same other entry ≡ false → is_in entry (other ∷ others) ≡ is_in entry others
  cons_in entry other others e = ap (λ b. b || is_in entry others) e

  -- of two lists that rise and have the same entries the first entries are one
  same_first : (x y : Entry) (xs ys : List Entry) → Rises by (x ∷ xs) → Rises by (y ∷ ys) → is_in x (y ∷ ys) ≡ true → is_in y (x ∷ xs) ≡ true → is_same x y ≡ true
  same_first x y xs ys r s h k =
      elim (cases_Bool (is_same x y)) [
        | inl same ↦ same
        | inr other ↦ absurd (true≢false (sym (before_trans by x y x (of_in (λ z. comes_before by x z ≡ true) y xs r.0 (sym (cons_in y x xs other) ∙ k)) (of_in (λ z. comes_before by y z ≡ true) x ys s.0 (sym (cons_in x y ys (flip other)) ∙ h))) ∙ not_before_own by x))
      ]
    where
      flip : is_same x y ≡ false → is_same y x ≡ false
      flip e = elim (cases_Bool (is_same y x)) [
        | inl same ↦ absurd (true≢false (sym (is_same_own x) ∙ ap (λ z. is_same x z) (sym (same_is y x same)) ∙ e))
        | inr other ↦ other
      ]

  -- lists that rise and have the same entries are one
  pub one_list : (xs ys : List Entry) → Rises by xs → Rises by ys → ((entry : Entry) → is_in entry xs ≡ is_in entry ys) → xs ≡ ys
  one_list [] [] r s h = refl
  one_list [] (y ∷ ys) r s h = absurd (true≢false (sym (own_in y ys) ∙ sym (h y)))
  one_list (x ∷ xs) [] r s h = absurd (true≢false (sym (own_in x xs) ∙ h x))
  one_list (x ∷ xs) (y ∷ ys) r s h =
      let same : x ≡ y = same_is x y (same_first x y xs ys r s (sym (h x) ∙ own_in x xs) (h y ∙ own_in y ys)) in
      ap₂ (λ z zs. z ∷ zs) same (one_list xs ys r.1 s.1 (λ entry. rest same entry))
    where
      rest : x ≡ y → (entry : Entry) → is_in entry xs ≡ is_in entry ys
      rest same entry = elim (cases_Bool (is_same x entry)) [
        | inl own ↦
            let e = same_is x entry own in
            subst (λ z. is_in z xs ≡ false) e (in_before x xs r.0) ∙ sym (subst (λ z. is_in z ys ≡ false) (sym same ∙ e) (in_before y ys s.0))
        | inr other ↦
            sym (cons_in entry x xs other) ∙ h entry ∙ cons_in entry y ys (subst (λ z. is_same z entry ≡ false) same other)
      ]
