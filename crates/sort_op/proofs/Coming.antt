-- Rows that come, which are compared by their first sort cells before all others.
use Rattle.std.proofs.Common.{◌≡◌, refl, ap, ap₂, sym, ◌∙◌, subst, cond, true, false, ℕ, ◌+◌, ◌<◌, arith, List, [], ◌∷◌, map, length, get_or, ℤ, ◌<ℤ◌, is_lt}
use Rattle.std.{specs.Prelude.{negsuc, ◌-ℤ◌}, specs.Cmp.{IsStrictWeakOrder, int_cmp_is, int_ranks}, specs.List.Sorted.{IsPermutation, IsSortedBy}, specs.Ordering.{MatchOrdering, int_cmp, nat_cmp, ordering_then}, specs.declared.cmp.Ordering.Ordering, specs.declared.cmp.Ordering.TheVariants.{Less, Equal, Greater}, proofs.lemmas.Cmp.{back_total, int_cmp_total, on_total, then_total, tied_itself}, proofs.lemmas.Int.ints, proofs.lemmas.List.MinMax.ranks_by, proofs.lemmas.List.Sorted.IsPermutation-map}
use Rattle.key_lists.proofs.Every.{all_from, every, every-map, map_map, map_own}
use Rattle.tick_model.{specs.declared.plan.SortBy.SortBy, specs.Sort.column_cmp, specs.Tables.null}
use Rattle.sort_op.{specs.declared.arrivals.Coming.Coming, specs.declared.row_order.OrderedRow.OrderedRow, specs.Cells.cells_cmp, specs.Entries.{Falls, entry_cmp}, specs.Firsts.{coming_cmp, coming_of, ranked, rows_in}, specs.Ranks.{cell_in, cells_from, row_entry}, proofs.Arrived.rows_fall, proofs.Comparing.entries_total, proofs.Inserted.every_permuted}

-- of two opposites the lower is that of the higher
flipped : (x y : ℤ) → int_cmp (negsuc 0 -ℤ x) (negsuc 0 -ℤ y) ≡ int_cmp y x
flipped x y = sym (int_cmp_is (negsuc 0 -ℤ x) (negsuc 0 -ℤ y) (int_cmp y x) (go (int_cmp y x) (int_ranks y x)))
  where
    go : (r : Ordering) → MatchOrdering r (y <ℤ x) (y ≡ x) (x <ℤ y) → MatchOrdering r ((negsuc 0 -ℤ x) <ℤ (negsuc 0 -ℤ y)) ((negsuc 0 -ℤ x) ≡ (negsuc 0 -ℤ y)) ((negsuc 0 -ℤ y) <ℤ (negsuc 0 -ℤ x))
    go Less h = omega (arith, ints, h)
    go Equal h = ap (λ z. negsuc 0 -ℤ z) (sym h)
    go Greater h = omega (arith, ints, h)

rank_cmp : (sort : SortBy) (x y : ℤ) → int_cmp (ranked sort x) (ranked sort y) ≡ column_cmp sort x y
rank_cmp sort x y = elim sort.descending as (λ b. int_cmp (cond b (negsuc 0 -ℤ x) x) (cond b (negsuc 0 -ℤ y) y) ≡ cond b (int_cmp y x) (int_cmp x y)) [ true ↦ flipped x y | false ↦ refl ]

twice : (r s t : Ordering) → ordering_then r (ordering_then (ordering_then r s) t) ≡ ordering_then (ordering_then r s) t
twice Less s t = refl
twice Equal s t = refl
twice Greater s t = refl

first_decides : (by : List SortBy) (cells : List (List ℤ)) (a b : OrderedRow) → coming_cmp by cells (coming_of by cells a) (coming_of by cells b) ≡ entry_cmp by (row_entry by cells a) (row_entry by cells b)
first_decides [] cells a b = ap (λ r. ordering_then r (entry_cmp [] (row_entry [] cells a) (row_entry [] cells b))) (tied_itself int_cmp_total null)
first_decides (sort ∷ by) cells a b =
    let x = cell_in cells 0 a.handle in
    let y = cell_in cells 0 b.handle in
    ap (λ r. ordering_then r (entry_cmp (sort ∷ by) (row_entry (sort ∷ by) cells a) (row_entry (sort ∷ by) cells b))) (rank_cmp sort x y)
    ∙ twice (column_cmp sort x y) (cells_cmp by (cells_from 1 by cells a.handle) (cells_from 1 by cells b.handle)) (nat_cmp a.key b.key)

module _ (by : List SortBy) (cells : List (List ℤ)) where
  pub coming_weak : IsStrictWeakOrder (λ a b. is_lt (coming_cmp by cells b a))
  coming_weak = ranks_by (back_total (then_total (on_total (λ (coming : Coming). coming.first) int_cmp_total) (on_total (λ (coming : Coming). row_entry by cells coming.row) (entries_total by)))) (λ (coming : Coming). coming)

  alike : (a b : Coming) → coming_of by cells a.row ≡ a → coming_of by cells b.row ≡ b → coming_cmp by cells a b ≡ entry_cmp by (row_entry by cells a.row) (row_entry by cells b.row)
  alike a b p q = ap₂ (coming_cmp by cells) (sym p) (sym q) ∙ first_decides by cells a.row b.row

  module _ (rows : List OrderedRow) (coming : List Coming) (shuffled : IsPermutation (map (coming_of by cells) rows) coming) where
    made : (k : ℕ) (d : Coming) → k < length coming → coming_of by cells (get_or coming k d).row ≡ get_or coming k d
    made =
        all_from (λ (next : Coming). coming_of by cells next.row ≡ next) coming
        (every_permuted (λ (next : Coming). coming_of by cells next.row ≡ next) (map (coming_of by cells) rows) coming shuffled
        (every-map (λ (next : Coming). coming_of by cells next.row ≡ next) (coming_of by cells) rows (every (λ row. coming_of by cells row ≡ coming_of by cells row) rows (λ row. refl))))

    pub coming_fall : IsSortedBy (λ a b. is_lt (coming_cmp by cells b a)) coming → Falls by (map (row_entry by cells) (rows_in coming))
    coming_fall sorted =
        subst (Falls by) (sym (map_map (row_entry by cells) (λ (next : Coming). next.row) coming))
        (rows_fall by (λ (next : Coming). row_entry by cells next.row) coming
        (λ k d low high. ap is_lt (sym (alike (get_or coming k d) (get_or coming (k + 1) d) (made k d (omega arith)) (made (k + 1) d high))) ∙ sorted k d low high))

    pub coming_permuted : IsPermutation rows (rows_in coming)
    coming_permuted =
        subst (λ some. IsPermutation some (rows_in coming)) (map_map (λ (next : Coming). next.row) (coming_of by cells) rows ∙ map_own (λ (row : OrderedRow). row) rows (every (λ (row : OrderedRow). row ≡ row) rows (λ row. refl)))
        (IsPermutation-map (λ (next : Coming). next.row) (map (coming_of by cells) rows) coming shuffled)
