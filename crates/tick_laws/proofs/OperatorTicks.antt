-- Each operator makes a tick of its inputs' ticks.
use Rattle.std.proofs.Common.{◌≡◌, refl, ap, sym, ◌∙◌, subst, ℕ, ◌+◌, true, List, [], ◌∷◌, map, length}
use Rattle.std.{specs.Prelude.slice_index, specs.List.AllByRecursion}
use Rattle.tick_model.{specs.declared.plan.Op.Op, specs.declared.plan.Op.TheVariants.{Source, View, Join, Agg, Merge, Sort, AsOf}, specs.declared.table.PlainRow.PlainRow, specs.declared.table.PlainTable.PlainTable, specs.Tables.{keys, cells_at, same_cells, IsTable}, specs.Updates.{Tick, IsTick, both_in, old_keys, new_keys}, specs.View.view_row, specs.Join.{chosen, joined, matches}, specs.AsOf.{latest, not_later}, specs.Agg.key_cells, specs.Operators.{inputs_of, result}, specs.Merge.{merged_rows, width_of, region}}
use Rattle.key_lists.{specs.Keys.{is_among, IsRising}, proofs.Every.{every_weaker, every-map, filter_all, map_map}}
use Rattle.tick_laws.{specs.Operated.operated, proofs.Kept.some_both_in, proofs.Merged.{IsPart, apart, apart_rising, apart_among, keys-merged_rows, old_keys-merged, new_keys-merged, old_part, new_part}, proofs.Placed.sort_keeps, proofs.TickNodes.tick_from}

pub all_both_in : (input : Tick) (old new : PlainTable) → IsTick input → IsTable old → IsTable new → new.width ≡ old.width → IsTick (tick_from old new (both_in old new input.kept))
all_both_in input old new h o n w = subst (λ kept. IsTick (tick_from old new kept)) (filter_all (both_in old new input.kept)) (some_both_in (λ _. true) input old new h o n w)

pub keys_mapped : (f : PlainRow → PlainRow) (rows : List PlainRow) → ((row : PlainRow) → (f row).key ≡ row.key) → keys (map f rows) ≡ keys rows
keys_mapped f [] h = refl
keys_mapped f (row ∷ rows) h = ap (λ key. key ∷ keys (map f rows)) (h row) ∙ ap (λ rest. row.key ∷ rest) (keys_mapped f rows h)

-- rows with other cells under the same keys keep the same pairs
mapped_keeps : (added : ℕ) (f g : PlainRow → PlainRow) → ((row : PlainRow) → (f row).key ≡ row.key) → ((row : PlainRow) → (g row).key ≡ row.key) → (input : Tick) → IsTick input
    → let old : PlainTable = record { width = input.old.width + added; rows = map f input.old.rows } in let new : PlainTable = record { width = input.new.width + added; rows = map g input.new.rows } in
    IsTable old → IsTable new → IsTick (tick_from old new input.kept)
mapped_keeps added f g e d input h o n = record {
  old_table = o;
  new_table = n;
  one_width = ap (λ width. width + added) h.one_width;
  of_old = subst (λ ks. AllByRecursion (λ key. is_among key ks ≡ true) (old_keys input.kept)) (sym (keys_mapped f input.old.rows e)) h.of_old;
  of_new = subst (λ ks. AllByRecursion (λ key. is_among key ks ≡ true) (new_keys input.kept)) (sym (keys_mapped g input.new.rows d)) h.of_new;
  rising_old = h.rising_old;
  rising_new = h.rising_new;
}

merge_width : (tick : ℕ → Tick) (inputs : List ℕ) → AllByRecursion (λ n. IsTick (tick n)) inputs → width_of (map (λ n. (tick n).new) inputs) ≡ width_of (map (λ n. (tick n).old) inputs)
merge_width tick [] h = refl
merge_width tick (input ∷ inputs) h = h.0.one_width

merge_keeps : (tick : ℕ → Tick) (inputs : List ℕ) → AllByRecursion (λ n. IsTick (tick n)) inputs → IsTable (result (Merge inputs) (λ n. (tick n).old)) → IsTable (result (Merge inputs) (λ n. (tick n).new)) → IsTick (operated (Merge inputs) tick)
merge_keeps tick inputs h o n = record {
  old_table = o;
  new_table = n;
  one_width = merge_width tick inputs h;
  of_old = subst (AllByRecursion (λ key. is_among key (keys (merged_rows 0 (map (λ n. (tick n).old) inputs))) ≡ true)) (sym (old_keys-merged 0 0 ticks))
      (subst (λ ks. AllByRecursion (λ key. is_among key ks ≡ true) (apart (λ (t : Tick). old_keys t.kept) (λ (t : Tick). region t.old) 0 ticks)) (sym old_side)
      (apart_among (λ (t : Tick). keys t.old.rows) (λ (t : Tick). old_keys t.kept) (λ (t : Tick). region t.old) 0 ticks olds));
  of_new = subst (AllByRecursion (λ key. is_among key (keys (merged_rows 0 (map (λ n. (tick n).new) inputs))) ≡ true)) (sym (new_keys-merged 0 0 ticks))
      (subst (λ ks. AllByRecursion (λ key. is_among key ks ≡ true) (apart (λ (t : Tick). new_keys t.kept) (λ (t : Tick). region t.new) 0 ticks)) (sym new_side)
      (apart_among (λ (t : Tick). keys t.new.rows) (λ (t : Tick). new_keys t.kept) (λ (t : Tick). region t.new) 0 ticks news));
  rising_old = subst IsRising (sym (old_keys-merged 0 0 ticks)) (apart_rising (λ (t : Tick). keys t.old.rows) (λ (t : Tick). old_keys t.kept) (λ (t : Tick). region t.old) 0 ticks olds);
  rising_new = subst IsRising (sym (new_keys-merged 0 0 ticks)) (apart_rising (λ (t : Tick). keys t.new.rows) (λ (t : Tick). new_keys t.kept) (λ (t : Tick). region t.new) 0 ticks news);
}
  where
    ticks : List Tick
    ticks = map tick inputs

    all_ticks : (P : Tick → Type 0) → ((t : Tick) → IsTick t → P t) → AllByRecursion P (map tick inputs)
    all_ticks P f = every-map P tick inputs (every_weaker (λ n. IsTick (tick n)) (λ n. P (tick n)) inputs (λ n t. f (tick n) t) h)

    olds : AllByRecursion (IsPart (λ (t : Tick). keys t.old.rows) (λ (t : Tick). old_keys t.kept) (λ (t : Tick). region t.old)) (map tick inputs)
    olds = all_ticks (IsPart (λ (t : Tick). keys t.old.rows) (λ (t : Tick). old_keys t.kept) (λ (t : Tick). region t.old)) old_part

    news : AllByRecursion (IsPart (λ (t : Tick). keys t.new.rows) (λ (t : Tick). new_keys t.kept) (λ (t : Tick). region t.new)) (map tick inputs)
    news = all_ticks (IsPart (λ (t : Tick). keys t.new.rows) (λ (t : Tick). new_keys t.kept) (λ (t : Tick). region t.new)) new_part

    old_side : keys (merged_rows 0 (map (λ n. (tick n).old) inputs)) ≡ apart (λ (t : Tick). keys t.old.rows) (λ (t : Tick). region t.old) 0 (map tick inputs)
    old_side = ap (λ tables. keys (merged_rows 0 tables)) (sym (map_map (λ (t : Tick). t.old) tick inputs)) ∙ keys-merged_rows (λ (t : Tick). t.old) 0 (map tick inputs)

    new_side : keys (merged_rows 0 (map (λ n. (tick n).new) inputs)) ≡ apart (λ (t : Tick). keys t.new.rows) (λ (t : Tick). region t.new) 0 (map tick inputs)
    new_side = ap (λ tables. keys (merged_rows 0 tables)) (sym (map_map (λ (t : Tick). t.new) tick inputs)) ∙ keys-merged_rows (λ (t : Tick). t.new) 0 (map tick inputs)

-- an operator's kept pairs are a tick's, where its inputs' are and its results are tables
pub operator_keeps : (op : Op) (tick : ℕ → Tick) → AllByRecursion (λ n. IsTick (tick n)) (inputs_of op) → IsTable (result op (λ n. (tick n).old)) → IsTable (result op (λ n. (tick n).new)) → IsTick (operated op tick)
operator_keeps Source tick h o n = record { old_table = o; new_table = n; one_width = refl; of_old = tt; of_new = tt; rising_old = tt; rising_new = tt }
operator_keeps (View input exprs) tick h o n = mapped_keeps (length exprs) (view_row exprs) (view_row exprs) (λ row. refl) (λ row. refl) (tick input) h.0 o n
operator_keeps (Join left right on take choice) tick h o n =
    let found : PlainTable → PlainRow → PlainRow = λ right. joined take (λ row. chosen choice (matches on right.rows row)) in
    mapped_keeps (length take) (found (tick right).old) (found (tick right).new) (λ row. refl) (λ row. refl) (tick left) h.0 o n
operator_keeps (AsOf left right on at take) tick h o n =
    let found : PlainTable → PlainRow → PlainRow = λ right. joined take (λ row. latest at.right (not_later on at right.rows row)) in
    mapped_keeps (length take) (found (tick right).old) (found (tick right).new) (λ row. refl) (λ row. refl) (tick left) h.0 o n
operator_keeps (Agg input by aggs) tick h o n =
    some_both_in (λ pair. same_cells (key_cells by (cells_at pair.old (tick input).old.rows)) (key_cells by (cells_at pair.new (tick input).new.rows))) (tick input) (result (Agg input by aggs) (λ n. (tick n).old)) (result (Agg input by aggs) (λ n. (tick n).new)) h.0 o n refl
operator_keeps (Merge inputs) tick h o n = merge_keeps tick inputs h o n
operator_keeps (Sort input by) tick h o n = sort_keeps by (tick input) h.0 o n
operator_keeps op tick h o n = all_both_in (tick (slice_index (inputs_of op) 0)) (result op (λ n. (tick n).old)) (result op (λ n. (tick n).new)) h.0 o n h.0.one_width
