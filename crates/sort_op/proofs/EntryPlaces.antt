-- Where the entries of rows stand, by the keys of the rows there.
use Rattle.std.proofs.Common.{◌≡◌, refl, ap, ◌∙◌, false, ◌&&◌, ℕ, List, Option, Some, None}
use Rattle.std.{specs.Prelude.{option_map, slice_get}, specs.Option.option_map_or, proofs.lemmas.Option.slice_get-map}
use Rattle.key_lists.{specs.Keys.{is_among, IsRising}, proofs.Booleans.and_true}
use Rattle.shown_rows.proofs.Walks.{of_place}
use Rattle.tick_laws.proofs.Placed.{every-in_order}
use Rattle.tick_model.{specs.declared.plan.SortBy.SortBy, specs.declared.table.PlainRow.PlainRow, specs.declared.table.PlainTable.PlainTable, specs.Sort.in_order, specs.Tables.{keys, row_at}, proofs.Among.each_found}
use Rattle.sort_op.{specs.Entries.{is_in, is_same}, specs.Places.is_one, specs.Reading.entries_under, specs.Sorted.{entries_of, entry_of}, proofs.Comparing.is_same_own, proofs.Members.{entry_found, in_under}}

module _ (by : List SortBy) where
  -- the positions of the rows under some keys
  pub place_under : (table : PlainTable) → IsRising (keys table.rows) → (some : List ℕ) (i : ℕ) → is_one (entries_of by table.rows) (entries_under by table some) i ≡ option_map_or (λ row. is_among row.key some) (slice_get (in_order by table.rows) i) false
  place_under table r some i =
      ap (λ o. option_map_or (λ entry. is_in entry (entries_under by table some)) o false) (slice_get-map (entry_of by) (in_order by table.rows) i)
      ∙ go (slice_get (in_order by table.rows) i) (λ row here. of_place (λ (row : PlainRow). row_at row.key table.rows ≡ Some row) i (in_order by table.rows) row (every-in_order by (λ (row : PlainRow). row_at row.key table.rows ≡ Some row) table.rows (each_found table.rows r)) here)
    where
      go : (o : Option PlainRow) → ((row : PlainRow) → o ≡ Some row → row_at row.key table.rows ≡ Some row)
          → option_map_or (λ entry. is_in entry (entries_under by table some)) (option_map (entry_of by) o) false ≡ option_map_or (λ row. is_among row.key some) o false
      go None h = refl
      go (Some row) h =
          in_under by table (entry_of by row) some
          ∙ ap (λ b. is_among row.key some && b) (ap (λ entry. is_same entry (entry_of by row)) (entry_found by table row (h row refl)) ∙ is_same_own (entry_of by row))
          ∙ and_true (is_among row.key some)
