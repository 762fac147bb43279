-- The rows that a step touches, and their entries.
--     entry_with by cells key      the entry of a row of these cells under a key
--     entry_under by table key      the entry of the row under a key
--     entries_under by table keys      those of the rows under these keys
--     modified_pairs input      the pairs of the rows that are modified
--     staying_pairs by input      those of equal sort cells before and now
--     moving_pairs by input      the others
--     leaving by input      the old keys of the rows that leave the order: those that go, and those whose sort cells change
--     coming by input      the keys of those that come
--     carried by input      the entries of the rows that stay, under their keys now
use Rattle.std.{specs.Prelude.{ℕ, Bool, List, filter, map, not, ℤ}, specs.List.list_all, specs.Ordering.int_eq}
use Rattle.key_lists.specs.Keys.{is_among}
use Rattle.row_set.specs.Sets.{united}
use Rattle.tick_model.{specs.declared.plan.SortBy.SortBy, specs.declared.table.PlainTable.PlainTable, specs.declared.update.KeyPair.KeyPair, specs.Sort.same_place, specs.Tables.{cell, cells_at}, specs.Updates.{new_keys, old_keys, pairs}}
use Rattle.tick_table.{specs.Exact.tick_of, specs.Ticking.Ticking}
use Rattle.sort_op.{specs.declared.entry.Entry.Entry, specs.Entries.rekeyed, specs.Sorted.{entries_of, sort_cells}}

abbrev pub entry_with : List SortBy → List ℤ → ℕ → Entry
entry_with by cells key = record { cells = sort_cells by cells; key = key }

abbrev pub entry_under : List SortBy → PlainTable → ℕ → Entry
entry_under by table key = entry_with by (cells_at key table.rows) key

abbrev pub entries_under : List SortBy → PlainTable → List ℕ → List Entry
entries_under by table = map (entry_under by table)

-- whether two rows have the same sort cells
abbrev pub sort_cells_alike : List SortBy → List ℤ → List ℤ → Bool
sort_cells_alike by xs ys = list_all (λ sort. int_eq (cell xs sort.column) (cell ys sort.column)) by

abbrev pub modified_pairs : Ticking → List KeyPair
modified_pairs input = filter (λ pair. is_among pair.new input.update.modified) (pairs input.old input.update)

abbrev pub staying_pairs : List SortBy → Ticking → List KeyPair
staying_pairs by input = filter (same_place by (tick_of input)) (modified_pairs input)

abbrev pub moving_pairs : List SortBy → Ticking → List KeyPair
moving_pairs by input = filter (λ pair. not (same_place by (tick_of input) pair)) (modified_pairs input)

abbrev pub leaving : List SortBy → Ticking → List ℕ
leaving by input = united input.update.removed (old_keys (moving_pairs by input))

abbrev pub coming : List SortBy → Ticking → List ℕ
coming by input = united input.update.added (new_keys (moving_pairs by input))

-- of the entries before the step those that stay in the order, and the same under their keys now
abbrev pub staying : List SortBy → Ticking → List Entry
staying by input = filter (λ entry. not (is_among entry.key (leaving by input))) (entries_of by input.old.rows)

abbrev pub carried : List SortBy → Ticking → List Entry
carried by input = map (rekeyed input.update.shifted) (staying by input)
