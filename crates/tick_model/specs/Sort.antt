-- The rows in stable order by their sort cells, under the keys 0, 1, 2 and so on.
use Rattle.std.{specs.Prelude.{ℕ, ◌+◌, ◌==◌, Bool, List, [], ◌∷◌, Option, filter, filter_map, find, ℤ, if◌then◌else◌, option_map}, specs.List.{list_all, enumerate_from, position_or_len}, specs.Ordering.{int_cmp, int_eq, is_lt, ordering_then}, specs.declared.cmp.Ordering.Ordering, specs.declared.cmp.Ordering.TheVariants.Equal}
use Rattle.tick_model.{specs.declared.plan.SortBy.SortBy, specs.declared.table.PlainRow.PlainRow, specs.declared.table.PlainTable.PlainTable, specs.Tables.{cell, cells_at}, specs.declared.update.KeyPair.KeyPair, specs.Updates.Tick}

-- how the cells of a row stand to another's, by the first sort column in which they differ
abbrev pub column_cmp : SortBy → ℤ → ℤ → Ordering
column_cmp sort x y = if sort.descending then int_cmp y x else int_cmp x y

abbrev pub sort_cmp : List SortBy → PlainRow → PlainRow → Ordering
sort_cmp [] a b = Equal
sort_cmp (sort ∷ by) a b = ordering_then (column_cmp sort (cell a.cells sort.column) (cell b.cells sort.column)) (sort_cmp by a b)

-- an element put in front of the first that is not less, and a list in stable order
abbrev pub place : {X : Type 0} → (X → X → Bool) → X → List X → List X
place less x [] = x ∷ []
place less x (y ∷ ys) = if less y x then y ∷ place less x ys else x ∷ y ∷ ys

abbrev pub ordered : {X : Type 0} → (X → X → Bool) → List X → List X
ordered less [] = []
ordered less (x ∷ xs) = place less x (ordered less xs)

abbrev pub in_order : List SortBy → List PlainRow → List PlainRow
in_order by = ordered (λ a b. is_lt (sort_cmp by a b))

-- the rows under the keys from n on
abbrev pub numbered : ℕ → List PlainRow → List PlainRow
numbered n [] = []
numbered n (row ∷ rows) = (record row { key = n }) ∷ numbered (n + 1) rows

abbrev pub sort_table : List SortBy → PlainTable → PlainTable
sort_table by input = record input { rows = numbered 0 (in_order by input.rows) }

-- whether the rows of a pair have equal sort cells
abbrev pub same_place : List SortBy → Tick → KeyPair → Bool
same_place by input pair = list_all (λ sort. int_eq (cell (cells_at pair.old input.old.rows) sort.column) (cell (cells_at pair.new input.new.rows) sort.column)) by

-- the place of the row of a key
abbrev pub place_of : ℕ → List PlainRow → ℕ
place_of key = position_or_len (λ row. row.key == key)

-- the pair of places of a row that stays, by its old place and its old key
abbrev pub place_pair : List PlainRow → List KeyPair → (ℕ × PlainRow) → Option KeyPair
place_pair new kept placed = option_map (λ pair. record { old = placed.0; new = place_of pair.new new }) (find (λ pair. pair.old == (placed.1).key) kept)

abbrev pub sort_pairs : List SortBy → Tick → List KeyPair
sort_pairs by input = filter_map (place_pair (in_order by input.new.rows) (filter (same_place by input) input.kept)) (enumerate_from 0 (in_order by input.old.rows))
