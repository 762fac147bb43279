-- What each operator makes of tables is a table, and its rows have what is to be known of what is made of its inputs' rows.
use Rattle.std.proofs.Common.{◌≡◌, refl, ap, ap₂, sym, ◌∙◌, subst, ℕ, zero, suc, ◌+◌, ◌<◌, ◌≤◌, ◌-◌, ◌^◌, arith, Bool, List, [], ◌∷◌, ◌++◌, map, take, drop, length, filter, length-append, Option}
use Rattle.std.{specs.Prelude.{IfSome, int_le, sum_by, ◌&&◌}, specs.List.AllByRecursion, proofs.lemmas.List.{length-map, map-id}}
use Rattle.tick_model.{specs.declared.plan.Op.Op, specs.declared.plan.Op.TheVariants.{Source, Keep, View, Join, Agg, Merge, Sort, Head, Tail, AsOf}, specs.declared.plan.SortBy.SortBy, specs.declared.table.PlainRow.PlainRow, specs.declared.table.PlainTable.PlainTable, specs.Tables.{cell, keys, IsRow, IsTable}, specs.Formulas.{truth, value}, specs.View.view_row, specs.Join.{agree, chosen, joined, matches}, specs.AsOf.{latest, not_later}, specs.Agg.{agg_row, is_first, key_cells, aggregate, group_of, same_group}, specs.Merge.{merged_rows, merge_table, region, row_from, width_of}, specs.Sort.{in_order, numbered}, specs.Operators.{inputs_of, result}, proofs.Results.taken_width, proofs.SortOrders.comes_before, proofs.TableRows.length-ordered}
use Rattle.key_lists.{specs.Keys.IsRising, proofs.Every.{every, every_weaker, every_both, every-map, every_unmapped, every-filter, every-append}, proofs.Rising.{rising-filter, rising_count}, proofs.Parts.{every-take, every-drop}}
use Rattle.tick_laws.{specs.Room.{AreMergeable, HasRoom}, proofs.Merged.{IsPart, apart, apart_rising, apart_below, keys-merged_rows, whole_part}, proofs.OperatorTicks.keys_mapped, proofs.Picked.{chosen_every, latest_every}, proofs.Placed.every-in_order}

pub rising-take : {X : Type 0} (f : X → ℕ) (n : ℕ) (xs : List X) → IsRising (map f xs) → IsRising (map f (take n xs))
rising-take f zero [] h = tt
rising-take f zero (x ∷ xs) h = tt
rising-take f (suc n) [] h = tt
rising-take f (suc n) (x ∷ xs) h = (every-map (λ y. f x < y) f (take n xs) (every-take (λ y. f x < f y) n xs (every_unmapped (λ y. f x < y) f xs h.0)), rising-take f n xs h.1)

pub rising-drop : {X : Type 0} (f : X → ℕ) (n : ℕ) (xs : List X) → IsRising (map f xs) → IsRising (map f (drop n xs))
rising-drop f zero [] h = tt
rising-drop f zero (x ∷ xs) h = h
rising-drop f (suc n) [] h = tt
rising-drop f (suc n) (x ∷ xs) h = rising-drop f n xs h.1

-- some of the rows of a table, in order
kept_table : (p : PlainRow → Bool) (table : PlainTable) → IsTable table → let some : PlainTable = record { width = table.width; rows = filter p table.rows } in IsTable some
kept_table p table h = record { rows = every-filter (IsRow table.width) p table.rows h.rows; rising = rising-filter (λ (row : PlainRow). row.key) p table.rows h.rising }

-- rows with other cells under the same keys
pub mapped_table : (width : ℕ) (f : PlainRow → PlainRow) (table : PlainTable) → IsTable table → ((row : PlainRow) → (f row).key ≡ row.key) → ((row : PlainRow) → length row.cells ≡ table.width → length (f row).cells ≡ width)
    → let made : PlainTable = record { width = width; rows = map f table.rows } in IsTable made
mapped_table width f table h same whole = record {
  rows = every-map (IsRow width) f table.rows (every_weaker (IsRow table.width) (λ row. IsRow width (f row)) table.rows (λ row r. record { key = subst (λ k. k < 2 ^ 62) (sym (same row)) r.key; whole = whole row r.whole }) h.rows);
  rising = subst IsRising (sym (keys_mapped f table.rows same)) h.rising;
}

joined_table : (take : List ℕ) (right_of : PlainRow → Option PlainRow) (left : PlainTable) → IsTable left → let made : PlainTable = record { width = left.width + length take; rows = map (joined take right_of) left.rows } in IsTable made
joined_table take right_of left h =
    mapped_table (left.width + length take) (joined take right_of) left h (λ row. refl) (λ row w. length-append row.cells _ ∙ ap₂ ◌+◌ w (taken_width take (right_of row)))

-- the rows of a sort are as many, under their places
pub length-in_order : (by : List SortBy) (rows : List PlainRow) → length (in_order by rows) ≡ length rows
length-in_order by rows = length-ordered (comes_before by) rows

pub keys-numbered : (n : ℕ) (rows : List PlainRow) → AllByRecursion (λ key. (n ≤ key) × (key < n + length rows)) (keys (numbered n rows))
keys-numbered n [] = tt
keys-numbered n (row ∷ rows) =
    ((omega arith, omega arith), every_weaker (λ key. (n + 1 ≤ key) × (key < n + 1 + length rows)) (λ key. (n ≤ key) × (key < n + length (row ∷ rows))) (keys (numbered (n + 1) rows)) (λ key k. (omega (arith, k.0), omega (arith, k.1))) (keys-numbered (n + 1) rows))

rising-numbered : (n : ℕ) (rows : List PlainRow) → IsRising (keys (numbered n rows))
rising-numbered n [] = tt
rising-numbered n (row ∷ rows) =
    (every_weaker (λ key. (n + 1 ≤ key) × (key < n + 1 + length rows)) (λ key. n < key) (keys (numbered (n + 1) rows)) (λ key k. omega (arith, k.0)) (keys-numbered (n + 1) rows), rising-numbered (n + 1) rows)

-- what holds of rows under any keys
abbrev UnderKeys : (PlainRow → Type 0) → PlainRow → Type 0
UnderKeys P row = (key : ℕ) → P (record row { key = key })

every-numbered : (P : PlainRow → Type 0) (n : ℕ) (rows : List PlainRow) → AllByRecursion (UnderKeys P) rows → AllByRecursion P (numbered n rows)
every-numbered P n [] h = tt
every-numbered P n (row ∷ rows) h = (h.0 n, every-numbered P (n + 1) rows h.1)

every-merged : (P : PlainRow → Type 0) (offset : ℕ) (tables : List PlainTable) → AllByRecursion (λ (table : PlainTable). AllByRecursion (UnderKeys P) table.rows) tables → AllByRecursion P (merged_rows offset tables)
every-merged P offset [] h = tt
every-merged P offset (table ∷ tables) h =
    every-append P (map (row_from offset) table.rows) (merged_rows (offset + region table) tables)
    (every-map P (row_from offset) table.rows (every_weaker (UnderKeys P) (λ row. P (row_from offset row)) table.rows (λ row p. p (row.key + offset)) h.0)) (every-merged P (offset + region table) tables h.1)

pub table_count : (table : PlainTable) → IsTable table → length table.rows ≤ 2 ^ 62
table_count table h =
    let count = rising_count 0 (2 ^ 62) (keys table.rows) (omega arith) (every (λ k. 0 ≤ k) (keys table.rows) (λ k. omega arith)) (every-map (λ k. k < 2 ^ 62) (λ (row : PlainRow). row.key) table.rows (every_weaker (IsRow table.width) (λ row. row.key < 2 ^ 62) table.rows (λ row r. r.key) h.rows)) h.rising in
    omega (arith, count, length-map table.rows (λ (row : PlainRow). row.key))

-- rows under keys below 2 ^ 62, each of the width
pub rows_of : (width : ℕ) (rows : List PlainRow) → AllByRecursion (λ k. k < 2 ^ 62) (keys rows) → AllByRecursion (λ row. length row.cells ≡ width) rows → AllByRecursion (IsRow width) rows
rows_of width rows below whole =
    every_both (λ (row : PlainRow). row.key < 2 ^ 62) (λ row. length row.cells ≡ width) (IsRow width) rows (λ row k w. record { key = k; whole = w })
    (every_unmapped (λ k. k < 2 ^ 62) (λ (row : PlainRow). row.key) rows below) whole

merged_table : (tables : List PlainTable) → AllByRecursion IsTable tables → AreMergeable tables → IsTable (merge_table tables)
merged_table tables h room = record {
  rows = rows_of (width_of tables) (merged_rows 0 tables)
      (subst (AllByRecursion (λ k. k < 2 ^ 62)) (sym same)
      (every_weaker (λ k. k < 0 + sum_by region tables) (λ k. k < 2 ^ 62) (apart own region 0 tables) (λ k less. omega (arith, less, room.regions)) (apart_below own own region 0 tables parts)))
      (every-merged (λ row. length row.cells ≡ width_of tables) 0 tables
      (every_both IsTable (λ (table : PlainTable). table.width ≡ width_of tables) (λ (table : PlainTable). AllByRecursion (UnderKeys (λ row. length row.cells ≡ width_of tables)) table.rows) tables
      (λ table t w. every_weaker (IsRow table.width) (UnderKeys (λ row. length row.cells ≡ width_of tables)) table.rows (λ row r key. r.whole ∙ w) t.rows) h room.one_width));
  rising = subst IsRising (sym same) (apart_rising own own region 0 tables parts);
}
  where
    own : PlainTable → List ℕ
    own table = keys table.rows

    same : keys (merged_rows 0 tables) ≡ apart own region 0 tables
    same = ap (λ ts. keys (merged_rows 0 ts)) (sym (map-id tables)) ∙ keys-merged_rows (λ (t : PlainTable). t) 0 tables

    parts : AllByRecursion (IsPart own own region) tables
    parts = every_weaker IsTable (IsPart own own region) tables (λ table t. whole_part (λ (t : PlainTable). t) table t.rising) h

pub result_table : (op : Op) (table : ℕ → PlainTable) → AllByRecursion (λ input. IsTable (table input)) (inputs_of op) → HasRoom op table → IsTable (result op table)
result_table Source table h room = record { rows = tt; rising = tt }
result_table (Keep input test) table h room = kept_table (λ row. truth test row.cells) (table input) h.0
result_table (View input exprs) table h room =
    mapped_table ((table input).width + length exprs) (view_row exprs) (table input) h.0 (λ row. refl) (λ row w. length-append row.cells (map (λ expr. value expr row.cells) exprs) ∙ ap₂ ◌+◌ w (length-map exprs _))
result_table (Join left right on take choice) table h room = joined_table take (λ row. chosen choice (matches on (table right).rows row)) (table left) h.0
result_table (Agg input by aggs) table h room =
    mapped_table (length by + length aggs) (agg_row by aggs (table input).rows) (record { width = (table input).width; rows = filter (is_first by (table input).rows) (table input).rows }) (kept_table (is_first by (table input).rows) (table input) h.0) (λ row. refl)
    (λ row w. length-append (key_cells by row.cells) (map (aggregate (group_of by (table input).rows row)) aggs) ∙ ap₂ ◌+◌ (length-map by _) (length-map aggs _))
result_table (Merge inputs) table h room = merged_table (map table inputs) (every-map IsTable table inputs h) room
result_table (Sort input by) table h room = record {
  rows = rows_of (table input).width (numbered 0 (in_order by (table input).rows))
      (every_weaker (λ key. (0 ≤ key) × (key < 0 + length (in_order by (table input).rows))) (λ key. key < 2 ^ 62) (keys (numbered 0 (in_order by (table input).rows)))
      (λ key k. omega (arith, k.1, length-in_order by (table input).rows, table_count (table input) h.0)) (keys-numbered 0 (in_order by (table input).rows)))
      (every-numbered (λ row. length row.cells ≡ (table input).width) 0 (in_order by (table input).rows)
      (every-in_order by (UnderKeys (λ row. length row.cells ≡ (table input).width)) (table input).rows (every_weaker (IsRow (table input).width) (UnderKeys (λ row. length row.cells ≡ (table input).width)) (table input).rows (λ row r key. r.whole) h.0.rows)));
  rising = rising-numbered 0 (in_order by (table input).rows);
}
result_table (Head input count) table h room = record { rows = every-take (IsRow (table input).width) count (table input).rows h.0.rows; rising = rising-take (λ (row : PlainRow). row.key) count (table input).rows h.0.rising }
result_table (Tail input count) table h room = record {
  rows = every-drop (IsRow (table input).width) (length (table input).rows - count) (table input).rows h.0.rows;
  rising = rising-drop (λ (row : PlainRow). row.key) (length (table input).rows - count) (table input).rows h.0.rising;
}
result_table (AsOf left right on at take) table h room = joined_table take (λ row. latest at.right (not_later on at (table right).rows row)) (table left) h.0

-- what an operator makes of rows of its inputs, of which In holds, has Out
abbrev pub MakesRows : Op → (ℕ → PlainRow → Type 0) → (PlainRow → Type 0) → Type 0
MakesRows (View input exprs) In Out = (row : PlainRow) → In input row → Out (view_row exprs row)
MakesRows (Join left right on take choice) In Out = (row : PlainRow) (found : Option PlainRow) → In left row → IfSome found (In right) → Out (joined take (λ _. found) row)
MakesRows (AsOf left right on at take) In Out = (row : PlainRow) (found : Option PlainRow) → In left row → IfSome found (In right) → Out (joined take (λ _. found) row)
MakesRows (Agg input by aggs) In Out =
    (row : PlainRow) (group : List PlainRow) → In input row → AllByRecursion (In input) group → length group ≤ 2 ^ 62 → Out (record row { cells = key_cells by row.cells ++ map (aggregate group) aggs })
MakesRows (Merge inputs) In Out = AllByRecursion (λ i. (row : PlainRow) → In i row → UnderKeys Out row) inputs
MakesRows (Sort input by) In Out = (row : PlainRow) → In input row → UnderKeys Out row
MakesRows op In Out = AllByRecursion (λ i. (row : PlainRow) → In i row → Out row) (inputs_of op)

pub result_has : (op : Op) (In : ℕ → PlainRow → Type 0) (Out : PlainRow → Type 0) (table : ℕ → PlainTable) → MakesRows op In Out → AllByRecursion (λ i. IsTable (table i)) (inputs_of op)
    → AllByRecursion (λ i. AllByRecursion (In i) (table i).rows) (inputs_of op) → AllByRecursion Out (result op table).rows
result_has Source In Out table m t h = tt
result_has (Keep input test) In Out table m t h = every-filter Out (λ row. truth test row.cells) (table input).rows (every_weaker (In input) Out (table input).rows m.0 h.0)
result_has (View input exprs) In Out table m t h = every-map Out (view_row exprs) (table input).rows (every_weaker (In input) (λ row. Out (view_row exprs row)) (table input).rows m h.0)
result_has (Join left right on take choice) In Out table m t h =
    let found : PlainRow → Option PlainRow = λ row. chosen choice (matches on (table right).rows row) in
    every-map Out (joined take found) (table left).rows (every_weaker (In left) (λ row. Out (joined take found row)) (table left).rows
    (λ row p. m row (found row) p (chosen_every (In right) choice (matches on (table right).rows row) (every-filter (In right) (agree on row) (table right).rows h.1.0))) h.0)
result_has (Agg input by aggs) In Out table m t h =
    let rows = (table input).rows in
    let firsts = filter (is_first by rows) rows in
    every-map Out (agg_row by aggs rows) firsts (every_weaker (In input) (λ row. Out (agg_row by aggs rows row)) firsts
    (λ row p. m row (group_of by rows row) p (every-filter (In input) (same_group by row) rows h.0)
    (table_count (record { width = (table input).width; rows = group_of by rows row }) (kept_table (same_group by row) (table input) t.0))) (every-filter (In input) (is_first by rows) rows h.0))
result_has (Merge inputs) In Out table m t h =
    every-merged Out 0 (map table inputs) (every-map (λ (table : PlainTable). AllByRecursion (UnderKeys Out) table.rows) table inputs
    (every_both (λ i. (row : PlainRow) → In i row → UnderKeys Out row) (λ i. AllByRecursion (In i) (table i).rows) (λ i. AllByRecursion (UnderKeys Out) (table i).rows) inputs
    (λ i made. every_weaker (In i) (UnderKeys Out) (table i).rows made) m h))
result_has (Sort input by) In Out table m t h =
    every-numbered Out 0 (in_order by (table input).rows) (every-in_order by (UnderKeys Out) (table input).rows (every_weaker (In input) (UnderKeys Out) (table input).rows m h.0))
result_has (Head input count) In Out table m t h = every-take Out count (table input).rows (every_weaker (In input) Out (table input).rows m.0 h.0)
result_has (Tail input count) In Out table m t h = every-drop Out (length (table input).rows - count) (table input).rows (every_weaker (In input) Out (table input).rows m.0 h.0)
result_has (AsOf left right on at take) In Out table m t h =
    let found : PlainRow → Option PlainRow = λ row. latest at.right (not_later on at (table right).rows row) in
    every-map Out (joined take found) (table left).rows (every_weaker (In left) (λ row. Out (joined take found row)) (table left).rows
    (λ row p. m row (found row) p (latest_every (In right) at.right (not_later on at (table right).rows row)
    (every-filter (In right) (λ (other : PlainRow). agree on row other && int_le (cell other.cells at.right) (cell row.cells at.left)) (table right).rows h.1.0))) h.0)
