-- The rows of the groups, by the keys of their first rows.
use Rattle.std.proofs.Common.{◌≡◌, refl, ap, sym, ◌∙◌, Bool, true, false, cond, ◌&&◌, ◌==◌, ℕ, List, [], ◌∷◌, ◌++◌, map, filter, Option, Some, ℤ}
use Rattle.std.{specs.Prelude.{find, option_map, slice_get, unwrap_or}, specs.Option.option_map_or, proofs.lemmas.Bool.and_parts}
use Rattle.key_lists.{specs.Keys.is_among, proofs.Among.among-filter, proofs.Every.{every_weaker, filter-map, filter_same}}
use Rattle.row_changes.proofs.MadeRows.{cells-made, made_row}
use Rattle.tick_laws.proofs.OperatorTicks.{keys_mapped}
use Rattle.tick_model.{proofs.Among.row_at-filter, specs.Agg.{agg_row, agg_table, aggregate, is_first, key_cells, same_group}, specs.declared.plan.Agg.Agg, specs.declared.table.PlainRow.PlainRow, specs.declared.table.PlainTable.PlainTable, specs.Tables.{cells_at, keys, IsTable}}
use Rattle.agg_by.{specs.Kept.group_rows, specs.Steps.{first_keys, key_at}, proofs.Untouched.own_cells}

-- the first that passes is the first of those that pass
pub find_first : {X : Type 0} (p : X → Bool) (xs : List X) → find p xs ≡ slice_get (filter p xs) 0
find_first p [] = refl
find_first {X = X} p (x ∷ xs) = elim (p x) as (λ b. cond b (Some x) (find p xs) ≡ slice_get (cond b (x ∷ filter p xs) (filter p xs)) 0) [ true ↦ refl | false ↦ find_first p xs ]

-- whether the first row of the group with these key cells has the key
abbrev pub leads : List ℕ → List PlainRow → List ℤ → ℕ → Bool
leads by rows cells key = option_map_or (λ (first : PlainRow). first.key == key) (slice_get (group_rows by cells rows) 0) false

abbrev pub leads_own : List ℕ → List PlainRow → ℕ → Bool
leads_own by rows key = leads by rows (key_at by rows key) key

firsts_same : (by : List ℕ) (table : PlainTable) → IsTable table → filter (is_first by table.rows) table.rows ≡ filter (λ row. leads_own by table.rows row.key) table.rows
firsts_same by table t =
    filter_same (is_first by table.rows) (λ row. leads_own by table.rows row.key) table.rows
    (every_weaker (λ row. key_at by table.rows row.key ≡ key_cells by row.cells) (λ row. is_first by table.rows row ≡ leads_own by table.rows row.key) table.rows
    (λ row own. ap (λ (first : Option PlainRow). option_map_or (λ (first : PlainRow). first.key == row.key) first false) (find_first (same_group by row) table.rows) ∙ ap (λ cells. leads by table.rows cells row.key) (sym own))
    (own_cells by table.rows t.rising))

pub first_keys_by : (by : List ℕ) (table : PlainTable) → IsTable table → first_keys by table.rows ≡ filter (leads_own by table.rows) (keys table.rows)
first_keys_by by table t = ap keys (firsts_same by table t) ∙ sym (filter-map (leads_own by table.rows) (λ (row : PlainRow). row.key) table.rows)

-- a key is that of a first row where it is that of a row, and this one leads its group
pub first_at : (by : List ℕ) (table : PlainTable) (key : ℕ) → IsTable table → is_among key (first_keys by table.rows) ≡ (leads_own by table.rows key && is_among key (keys table.rows))
first_at by table key t = ap (is_among key) (first_keys_by by table t) ∙ among-filter (leads_own by table.rows) key (keys table.rows)

pub keys-agg : (by : List ℕ) (aggs : List Agg) (table : PlainTable) → keys (agg_table by aggs table).rows ≡ first_keys by table.rows
keys-agg by aggs table = keys_mapped (agg_row by aggs table.rows) (filter (is_first by table.rows) table.rows) (λ row. refl)

-- the row of the group with these key cells
abbrev pub group_cells : List ℕ → List Agg → List PlainRow → List ℤ → List ℤ
group_cells by aggs rows cells = cells ++ map (aggregate (group_rows by cells rows)) aggs

-- the row of the group of a row
abbrev made : List ℕ → List Agg → List PlainRow → List ℤ → List ℤ
made by aggs rows cells = group_cells by aggs rows (key_cells by cells)

pub cells-agg : (by : List ℕ) (aggs : List Agg) (table : PlainTable) (key : ℕ) → IsTable table → is_among key (first_keys by table.rows) ≡ true → cells_at key (agg_table by aggs table).rows ≡ group_cells by aggs table.rows (key_at by table.rows key)
cells-agg by aggs table key t own =
    ap (λ rows. cells_at key (map (made_row (made by aggs table.rows)) rows)) (firsts_same by table t)
    ∙ cells-made (made by aggs table.rows) key (filter (λ row. leads_own by table.rows row.key) table.rows) (sym (ap (λ rows. is_among key (keys rows)) (firsts_same by table t)) ∙ own)
    ∙ ap (λ (o : Option PlainRow). made by aggs table.rows (unwrap_or (option_map (λ (row : PlainRow). row.cells) o) [])) (row_at-filter (leads_own by table.rows) key table.rows (and_parts _ _ (sym (first_at by table key t) ∙ own)).0)
