-- How much room a region has.
use Rattle.std.proofs.Common.{◌≡◌, refl, ap, sym, ◌∙◌, subst, ℕ, zero, suc, ◌+◌, ◌-◌, ◌*◌, ◌/◌, ◌<◌, ◌≤◌, ◌^◌, arith, List, [], ◌∷◌, length}
use Rattle.std.{specs.Prelude.{fold, slice_get, unwrap_or}, specs.List.AllByRecursion}
use Rattle.key_lists.proofs.Every.{every_weaker, every-map}
use Rattle.row_set.specs.Sets.{last_key}
use Rattle.tick_model.{specs.declared.table.PlainRow.PlainRow, specs.declared.table.PlainTable.PlainTable, specs.Merge.{region, last_key as last_row_key}, specs.Tables.{IsRow, IsTable, keys}}

last_of : (key : ℕ) (rows : List PlainRow) → fold (λ _ row. row.key) key rows ≡ unwrap_or (slice_get (key ∷ keys rows) (length (keys rows))) 0
last_of key [] = refl
last_of key (row ∷ rows) = last_of row.key rows

pub last_is : (rows : List PlainRow) → unwrap_or (last_key (keys rows)) 0 ≡ last_row_key rows
last_is [] = refl
last_is (row ∷ rows) = ap (λ n. unwrap_or (slice_get (keys (row ∷ rows)) n) 0) (let one_less : suc (length (keys rows)) - 1 ≡ length (keys rows) = omega arith in one_less) ∙ sym (last_of row.key rows)

stands : (P : ℕ → Type 0) (n : ℕ) (xs : List ℕ) → AllByRecursion P xs → P 0 → P (unwrap_or (slice_get xs n) 0)
stands P zero [] h p = p
stands P (suc n) [] h p = p
stands P zero (x ∷ xs) h p = h.0
stands P (suc n) (x ∷ xs) h p = stands P n xs h.1 p

pub room_is : (table : PlainTable) (ks : List ℕ) (room : ℕ) → ks ≡ keys table.rows → room ≡ 65536 * (unwrap_or (last_key ks) 0 / 65536 + 1) → room ≡ region table
room_is table ks room is made = made ∙ ap (λ ks. 65536 * (unwrap_or (last_key ks) 0 / 65536 + 1)) is ∙ ap (λ n. 65536 * (n / 65536 + 1)) (last_is table.rows)

pub room_small : (table : PlainTable) (ks : List ℕ) (room : ℕ) → IsTable table → ks ≡ keys table.rows → room ≡ 65536 * (unwrap_or (last_key ks) 0 / 65536 + 1) → room < 2 ^ 62 + 2 ^ 17
room_small table ks room t is made =
    within (unwrap_or (last_key ks) 0) room
    (subst (λ ks. unwrap_or (last_key ks) 0 < 2 ^ 62) (sym is)
    (stands (λ key. key < 2 ^ 62) (length (keys table.rows) - 1) (keys table.rows) (every-map (λ key. key < 2 ^ 62) (λ (row : PlainRow). row.key) table.rows (every_weaker (IsRow table.width) (λ row. row.key < 2 ^ 62) table.rows (λ row is. is.key) t.rows)) (omega arith)))
    made
  where
    within : (last room : ℕ) → last < 2 ^ 62 → room ≡ 65536 * (last / 65536 + 1) → room < 2 ^ 62 + 2 ^ 17
    within last room small is = omega (arith, small, is)
