-- The keys of rows that are added and found.
use Rattle.std.proofs.Common.{◌≡◌, refl, ap, ◌∙◌, true, false, cond, ◌||◌, ◌==◌, ℕ, List, [], ◌∷◌, Some, ltb, unwrap_or}
use Rattle.std.proofs.lemmas.Bool.{eqb-true}
use Rattle.key_lists.{specs.Keys.is_among, proofs.Booleans.{or_assoc, or_swap}}
use Rattle.tick_model.{specs.declared.table.PlainRow.PlainRow, specs.Tables.{keys, row_at}, specs.Updates.{insert_row, adding}}

pub among-insert_row : (key : ℕ) (row : PlainRow) (rows : List PlainRow) → is_among key (keys (insert_row row rows)) ≡ ((row.key == key) || is_among key (keys rows))
among-insert_row key row [] = refl
among-insert_row key row (other ∷ others) =
    elim (ltb row.key other.key) as (λ b. is_among key (keys (cond b (row ∷ other ∷ others) (other ∷ insert_row row others))) ≡ ((row.key == key) || is_among key (keys (other ∷ others)))) [
      | true ↦ refl
      | false ↦ ap (λ b. (other.key == key) || b) (among-insert_row key row others) ∙ or_swap (other.key == key) (row.key == key) (is_among key (keys others))
    ]

-- the keys after rows were added
pub among-adding : (key : ℕ) (added rows : List PlainRow) → is_among key (keys (adding added rows)) ≡ (is_among key (keys added) || is_among key (keys rows))
among-adding key [] rows = refl
among-adding key (row ∷ added) rows =
    among-insert_row key row (adding added rows)
    ∙ ap (λ b. (row.key == key) || b) (among-adding key added rows)
    ∙ or_assoc (row.key == key) (is_among key (keys added)) (is_among key (keys rows))

-- a row that is found under a key has it, and so has the one that stands for it where none is found
pub key-row_at : (key : ℕ) (rows : List PlainRow) (other : PlainRow) → other.key ≡ key → (unwrap_or (row_at key rows) other).key ≡ key
key-row_at key [] other e = e
key-row_at key (row ∷ rows) other e =
    (elim (row.key == key) as (λ b. (row.key == key) ≡ b → (unwrap_or (cond b (Some row) (row_at key rows)) other).key ≡ key) [
      | true ↦ λ same. eqb-true row.key key same
      | false ↦ λ differs. key-row_at key rows other e
    ]) refl
