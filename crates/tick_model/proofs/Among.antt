-- Rows under their keys.
use Rattle.std.proofs.Common.{◌≡◌, refl, ap, sym, ◌∙◌, Bool, true, false, cond, ℕ, ◌<◌, arith, List, [], ◌∷◌, ◌==◌, Some, None, true≢false}
use Rattle.std.{specs.Prelude.filter, specs.List.AllByRecursion, proofs.lemmas.Bool.{ne_eqb, eq-eqb}}
use Rattle.key_lists.{specs.Keys.{is_among, IsRising}, proofs.Among.each_among, proofs.Every.{every_both, every_unmapped}}
use Rattle.tick_model.{specs.declared.table.PlainRow.PlainRow, specs.Tables.{keys, row_at}}

-- each row's key is among the keys
pub rows_among : (rows : List PlainRow) → AllByRecursion (λ row. is_among row.key (keys rows) ≡ true) rows
rows_among rows = every_unmapped (λ key. is_among key (keys rows) ≡ true) (λ row. row.key) rows (each_among (keys rows))

-- the rows of greater keys do not count
pub row_below : (key : ℕ) (rows : List PlainRow) → AllByRecursion (λ row. key < row.key) rows → row_at key rows ≡ None
row_below key [] h = refl
row_below key (row ∷ rows) h = ap (λ b. cond b (Some row) (row_at key rows)) (ne_eqb row.key key (λ e. omega arith)) ∙ row_below key rows h.1

pub row_own : (row : PlainRow) (rows : List PlainRow) → row_at row.key (row ∷ rows) ≡ Some row
row_own row rows = ap (λ b. cond b (Some row) (row_at row.key rows)) (eq-eqb row.key row.key refl)

pub row_past : (key : ℕ) (first : PlainRow) (rows : List PlainRow) → first.key < key → row_at key (first ∷ rows) ≡ row_at key rows
row_past key first rows h = ap (λ b. cond b (Some first) (row_at key rows)) (ne_eqb first.key key (λ e. omega arith))

-- the keys after the first are greater
pub rest_above : (row : PlainRow) (rows : List PlainRow) → IsRising (keys (row ∷ rows)) → AllByRecursion (λ other. row.key < other.key) rows
rest_above row rows h = every_unmapped (λ key. row.key < key) (λ other. other.key) rows h.0

-- under rising keys, each row is the one under its key
pub each_found : (rows : List PlainRow) → IsRising (keys rows) → AllByRecursion (λ row. row_at row.key rows ≡ Some row) rows
each_found [] h = tt
each_found (row ∷ rows) h = (
  row_own row rows,
  every_both (λ other. row.key < other.key) (λ other. row_at other.key rows ≡ Some other) (λ other. row_at other.key (row ∷ rows) ≡ Some other) rows
      (λ other above found. row_past other.key row rows above ∙ found) (rest_above row rows h) (each_found rows h.1),
)

-- the row under a key, of the rows whose keys pass a test
pub row_at-filter : (p : ℕ → Bool) (key : ℕ) (rows : List PlainRow) → p key ≡ true → row_at key (filter (λ row. p row.key) rows) ≡ row_at key rows
row_at-filter p key [] h = refl
row_at-filter p key (row ∷ rows) h =
    (elim (p row.key) as (λ b. p row.key ≡ b → row_at key (cond b (row ∷ filter (λ row. p row.key) rows) (filter (λ row. p row.key) rows)) ≡ row_at key (row ∷ rows)) [
      | true ↦ λ e. ap (cond (row.key == key) (Some row)) (row_at-filter p key rows h)
      | false ↦ λ e. row_at-filter p key rows h ∙ sym (ap (λ b. cond b (Some row) (row_at key rows)) (ne_eqb row.key key (λ same. absurd (true≢false (sym h ∙ ap p (sym same) ∙ e)))))
    ]) refl

pub row_at-filter_none : (p : ℕ → Bool) (key : ℕ) (rows : List PlainRow) → p key ≡ false → row_at key (filter (λ row. p row.key) rows) ≡ None
row_at-filter_none p key [] h = refl
row_at-filter_none p key (row ∷ rows) h =
    (elim (p row.key) as (λ b. p row.key ≡ b → row_at key (cond b (row ∷ filter (λ row. p row.key) rows) (filter (λ row. p row.key) rows)) ≡ None) [
      | true ↦ λ e. ap (λ b. cond b (Some row) (row_at key (filter (λ row. p row.key) rows))) (ne_eqb row.key key (λ same. absurd (true≢false (sym e ∙ ap p same ∙ h)))) ∙ row_at-filter_none p key rows h
      | false ↦ λ e. row_at-filter_none p key rows h
    ]) refl
