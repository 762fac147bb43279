use Rattle.std.proofs.Common.{◌≡◌, refl, ap, sym, ◌∙◌, subst, ◌∷◌, ◌++◌, ◌*◌, ◌≤◌, [], List, ℕ, ℤ, length, map, arith}
use Rattle.std.{specs.List.AllByRecursion, proofs.lemmas.List.append-nil}
use Rattle.key_lists.specs.Keys.{IsRising}
use Rattle.tick_model.{specs.declared.plan.ColumnSpec.ColumnSpec, specs.declared.table.PlainRow.PlainRow, specs.Changes.rows_under, specs.Tables.keys, specs.Texts.{records_text, row_record}}
use Rattle.update_text.{specs.Reading.{AreAhead, IsToldRow, cells_of}, proofs.AddedRows.rows_under-keys, proofs.ReadBack.{count_cells, rows_whole}, proofs.ReadRows.gives_memory}
use Rattle.update_text.proofs.snapshot_back.read_table.Goals as goal

ahead : (columns : List ColumnSpec) (texts : List (List ℕ)) (rows : List PlainRow) (bytes : List ℕ) → AllByRecursion (IsToldRow columns texts) rows → bytes ≡ records_text (map (row_record (119 ∷ []) texts columns) rows) →
    AreAhead (row_record (119 ∷ []) texts columns) (IsToldRow columns texts) 119 rows [] bytes
ahead columns texts rows bytes told e = record { fit = told; told = e ∙ sym (append-nil (records_text (map (row_record (119 ∷ []) texts columns) rows))); ends = refl }

pub returns-in_err-read_rows-clause-told : goal.returns-in_err-read_rows-clause-told
returns-in_err-read_rows-clause-told c rows texts rising told e =
    gives_memory c.from_residual.result _ c.in_err-read_rows.field-0.0 c.from_residual.ensures.1
    (c.in_err-read_rows.ensures.told rows [] texts rising (ahead c.args.columns.now c.args.texts.now rows c.args.bytes.now told e))

-- what was read: whole rows, one after the other
room : (columns : List ColumnSpec) (texts : List (List ℕ)) (rows : List PlainRow) (ks : List ℕ) (cells : List ℤ) → ks ≡ keys rows → cells ≡ cells_of rows → AllByRecursion (IsToldRow columns texts) rows → length ks * length columns ≤ length cells
room columns texts rows ks cells same all told =
    subst (λ (some : List ℕ). length some * length columns ≤ length cells) (sym same)
    (subst (λ (some : List ℤ). length (keys rows) * length columns ≤ length some) (sym all) (omega (arith, count_cells (length columns) rows (rows_whole columns texts rows told))))

made : (columns : List ColumnSpec) (texts : List (List ℕ)) (rows : List PlainRow) (ks : List ℕ) (cells : List ℤ) → ks ≡ keys rows → cells ≡ cells_of rows → AllByRecursion (IsToldRow columns texts) rows → rows_under (length columns) ks cells ≡ rows
made columns texts rows ks cells same all told =
    ap (λ (some : List ℕ). rows_under (length columns) some cells) same
    ∙ ap (rows_under (length columns) (keys rows)) all
    ∙ rows_under-keys (length columns) rows (rows_whole columns texts rows told)

pub rows_of-requires : goal.rows_of-requires
rows_of-requires c =
    let read = c.in_ok-read_rows.ensures.rows in
    let cells = read.2 ∙ ap (λ (items : List ℤ). items ++ cells_of read.0) c.new-cells.ensures.items in
    room c.args.columns.now c.args.texts.now read.0 c.read_rows.new.keys c.deref.result.now read.1 (c.deref.ensures.value ∙ cells) read.3

pub returns-clause-rows : goal.returns-clause-rows
returns-clause-rows c =
    let read = c.in_ok-read_rows.ensures.rows in
    let cells = read.2 ∙ ap (λ (items : List ℤ). items ++ cells_of read.0) c.new-cells.ensures.items in
    let same = c.in_ok-rows.ensures.rows ∙ made c.args.columns.now c.args.texts.now read.0 c.read_rows.new.keys c.deref.result.now read.1 (c.deref.ensures.value ∙ cells) read.3 in
    subst (AllByRecursion (IsToldRow c.args.columns.now c.args.texts.now)) (sym same) read.3

pub returns-clause-rising : goal.returns-clause-rising
returns-clause-rising c =
    let read = c.in_ok-read_rows.ensures.rows in
    let cells = read.2 ∙ ap (λ (items : List ℤ). items ++ cells_of read.0) c.new-cells.ensures.items in
    let same = c.in_ok-rows.ensures.rows ∙ made c.args.columns.now c.args.texts.now read.0 c.read_rows.new.keys c.deref.result.now read.1 (c.deref.ensures.value ∙ cells) read.3 in
    subst IsRising (read.1 ∙ ap keys (sym same)) c.in_ok-rows.ensures.rising

pub returns-clause-told : goal.returns-clause-told
returns-clause-told c rows texts rising told e =
    let read = c.in_ok-read_rows.ensures.told rows [] texts rising (ahead c.args.columns.now c.args.texts.now rows c.args.bytes.now told e) in
    let cells = read.2 ∙ ap (λ (items : List ℤ). items ++ cells_of rows) c.new-cells.ensures.items in
    c.in_ok-rows.ensures.rows ∙ made c.args.columns.now c.args.texts.now rows c.read_rows.new.keys c.deref.result.now read.1 (c.deref.ensures.value ∙ cells) told
