-- An update that is empty leaves its table as it is.
use Rattle.std.proofs.Common.{◌≡◌, refl, ap, sym, ◌∙◌, ℕ, arith, true, false, true≢false, ◌&&◌, List, [], ◌∷◌, pos, ◌+ℤ◌}
use Rattle.std.{proofs.lemmas.Bool.and_parts, proofs.lemmas.Int.ints, proofs.lemmas.List.map-id}
use Rattle.tick_model.{specs.declared.table.PlainRow.PlainRow, specs.declared.table.PlainTable.PlainTable, specs.declared.update.ShiftRange.ShiftRange, specs.Shifts.as_key, specs.Updates.{Tick, IsTick, Update, adding, between, carry, modifying, moved_row, removing, rows_at, shifting, told}, specs.Changes.{is_empty, is_none}}
use Rattle.key_lists.{specs.Keys.is_among, proofs.Every.{every, filter_all, filter_none, map_own}}
use Rattle.tick_laws.proofs.Carried.{carry-between}

pub none_is : {X : Type 0} (xs : List X) → is_none xs ≡ true → xs ≡ []
none_is [] h = refl
none_is (x ∷ xs) h = absurd (true≢false (sym h))

abbrev carried : PlainTable → List ℕ → List ℕ → List ℕ → List ShiftRange → List PlainRow → PlainTable
carried old removed added modified shifted cells = record old { rows = modifying (rows_at modified cells) (adding (rows_at added cells) (shifting shifted (removing removed old.rows))) }

no_rows_at : (rows : List PlainRow) → rows_at [] rows ≡ []
no_rows_at rows = filter_none (λ (row : PlainRow). is_among row.key []) rows (every (λ (row : PlainRow). is_among row.key [] ≡ false) rows (λ row. refl))

unmoved : (rows : List PlainRow) → shifting [] rows ≡ rows
unmoved rows = map_own (moved_row []) rows (every (λ row. moved_row [] row ≡ row) rows (λ row. ap (λ key. let same : PlainRow = record { key = as_key key; cells = row.cells } in same) (stays row.key)))
  where
    stays : (key : ℕ) → pos key +ℤ pos 0 ≡ pos key
    stays key = omega (arith, ints)

carried_nothing : (old : PlainTable) (cells : List PlainRow) → carried old [] [] [] [] cells ≡ old
carried_nothing old cells =
    ap (λ (rows : List PlainRow). let table : PlainTable = record old { rows = rows } in table)
    (ap (λ rows. modifying rows (adding (rows_at [] cells) (shifting [] (removing [] old.rows)))) (no_rows_at cells)
    ∙ map-id (adding (rows_at [] cells) (shifting [] (removing [] old.rows)))
    ∙ ap (λ rows. adding rows (shifting [] (removing [] old.rows))) (no_rows_at cells)
    ∙ unmoved (removing [] old.rows)
    ∙ filter_all old.rows)

pub carry_nothing : (old : PlainTable) (update : Update) (cells : List PlainRow) → is_empty update ≡ true → carry old update cells ≡ old
carry_nothing old update cells h =
    let three = and_parts (is_none update.removed && is_none update.added && is_none update.modified) (is_none update.shifted) h in
    let two = and_parts (is_none update.removed && is_none update.added) (is_none update.modified) three.0 in
    let one = and_parts (is_none update.removed) (is_none update.added) two.0 in
    ap (λ removed. carried old removed update.added update.modified update.shifted cells) (none_is update.removed one.0)
    ∙ ap (λ added. carried old [] added update.modified update.shifted cells) (none_is update.added one.1)
    ∙ ap (λ modified. carried old [] [] modified update.shifted cells) (none_is update.modified two.1)
    ∙ ap (λ shifted. carried old [] [] [] shifted cells) (none_is update.shifted three.1)
    ∙ carried_nothing old cells

-- a tick whose update is empty ends where it began
pub unchanged_by_empty : (tick : Tick) → IsTick tick → is_empty (between tick) ≡ true → tick.new ≡ tick.old
unchanged_by_empty tick h empty = sym (carry-between tick h) ∙ carry_nothing tick.old (between tick) (told tick) empty
