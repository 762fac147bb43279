-- The change that opens a source, and the tables with which the sources of a lawful run open.
use Rattle.std.proofs.Common.{◌≡◌, refl, ap, ap₂, sym, ◌∙◌, ℕ, List, [], ◌∷◌, ◌++◌, ℤ, Some, subst, length, unwrap_or}
use Rattle.std.{specs.Prelude.{flat_map, option_map}, specs.List.AllByRecursion, proofs.lemmas.List.append-nil}
use Rattle.key_lists.specs.Keys.{IsRising}
use Rattle.tick_laws.{proofs.LawfulSources.rising_range, proofs.WholeUpdates.between-replaced}
use Rattle.tick_model.{specs.declared.plan.Node.Node, specs.declared.table.PlainRow.PlainRow, specs.declared.table.PlainTable.PlainTable, specs.declared.update.ShiftRange.ShiftRange, specs.Changes.{Change, change_of, told_keys}, specs.LawfulRuns.AreOpenings, specs.Sources.opened, specs.Tables.{cells_at, keys, row_at}, specs.Updates.Update, proofs.Among.each_found}
use Rattle.source_changes.specs.Openings.{IsOpenedTable}

-- the tables with which the sources of a lawful run open are such
pub opened_tables : (texts : ℕ) (sources : List Node) (tables : List PlainTable) → AreOpenings sources texts tables → AllByRecursion IsOpenedTable tables
opened_tables texts [] [] h = tt
opened_tables texts [] (table ∷ tables) h = absurd h
opened_tables texts (source ∷ sources) [] h = tt
opened_tables texts (source ∷ sources) (table ∷ tables) h = (record { count = h.0.count; keys_are = h.0.keys_are }, opened_tables texts sources tables h.1)

cells_of_keys : (all rows : List PlainRow) → AllByRecursion (λ row. row_at row.key all ≡ Some row) rows → flat_map (λ (row : PlainRow). row.cells) rows ≡ flat_map (λ key. cells_at key all) (keys rows)
cells_of_keys all [] h = refl
cells_of_keys all (row ∷ rows) h = ap₂ (λ (a b : List ℤ). a ++ b) (sym (ap (λ o. unwrap_or (option_map (λ (row : PlainRow). row.cells) o) []) h.0)) (cells_of_keys all rows h.1)

-- all rows come
pub opening_is : (table : PlainTable) → IsOpenedTable table → (change : Change) → change.update.removed ≡ [] → change.update.added ≡ keys table.rows → change.update.modified ≡ [] → change.update.shifted ≡ [] → change.update.columns ≡ []
    → change.cells ≡ flat_map (λ (row : PlainRow). row.cells) table.rows → change ≡ change_of (opened table)
opening_is table h change r a m s o c =
    ap₂ (λ (removed added : List ℕ). let made : Change = record { update = record { removed = removed; added = added; modified = change.update.modified; shifted = change.update.shifted; columns = change.update.columns }; cells = change.cells } in made) r a
    ∙ ap₂ (λ (modified columns : List ℕ). let made : Change = record { update = record { removed = []; added = keys table.rows; modified = modified; shifted = change.update.shifted; columns = columns }; cells = change.cells } in made) m o
    ∙ ap₂ (λ (shifted : List ShiftRange) (cells : List ℤ). let made : Change = record { update = record { removed = []; added = keys table.rows; modified = []; shifted = shifted; columns = [] }; cells = cells } in made) s cells_are
    ∙ sym (ap (λ (update : Update). let made : Change = record { update = update; cells = flat_map (λ key. cells_at key table.rows) (told_keys update) } in made) (between-replaced (record { width = table.width; rows = [] }) table))
  where
    rising : IsRising (keys table.rows)
    rising = subst IsRising (sym h.keys_are) (rising_range 0 (length table.rows)).1

    cells_are : change.cells ≡ flat_map (λ key. cells_at key table.rows) (keys table.rows ++ [])
    cells_are = c ∙ cells_of_keys table.rows table.rows (each_found table.rows rising) ∙ ap (flat_map (λ key. cells_at key table.rows)) (sym (append-nil (keys table.rows)))
