-- Rows that are made of the rows of an exact table, under their keys.
use Rattle.std.proofs.Common.{◌≡◌, refl, ap, sym, ◌∙◌, true, false, cond, not, ◌||◌, ℕ, ◌==◌, List, [], ◌∷◌, map, Some, true≢false, ℤ}
use Rattle.std.{specs.Prelude.{option_map, unwrap_or}, specs.Cmp.Rules.signed_items, proofs.lemmas.Bool.not-false}
use Rattle.key_lists.{specs.Keys.is_among, proofs.Every.{every_both, every_unmapped}}
use Rattle.table_update.specs.Kept.{old_modified}
use Rattle.tick_model.{specs.declared.table.PlainRow.PlainRow, specs.declared.table.PlainTable.PlainTable, specs.declared.update.KeyPair.KeyPair, specs.Tables.{cells_at, keys, row_at, same_cells}, specs.Updates.{differs, pairs}}
use Rattle.tick_table.{specs.Exact.IsExact, specs.Ticking.Ticking}
use Rattle.row_changes.{specs.Parts.AreCompared, proofs.ComparedPairs.{compared_carried, modified_compared}}

module _ (made : List ℤ → List ℤ) where
  abbrev pub made_row : PlainRow → PlainRow
  made_row row = record row { cells = made row.cells }

  pub keys-made : (rows : List PlainRow) → keys (map made_row rows) ≡ keys rows
  keys-made [] = refl
  keys-made (row ∷ rows) = ap (λ ks. row.key ∷ ks) (keys-made rows)

  pub cells-made : (key : ℕ) (rows : List PlainRow) → is_among key (keys rows) ≡ true → cells_at key (map made_row rows) ≡ made (cells_at key rows)
  cells-made key [] h = absurd (true≢false (sym h))
  cells-made key (row ∷ rows) h =
      (elim (row.key == key) as (λ b. (row.key == key) ≡ b → unwrap_or (option_map (λ (row : PlainRow). row.cells) (cond b (Some (made_row row)) (row_at key (map made_row rows)))) [] ≡ made (unwrap_or (option_map (λ (row : PlainRow). row.cells) (cond b (Some row) (row_at key rows))) [])) [
        | true ↦ λ e. refl
        | false ↦ λ e. cells-made key rows (sym (ap (λ b. b || is_among key (keys rows)) e) ∙ h)
      ]) refl

  -- rows that are the same make rows that are the same: where the modified rows of the input are compared, the others do not differ
  pub made_compared : (t : Ticking) → IsExact t → (old new : PlainTable) → old.rows ≡ map made_row t.old.rows → new.rows ≡ map made_row t.new.rows → AreCompared old new (pairs t.old t.update) (old_modified (keys t.old.rows) t.update) t.update.modified
  made_compared t e old new o n =
      compared_carried t.old t.new old new (pairs t.old t.update) (old_modified (keys t.old.rows) t.update) t.update.modified (modified_compared t e)
      (every_both (λ (pair : KeyPair). is_among pair.old (keys t.old.rows) ≡ true) (λ (pair : KeyPair). is_among pair.new (keys t.new.rows) ≡ true) (λ (pair : KeyPair). differs t.old t.new pair ≡ false → differs old new pair ≡ false) (pairs t.old t.update)
      (λ pair was is quiet. ap not (same_made pair was is quiet))
      (every_unmapped (λ key. is_among key (keys t.old.rows) ≡ true) (λ (pair : KeyPair). pair.old) (pairs t.old t.update) e.tick.of_old)
      (every_unmapped (λ key. is_among key (keys t.new.rows) ≡ true) (λ (pair : KeyPair). pair.new) (pairs t.old t.update) e.tick.of_new))
    where
      same_made : (pair : KeyPair) → is_among pair.old (keys t.old.rows) ≡ true → is_among pair.new (keys t.new.rows) ≡ true → differs t.old t.new pair ≡ false → same_cells (cells_at pair.old old.rows) (cells_at pair.new new.rows) ≡ true
      same_made pair was is quiet =
          (signed_items (cells_at pair.old old.rows) (cells_at pair.new new.rows)).1
          (ap (cells_at pair.old) o ∙ cells-made pair.old t.old.rows was
          ∙ ap made ((signed_items (cells_at pair.old t.old.rows) (cells_at pair.new t.new.rows)).0 (not-false _ quiet))
          ∙ sym (ap (cells_at pair.new) n ∙ cells-made pair.new t.new.rows is))
