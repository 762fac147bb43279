use Rattle.std.proofs.Common.{◌≡◌, ap, ap₂, sym, ◌∙◌, arith, ℕ, Bool, false, true, not, ◌&&◌, ◌||◌, ◌++◌, [], ◌∷◌, List, ℤ, cond}
use Rattle.std.{specs.Ordering.int_eq, specs.Prelude.nat_lt}
use Rattle.key_lists.specs.Keys.{is_among}
use Rattle.tick_model.{specs.Tables.{cell, cells_at}, specs.Updates.{differs, new_keys}}
use Rattle.tick_table.specs.declared.version.Version.TheVariants.{Before, Now}
use Rattle.row_changes.proofs.Comparing.{behind, differs_as, key_last, no_column}
use Rattle.row_changes.proofs.told.compare_row.Goals as goal

pub returns-then-same-clause-columns : goal.returns-then-same-clause-columns
returns-then-same-clause-columns g c column =
    let old = g.R.Rows.table c.args.rows.now Before in
    let new = g.R.Rows.table c.args.rows.now Now in
    let before : c.deref-2.result.now ≡ cells_at c.args.pair.old old.rows = c.deref-2.ensures.value ∙ c.in_ok-row.ensures.cells ∙ ap (λ (cells : List ℤ). cells ++ cells_at c.args.pair.old old.rows) c.clear.ensures.items in
    let now : c.split_at.result.1.now ≡ cells_at c.args.pair.new new.rows =
    behind c.args.told.now.cells.items (cells_at c.args.pair.new new.rows) c.deref.result.now c.split_at.result.1.now c.len-start.result (c.deref.ensures.value ∙ c.in_ok-row-2.ensures.cells) (omega (arith, c.len-start.ensures)) c.split_at.ensures.back in
    let alike : differs old new c.args.pair ≡ false = differs_as old new c.args.pair c.deref-2.result.now c.split_at.result.1.now c.same.result before now c.same.ensures ∙ ap not c.if-same.true in
    no_column old new c.args.pair c.args.width column (is_among column c.args.told.now.columns) alike

pub returns-in_ok-insert_range-clause-modified : goal.returns-in_ok-insert_range-clause-modified
returns-in_ok-insert_range-clause-modified g c =
    let old = g.R.Rows.table c.args.rows.now Before in
    let new = g.R.Rows.table c.args.rows.now Now in
    let before : c.deref-2.result.now ≡ cells_at c.args.pair.old old.rows = c.deref-2.ensures.value ∙ c.in_ok-row.ensures.cells ∙ ap (λ (cells : List ℤ). cells ++ cells_at c.args.pair.old old.rows) c.clear.ensures.items in
    let now : c.split_at.result.1.now ≡ cells_at c.args.pair.new new.rows =
    behind c.args.told.now.cells.items (cells_at c.args.pair.new new.rows) c.deref.result.now c.split_at.result.1.now c.len-start.result (c.deref.ensures.value ∙ c.in_ok-row-2.ensures.cells) (omega (arith, c.len-start.ensures)) c.split_at.ensures.back in
    let apart : differs old new c.args.pair ≡ true = differs_as old new c.args.pair c.deref-2.result.now c.split_at.result.1.now c.same.result before now c.same.ensures ∙ ap not c.if-same.false in
    c.in_ok-insert_range.ensures.ok ∙ key_last c.args.pair.new c.args.told.now.modified c.requires.above ∙ ap (λ (b : Bool). c.args.told.now.modified ++ new_keys (cond b (c.args.pair ∷ []) [])) (sym apart)

pub returns-in_ok-insert_range-clause-columns : goal.returns-in_ok-insert_range-clause-columns
returns-in_ok-insert_range-clause-columns g c column =
    let old = g.R.Rows.table c.args.rows.now Before in
    let new = g.R.Rows.table c.args.rows.now Now in
    let before : c.deref-else-same.result.now ≡ cells_at c.args.pair.old old.rows = c.deref-else-same.ensures.value ∙ c.in_ok-row.ensures.cells ∙ ap (λ (cells : List ℤ). cells ++ cells_at c.args.pair.old old.rows) c.clear.ensures.items in
    let now : c.split_at.result.1.now ≡ cells_at c.args.pair.new new.rows =
    behind c.args.told.now.cells.items (cells_at c.args.pair.new new.rows) c.deref.result.now c.split_at.result.1.now c.len-start.result (c.deref.ensures.value ∙ c.in_ok-row-2.ensures.cells) (omega (arith, c.len-start.ensures)) c.split_at.ensures.back in
    c.with_differing-told.ensures.columns column
    ∙ ap₂ (λ (before : List ℤ) (now : List ℤ). is_among column c.copy.result || (nat_lt column c.args.width && not (int_eq (cell before column) (cell now column)))) before now
    ∙ ap (λ (set : List ℕ). is_among column set || (nat_lt column c.args.width && not (int_eq (cell (cells_at c.args.pair.old old.rows) column) (cell (cells_at c.args.pair.new new.rows) column)))) c.copy.ensures
