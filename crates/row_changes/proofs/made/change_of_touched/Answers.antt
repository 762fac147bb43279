use Rattle.std.proofs.Common.{ap, sym, ◌∙◌, subst, ℕ, ◌&&◌, ◌++◌, List, ℤ}
use Rattle.std.{specs.List.list_any, specs.Prelude.nat_lt}
use Rattle.shift_data.specs.Moves.{pairs_of}
use Rattle.tick_model.specs.Updates.{differs_in}
use Rattle.tick_table.specs.declared.version.Version.TheVariants.{Before, Now}
use Rattle.row_changes.{specs.Parts.{Parts, AreParts, cells_under}, proofs.MadeChange.change_is}
use Rattle.row_changes.proofs.made.change_of_touched.Goals as goal

pub returns-clause-change : goal.returns-clause-change
returns-clause-change g c kept h =
    let old = g.R.Rows.table c.args.rows.now Before in
    let new = g.R.Rows.table c.args.rows.now Now in
    let touched = c.touched.inside in
    let parts : Parts = record { removed = touched.removed; added = touched.added; shifted = touched.shifted; compared_before = touched.compared_before; compared_now = touched.compared_now } in
    let told = c.in_ok-told.told in
    change_is old new parts kept (subst (λ (parts : Parts). AreParts old new parts kept) (sym c.touched.view_is) h) told.modified told.columns c.of.result
    c.in_ok-told.ensures.modified c.in_ok-told.ensures.rising
    (λ (column : ℕ). c.in_ok-told.ensures.columns column ∙ ap (λ width. nat_lt column width && list_any (differs_in old new column) (pairs_of touched.compared_before touched.compared_now)) c.requires.width)
    (c.of.ensures ∙ c.in_ok-told.ensures.cells ∙ ap (λ (cells : List ℤ). cells ++ cells_under new told.modified) (c.in_ok-all_now.ensures.cells ∙ ap (λ (cells : List ℤ). cells ++ cells_under new touched.added) c.in_ok-cells.ensures.items))
