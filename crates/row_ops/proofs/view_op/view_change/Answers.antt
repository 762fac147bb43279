use Rattle.std.proofs.Common.{ap, ◌∙◌, ◌++◌, List, ℤ}
use Rattle.row_changes.specs.Parts.{cells_under}
use Rattle.tick_model.{specs.Updates.Update, specs.View.view_table}
use Rattle.row_ops.proofs.Viewed.{change_viewed}
use Rattle.row_ops.proofs.view_op.view_change.Goals as goal

pub returns-clause-change : goal.returns-clause-change
returns-clause-change g c =
    let t = c.args.input.now in
    let exprs = c.args.exprs.now in
    let view = view_table exprs t.new in
    let inside = c.update-2.inside in
    let update : Update = record { removed = inside.removed; added = inside.added; modified = inside.modified; shifted = inside.shifted; columns = inside.columns } in
    let told = c.in_ok-update-inside.ensures in
    change_viewed exprs t c.requires.exact update c.in_ok-update-inside.field-0 c.of-cells.result (c.update-2.view_is ∙ c.in_ok-update.ensures ∙ c.update.ensures) told.rising told.columns
    (c.of-cells.ensures ∙ told.cells ∙ ap (λ (cells : List ℤ). cells ++ cells_under view t.update.modified) (c.in_ok-put_added.ensures.cells ∙ ap (λ (cells : List ℤ). cells ++ cells_under view t.update.added) c.in_ok-cells.ensures.items))
