use Rattle.std.proofs.Common.{[], ◌∷◌, ◌++◌, refl, ap, ap₂, ◌∙◌, length}
use Rattle.tick_model.{specs.declared.table.PlainRow.PlainRow, specs.Changes.rows_under, proofs.RowLists.{row_behind, same_width, whole_behind}}
use Rattle.tick_model.proofs.row_list.RowList.push.Goals as goal

pub invariant_of-self : goal.invariant_of-self
invariant_of-self c =
    let own = c.self.inside in
    let was = same_width own.width (length c.args.cells.now) own.keys.items own.cells.items c.args.self.now c.self.invariant c.self.view_is c.requires in
    rw c.reserve.ensures.items was.0

pub invariant_of-self-in_err-extend_from_slice : goal.invariant_of-self-in_err-extend_from_slice
invariant_of-self-in_err-extend_from_slice c =
    let own = c.self.inside in
    let was = same_width own.width (length c.args.cells.now) own.keys.items own.cells.items c.args.self.now c.self.invariant c.self.view_is c.requires in
    rw (c.reserve.ensures.items, c.in_err-extend_from_slice.ensures.items) was.0

pub invariant_of-self-2 : goal.invariant_of-self-2
invariant_of-self-2 c =
    let own = c.self.inside in
    let was = same_width own.width (length c.args.cells.now) own.keys.items own.cells.items c.args.self.now c.self.invariant c.self.view_is c.requires in
    rw (c.in_ok-push.ensures.items, c.reserve.ensures.items, c.in_ok-extend_from_slice.ensures.items)
    (whole_behind (length c.args.cells.now) own.keys.items own.cells.items c.args.cells.now c.args.key was.0 refl)

pub returns : goal.returns
returns c =
    let own = c.self.inside in
    let wide = length c.args.cells.now in
    let was = same_width own.width wide own.keys.items own.cells.items c.args.self.now c.self.invariant c.self.view_is c.requires in
    let row : PlainRow = record { key = c.args.key; cells = c.args.cells.now } in
    ap₂ (rows_under wide) (c.in_ok-push.ensures.items ∙ ap (λ keys. keys ++ c.args.key ∷ []) c.reserve.ensures.items) c.in_ok-extend_from_slice.ensures.items
    ∙ row_behind wide own.keys.items own.cells.items c.args.cells.now c.args.key was.0 refl ∙ ap (λ rows. rows ++ row ∷ []) was.1
