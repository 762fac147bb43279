use Rattle.std.proofs.Common.{◌≡◌, ◌∙◌, ◌++◌, ap, subst, sym, List, ℤ}
use Rattle.std.specs.Prelude.{OnOk}
use Rattle.key_lists.specs.Keys.{is_among}
use Rattle.tick_model.specs.Tables.{cells_at, keys}
use Rattle.sort_op.{specs.Places.key_at, proofs.PlacedCells.{place_found, place_within}}
use Rattle.sort_op.proofs.rows.SortedRows.row_now.Goals as goal

pub row-requires : goal.row-requires
row-requires g c =
    let by = c.args.self.now.order.now.by in
    let table = c.args.self.now.input.now.new in
    let found = place_found by table c.args.position c.requires.rising (place_within by table c.args.position c.requires.here) in
    record { here = ap (λ key. is_among key (keys table.rows)) (c.key_at-key.ensures ∙ ap (λ entries. key_at entries c.args.position) c.requires.order) ∙ found.1 }

pub returns-clause-cells : goal.returns-clause-cells
returns-clause-cells g c =
    let by = c.args.self.now.order.now.by in
    let table = c.args.self.now.input.now.new in
    let found = place_found by table c.args.position c.requires.rising (place_within by table c.args.position c.requires.here) in
    subst (λ (cells : List ℤ). OnOk c.row.result (c.row.new.cells.items ≡ c.args.cells.now.items ++ cells))
    (ap (λ key. cells_at key table.rows) (c.key_at-key.ensures ∙ ap (λ entries. key_at entries c.args.position) c.requires.order) ∙ sym found.0) c.row.ensures.cells
