use Rattle.std.proofs.Common.{◌≡◌, ap, sym, ◌∙◌, subst, ◌++◌, map}
use Rattle.std.specs.Prelude.{OnOk}
use Rattle.tick_model.specs.Tables.{cell, cells_at}
use Rattle.viewport.proofs.SliceCells.{slice_cells, slice_there}
use Rattle.viewport.proofs.rows.SliceRowsRows.row.Goals as goal

pub put_cells-requires-clause-here : goal.put_cells-requires-clause-here
put_cells-requires-clause-here g c = slice_there c.args.self.now.slice.now c.args.self.now.table.now.new c.rows-rows.ensures.table c.args.key (rw c.in-Now.is at c.requires.here)

pub returns-in-Now-clause-cells : goal.returns-in-Now-clause-cells
returns-in-Now-clause-cells g c =
    let table = c.args.self.now.table.now.new in
    rw c.in-Now.is (subst (λ those. OnOk c.put_cells.result (c.put_cells.new.cells.items ≡ c.args.cells.now.items ++ those))
    (ap (map (cell (cells_at c.args.key table.rows))) c.as_slice.ensures
    ∙ sym (slice_cells c.args.self.now.slice.now table c.rows-rows.ensures.table c.args.key (rw c.in-Now.is at c.requires.here)))
    c.put_cells.ensures.cells)

pub row-requires : goal.row-requires
row-requires g c = record { here = rw c.in-Before.is at c.requires.here }

pub returns-in-Before-clause-cells : goal.returns-in-Before-clause-cells
returns-in-Before-clause-cells g c = rw c.in-Before.is c.row.ensures.cells
