use Rattle.std.proofs.Common.{◌≡◌, ◌+◌, ◌∙◌, ap, arith}
use Rattle.sort_op.{specs.Ranks.cell_in, proofs.KeptCells.cells_are}
use Rattle.sort_op.proofs.sort_cells.SortCells.put_row.Goals as goal

pub returns-clause-put : goal.returns-clause-put
returns-clause-put c =
    cells_are 0 c.args.by.now c.loop-place.self c.args.handle c.args.row.now
    (λ i within. ap (λ n. cell_in c.loop-place.self n c.args.handle) (let same : 0 + i ≡ i = omega arith in same) ∙ c.loop-place.invariant.put i (omega (arith, within, c.loop-place-test.false)))
