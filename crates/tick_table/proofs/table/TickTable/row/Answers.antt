use Rattle.std.proofs.Common.{sym, ap, ◌∙◌, ◌++◌, arith, length, List, ℤ}
use Rattle.tick_table.proofs.table.TickTable.row.Goals as goal

pub returns-in_err-extend_from_slice-clause-whole : goal.returns-in_err-extend_from_slice-clause-whole
returns-in_err-extend_from_slice-clause-whole g c = sym (ap length c.cells_of-row.ensures.cells) ∙ c.cells_of-row.ensures.whole

pub returns-clause-cells : goal.returns-clause-cells
returns-clause-cells g c = c.in_ok-extend_from_slice.ensures.items ∙ ap (λ (cells : List ℤ). c.args.cells.now.items ++ cells) c.cells_of-row.ensures.cells

pub returns-clause-whole : goal.returns-clause-whole
returns-clause-whole g c = sym (ap length c.cells_of-row.ensures.cells) ∙ c.cells_of-row.ensures.whole

pub returns-clause-reads : goal.returns-clause-reads
returns-clause-reads g c = omega (arith, c.cells_of-row.ensures.whole, c.read_all.ensures)
