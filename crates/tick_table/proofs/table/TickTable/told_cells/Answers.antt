use Rattle.std.proofs.Common.{◌∙◌}
use Rattle.tick_table.proofs.Before.{told_all}
use Rattle.tick_table.proofs.table.TickTable.told_cells.Goals as goal

pub returns-clause-cells : goal.returns-clause-cells
returns-clause-cells g c =
    let s = c.self.inside in
    c.as_slice-cells.ensures ∙ told_all s.rows s.prev_rows s.placed s.update s.told c.self.invariant c.args.self.now c.self.view_is
