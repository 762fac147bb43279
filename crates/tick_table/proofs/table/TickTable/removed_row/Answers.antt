use Rattle.std.proofs.Common.{ap, ◌∙◌, arith, length}
use Rattle.tick_table.{specs.Ticking.Ticking, proofs.Before.removed_cells}
use Rattle.tick_table.proofs.table.TickTable.removed_row.Goals as goal

pub left_row-row-requires : goal.left_row-row-requires
left_row-row-requires g c =
    omega (arith, c.requires, ap (λ (table : Ticking). length table.update.removed) c.self.view_is, c.self.invariant.left)

pub returns-clause-cells : goal.returns-clause-cells
returns-clause-cells g c =
    let s = c.self.inside in
    c.left_row-row.ensures.cells ∙ removed_cells s.rows s.prev_rows s.placed s.update s.told c.self.invariant c.args.self.now c.self.view_is c.removed.ensures.set.rising c.args.place c.requires

pub returns-clause-whole : goal.returns-clause-whole
returns-clause-whole g c = c.left_row-row.ensures.whole ∙ ap (λ (table : Ticking). table.old.width) c.self.view_is

pub returns-clause-reads : goal.returns-clause-reads
returns-clause-reads g c =
    let wide = c.left_row-row.ensures.whole ∙ ap (λ (table : Ticking). table.old.width) c.self.view_is in
    omega (arith, wide, c.read_all.ensures)
