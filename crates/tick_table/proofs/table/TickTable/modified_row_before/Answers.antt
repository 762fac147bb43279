use Rattle.std.proofs.Common.{ap, ◌∙◌, arith, ◌*◌, take, drop}
use Rattle.tick_table.{specs.Ticking.Ticking, proofs.Before.{modified_cells, modified_within}}
use Rattle.tick_table.proofs.table.TickTable.modified_row_before.Goals as goal

pub saved_row-row-requires : goal.saved_row-row-requires
saved_row-row-requires g c =
    let s = c.self.inside in
    modified_within s.rows s.prev_rows s.placed s.update s.told c.self.invariant c.args.self.now c.self.view_is c.modified.ensures.set.rising c.args.place c.requires

pub returns-clause-cells : goal.returns-clause-cells
returns-clause-cells g c =
    let s = c.self.inside in
    ◌∙◌ {b = take s.placed.width (drop (c.args.place * s.placed.width) s.placed.saved)} c.saved_row-row.ensures.cells
    (modified_cells s.rows s.prev_rows s.placed s.update s.told c.self.invariant c.args.self.now c.self.view_is c.modified.ensures.set.rising c.args.place c.requires)

pub returns-clause-whole : goal.returns-clause-whole
returns-clause-whole g c = c.saved_row-row.ensures.whole ∙ ap (λ (table : Ticking). table.old.width) c.self.view_is

pub returns-clause-reads : goal.returns-clause-reads
returns-clause-reads g c =
    let wide = c.saved_row-row.ensures.whole ∙ ap (λ (table : Ticking). table.old.width) c.self.view_is in
    omega (arith, wide, c.read_all.ensures)
