use Rattle.std.proofs.Common.{ap, ◌∙◌, arith, get_or, [], ℕ}
use Rattle.tick_table.proofs.Before.{now_cells, now_within}
use Rattle.tick_table.proofs.table.TickTable.row_now.Goals as goal

pub row-requires : goal.row-requires
row-requires c =
    let s = c.self.inside in
    let within = now_within s.rows s.prev_rows s.placed s.update s.told c.self.invariant c.args.self.now c.self.view_is c.args.key c.count_below.ensures.keys.rising c.requires in
    omega (arith, within, c.count_below.ensures.count)

pub returns-clause-cells : goal.returns-clause-cells
returns-clause-cells c =
    let s = c.self.inside in
    c.row.ensures.cells
    ∙ ap (λ (n : ℕ). get_or s.placed.rows n []) c.count_below.ensures.count
    ∙ now_cells s.rows s.prev_rows s.placed s.update s.told c.self.invariant c.args.self.now c.self.view_is c.args.key c.count_below.ensures.keys.rising c.requires
