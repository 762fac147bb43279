use Rattle.std.proofs.Common.{ap, sym, ◌∙◌}
use Rattle.tick_table.{specs.Ticking.Ticking, proofs.Before.{left_cells, left_within, not_removed}}
use Rattle.tick_table.proofs.table.TickTable.row_before.Goals as goal

pub left_row-requires : goal.left_row-requires
left_row-requires c =
    let s = c.self.inside in
    left_within s.rows s.prev_rows s.placed s.update s.told c.self.invariant c.args.self.now c.self.view_is c.removed.ensures.set.rising c.args.key c.in-Ok.place c.removed.result.now c.removed.ensures.keys
    (sym c.find.ensures.position ∙ c.in-Ok.is)

pub key_now-now-requires-clause-stays : goal.key_now-now-requires-clause-stays
key_now-now-requires-clause-stays c =
    let s = c.self.inside in
    not_removed s.rows s.prev_rows s.placed s.update s.told c.self.invariant c.args.self.now c.self.view_is c.args.key _ c.removed.result.now c.removed.ensures.keys (sym c.find.ensures.position ∙ c.in-Err.is)

pub returns-in-Ok-clause-cells : goal.returns-in-Ok-clause-cells
returns-in-Ok-clause-cells c =
    let s = c.self.inside in
    c.left_row.ensures.cells
    ∙ left_cells s.rows s.prev_rows s.placed s.update s.told c.self.invariant c.args.self.now c.self.view_is c.removed.ensures.set.rising c.args.key c.in-Ok.place c.removed.result.now c.removed.ensures.keys
    (sym c.find.ensures.position ∙ c.in-Ok.is) c.requires

pub returns-in-Ok-clause-whole : goal.returns-in-Ok-clause-whole
returns-in-Ok-clause-whole c = c.left_row.ensures.whole ∙ ap (λ (table : Ticking). table.old.width) c.self.view_is
