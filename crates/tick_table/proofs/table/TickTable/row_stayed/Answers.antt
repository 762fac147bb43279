use Rattle.std.proofs.Common.{ap, sym, ◌∙◌}
use Rattle.tick_table.{specs.Ticking.Ticking, proofs.Before.{same_cells, saved_cells, saved_within}}
use Rattle.tick_table.proofs.table.TickTable.row_stayed.Goals as goal

pub saved_row-requires : goal.saved_row-requires
saved_row-requires c =
    let s = c.self.inside in
    saved_within s.rows s.prev_rows s.placed s.update s.told c.self.invariant c.args.self.now c.self.view_is c.args.now c.in-Ok.place c.modified.ensures.set.rising (sym c.requires.place ∙ c.in-Ok.is)

pub returns-in-Ok-clause-cells : goal.returns-in-Ok-clause-cells
returns-in-Ok-clause-cells c key here stays is =
    let s = c.self.inside in
    c.saved_row.ensures.cells
    ∙ saved_cells s.rows s.prev_rows s.placed s.update s.told c.self.invariant c.args.self.now c.self.view_is key here stays c.args.now is c.in-Ok.place c.modified.ensures.set.rising (sym c.requires.place ∙ c.in-Ok.is)

pub returns-in-Ok-clause-whole : goal.returns-in-Ok-clause-whole
returns-in-Ok-clause-whole c = c.saved_row.ensures.whole ∙ ap (λ (table : Ticking). table.old.width) c.self.view_is

pub returns-in-Err-clause-cells : goal.returns-in-Err-clause-cells
returns-in-Err-clause-cells c key here stays is =
    let s = c.self.inside in
    c.row_now.ensures.cells ∙ same_cells s.rows s.prev_rows s.placed s.update s.told c.self.invariant c.args.self.now c.self.view_is key here stays c.args.now is _ (sym c.requires.place ∙ c.in-Err.is)

pub returns-in-Err-clause-whole : goal.returns-in-Err-clause-whole
returns-in-Err-clause-whole c = c.row_now.ensures.whole ∙ ap (λ (table : Ticking). table.new.width) (sym c.self.view_is) ∙ ap (λ (table : Ticking). table.old.width) c.self.view_is
