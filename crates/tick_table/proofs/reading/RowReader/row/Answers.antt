use Rattle.std.proofs.Common.{ap, ap₂, sym, ◌∙◌}
use Rattle.tick_model.{specs.declared.table.PlainTable.PlainTable, specs.Tables.cells_at}
use Rattle.tick_table.{specs.Versions.{alone_in, table_in}, proofs.Found.found_place}
use Rattle.tick_table.proofs.reading.RowReader.row.Goals as goal

pub removed_row-requires : goal.removed_row-requires
removed_row-requires g c =
    let s = c.self.inside in
    (found_place c.args.key c.in-Ok.place s.alone s.table.now.update.removed (c.self.invariant.0 ∙ ap (λ version. alone_in version s.table.now.update) c.in-Before.is) c.find.ensures.keys.rising (sym c.find.ensures.position ∙ c.in-Ok.is)).0

pub returns-in-Ok-clause-cells : goal.returns-in-Ok-clause-cells
returns-in-Ok-clause-cells g c =
    let s = c.self.inside in
    let there = found_place c.args.key c.in-Ok.place s.alone s.table.now.update.removed (c.self.invariant.0 ∙ ap (λ version. alone_in version s.table.now.update) c.in-Before.is) c.find.ensures.keys.rising (sym c.find.ensures.position ∙ c.in-Ok.is) in
    c.removed_row.ensures.cells ∙ ap₂ (λ key (table : PlainTable). cells_at key table.rows) there.1 (ap (λ version. table_in version s.table.now) (sym c.in-Before.is) ∙ c.self.view_is)

pub added_row-requires : goal.added_row-requires
added_row-requires g c =
    let s = c.self.inside in
    (found_place c.args.key c.in-Ok-find.place s.alone s.table.now.update.added (c.self.invariant.0 ∙ ap (λ version. alone_in version s.table.now.update) c.in-Now.is) c.find-in-Now.ensures.keys.rising (sym c.find-in-Now.ensures.position ∙ c.in-Ok-find.is)).0

pub returns-in-Ok-find-clause-cells : goal.returns-in-Ok-find-clause-cells
returns-in-Ok-find-clause-cells g c =
    let s = c.self.inside in
    let there = found_place c.args.key c.in-Ok-find.place s.alone s.table.now.update.added (c.self.invariant.0 ∙ ap (λ version. alone_in version s.table.now.update) c.in-Now.is) c.find-in-Now.ensures.keys.rising (sym c.find-in-Now.ensures.position ∙ c.in-Ok-find.is) in
    c.added_row.ensures.cells ∙ ap₂ (λ key (table : PlainTable). cells_at key table.rows) there.1 (ap (λ version. table_in version s.table.now) (sym c.in-Now.is) ∙ c.self.view_is)

pub modified_row-requires : goal.modified_row-requires
modified_row-requires g c =
    let s = c.self.inside in
    (found_place c.args.key c.in-Ok-find-2.place s.modified s.table.now.update.modified c.self.invariant.1 c.find-in-Now-2.ensures.keys.rising (sym c.find-in-Now-2.ensures.position ∙ c.in-Ok-find-2.is)).0

pub returns-in-Ok-find-2-clause-cells : goal.returns-in-Ok-find-2-clause-cells
returns-in-Ok-find-2-clause-cells g c =
    let s = c.self.inside in
    let there = found_place c.args.key c.in-Ok-find-2.place s.modified s.table.now.update.modified c.self.invariant.1 c.find-in-Now-2.ensures.keys.rising (sym c.find-in-Now-2.ensures.position ∙ c.in-Ok-find-2.is) in
    c.modified_row.ensures.cells ∙ ap₂ (λ key (table : PlainTable). cells_at key table.rows) there.1 (ap (λ version. table_in version s.table.now) (sym c.in-Now.is) ∙ c.self.view_is)
