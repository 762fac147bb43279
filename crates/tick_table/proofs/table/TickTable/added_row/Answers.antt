use Rattle.std.proofs.Common.{ap, ◌∙◌, arith, length-append, ℕ}
use Rattle.std.proofs.lemmas.List.{get_or_append_left}
use Rattle.tick_model.specs.Tables.{cells_at}
use Rattle.tick_table.proofs.table.TickTable.added_row.Goals as goal

pub told_row-row-requires : goal.told_row-row-requires
told_row-row-requires g c =
    let update = c.args.self.now.update in
    omega (arith, c.requires, length-append update.added update.modified)

pub returns-clause-cells : goal.returns-clause-cells
returns-clause-cells g c =
    let table = c.args.self.now in
    c.told_row-row.ensures.cells ∙ ap (λ (key : ℕ). cells_at key table.new.rows) (get_or_append_left table.update.added table.update.modified 0 c.args.place c.requires)

pub returns-clause-reads : goal.returns-clause-reads
returns-clause-reads g c = omega (arith, c.told_row-row.ensures.whole, c.read_all.ensures)
