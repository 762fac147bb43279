use Rattle.std.proofs.Common.{◌≡◌, ◌∙◌, ap, inl, inr, rules, set, subst, sym, w64, SFits, ℤ}
use Rattle.std.{specs.Global.Vec, specs.Prelude.OnOk, proofs.lemmas.Bool.cases_eq, proofs.lemmas.Int.to_z-of_z}
use Rattle.tick_model.specs.Tables.{cell}
use Rattle.sort_op.{specs.Ranks.{cell_in, lists_of}, proofs.KeptCells.{column_at, column_others, column_set}}
use Rattle.sort_op.proofs.sort_cells.SortCells.put.Goals as goal

pub returns-clause-put : goal.returns-clause-put
returns-clause-put c =
    let fits : SFits w64 c.args.cell = search rules in
    subst (λ (was : ℤ). OnOk c.put_cell.result (was ≡ c.args.cell)) (sym (column_set c.make_column.new.columns.items c.args.place c.args.handle c.put_cell.new.column c.in_ok-make_column.ensures.room))
    (subst (λ (now : ℤ). OnOk c.put_cell.result (cell c.put_cell.new.column.items c.args.handle ≡ now)) (to_z-of_z w64 c.args.cell fits) c.put_cell.ensures.put)

pub returns-clause-columns : goal.returns-clause-columns
returns-clause-columns c = λ at ne.
    column_others c.make_column.new.columns.items c.args.place at c.args.handle c.put_cell.new.column ne
    ∙ c.make_column.ensures.same at c.args.handle
    ∙ ap (λ cells. cell_in cells at c.args.handle) c.self.view_is

pub returns-clause-others : goal.returns-clause-others
returns-clause-others c = λ at other ne.
    let columns = c.make_column.new.columns.items in
    let place = c.args.place in
    let new = c.put_cell.new.column in
    (elim (cases_eq at place) [
      | inl e ↦
          ap (λ n. cell_in (lists_of (set columns place new)) n other) e
          ∙ column_set columns place other new c.in_ok-make_column.ensures.room
          ∙ c.put_cell.ensures.others other ne
          ∙ ap (λ (column : Vec ℤ). cell column.items other) c.index_mut.ensures.value
          ∙ sym (column_at columns place other c.index_mut.result.now c.in_ok-make_column.ensures.room)
          ∙ ap (λ n. cell_in (lists_of columns) n other) (sym e)
      | inr apart ↦ column_others columns place at other new apart
    ])
    ∙ c.make_column.ensures.same at other
    ∙ ap (λ cells. cell_in cells at other) c.self.view_is
