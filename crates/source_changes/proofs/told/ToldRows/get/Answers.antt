use Rattle.std.proofs.Common.{ap, sym, ◌∙◌, subst, map, List, ℤ, Bor}
use Rattle.std.{specs.Option.option_or, specs.Prelude.option_map}
use Rattle.tick_model.{specs.declared.table.PlainRow.PlainRow, specs.Tables.row_at}
use Rattle.tick_table.specs.Placed.{put_rows}
use Rattle.source_changes.{specs.Told.{Rises, told_row, with_block}, proofs.Looked.row_at-put_rows, proofs.Mapped.{cells_either, cells_found}}
use Rattle.source_changes.proofs.told.ToldRows.get.Goals as goal

pub returns-in_default : goal.returns-in_default
returns-in_default c =
    ap (option_map (λ (cells : Bor (List ℤ)). cells.now)) (c.copied-earlier.ensures ∙ c.get.ensures.value)
    ∙ cells_found c.args.key c.self.inside.rows.entries
    ∙ ap (λ told. option_map (λ (row : PlainRow). row.cells) (row_at c.args.key told)) (sym (ap (λ last. with_block last (map told_row c.self.inside.rows.entries)) c.in_default.is) ∙ c.self.view_is)

pub returns : goal.returns
returns c =
    let block = c.in-Some.block.now in
    let rows = map told_row c.self.inside.rows.entries in
    let key = c.args.key in
    let rises = subst Rises c.in-Some.is c.self.invariant in
    let earlier = ap (option_map (λ (cells : Bor (List ℤ)). cells.now)) (c.copied-earlier.ensures ∙ c.get.ensures.value) ∙ cells_found key c.self.inside.rows.entries in
    ap (option_map (λ (cells : Bor (List ℤ)). cells.now)) (c.or-2.ensures ∙ ap (option_or c.cells_under.result) c.or.ensures)
    ∙ cells_either c.cells_under.result (option_or c.cells_under-2.result c.copied-earlier.result) (row_at key block.modified) (option_or (row_at key block.added) (row_at key rows)) c.cells_under.ensures
    (cells_either c.cells_under-2.result c.copied-earlier.result (row_at key block.added) (row_at key rows) c.cells_under-2.ensures earlier)
    ∙ sym (ap (option_map (λ (row : PlainRow). row.cells)) (row_at-put_rows key block.modified (put_rows block.added rows) rises.1 ∙ ap (option_or (row_at key block.modified)) (row_at-put_rows key block.added rows rises.0)))
    ∙ ap (λ told. option_map (λ (row : PlainRow). row.cells) (row_at key told)) (sym (ap (λ last. with_block last rows) c.in-Some.is) ∙ c.self.view_is)
