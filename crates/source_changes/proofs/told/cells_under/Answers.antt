use Rattle.std.proofs.Common.{ap, sym, ◌∙◌, subst, Some, get_or}
use Rattle.std.{specs.Prelude.option_map, proofs.lemmas.Option.slice_get-get_or}
use Rattle.tick_model.specs.declared.table.PlainRow.{PlainRow}
use Rattle.source_changes.proofs.Mapped.{Searched, blank, row_searched}
use Rattle.source_changes.proofs.told.cells_under.Goals as goal

pub row-requires : goal.row-requires
row-requires c =
    (subst (Searched c.args.key c.args.rows.now) c.in-Ok.is (row_searched c.args.key c.args.rows.now c.keys.result.now c.binary_search.result c.requires c.keys.ensures c.binary_search.ensures.position)).0

pub returns-in-Ok : goal.returns-in-Ok
returns-in-Ok c =
    let rows = c.args.rows.now in
    let found = subst (Searched c.args.key rows) c.in-Ok.is (row_searched c.args.key rows c.keys.result.now c.binary_search.result c.requires c.keys.ensures c.binary_search.ensures.position) in
    ap Some (c.row.ensures (get_or rows c.in-Ok.place blank) (slice_get-get_or rows c.in-Ok.place blank found.0)) ∙ sym (ap (option_map (λ (row : PlainRow). row.cells)) found.1)

pub returns-in-Err : goal.returns-in-Err
returns-in-Err c =
    let none = subst (Searched c.args.key c.args.rows.now) c.in-Err.is (row_searched c.args.key c.args.rows.now c.keys.result.now c.binary_search.result c.requires c.keys.ensures c.binary_search.ensures.position) in
    sym (ap (option_map (λ (row : PlainRow). row.cells)) none)
