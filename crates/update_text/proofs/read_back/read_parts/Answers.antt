use Rattle.std.proofs.Common.{◌≡◌, ap, sym, ◌∙◌, subst, ◌++◌, ◌^◌, [], List, ℕ, ℤ}
use Rattle.key_lists.specs.Keys.{runs}
use Rattle.tick_model.specs.declared.table.PlainRow.{PlainRow}
use Rattle.update_text.{specs.declared.printed.PrintedFault.TheVariants.Memory, specs.Reading.cells_of, proofs.ChangesBack.{rows_added, rows_modified}, proofs.ReadBack.{behind_added, behind_columns, behind_removed, behind_shifts, removed_ahead, removed_rise, removed_same, shifts_ahead, added_ahead, added_keys, added_rise, columns_end, modified_ahead, modified_keys, modified_rise, cells_same, parts_same}, proofs.ReadRows.gives_memory}
use Rattle.update_text.proofs.read_back.read_parts.Goals as goal

pub returns-in_err-rest-clause-told : goal.returns-in_err-rest-clause-told
returns-in_err-rest-clause-told c change apart p e =
    let columns = c.args.columns.now in
    let texts = c.args.texts.now in
    gives_memory c.from_residual.result _ c.in_err-rest.field-0.0 c.from_residual.ensures.1
    (c.in_err-rest.ensures (runs change.update.removed) (behind_removed columns texts change) (removed_rise columns texts change p) (removed_ahead columns texts change c.args.bytes.now p e))

pub returns-in_err-rest-2-clause-told : goal.returns-in_err-rest-2-clause-told
returns-in_err-rest-2-clause-told c change apart p e =
    let columns = c.args.columns.now in
    let texts = c.args.texts.now in
    let one = c.in_ok-rest.ensures (runs change.update.removed) (behind_removed columns texts change) (removed_rise columns texts change p) (removed_ahead columns texts change c.args.bytes.now p e) in
    gives_memory c.from_residual-in_err-rest-2.result _ c.in_err-rest-2.field-0.0 c.from_residual-in_err-rest-2.ensures.1
    (c.in_err-rest-2.ensures change.update.shifted (behind_shifts columns texts change) p.shift (shifts_ahead columns texts change c.in_ok-rest.rest.now p one.0))

pub returns-in_err-rest-3-clause-told : goal.returns-in_err-rest-3-clause-told
returns-in_err-rest-3-clause-told c change apart p e =
    let columns = c.args.columns.now in
    let texts = c.args.texts.now in
    let one = c.in_ok-rest.ensures (runs change.update.removed) (behind_removed columns texts change) (removed_rise columns texts change p) (removed_ahead columns texts change c.args.bytes.now p e) in
    let two = c.in_ok-rest-2.ensures change.update.shifted (behind_shifts columns texts change) p.shift (shifts_ahead columns texts change c.in_ok-rest.rest.now p one.0) in
    gives_memory c.from_residual-in_err-rest-3.result _ c.in_err-rest-3.field-0.0 c.from_residual-in_err-rest-3.ensures.1
    (c.in_err-rest-3.ensures.told (rows_added columns change) (behind_added columns texts change) apart.rising (added_rise columns texts change p) (added_ahead columns texts change c.in_ok-rest-2.rest.now p two.0))

pub returns-in_err-rest-4-clause-told : goal.returns-in_err-rest-4-clause-told
returns-in_err-rest-4-clause-told c change apart p e =
    let columns = c.args.columns.now in
    let texts = c.args.texts.now in
    let one = c.in_ok-rest.ensures (runs change.update.removed) (behind_removed columns texts change) (removed_rise columns texts change p) (removed_ahead columns texts change c.args.bytes.now p e) in
    let two = c.in_ok-rest-2.ensures change.update.shifted (behind_shifts columns texts change) p.shift (shifts_ahead columns texts change c.in_ok-rest.rest.now p one.0) in
    let three = c.in_ok-rest-3.ensures.told (rows_added columns change) (behind_added columns texts change) apart.rising (added_rise columns texts change p) (added_ahead columns texts change c.in_ok-rest-2.rest.now p two.0) in
    gives_memory c.from_residual-in_err-rest-4.result _ c.in_err-rest-4.field-0.0 c.from_residual-in_err-rest-4.ensures.1
    (c.in_err-rest-4.ensures.told change.update.columns (behind_columns columns texts change) apart.distinct p.columns_rise p.columns_there (columns_end columns texts change) three.0)

pub returns-in_err-read_rows-clause-told : goal.returns-in_err-read_rows-clause-told
returns-in_err-read_rows-clause-told c change apart p e =
    let columns = c.args.columns.now in
    let texts = c.args.texts.now in
    let one = c.in_ok-rest.ensures (runs change.update.removed) (behind_removed columns texts change) (removed_rise columns texts change p) (removed_ahead columns texts change c.args.bytes.now p e) in
    let two = c.in_ok-rest-2.ensures change.update.shifted (behind_shifts columns texts change) p.shift (shifts_ahead columns texts change c.in_ok-rest.rest.now p one.0) in
    let three = c.in_ok-rest-3.ensures.told (rows_added columns change) (behind_added columns texts change) apart.rising (added_rise columns texts change p) (added_ahead columns texts change c.in_ok-rest-2.rest.now p two.0) in
    let four = c.in_ok-rest-4.ensures.told change.update.columns (behind_columns columns texts change) apart.distinct p.columns_rise p.columns_there (columns_end columns texts change) three.0 in
    gives_memory c.from_residual-in_err-read_rows.result _ c.in_err-read_rows.field-0.0 c.from_residual-in_err-read_rows.ensures.1
    (c.in_err-read_rows.ensures.told (rows_modified columns change) [] apart.rising (modified_rise columns texts change p) (modified_ahead columns texts change c.in_ok-rest-4.rest.now p four.0))

pub returns-clause-told : goal.returns-clause-told
returns-clause-told c change apart p e =
    let columns = c.args.columns.now in
    let texts = c.args.texts.now in
    let one = c.in_ok-rest.ensures (runs change.update.removed) (behind_removed columns texts change) (removed_rise columns texts change p) (removed_ahead columns texts change c.args.bytes.now p e) in
    let two = c.in_ok-rest-2.ensures change.update.shifted (behind_shifts columns texts change) p.shift (shifts_ahead columns texts change c.in_ok-rest.rest.now p one.0) in
    let three = c.in_ok-rest-3.ensures.told (rows_added columns change) (behind_added columns texts change) apart.rising (added_rise columns texts change p) (added_ahead columns texts change c.in_ok-rest-2.rest.now p two.0) in
    let four = c.in_ok-rest-4.ensures.told change.update.columns (behind_columns columns texts change) apart.distinct p.columns_rise p.columns_there (columns_end columns texts change) three.0 in
    let five = c.in_ok-read_rows.ensures.told (rows_modified columns change) [] apart.rising (modified_rise columns texts change p) (modified_ahead columns texts change c.in_ok-rest-4.rest.now p four.0) in
    let cells = five.2 ∙ ap (λ (items : List ℤ). items ++ cells_of (rows_modified columns change)) (three.2 ∙ ap (λ (items : List ℤ). items ++ cells_of (rows_added columns change)) c.new-cells.ensures.items) ∙ cells_same columns texts change p in
    parts_same _ _ _ _ _ _ change (one.1 ∙ removed_same columns texts change) (three.1 ∙ added_keys columns texts change) (five.1 ∙ modified_keys columns texts change) two.1 four.1 cells
