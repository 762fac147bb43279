use Rattle.std.proofs.Common.{◌≡◌, sym, ◌∙◌, map}
use Rattle.tick_model.specs.Texts.{column_name}
use Rattle.update_text.{specs.Reading.next_fields, proofs.Backwards.rest_same, proofs.ReadColumns.{columns_ahead, columns_absent}}
use Rattle.update_text.proofs.read_changes.read_columns.Goals as goal

pub returns-in-Some-clause-told : goal.returns-in-Some-clause-told
returns-in-Some-clause-told c places rest distinct rising below ends e =
    let columns = c.args.columns.now in
    let ahead = columns_ahead columns places rest c.args.bytes.now e ends c.in-Some.ensures.0 in
    c.read_names.ensures.told places rest distinct rising below (rest_same 99 99 c.in-Some.names.now (next_fields (map (column_name columns) places) rest) (sym c.in-Some.ensures.1 ∙ ahead))

pub returns-in-None-clause-told : goal.returns-in-None-clause-told
returns-in-None-clause-told c places rest distinct rising below ends e =
    let absent = columns_absent c.args.columns.now places rest c.args.bytes.now e c.in-None.ensures in
    (absent.1, c.requires.empty ∙ sym absent.0)
