use Rattle.std.proofs.Common.{◌≡◌, ap, ◌∙◌, ◌++◌, ◌*◌, List, ℕ, ℤ, length, drop, map, arith}
use Rattle.std.specs.Prelude.{codes}
use Rattle.key_lists.specs.Keys.{runs}
use Rattle.row_set.specs.declared.ranges.Range.{Range}
use Rattle.tick_model.{specs.declared.update.ShiftRange.ShiftRange, specs.Changes.rows_under, specs.Texts.{columns_record, records_text, removed_record, row_record, shift_record}}
use Rattle.update_text.{specs.Told.range_record, proofs.ChangeRecords.{five_texts, range_records}}
use Rattle.update_text.proofs.changes.push_parts.Goals as goal

pub returns : goal.returns
returns c =
    let columns = c.args.columns.now in
    let width = length columns in
    let update = c.args.update.now in
    let cells = c.args.cells.now in
    let told = λ (tag : List ℕ) (keys : List ℕ) (cells : List ℤ). records_text (map (row_record tag c.args.texts.now columns) (rows_under width keys cells)) in
    let removed = map removed_record (runs update.removed) in
    let shifts = map shift_record update.shifted in
    let added = map (row_record (codes "a") c.args.texts.now columns) (rows_under width update.added cells) in
    let which = columns_record columns update.columns in
    let later = drop (width * length update.added) cells in
    let modified = map (row_record (codes "m") c.args.texts.now columns) (rows_under width update.modified later) in
    let swap : length update.added * width ≡ width * length update.added = omega arith in
    let text = c.args.text.now.items in
    let one : c.push_removed.new.text.items ≡ text ++ records_text removed =
    c.in_ok-push_removed.ensures
    ∙ ap (λ (ranges : List Range). text ++ records_text (map range_record ranges)) (c.ranges-2.ensures.ranges ∙ ap Rattle.row_set.specs.Ranges.ranges_of c.removed.ensures.keys)
    ∙ ap (λ records. text ++ records_text records) (range_records update.removed) in
    let two : c.push_shifts.new.text.items ≡ (text ++ records_text removed) ++ records_text shifts =
    c.in_ok-push_shifts.ensures
    ∙ ap (λ (ranges : List ShiftRange). c.push_removed.new.text.items ++ records_text (map shift_record ranges)) (c.ranges-3.ensures.ranges ∙ c.shifted.ensures)
    ∙ ap (λ text. text ++ records_text shifts) one in
    let three : c.push_told.new.text.items ≡ ((text ++ records_text removed) ++ records_text shifts) ++ records_text added =
    c.in_ok-modified.ensures.text
    ∙ ap (λ keys. c.push_shifts.new.text.items ++ told (codes "a") keys cells) c.added.ensures.keys
    ∙ ap (λ text. text ++ records_text added) two in
    let rest : c.in_ok-modified.modified.now ≡ later =
    c.in_ok-modified.ensures.rest
    ∙ ap (λ (keys : List ℕ). drop (length keys * width) cells) c.added.ensures.keys
    ∙ ap (λ n. drop n cells) swap in
    let four : c.push_columns.new.text.items ≡ (((text ++ records_text removed) ++ records_text shifts) ++ records_text added) ++ records_text which =
    c.in_ok-push_columns.ensures
    ∙ ap (λ cs. c.push_told.new.text.items ++ records_text (columns_record columns cs)) c.columns.ensures
    ∙ ap (λ text. text ++ records_text which) three in
    c.in_ok-push_told.ensures.text
    ∙ ap (λ keys. c.push_columns.new.text.items ++ told (codes "m") keys c.in_ok-modified.modified.now) c.modified.ensures.keys
    ∙ ap (λ cells. c.push_columns.new.text.items ++ told (codes "m") update.modified cells) rest
    ∙ ap (λ text. text ++ records_text modified) four
    ∙ five_texts text removed shifts added which modified
