use Rattle.std.proofs.Common.{◌≡◌, ◌≤◌, ◌+◌, ◌-◌, ◌*◌, ap, sym, ◌∙◌, ◌++◌, subst, rules, length, take, drop, map, get_or}
use Rattle.std.specs.Prelude.{codes}
use Rattle.tick_model.specs.Texts.{record_text, records_text, row_record}
use Rattle.update_text.{specs.Snapshots.{snap_record, rows_told}, proofs.ToldRows.{told_rows, told_enough}}
use Rattle.update_text.proofs.snapshots.snapshot_text.Goals as goal

pub push_told_rows-requires : goal.push_told_rows-requires
push_told_rows-requires c =
    let told = c.args.words.now in
    subst (λ columns. get_or told 0 0 * (length columns + 1) ≤ length (take (length told - 1) (drop 1 told))) (sym c.as_slice-2.ensures) (told_enough c.args.shown.now told c.requires.0 c.requires.1)

pub returns : goal.returns
returns c table are =
    let shown = c.args.shown.now in
    let told = c.args.words.now in
    let first = c.push_head.new.text.items in
    let head : first ≡ record_text (snap_record c.args.caller c.args.call c.args.step shown.name) = search rules in
    c.in_ok-push_told_rows.ensures
    ∙ ap (λ columns. first ++ records_text (map (row_record (codes "w") c.as_slice.result.now columns) (rows_told (get_or told 0 0) (length columns + 1) (take (length told - 1) (drop 1 told))))) c.as_slice-2.ensures
    ∙ ap (λ texts. first ++ records_text (map (row_record (codes "w") texts shown.columns) (rows_told (get_or told 0 0) (length shown.columns + 1) (take (length told - 1) (drop 1 told))))) c.as_slice.ensures
    ∙ ap (λ rows. first ++ records_text (map (row_record (codes "w") c.args.texts.now shown.columns) rows)) (told_rows shown told table are)
    ∙ ap (λ start. start ++ records_text (map (row_record (codes "w") c.args.texts.now shown.columns) table.rows)) head
