use Rattle.std.proofs.Common.{◌≡◌, refl, ap, sym, ◌∙◌, ◌+◌, arith, rules, List, ℕ, false, length}
use Rattle.std.{specs.Prelude.{Option, Some, None}, proofs.lemmas.List.append-nil}
use Rattle.tick_io.specs.Written.{AppendsPrefix}
use Rattle.tick_model.{specs.Changes.is_empty, specs.Texts.records_text}
use Rattle.update_text.{specs.Told.{parts_shown, records_of, told_change, update_shown}, proofs.ChangeRecords.{first_and_parts, length-parts}}
use Rattle.update_text.proofs.updates.write_update.Goals as goal

none_written : (bytes : Option (List ℕ)) (text : List ℕ) → AppendsPrefix bytes bytes text
none_written None text = (0, omega arith, refl)
none_written (Some bytes) text = (0, omega arith, ap (λ (some : List ℕ). Some some) (sym (append-nil bytes)))

pub returns-in_err-text-clause-err : goal.returns-in_err-text-clause-err
returns-in_err-text-clause-err g c =
    let nothing = none_written (g.S.Sink.bytes c.args.sink.now) (records_text (update_shown c.args.step c.args.shown.now c.args.texts.now c.args.table.now)) in
    search (rules, nothing)

pub returns-clause-count : goal.returns-clause-count
returns-clause-count g c =
    let shown = c.args.shown.now in
    let table = c.args.table.now in
    let some : is_empty table.update ≡ false = sym (ap is_empty c.update-update.ensures) ∙ sym c.is_empty.ensures ∙ c.if-is_empty.false in
    let parts = parts_shown shown.columns c.args.texts.now (told_change table) in
    let records : length (update_shown c.args.step shown c.args.texts.now table) ≡ 1 + length parts =
    ap length (first_and_parts c.args.step shown.name shown.columns c.args.texts.now (told_change table) some) ∙ omega arith in
    c.count_records.ensures ∙ ap records_of c.update-update.ensures ∙ sym (length-parts shown.columns c.args.texts.now (told_change table)) ∙ sym records
