use Rattle.std.proofs.Common.{◌≡◌, ◌∙◌, sym, ap, subst, length}
use Rattle.std.{specs.Prelude.OnOk, specs.Io.KnownBytes.append_known, proofs.lemmas.Result.err_from_is_err_and}
use Rattle.tick_io.specs.Written.{AppendsPrefix}
use Rattle.tick_model.{specs.Changes.Change, specs.Printable.IsPrintable, specs.Texts.{change_records, records_text}}
use Rattle.tick_table.specs.Ticking.{Ticking}
use Rattle.update_text.specs.Told.{told_change}
use Rattle.replay.proofs.Prints.{on_err}
use Rattle.watched_run.proofs.Tellings.{not_refused, told_is, told_printable, told_width, write_untold}
use Rattle.watched_run.proofs.told.tell.Goals as goal

pub unreachable-requires : goal.unreachable-requires
unreachable-requires g c =
    not_refused c.args.shown.now.columns (length c.args.texts.now) c.args.mirror.new c.args.message c.requires c.in-Err.fault c.in_default.not-Memory c.in-Err.ensures.fault

pub write_update-requires-clause-width : goal.write_update-requires-clause-width
write_update-requires-clause-width g c κs within =
    ap (λ (t : Ticking). t.new.width) c.table.ensures
    ∙ told_width c.args.shown.now.columns (length c.args.texts.now) c.args.mirror.new c.args.message c.requires c.in-Ok.mirror c.in-Ok.ensures.exact

pub write_update-requires-clause-printable : goal.write_update-requires-clause-printable
write_update-requires-clause-printable g c κs within =
    subst (λ (t : Ticking). IsPrintable c.args.shown.now.columns c.args.texts.now (told_change t)) (sym c.table.ensures)
    (told_printable c.args.shown.now.columns c.args.texts.now c.args.mirror.new c.args.message c.requires c.in-Ok.mirror c.in-Ok.ensures.exact)

pub returns-in_err-write_update-clause-prefix : goal.returns-in_err-write_update-clause-prefix
returns-in_err-write_update-clause-prefix g c =
    let shown = c.args.shown.now in
    let told : told_change c.table.result.now ≡ c.args.message =
    ap told_change c.table.ensures ∙ told_is shown.columns (length c.args.texts.now) c.args.mirror.new c.args.message c.requires c.in-Ok.mirror c.in-Ok.ensures.exact in
    on_err c.from_residual.result
    (subst (λ (change : Change). AppendsPrefix (g.S.Sink.bytes c.args.out.now) (g.S.Sink.bytes c.write_update.new.sink) (records_text (change_records c.args.step shown.name shown.columns c.args.texts.now change))) told c.in_err-write_update.ensures.err)

pub returns-in_err-write_update-clause-no_cause : goal.returns-in_err-write_update-clause-no_cause
returns-in_err-write_update-clause-no_cause g c =
    let p = err_from_is_err_and c.from_residual.result c.from_residual.ensures.1 in
    rw (p.1, p.2) (write_untold c.in_err-write_update.field-0.0)

pub returns-in_err-write_update-clause-steady : goal.returns-in_err-write_update-clause-steady
returns-in_err-write_update-clause-steady g c =
    let p = err_from_is_err_and c.from_residual.result c.from_residual.ensures.1 in
    rw (p.1, p.2) (λ told. absurd (write_untold c.in_err-write_update.field-0.0 told))

pub returns-clause-whole : goal.returns-clause-whole
returns-clause-whole g c =
    let shown = c.args.shown.now in
    let told : told_change c.table.result.now ≡ c.args.message =
    ap told_change c.table.ensures ∙ told_is shown.columns (length c.args.texts.now) c.args.mirror.new c.args.message c.requires c.in-Ok.mirror c.in-Ok.ensures.exact in
    c.in_ok-write_update.ensures.whole
    ∙ ap (λ (change : Change). append_known (g.S.Sink.bytes c.args.out.now) (records_text (change_records c.args.step shown.name shown.columns c.args.texts.now change))) told
