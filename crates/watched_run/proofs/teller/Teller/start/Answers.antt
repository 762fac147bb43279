use Rattle.std.proofs.Common.{◌≡◌, ◌∙◌, sym, ap, subst, length}
use Rattle.std.specs.Io.KnownBytes.{append_known}
use Rattle.tick_io.specs.Written.{AppendsPrefix}
use Rattle.tick_model.{specs.Changes.{Change, change_of}, specs.Slices.first_tick, specs.Texts.{change_records, records_text}, specs.Sources.opened, specs.declared.table.PlainTable.PlainTable}
use Rattle.tick_table.specs.Ticking.{Ticking}
use Rattle.viewport.{specs.declared.slice.Slice.Slice, specs.Slices.{IsSlice, cut}}
use Rattle.replay.{specs.declared.printed.PrintedNode.PrintedNode, specs.Printed.printed_of, proofs.Exits.none_written, proofs.Prints.on_err}
use Rattle.watched_run.{specs.Messages.{first_records, slice_of}, specs.Told.IsMessage, proofs.WatchedRows.{asked_is, asks, first_made, first_message, starts}}
use Rattle.watched_run.proofs.teller.Teller.start.Goals as goal

pub start-requires : goal.start-requires
start-requires g c =
    let run = c.args.run.now in
    let watch = c.args.watch.now in
    let table = c.args.table.now.new in
    let width = c.width-width.result in
    let slice_is : c.in_ok-slice.slice ≡ slice_of run watch = c.in_ok-slice.ensures ∙ asked_is run c.requires.lawful watch c.requires.watch 0 width table c.requires.reached c.width-width.ensures.now c.requires.table in
    subst (IsSlice table.width) (sym slice_is) (asks run c.requires.lawful watch c.requires.watch 0 width table c.requires.reached c.width-width.ensures.now c.width-width.ensures.some c.requires.table)

pub tell-requires-after_bounds : goal.tell-requires-after_bounds
tell-requires-after_bounds g c κs within =
    let run = c.args.run.now in
    let watch = c.args.watch.now in
    let table = c.args.table.now.new in
    let width = c.width-width.result in
    let slice_is : c.in_ok-slice.slice ≡ slice_of run watch = c.in_ok-slice.ensures ∙ asked_is run c.requires.lawful watch c.requires.watch 0 width table c.requires.reached c.width-width.ensures.now c.requires.table in
    let told : c.in_ok-viewport.message ≡ change_of (opened (cut (slice_of run watch) table)) = c.in_ok-viewport.ensures.message ∙ ap (λ (slice : Slice). change_of (opened (cut slice table))) slice_is in
    subst (λ (printed : PrintedNode). IsMessage printed.shown.columns (length run.texts) c.in_ok-empty.empty.new c.in_ok-viewport.message) (sym c.in_ok-printed.ensures)
    (first_message run c.requires.lawful watch c.requires.watch width c.in_ok-empty.empty c.in_ok-viewport.message c.requires.reached
    (c.width-width.ensures.now ∙ ap (λ (t : PlainTable). t.width) c.requires.table)
    (ap (λ (t : Ticking). t.new) c.in_ok-empty.ensures)
    (told ∙ ap (λ (t : PlainTable). change_of (opened (cut (slice_of run watch) t))) c.requires.table))

pub returns-clause-stands : goal.returns-clause-stands
returns-clause-stands g c =
    let run = c.args.run.now in
    let watch = c.args.watch.now in
    let table = c.args.table.now.new in
    let width = c.width-width.result in
    let slice_is : c.in_ok-slice.slice ≡ slice_of run watch = c.in_ok-slice.ensures ∙ asked_is run c.requires.lawful watch c.requires.watch 0 width table c.requires.reached c.width-width.ensures.now c.requires.table in
    let told : c.in_ok-viewport.message ≡ change_of (opened (cut (slice_of run watch) table)) = c.in_ok-viewport.ensures.message ∙ ap (λ (slice : Slice). change_of (opened (cut slice table))) slice_is in
    record {
      printed_is = c.in_ok-printed.ensures;
      viewport_is = c.in_ok-viewport.ensures.stands ∙ starts run c.requires.lawful watch c.requires.watch c.in_ok-slice.slice table c.requires.reached slice_is c.requires.table;
      mirror_is = c.in_ok-mirror.ensures.mirror
          ∙ first_made run c.requires.lawful watch c.requires.watch width c.in_ok-empty.empty c.in_ok-viewport.message c.requires.reached
          (c.width-width.ensures.now ∙ ap (λ (t : PlainTable). t.width) c.requires.table)
          (ap (λ (t : Ticking). t.new) c.in_ok-empty.ensures)
          (told ∙ ap (λ (t : PlainTable). change_of (opened (cut (slice_of run watch) t))) c.requires.table);
    }

pub returns-in_err-printed-clause-prefix : goal.returns-in_err-printed-clause-prefix
returns-in_err-printed-clause-prefix g c =
    on_err c.from_residual.result (none_written (g.S.Sink.bytes c.args.out.now) (records_text (first_records c.args.run.now c.args.watch.now)))

pub returns-in_err-slice-clause-prefix : goal.returns-in_err-slice-clause-prefix
returns-in_err-slice-clause-prefix g c =
    on_err c.from_residual-in_err-slice.result (none_written (g.S.Sink.bytes c.args.out.now) (records_text (first_records c.args.run.now c.args.watch.now)))

pub returns-in_err-viewport-clause-prefix : goal.returns-in_err-viewport-clause-prefix
returns-in_err-viewport-clause-prefix g c =
    on_err c.from_residual-in_err-viewport.result (none_written (g.S.Sink.bytes c.args.out.now) (records_text (first_records c.args.run.now c.args.watch.now)))

pub returns-in_err-empty-clause-prefix : goal.returns-in_err-empty-clause-prefix
returns-in_err-empty-clause-prefix g c =
    on_err c.from_residual-in_err-empty.result (none_written (g.S.Sink.bytes c.args.out.now) (records_text (first_records c.args.run.now c.args.watch.now)))

pub returns-in_err-mirror-clause-prefix : goal.returns-in_err-mirror-clause-prefix
returns-in_err-mirror-clause-prefix g c =
    let run = c.args.run.now in
    let watch = c.args.watch.now in
    let table = c.args.table.now.new in
    let slice_is : c.in_ok-slice.slice ≡ slice_of run watch = c.in_ok-slice.ensures ∙ asked_is run c.requires.lawful watch c.requires.watch 0 c.width-width.result table c.requires.reached c.width-width.ensures.now c.requires.table in
    let told : c.in_ok-viewport.message ≡ change_of (first_tick run watch.node (cut (slice_of run watch)) 0) =
    c.in_ok-viewport.ensures.message ∙ ap (λ (slice : Slice). change_of (opened (cut slice table))) slice_is ∙ ap (λ (t : PlainTable). change_of (opened (cut (slice_of run watch) t))) c.requires.table in
    let old = g.S.Sink.bytes c.args.out.now in
    let new = g.S.Sink.bytes c.tell.new.out in
    on_err c.from_residual-in_err-mirror.result
    (subst (λ (printed : PrintedNode). AppendsPrefix old new (records_text (change_records 0 printed.shown.name printed.shown.columns run.texts (change_of (first_tick run watch.node (cut (slice_of run watch)) 0))))) c.in_ok-printed.ensures
    (subst (λ (change : Change). AppendsPrefix old new (records_text (change_records 0 c.in_ok-printed.printed.shown.name c.in_ok-printed.printed.shown.columns run.texts change))) told c.in_err-mirror.ensures.prefix))

pub returns-clause-whole : goal.returns-clause-whole
returns-clause-whole g c =
    let run = c.args.run.now in
    let watch = c.args.watch.now in
    let table = c.args.table.now.new in
    let slice_is : c.in_ok-slice.slice ≡ slice_of run watch = c.in_ok-slice.ensures ∙ asked_is run c.requires.lawful watch c.requires.watch 0 c.width-width.result table c.requires.reached c.width-width.ensures.now c.requires.table in
    let told : c.in_ok-viewport.message ≡ change_of (first_tick run watch.node (cut (slice_of run watch)) 0) =
    c.in_ok-viewport.ensures.message ∙ ap (λ (slice : Slice). change_of (opened (cut slice table))) slice_is ∙ ap (λ (t : PlainTable). change_of (opened (cut (slice_of run watch) t))) c.requires.table in
    let old = g.S.Sink.bytes c.args.out.now in
    c.in_ok-mirror.ensures.whole
    ∙ ap (λ (change : Change). append_known old (records_text (change_records 0 c.in_ok-printed.printed.shown.name c.in_ok-printed.printed.shown.columns run.texts change))) told
    ∙ ap (λ (printed : PrintedNode). append_known old (records_text (change_records 0 printed.shown.name printed.shown.columns run.texts (change_of (first_tick run watch.node (cut (slice_of run watch)) 0))))) c.in_ok-printed.ensures
