use Rattle.std.proofs.Common.{◌≡◌, ◌+◌, ◌∙◌, sym, ap, subst, length}
use Rattle.std.{specs.Prelude.OnErr, specs.Io.KnownBytes.append_known}
use Rattle.tick_io.specs.Written.{AppendsPrefix}
use Rattle.tick_model.{specs.Changes.{Change, change_of}, specs.Slices.slice_tick, specs.Texts.{change_records, records_text}}
use Rattle.viewport.{specs.Slices.cut, specs.Watching.Watching}
use Rattle.replay.{specs.declared.printed.PrintedNode.PrintedNode, proofs.Exits.none_written, proofs.Prints.on_err}
use Rattle.watched_run.{specs.Messages.{message_records, slice_of}, specs.Told.IsMessage, proofs.WatchedRows.{later_made, later_message, starts_again, tells_slice}}
use Rattle.watched_run.proofs.teller.Teller.message.Goals as goal

pub message-requires : goal.message-requires
message-requires g c = ap (λ (watching : Watching). watching.table) c.requires.stands.viewport_is ∙ sym c.requires.table

pub tell-requires-after_bounds : goal.tell-requires-after_bounds
tell-requires-after_bounds g c κs within =
    let run = c.args.run.now in
    let watch = c.args.watch.now in
    let own = c.args.self in
    let told = tells_slice run watch own.last own.since own.viewport c.in_ok-viewport.message c.requires.stands.viewport_is c.in_ok-viewport.ensures.change in
    subst (λ (printed : PrintedNode). IsMessage printed.shown.columns (length run.texts) own.mirror.new c.in_ok-viewport.message) (sym c.requires.stands.printed_is)
    (later_message run c.requires.lawful watch c.requires.watch own.last own.since c.requires.reached own.mirror.new c.in_ok-viewport.message c.requires.stands.mirror_is told)

pub returns-in_err-viewport-clause-prefix : goal.returns-in_err-viewport-clause-prefix
returns-in_err-viewport-clause-prefix g c =
    on_err c.from_residual.result (none_written (g.S.Sink.bytes c.args.out.now) (records_text (message_records c.args.run.now c.args.watch.now c.args.self.last c.args.self.since)))

pub returns-in_err-mirror-clause-prefix : goal.returns-in_err-mirror-clause-prefix
returns-in_err-mirror-clause-prefix g c =
    let run = c.args.run.now in
    let watch = c.args.watch.now in
    let own = c.args.self in
    let told = tells_slice run watch own.last own.since own.viewport c.in_ok-viewport.message c.requires.stands.viewport_is c.in_ok-viewport.ensures.change in
    on_err c.from_residual-in_err-mirror.result
    (subst (λ (change : Change). AppendsPrefix (g.S.Sink.bytes c.args.out.now) (g.S.Sink.bytes c.tell.new.out) (records_text (message_records run watch own.last own.since))) told
    (subst (λ (printed : PrintedNode). AppendsPrefix (g.S.Sink.bytes c.args.out.now) (g.S.Sink.bytes c.tell.new.out) (records_text (change_records (own.last + own.since) printed.shown.name printed.shown.columns run.texts (change_of (slice_tick run watch.node (cut (slice_of run watch)) own.last own.since))))) c.requires.stands.printed_is
    (subst (λ (change : Change). AppendsPrefix (g.S.Sink.bytes c.args.out.now) (g.S.Sink.bytes c.tell.new.out) (records_text (change_records (own.last + own.since) own.printed.shown.name own.printed.shown.columns run.texts change))) told c.in_err-mirror.ensures.prefix)))

pub returns-clause-whole : goal.returns-clause-whole
returns-clause-whole g c =
    let run = c.args.run.now in
    let watch = c.args.watch.now in
    let own = c.args.self in
    let told = tells_slice run watch own.last own.since own.viewport c.in_ok-viewport.message c.requires.stands.viewport_is c.in_ok-viewport.ensures.change in
    c.in_ok-mirror.ensures.whole
    ∙ ap (λ (change : Change). append_known (g.S.Sink.bytes c.args.out.now) (records_text (change_records (own.last + own.since) own.printed.shown.name own.printed.shown.columns run.texts change))) told
    ∙ ap (λ (printed : PrintedNode). append_known (g.S.Sink.bytes c.args.out.now) (records_text (change_records (own.last + own.since) printed.shown.name printed.shown.columns run.texts (change_of (slice_tick run watch.node (cut (slice_of run watch)) own.last own.since))))) c.requires.stands.printed_is

pub returns-clause-stands : goal.returns-clause-stands
returns-clause-stands g c =
    let run = c.args.run.now in
    let watch = c.args.watch.now in
    let own = c.args.self in
    let told = tells_slice run watch own.last own.since own.viewport c.in_ok-viewport.message c.requires.stands.viewport_is c.in_ok-viewport.ensures.change in
    record {
      printed_is = c.requires.stands.printed_is;
      viewport_is = c.in_ok-viewport.ensures.stands
          ∙ starts_again run c.requires.lawful watch c.requires.watch (own.last + own.since) own.viewport.slice c.args.table.now.new c.requires.reached (ap (λ (watching : Watching). watching.slice) c.requires.stands.viewport_is) c.requires.table;
      mirror_is = c.in_ok-mirror.ensures.mirror
          ∙ later_made run c.requires.lawful watch c.requires.watch own.last own.since c.requires.reached own.mirror.new c.in_ok-viewport.message c.requires.stands.mirror_is told;
    }
