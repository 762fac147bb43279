use Rattle.std.proofs.Common.{◌≡◌, ◌∙◌, sym, ap, subst, List, length, ℕ}
use Rattle.std.{specs.Prelude.{IfOk, OnErr, OnOk}, specs.Io.KnownBytes.append_known}
use Rattle.tick_io.specs.Written.{AppendsPrefix}
use Rattle.tick_model.{specs.Printable.IsPrintable, specs.Texts.{columns_at, records_text}}
use Rattle.tick_table.specs.Ticking.{Ticking}
use Rattle.update_text.specs.Told.{told_change}
use Rattle.replay.{specs.declared.printed.PrintedNode.PrintedNode, proofs.Prints.{shown_is, told_printable, width_is}}
use Rattle.replay.proofs.writing.write_node.Goals as goal

pub write_update-requires-clause-width : goal.write_update-requires-clause-width
write_update-requires-clause-width g c κs within =
    let at = c.step-step.ensures in
    ap (λ (table : Ticking). table.new.width) c.table-table.ensures
    ∙ width_is c.args.graph.now.run at.lawful c.args.graph.now.step at.reached c.args.printed.now.node c.requires.node
    ∙ ap (λ (printed : PrintedNode). length printed.shown.columns) (sym c.requires.shown)

pub write_update-requires-clause-printable : goal.write_update-requires-clause-printable
write_update-requires-clause-printable g c κs within =
    let at = c.step-step.ensures in
    let run = c.args.graph.now.run in
    let table = c.table-table.result.now in
    subst (λ (printed : PrintedNode). IsPrintable printed.shown.columns c.args.texts.now (told_change table)) (sym c.requires.shown)
    (subst (λ (texts : List (List ℕ)). IsPrintable (columns_at run c.args.printed.now.node) texts (told_change table)) (sym c.requires.texts)
    (subst (λ (ticking : Ticking). IsPrintable (columns_at run c.args.printed.now.node) run.texts (told_change ticking)) (sym c.table-table.ensures)
    (told_printable run at.lawful c.args.graph.now.step at.reached c.args.printed.now.node c.requires.node)))

pub returns-clause-count : goal.returns-clause-count
returns-clause-count g c =
    let run = c.args.graph.now.run in
    let printed = c.args.printed.now in
    subst (λ (records : List (List (List ℕ))). IfOk c.write_update.result (λ count. count ≡ length records))
    (shown_is run c.args.graph.now.step c.step-step.result printed.node printed.shown c.args.texts.now c.table-table.result.now c.step-step.ensures.step
    (ap (λ (of : PrintedNode). of.shown) c.requires.shown) c.requires.texts c.table-table.ensures)
    c.write_update.ensures.count

pub returns-clause-whole : goal.returns-clause-whole
returns-clause-whole g c =
    let run = c.args.graph.now.run in
    let printed = c.args.printed.now in
    subst (λ (records : List (List (List ℕ))). OnOk c.write_update.result (g.S.Sink.bytes c.write_update.new.sink ≡ append_known (g.S.Sink.bytes c.args.out.now) (records_text records)))
    (shown_is run c.args.graph.now.step c.step-step.result printed.node printed.shown c.args.texts.now c.table-table.result.now c.step-step.ensures.step
    (ap (λ (of : PrintedNode). of.shown) c.requires.shown) c.requires.texts c.table-table.ensures)
    c.write_update.ensures.whole

pub returns-clause-err : goal.returns-clause-err
returns-clause-err g c =
    let run = c.args.graph.now.run in
    let printed = c.args.printed.now in
    subst (λ (records : List (List (List ℕ))). OnErr c.write_update.result (AppendsPrefix (g.S.Sink.bytes c.args.out.now) (g.S.Sink.bytes c.write_update.new.sink) (records_text records)))
    (shown_is run c.args.graph.now.step c.step-step.result printed.node printed.shown c.args.texts.now c.table-table.result.now c.step-step.ensures.step
    (ap (λ (of : PrintedNode). of.shown) c.requires.shown) c.requires.texts c.table-table.ensures)
    c.write_update.ensures.err
