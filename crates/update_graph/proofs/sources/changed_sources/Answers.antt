use Rattle.std.proofs.Common.{arith, length, get_or}
use Rattle.std.{specs.Iterator.Adapters.{zip_first, zip_second}, proofs.lemmas.Iterator.YieldsList-from_zip, proofs.lemmas.Iterator.Adapters.YieldsList-from_vec, proofs.lemmas.Iterator.Consumers.{YieldsList-turn, YieldsList-end}, proofs.lemmas.List.length_push}
use Rattle.tick_laws.{proofs.LawfulSources.lawful_tables, proofs.SourceTicks.source_tick}
use Rattle.tick_model.specs.Sources.{source_ticks, no_tick}
use Rattle.update_graph.proofs.Changing.{all_turned, change_fits, change_lawful, length_pairs, turn_at, turned}
use Rattle.update_graph.proofs.sources.changed_sources.Goals as goal

pub change_table-requires-clause-lawful : goal.change_table-requires-clause-lawful
change_table-requires-clause-lawful c =
    let s = c.into_iter-source-iterator.result in
    let turn = YieldsList-turn (YieldsList-from_zip (YieldsList-from_vec {s = zip_first s} c.args.sources.items (cc) (cc)) (YieldsList-from_vec {s = zip_second s} c.args.changes.items (cc) (cc)))
    c.loop-source.yielded c.loop-source.source-iterator c.loop-source.yielded_by c.next.result c.next.new.self (c.in-Some.source, c.in-Some.change) c.in-Some.is c.next.ensures.steps in
    let t = turn_at (source_ticks c.args.context.now.run.now c.args.context.now.step) c.args.sources.items c.args.changes.items c.requires.sources c.requires.changes (length c.loop-source.yielded) (c.in-Some.source, c.in-Some.change) turn.0 turn.1 in
    change_lawful _ (source_tick c.args.context.now.run.now (lawful_tables c.args.context.now.run.now c.requires.entered.lawful) c.args.context.now.step c.requires.entered.batches (length c.loop-source.yielded)) _ t.old _ t.own

pub change_table-requires-clause-whole : goal.change_table-requires-clause-whole
change_table-requires-clause-whole c =
    let s = c.into_iter-source-iterator.result in
    let turn = YieldsList-turn (YieldsList-from_zip (YieldsList-from_vec {s = zip_first s} c.args.sources.items (cc) (cc)) (YieldsList-from_vec {s = zip_second s} c.args.changes.items (cc) (cc)))
    c.loop-source.yielded c.loop-source.source-iterator c.loop-source.yielded_by c.next.result c.next.new.self (c.in-Some.source, c.in-Some.change) c.in-Some.is c.next.ensures.steps in
    let t = turn_at (source_ticks c.args.context.now.run.now c.args.context.now.step) c.args.sources.items c.args.changes.items c.requires.sources c.requires.changes (length c.loop-source.yielded) (c.in-Some.source, c.in-Some.change) turn.0 turn.1 in
    change_fits _ (source_tick c.args.context.now.run.now (lawful_tables c.args.context.now.run.now c.requires.entered.lawful) c.args.context.now.step c.requires.entered.batches (length c.loop-source.yielded)) _ t.old _ t.own

pub loop-source-preserved : goal.loop-source-preserved
loop-source-preserved c =
    let s = c.into_iter-source-iterator.result in
    let k = length c.loop-source.yielded in
    let ticks = source_ticks c.args.context.now.run.now c.args.context.now.step in
    let turn = YieldsList-turn (YieldsList-from_zip (YieldsList-from_vec {s = zip_first s} c.args.sources.items (cc) (cc)) (YieldsList-from_vec {s = zip_second s} c.args.changes.items (cc) (cc)))
    c.loop-source.yielded c.loop-source.source-iterator c.loop-source.yielded_by c.next.result c.next.new.self (c.in-Some.source, c.in-Some.change) c.in-Some.is c.next.ensures.steps in
    let t = turn_at ticks c.args.sources.items c.args.changes.items c.requires.sources c.requires.changes k (c.in-Some.source, c.in-Some.change) turn.0 turn.1 in
    let own = c.in_ok-change_table.ensures (get_or ticks k no_tick) (source_tick c.args.context.now.run.now (lawful_tables c.args.context.now.run.now c.requires.entered.lawful) c.args.context.now.step c.requires.entered.batches k) t.old t.own in
    turned ticks k _ c.loop-source.changed.items c.push.new.self.items c.change_table.new.table t.within (length_push c.loop-source.yielded _) c.in_ok-push.ensures.items c.loop-source.invariant own

pub returns : goal.returns
returns c =
    let s = c.into_iter-source-iterator.result in
    let ticks = source_ticks c.args.context.now.run.now c.args.context.now.step in
    let ended = YieldsList-end (YieldsList-from_zip (YieldsList-from_vec {s = zip_first s} c.args.sources.items (cc) (cc)) (YieldsList-from_vec {s = zip_second s} c.args.changes.items (cc) (cc)))
    c.loop-source.yielded c.loop-source.source-iterator c.loop-source.yielded_by c.next.result c.next.new.self c.in-None.is c.next.ensures.steps in
    let all = ended.1 in
    let pairs = length_pairs ticks c.args.sources.items c.args.changes.items c.requires.sources c.requires.changes in
    all_turned ticks (length c.loop-source.yielded) c.loop-source.changed.items (omega arith) c.loop-source.invariant
