use Rattle.std.proofs.Common.{refl, inl}
use Rattle.tick_io.specs.Counts.{Rose}
use Rattle.feed_run.{specs.Headline.{IsOneOf, LoadFailed, NoLoadFailed}, specs.Readings.{files_read, run_found}, proofs.AskLemmas.{asked_all, asked_until}, proofs.CommandEnds.{demo_asked, demo_ends, files_asked, files_end, watch_asked, watch_ends}, proofs.ProgramLemmas.{run_ends, stop_ends}, proofs.Statuses.{any_status, run_status, stop_status, summary_status, watch_status}}
use Rattle.feed_run.proofs.program.run_task.Goals as goal

pub returns-in-Demo-clause-answers : goal.returns-in-Demo-clause-answers
returns-in-Demo-clause-answers g c =
    demo_ends g.I.Inputs.told (LoadFailed g.I.Inputs.failures c.args.inputs.now c.args.inputs.now) (Rose (g.S.Sink.failures c.args.out.now) (g.S.Sink.failures c.demo.new.out)) (g.S.Sink.bytes c.args.out.now) (g.S.Sink.bytes c.demo.new.out) c.demo.result
    (g.I.Inputs.content c.args.inputs.now) c.args.knobs.now c.args.every c.args.task.now c.in-Demo.steps c.in-Demo.is c.demo.ensures.ends

pub returns-in-Demo-clause-status : goal.returns-in-Demo-clause-status
returns-in-Demo-clause-status g c = inl (summary_status (Rose (g.S.Sink.failures c.args.out.now) (g.S.Sink.failures c.demo.new.out)) (g.S.Sink.bytes c.args.out.now) (g.S.Sink.bytes c.demo.new.out) c.demo.result c.in-Demo.steps c.demo.ensures.ends)

pub returns-in-Watch-clause-answers : goal.returns-in-Watch-clause-answers
returns-in-Watch-clause-answers g c =
    watch_ends g.I.Inputs.told (LoadFailed g.I.Inputs.failures c.args.inputs.now c.watch.new.inputs) (Rose (g.S.Sink.failures c.args.out.now) (g.S.Sink.failures c.watch.new.out)) (g.S.Sink.bytes c.args.out.now) (g.S.Sink.bytes c.watch.new.out) c.watch.result
    (g.I.Inputs.content c.args.inputs.now) c.args.knobs.now c.args.every c.args.task.now c.in-Watch.script c.in-Watch.feed c.in-Watch.node c.in-Watch.first c.in-Watch.count
    c.as_str-in-Watch.result.now c.as_str-in-Watch-2.result.now c.as_str-in-Watch-3.result.now c.in-Watch.is c.as_str-in-Watch.ensures c.as_str-in-Watch-2.ensures c.as_str-in-Watch-3.ensures c.watch.ensures.answers

pub returns-in-Watch-clause-status : goal.returns-in-Watch-clause-status
returns-in-Watch-clause-status g c =
    watch_status c.args.task.now c.in-Watch.script c.in-Watch.feed c.in-Watch.node c.in-Watch.first c.in-Watch.count c.watch.result c.in-Watch.is (any_status (Rose (g.S.Sink.failures c.args.out.now) (g.S.Sink.failures c.watch.new.out)) (g.S.Sink.bytes c.args.out.now) (g.S.Sink.bytes c.watch.new.out) c.watch.result g.I.Inputs.told _ _ _ c.watch.ensures.answers)

pub returns-in-Err-clause-answers : goal.returns-in-Err-clause-answers
returns-in-Err-clause-answers g c =
    let content = g.I.Inputs.content c.args.inputs.now in
    let told = g.I.Inputs.told in
    let knobs = c.args.knobs.now in
    let failed = LoadFailed g.I.Inputs.failures c.args.inputs.now c.read_run.new.inputs in
    let rose = Rose (g.S.Sink.failures c.args.out.now) (g.S.Sink.failures c.report_stop.new.out) in
    let old = g.S.Sink.bytes c.args.out.now in
    let new = g.S.Sink.bytes c.report_stop.new.out in
    let script = c.as_str.result.now in
    let feed = c.as_str-in-Run.result.now in
    files_end told failed rose old new c.report_stop.result content knobs c.args.every c.args.task.now c.in-Run.script c.in-Run.feed script feed c.in-Run.is c.as_str.ensures c.as_str-in-Run.ensures
    (stop_ends told failed (IsOneOf (files_read content script feed)) rose old new c.report_stop.result knobs (run_found content script feed) c.in-Err.stop c.in-Err.ensures.reads c.report_stop.ensures.ends)

pub returns-in-Err-clause-status : goal.returns-in-Err-clause-status
returns-in-Err-clause-status g c = inl (stop_status (Rose (g.S.Sink.failures c.args.out.now) (g.S.Sink.failures c.report_stop.new.out)) (g.S.Sink.bytes c.args.out.now) (g.S.Sink.bytes c.report_stop.new.out) c.report_stop.result c.in-Err.stop c.report_stop.ensures.ends)

pub returns-clause-answers : goal.returns-clause-answers
returns-clause-answers g c =
    let content = g.I.Inputs.content c.args.inputs.now in
    let told = g.I.Inputs.told in
    let knobs = c.args.knobs.now in
    let failed = LoadFailed g.I.Inputs.failures c.args.inputs.now c.read_run.new.inputs in
    let rose = Rose (g.S.Sink.failures c.args.out.now) (g.S.Sink.failures c.run_to_end.new.out) in
    let old = g.S.Sink.bytes c.args.out.now in
    let new = g.S.Sink.bytes c.run_to_end.new.out in
    let script = c.as_str.result.now in
    let feed = c.as_str-in-Run.result.now in
    files_end told failed rose old new c.run_to_end.result content knobs c.args.every c.args.task.now c.in-Run.script c.in-Run.feed script feed c.in-Run.is c.as_str.ensures c.as_str-in-Run.ensures
    (run_ends told failed (IsOneOf (files_read content script feed)) rose old new c.run_to_end.result knobs (run_found content script feed) c.in-Ok.own c.in-Ok.ensures.reads c.run_to_end.ensures.ends)

pub returns-clause-status : goal.returns-clause-status
returns-clause-status g c = inl (run_status (Rose (g.S.Sink.failures c.args.out.now) (g.S.Sink.failures c.run_to_end.new.out)) (g.S.Sink.bytes c.args.out.now) (g.S.Sink.bytes c.run_to_end.new.out) c.run_to_end.result c.in-Ok.own c.args.knobs.now c.run_to_end.ensures.ends)

pub returns-in-Demo-clause-asks : goal.returns-in-Demo-clause-asks
returns-in-Demo-clause-asks g c =
    let asked = g.I.Inputs.asked c.args.inputs.now in
    demo_asked g.I.Inputs.told (g.I.Inputs.content c.args.inputs.now) asked asked (NoLoadFailed g.I.Inputs.failures c.args.inputs.now c.args.inputs.now) c.demo.result c.args.task.now c.in-Demo.steps c.in-Demo.is refl (λ name. refl)

pub returns-in-Watch-clause-asks : goal.returns-in-Watch-clause-asks
returns-in-Watch-clause-asks g c =
    watch_asked g.I.Inputs.told (g.I.Inputs.content c.args.inputs.now) (g.I.Inputs.asked c.args.inputs.now) (g.I.Inputs.asked c.watch.new.inputs) (NoLoadFailed g.I.Inputs.failures c.args.inputs.now c.watch.new.inputs) c.watch.result
    c.args.task.now c.in-Watch.script c.in-Watch.feed c.in-Watch.node c.in-Watch.first c.in-Watch.count
    c.as_str-in-Watch.result.now c.as_str-in-Watch-2.result.now c.as_str-in-Watch-3.result.now c.in-Watch.is c.as_str-in-Watch.ensures c.as_str-in-Watch-2.ensures c.as_str-in-Watch-3.ensures c.watch.ensures.asks

pub returns-in-Err-clause-asks : goal.returns-in-Err-clause-asks
returns-in-Err-clause-asks g c =
    let content = g.I.Inputs.content c.args.inputs.now in
    let told = g.I.Inputs.told in
    let old = g.I.Inputs.asked c.args.inputs.now in
    let new = g.I.Inputs.asked c.read_run.new.inputs in
    let none_failed = NoLoadFailed g.I.Inputs.failures c.args.inputs.now c.read_run.new.inputs in
    let script = c.as_str.result.now in
    let feed = c.as_str-in-Run.result.now in
    files_asked told content old new none_failed c.report_stop.result c.args.task.now c.in-Run.script c.in-Run.feed script feed c.in-Run.is c.as_str.ensures c.as_str-in-Run.ensures
    (asked_until told old new (files_read content script feed) none_failed c.report_stop.result (Rose (g.S.Sink.failures c.args.out.now) (g.S.Sink.failures c.report_stop.new.out)) (g.S.Sink.bytes c.args.out.now) (g.S.Sink.bytes c.report_stop.new.out) c.in-Err.stop c.in-Err.ensures.asks c.in-Err.ensures.steady c.report_stop.ensures.ends)

pub returns-clause-asks : goal.returns-clause-asks
returns-clause-asks g c =
    let content = g.I.Inputs.content c.args.inputs.now in
    let told = g.I.Inputs.told in
    let old = g.I.Inputs.asked c.args.inputs.now in
    let new = g.I.Inputs.asked c.read_run.new.inputs in
    let none_failed = NoLoadFailed g.I.Inputs.failures c.args.inputs.now c.read_run.new.inputs in
    let script = c.as_str.result.now in
    let feed = c.as_str-in-Run.result.now in
    files_asked told content old new none_failed c.run_to_end.result c.args.task.now c.in-Run.script c.in-Run.feed script feed c.in-Run.is c.as_str.ensures c.as_str-in-Run.ensures
    (asked_all told old new (files_read content script feed) none_failed c.run_to_end.result c.in-Ok.ensures.asks c.in-Ok.ensures.steady)
