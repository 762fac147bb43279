use Rattle.std.proofs.Common.{◌∙◌, sym, arith, Ok, Err}
use Rattle.tick_io.{specs.Counts.Rose, proofs.RisingCounts.rose_earlier}
use Rattle.feed_run.{specs.Headline.{LoadFailed, NoLoadFailed}, specs.Verdicts.{watch_files, watch_of}, specs.Wholes.unnamed_record, proofs.AskLemmas.{asked_all, asked_until, on_refused_more}, proofs.ScriptLemmas.few_nodes, proofs.WatchLemmas.{named_asks, plan_stops, reads_there, script_asked, script_stops, unnamed_asked, unnamed_ends, watched_ends}}
use Rattle.feed_run.proofs.watching.watch.Goals as goal

pub node_named-requires : goal.node_named-requires
node_named-requires g c = let few = few_nodes c.in-Ok.ensures.script.0 c.in-Ok.script c.in-Ok.ensures.script.1 in omega (arith, few)

pub returns-in-Err-clause-answers : goal.returns-in-Err-clause-answers
returns-in-Err-clause-answers g c =
    let asked = c.args.asked in
    script_stops g.I.Inputs.told (LoadFailed g.I.Inputs.failures c.args.inputs.now c.load_script.new.inputs) (Rose (g.S.Sink.failures c.args.out.now) (g.S.Sink.failures c.report_stop.new.out)) (g.S.Sink.bytes c.args.out.now) (g.S.Sink.bytes c.report_stop.new.out) c.report_stop.result
    (g.I.Inputs.content c.args.inputs.now) (watch_of asked.first asked.count asked.every) asked.script.now asked.feed.now asked.name.now c.in-Err.stop c.in-Err.ensures.reads c.report_stop.ensures.ends

pub returns-in_default-clause-answers : goal.returns-in_default-clause-answers
returns-in_default-clause-answers g c =
    let asked = c.args.asked in
    unnamed_ends g.I.Inputs.told (LoadFailed g.I.Inputs.failures c.args.inputs.now c.load_script.new.inputs) (Rose (g.S.Sink.failures c.args.out.now) (g.S.Sink.failures c.report.new.out)) (g.S.Sink.bytes c.args.out.now) (g.S.Sink.bytes c.report.new.out) c.report.result
    (g.I.Inputs.content c.args.inputs.now) (watch_of asked.first asked.count asked.every) asked.script.now asked.feed.now asked.name.now c.in-Ok.script c.in-Ok.ensures.reads
    (sym c.node_named.ensures.named ∙ c.in_default.is) (c.report.ensures.ends (unnamed_record asked.name.now) c.unnamed_record.ensures)

pub returns-in-Err-read_plan_run-clause-answers : goal.returns-in-Err-read_plan_run-clause-answers
returns-in-Err-read_plan_run-clause-answers g c =
    let asked = c.args.asked in
    let failures = g.I.Inputs.failures in
    let content = g.I.Inputs.content c.args.inputs.now in
    plan_stops g.I.Inputs.told (LoadFailed failures c.args.inputs.now c.read_plan_run.new.inputs) (Rose (g.S.Sink.failures c.args.out.now) (g.S.Sink.failures c.report_stop-in-Err-read_plan_run.new.out)) (g.S.Sink.bytes c.args.out.now) (g.S.Sink.bytes c.report_stop-in-Err-read_plan_run.new.out) c.report_stop-in-Err-read_plan_run.result
    content (watch_of asked.first asked.count asked.every) asked.script.now asked.feed.now asked.name.now c.in-Ok.script c.in-Ok.ensures.reads c.in-Some.node c.in-Err-read_plan_run.stop
    (sym c.node_named.ensures.named ∙ c.in-Some.is)
    (reads_there g.I.Inputs.told (LoadFailed failures c.load_script.new.inputs c.read_plan_run.new.inputs) (LoadFailed failures c.args.inputs.now c.read_plan_run.new.inputs) content (g.I.Inputs.content c.load_script.new.inputs) c.in-Ok.script asked.feed.now (Err c.in-Err-read_plan_run.stop) c.in-Ok.ensures.kept
    (λ name rose. rose_earlier (failures c.args.inputs.now name) (failures c.load_script.new.inputs name) (failures c.read_plan_run.new.inputs name) (c.in-Ok.ensures.never_falls name) rose) c.in-Err-read_plan_run.ensures.reads)
    c.report_stop-in-Err-read_plan_run.ensures.ends

pub returns-clause-answers : goal.returns-clause-answers
returns-clause-answers g c =
    let asked = c.args.asked in
    let failures = g.I.Inputs.failures in
    let content = g.I.Inputs.content c.args.inputs.now in
    watched_ends g.I.Inputs.told (LoadFailed failures c.args.inputs.now c.read_plan_run.new.inputs) (Rose (g.S.Sink.failures c.args.out.now) (g.S.Sink.failures c.watch_to_end.new.out)) (g.S.Sink.bytes c.args.out.now) (g.S.Sink.bytes c.watch_to_end.new.out) c.watch_to_end.result
    content (watch_of asked.first asked.count asked.every) asked.script.now asked.feed.now asked.name.now c.in-Ok.script c.in-Ok.ensures.reads c.in-Some.node c.in-Ok-read_plan_run.run'
    (sym c.node_named.ensures.named ∙ c.in-Some.is)
    (reads_there g.I.Inputs.told (LoadFailed failures c.load_script.new.inputs c.read_plan_run.new.inputs) (LoadFailed failures c.args.inputs.now c.read_plan_run.new.inputs) content (g.I.Inputs.content c.load_script.new.inputs) c.in-Ok.script asked.feed.now (Ok c.in-Ok-read_plan_run.run') c.in-Ok.ensures.kept
    (λ name rose. rose_earlier (failures c.args.inputs.now name) (failures c.load_script.new.inputs name) (failures c.read_plan_run.new.inputs name) (c.in-Ok.ensures.never_falls name) rose) c.in-Ok-read_plan_run.ensures.reads)
    c.watch_to_end.ensures.ends

pub returns-in-Err-clause-asks : goal.returns-in-Err-clause-asks
returns-in-Err-clause-asks g c =
    let asked = c.args.asked in
    let content = g.I.Inputs.content c.args.inputs.now in
    let old = g.I.Inputs.asked c.args.inputs.now in
    let new = g.I.Inputs.asked c.load_script.new.inputs in
    asked_until g.I.Inputs.told old new (watch_files content asked.script.now asked.feed.now asked.name.now) (NoLoadFailed g.I.Inputs.failures c.args.inputs.now c.load_script.new.inputs) c.report_stop.result (Rose (g.S.Sink.failures c.args.out.now) (g.S.Sink.failures c.report_stop.new.out)) (g.S.Sink.bytes c.args.out.now) (g.S.Sink.bytes c.report_stop.new.out) c.in-Err.stop
    (script_asked g.I.Inputs.told content asked.script.now asked.feed.now asked.name.now old (LoadFailed g.I.Inputs.failures c.args.inputs.now c.load_script.new.inputs) new c.in-Err.stop c.in-Err.ensures.reads c.in-Err.ensures.asks)
    c.in-Err.ensures.steady c.report_stop.ensures.ends

pub returns-in_default-clause-asks : goal.returns-in_default-clause-asks
returns-in_default-clause-asks g c =
    let asked = c.args.asked in
    let content = g.I.Inputs.content c.args.inputs.now in
    let old = g.I.Inputs.asked c.args.inputs.now in
    let new = g.I.Inputs.asked c.load_script.new.inputs in
    asked_all g.I.Inputs.told old new (watch_files content asked.script.now asked.feed.now asked.name.now) (NoLoadFailed g.I.Inputs.failures c.args.inputs.now c.load_script.new.inputs) c.report.result
    (unnamed_asked g.I.Inputs.told content asked.script.now asked.feed.now asked.name.now old c.in-Ok.script c.in-Ok.ensures.reads new (sym c.node_named.ensures.named ∙ c.in_default.is) c.in-Ok.ensures.asks)
    c.in-Ok.ensures.steady

pub returns-in-Err-read_plan_run-clause-asks : goal.returns-in-Err-read_plan_run-clause-asks
returns-in-Err-read_plan_run-clause-asks g c =
    let asked = c.args.asked in
    let content = g.I.Inputs.content in
    let old = g.I.Inputs.asked c.args.inputs.now in
    let new = g.I.Inputs.asked c.read_plan_run.new.inputs in
    let stop = c.in-Err-read_plan_run.stop in
    asked_until g.I.Inputs.told old new (watch_files (content c.args.inputs.now) asked.script.now asked.feed.now asked.name.now) (NoLoadFailed g.I.Inputs.failures c.args.inputs.now c.read_plan_run.new.inputs) c.report_stop-in-Err-read_plan_run.result (Rose (g.S.Sink.failures c.args.out.now) (g.S.Sink.failures c.report_stop-in-Err-read_plan_run.new.out)) (g.S.Sink.bytes c.args.out.now) (g.S.Sink.bytes c.report_stop-in-Err-read_plan_run.new.out) stop
    (named_asks g.I.Inputs.told (content c.args.inputs.now) asked.script.now asked.feed.now asked.name.now old c.in-Ok.script c.in-Ok.ensures.reads (g.I.Inputs.asked c.load_script.new.inputs) new c.in-Some.node (content c.load_script.new.inputs) (Err stop)
    (sym c.node_named.ensures.named ∙ c.in-Some.is) c.in-Ok.ensures.asks c.in-Ok.ensures.kept c.in-Err-read_plan_run.ensures.asks)
    (on_refused_more stop (λ later other. later other ∙ c.in-Ok.ensures.steady other) c.in-Err-read_plan_run.ensures.steady) c.report_stop-in-Err-read_plan_run.ensures.ends

pub returns-clause-asks : goal.returns-clause-asks
returns-clause-asks g c =
    let asked = c.args.asked in
    let content = g.I.Inputs.content in
    let old = g.I.Inputs.asked c.args.inputs.now in
    let new = g.I.Inputs.asked c.read_plan_run.new.inputs in
    asked_all g.I.Inputs.told old new (watch_files (content c.args.inputs.now) asked.script.now asked.feed.now asked.name.now) (NoLoadFailed g.I.Inputs.failures c.args.inputs.now c.read_plan_run.new.inputs) c.watch_to_end.result
    (named_asks g.I.Inputs.told (content c.args.inputs.now) asked.script.now asked.feed.now asked.name.now old c.in-Ok.script c.in-Ok.ensures.reads (g.I.Inputs.asked c.load_script.new.inputs) new c.in-Some.node (content c.load_script.new.inputs) (Ok c.in-Ok-read_plan_run.run')
    (sym c.node_named.ensures.named ∙ c.in-Some.is) c.in-Ok.ensures.asks c.in-Ok.ensures.kept c.in-Ok-read_plan_run.ensures.asks)
    (λ other. c.in-Ok-read_plan_run.ensures.steady other ∙ c.in-Ok.ensures.steady other)
