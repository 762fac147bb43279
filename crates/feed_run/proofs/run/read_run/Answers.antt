use Rattle.std.proofs.Common.{◌∙◌}
use Rattle.std.proofs.lemmas.Result.{err_from_is_err_and}
use Rattle.tick_io.proofs.RisingCounts.{rose_earlier}
use Rattle.feed_run.{specs.Headline.LoadFailed, proofs.AskLemmas.on_found_more, proofs.RunLemmas.{script_asked_until, script_asks, script_goes_on, script_stopped}}
use Rattle.feed_run.proofs.run.read_run.Goals as goal

pub returns-in_err-script-clause-reads : goal.returns-in_err-script-clause-reads
returns-in_err-script-clause-reads g c =
    let p = err_from_is_err_and c.from_residual.result c.from_residual.ensures.1 in
    rw (p.1, p.2)
    (script_stopped g.I.Inputs.told (g.I.Inputs.content c.args.inputs.now) c.args.script_name.now c.args.feed_name.now (LoadFailed g.I.Inputs.failures c.args.inputs.now c.load_script.new.inputs) c.in_err-script.field-0.0 c.in_err-script.ensures.reads)

pub returns-clause-reads : goal.returns-clause-reads
returns-clause-reads g c =
    let failures = g.I.Inputs.failures in
    script_goes_on g.I.Inputs.told (g.I.Inputs.content c.args.inputs.now) c.args.script_name.now c.args.feed_name.now
    (LoadFailed failures c.args.inputs.now c.read_plan_run.new.inputs) (LoadFailed failures c.args.inputs.now c.load_script.new.inputs) (LoadFailed failures c.load_script.new.inputs c.read_plan_run.new.inputs)
    c.in_ok-script.script (g.I.Inputs.content c.load_script.new.inputs) c.read_plan_run.result c.in_ok-script.ensures.reads c.in_ok-script.ensures.kept
    (λ name rose. rose_earlier (failures c.args.inputs.now name) (failures c.load_script.new.inputs name) (failures c.read_plan_run.new.inputs name) (c.in_ok-script.ensures.never_falls name) rose)
    c.read_plan_run.ensures.reads

pub returns-in_err-script-clause-asks : goal.returns-in_err-script-clause-asks
returns-in_err-script-clause-asks g c =
    let p = err_from_is_err_and c.from_residual.result c.from_residual.ensures.1 in
    rw (p.1, p.2)
    (script_asked_until g.I.Inputs.told (g.I.Inputs.content c.args.inputs.now) c.args.script_name.now c.args.feed_name.now (LoadFailed g.I.Inputs.failures c.args.inputs.now c.load_script.new.inputs) (g.I.Inputs.asked c.args.inputs.now) (g.I.Inputs.asked c.load_script.new.inputs)
    c.in_err-script.field-0.0 c.in_err-script.ensures.reads c.in_err-script.ensures.asks)

pub returns-clause-asks : goal.returns-clause-asks
returns-clause-asks g c =
    let asked = g.I.Inputs.asked in
    script_asks g.I.Inputs.told (g.I.Inputs.content c.args.inputs.now) c.args.script_name.now c.args.feed_name.now (asked c.args.inputs.now) (asked c.load_script.new.inputs) (asked c.read_plan_run.new.inputs)
    c.in_ok-script.script (g.I.Inputs.content c.load_script.new.inputs) c.read_plan_run.result c.in_ok-script.ensures.reads c.in_ok-script.ensures.asks c.in_ok-script.ensures.kept c.read_plan_run.ensures.asks

pub returns-clause-steady : goal.returns-clause-steady
returns-clause-steady g c =
    on_found_more c.read_plan_run.result (λ later other. later other ∙ c.in_ok-script.ensures.steady other) c.read_plan_run.ensures.steady
