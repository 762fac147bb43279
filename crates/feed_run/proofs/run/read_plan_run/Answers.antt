use Rattle.std.proofs.Common.{◌∙◌}
use Rattle.std.proofs.lemmas.Result.{err_from_is_err_and}
use Rattle.tick_io.proofs.RisingCounts.{rose_earlier}
use Rattle.feed_run.{specs.Headline.LoadFailed, proofs.AskLemmas.on_found_more, proofs.RunLemmas.{plan_asked_until, plan_asks, plan_goes_on, plan_stopped}}
use Rattle.feed_run.proofs.run.read_plan_run.Goals as goal

pub returns-in_err-tables-clause-reads : goal.returns-in_err-tables-clause-reads
returns-in_err-tables-clause-reads g c =
    let p = err_from_is_err_and c.from_residual.result c.from_residual.ensures.1 in
    rw (p.1, p.2)
    (plan_stopped g.I.Inputs.told (g.I.Inputs.content c.args.inputs.now) c.args.script c.args.feed_name.now (LoadFailed g.I.Inputs.failures c.args.inputs.now c.load_tables.new.inputs)
    c.as_slice.result.now c.as_slice-2.result.now c.in_err-tables.field-0.0 c.as_slice.ensures c.as_slice-2.ensures c.in_err-tables.ensures.reads)

pub returns-clause-reads : goal.returns-clause-reads
returns-clause-reads g c =
    let failures = g.I.Inputs.failures in
    plan_goes_on g.I.Inputs.told (g.I.Inputs.content c.args.inputs.now) c.args.script c.args.feed_name.now
    (LoadFailed failures c.args.inputs.now c.read_feed_run.new.inputs) (LoadFailed failures c.args.inputs.now c.load_tables.new.inputs) (LoadFailed failures c.load_tables.new.inputs c.read_feed_run.new.inputs)
    c.as_slice.result.now c.as_slice-2.result.now c.in_ok-tables.tables (g.I.Inputs.content c.load_tables.new.inputs) c.read_feed_run.result c.as_slice.ensures c.as_slice-2.ensures c.in_ok-tables.ensures.reads c.in_ok-tables.ensures.kept
    (λ name rose. rose_earlier (failures c.args.inputs.now name) (failures c.load_tables.new.inputs name) (failures c.read_feed_run.new.inputs name) (c.in_ok-tables.ensures.never_falls name) rose)
    c.read_feed_run.ensures.reads

pub returns-in_err-tables-clause-asks : goal.returns-in_err-tables-clause-asks
returns-in_err-tables-clause-asks g c =
    let p = err_from_is_err_and c.from_residual.result c.from_residual.ensures.1 in
    rw (p.1, p.2)
    (plan_asked_until g.I.Inputs.told (g.I.Inputs.content c.args.inputs.now) c.args.script c.args.feed_name.now (LoadFailed g.I.Inputs.failures c.args.inputs.now c.load_tables.new.inputs) (g.I.Inputs.asked c.args.inputs.now) (g.I.Inputs.asked c.load_tables.new.inputs)
    c.as_slice.result.now c.as_slice-2.result.now c.in_err-tables.field-0.0 c.as_slice.ensures c.as_slice-2.ensures c.in_err-tables.ensures.reads c.in_err-tables.ensures.asks)

pub returns-clause-asks : goal.returns-clause-asks
returns-clause-asks g c =
    let asked = g.I.Inputs.asked in
    plan_asks g.I.Inputs.told (g.I.Inputs.content c.args.inputs.now) c.args.script c.args.feed_name.now (LoadFailed g.I.Inputs.failures c.args.inputs.now c.load_tables.new.inputs) (asked c.args.inputs.now) (asked c.load_tables.new.inputs) (asked c.read_feed_run.new.inputs)
    c.as_slice.result.now c.as_slice-2.result.now c.in_ok-tables.tables c.read_feed_run.result c.as_slice.ensures c.as_slice-2.ensures c.in_ok-tables.ensures.reads c.in_ok-tables.ensures.asks c.read_feed_run.ensures.asks

pub returns-clause-steady : goal.returns-clause-steady
returns-clause-steady g c =
    on_found_more c.read_feed_run.result (λ later other. later other ∙ c.in_ok-tables.ensures.steady other) c.read_feed_run.ensures.steady
