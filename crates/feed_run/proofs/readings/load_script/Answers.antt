use Rattle.std.proofs.Common.{ℕ, Ok, Option, subst}
use Rattle.std.specs.Global.{Vec}
use Rattle.script_lines.specs.declared.fault.ScriptKind.TheVariants.{TooLong}
use Rattle.tick_io.specs.Counts.{Rose}
use Rattle.feed_run.{specs.declared.refusal.Refusal.TheVariants.Script, specs.Headline.LoadFailed, specs.Readings.script_in, specs.Stops.Loads, proofs.AskLemmas.on_found, proofs.ScriptLemmas.script_long, proofs.StopLemmas.long_file}
use Rattle.feed_run.proofs.readings.load_script.Goals as goal

pub returns-in-None-clause-reads : goal.returns-in-None-clause-reads
returns-in-None-clause-reads g c =
    let content = g.I.Inputs.content c.args.inputs.now c.args.name.now in
    let rose = Rose (g.I.Inputs.failures c.args.inputs.now c.args.name.now) (g.I.Inputs.failures c.load.new.inputs c.args.name.now) in
    let loads = subst (λ (o : Option (Vec ℕ)). Loads g.I.Inputs.told 1048576 content rose c.args.name.now (Ok o)) c.in-None.is c.in_ok-bytes.ensures.loads in
    λ t. long_file g.I.Inputs.told (LoadFailed g.I.Inputs.failures c.args.inputs.now c.load.new.inputs) 1048576 content script_in (Script 0 TooLong) script_long (loads t)

pub returns-in-Some-clause-steady : goal.returns-in-Some-clause-steady
returns-in-Some-clause-steady g c = on_found c.spelled_script.result c.in_ok-bytes.ensures.steady
