use Rattle.std.proofs.Common.{◌∙◌, ℕ, List, map, refl, sym, inl}
use Rattle.std.{specs.Prelude.{String, string_bytes}, specs.Global.Global}
use Rattle.tick_io.specs.Counts.{Rose}
use Rattle.command_words.specs.Commands.{command}
use Rattle.feed_run.{specs.declared.refusal.Refusal.TheVariants.Usage, specs.declared.refusal.LoadStop.TheVariants.Refused, specs.Headline.{LoadFailed, NoLoadFailed}, proofs.CommandEnds.{command_asked, command_ends, usage_asked, usage_ends}, proofs.CommandLemmas.command_few, proofs.Statuses.{stop_status, words_status}}
use Rattle.feed_run.proofs.program.answer.Goals as goal

abbrev texts : List (String Global) → List (List ℕ)
texts = map (λ (word : String Global). string_bytes word)

pub returns-in-Ok-None-clause-answers : goal.returns-in-Ok-None-clause-answers
returns-in-Ok-None-clause-answers g c =
    usage_ends g.I.Inputs.told (LoadFailed g.I.Inputs.failures c.args.inputs.now c.args.inputs.now) (Rose (g.S.Sink.failures c.args.out.now) (g.S.Sink.failures c.report_stop.new.out)) (g.S.Sink.bytes c.args.out.now) (g.S.Sink.bytes c.report_stop.new.out) c.report_stop.result
    (g.I.Inputs.content c.args.inputs.now) (command (texts c.args.words.now)) (sym c.in-Ok-None.field-0-is ∙ c.in-Ok-None.ensures.command) c.report_stop.ensures.ends

pub returns-in-Ok-None-clause-status : goal.returns-in-Ok-None-clause-status
returns-in-Ok-None-clause-status g c = inl (stop_status (Rose (g.S.Sink.failures c.args.out.now) (g.S.Sink.failures c.report_stop.new.out)) (g.S.Sink.bytes c.args.out.now) (g.S.Sink.bytes c.report_stop.new.out) c.report_stop.result (Refused Usage) c.report_stop.ensures.ends)

pub run_task-requires-clause-numbers : goal.run_task-requires-clause-numbers
run_task-requires-clause-numbers g c κs within =
    command_few (texts c.args.words.now) c.in-Ok-Some.command (sym c.in-Ok-Some.ensures.command ∙ c.in-Ok-Some.field-0-is)

pub returns-clause-answers : goal.returns-clause-answers
returns-clause-answers g c =
    command_ends g.I.Inputs.told (LoadFailed g.I.Inputs.failures c.args.inputs.now c.run_task.new.inputs) (Rose (g.S.Sink.failures c.args.out.now) (g.S.Sink.failures c.run_task.new.out)) (g.S.Sink.bytes c.args.out.now) (g.S.Sink.bytes c.run_task.new.out) c.run_task.result
    (g.I.Inputs.content c.args.inputs.now) (command (texts c.args.words.now)) c.in-Ok-Some.command c.knobs_of-knobs.result (sym c.in-Ok-Some.field-0-is ∙ c.in-Ok-Some.ensures.command) c.knobs_of-knobs.ensures c.run_task.ensures.answers

pub returns-clause-status : goal.returns-clause-status
returns-clause-status g c =
    words_status (texts c.args.words.now) c.in-Ok-Some.command c.run_task.result (sym c.in-Ok-Some.field-0-is ∙ c.in-Ok-Some.ensures.command) c.run_task.ensures.status

pub returns-in-Ok-None-clause-asks : goal.returns-in-Ok-None-clause-asks
returns-in-Ok-None-clause-asks g c =
    let asked = g.I.Inputs.asked c.args.inputs.now in
    usage_asked g.I.Inputs.told (g.I.Inputs.content c.args.inputs.now) asked asked (NoLoadFailed g.I.Inputs.failures c.args.inputs.now c.args.inputs.now) c.report_stop.result
    (command (texts c.args.words.now)) (sym c.in-Ok-None.field-0-is ∙ c.in-Ok-None.ensures.command) refl (λ name. refl)

pub returns-clause-asks : goal.returns-clause-asks
returns-clause-asks g c =
    command_asked g.I.Inputs.told (g.I.Inputs.content c.args.inputs.now) (g.I.Inputs.asked c.args.inputs.now) (g.I.Inputs.asked c.run_task.new.inputs) (NoLoadFailed g.I.Inputs.failures c.args.inputs.now c.run_task.new.inputs) c.run_task.result
    (command (texts c.args.words.now)) c.in-Ok-Some.command (sym c.in-Ok-Some.field-0-is ∙ c.in-Ok-Some.ensures.command) c.run_task.ensures.asks
