use Rattle.std.proofs.Common.{◌∷◌, [], ◌∙◌, Ok, Err, Some, sym, ap, subst, arith}
use Rattle.std.{proofs.lemmas.Result.err_from_is_err_and, specs.Prelude.option_map}
use Rattle.tick_model.specs.declared.feed.Run.{Run}
use Rattle.script_reader.specs.Plain.{plain_plan, plain_script}
use Rattle.feed_reader.{specs.declared.raw.RawFeed.RawFeed, specs.Assembled.{plain_run, run_of}}
use Rattle.feed_run.{specs.Found.{Found, after}, specs.Headline.{IsOneOf, LoadFailed}, specs.Readings.feed_in, specs.Stops.Reads, proofs.StopLemmas.reads_stopped, proofs.ScriptLemmas.{few_nodes, few_columns, feed_found_plain, nodes_kept, run_is_plain, run_lawful}}
use Rattle.feed_run.proofs.run.read_feed_run.Goals as goal

pub load_feed-requires : goal.load_feed-requires
load_feed-requires g c = let few = few_nodes c.requires.script.0 c.args.script c.requires.script.1 in omega (arith, few)

pub assemble-requires : goal.assemble-requires
assemble-requires g c = few_columns c.requires.script.0 c.args.script c.requires.script.1

pub returns-in_err-feed-clause-reads : goal.returns-in_err-feed-clause-reads
returns-in_err-feed-clause-reads g c =
    let content = g.I.Inputs.content c.args.inputs.now c.args.feed_name.now in
    let failed = LoadFailed g.I.Inputs.failures c.args.inputs.now c.load_feed.new.inputs in
    let read = IsOneOf (c.args.feed_name.now ∷ []) in
    let next : RawFeed → Found Run = λ feed. Some (Ok (run_of (plain_script c.args.script) c.args.tables feed)) in
    let p = err_from_is_err_and c.from_residual.result c.from_residual.ensures.1 in
    rw (p.1, p.2)
    (reads_stopped g.I.Inputs.told failed read read (option_map (feed_in (plain_plan c.args.script.plan)) content) next (λ (feed : RawFeed). feed) plain_run c.in_err-feed.field-0.0
    (subst (λ (found : Found RawFeed). Reads g.I.Inputs.told failed read found (λ (feed : RawFeed). feed) (Err c.in_err-feed.field-0.0)) (sym (feed_found_plain c.args.script.plan content)) c.in_err-feed.ensures.reads)
    (λ name t is. is))

pub returns-clause-reads : goal.returns-clause-reads
returns-clause-reads g c = λ t.
    let content = g.I.Inputs.content c.args.inputs.now c.args.feed_name.now in
    let next : RawFeed → Found Run = λ feed. Some (Ok (run_of (plain_script c.args.script) c.args.tables feed)) in
    ap (λ (found : Found RawFeed). after found next) (feed_found_plain c.args.script.plan content ∙ c.in_ok-feed.ensures.reads t)
    ∙ ap (λ (run : Run). let found : Found Run = Some (Ok run) in found) (run_is_plain c.args.script c.args.tables c.in_ok-feed.feed c.in_ok-assembled.assembled (c.in_ok-assembled.ensures))

pub returns-clause-lawful : goal.returns-clause-lawful
returns-clause-lawful g c =
    run_lawful c.args.script c.args.tables c.in_ok-feed.feed c.in_ok-assembled.assembled (c.in_ok-assembled.ensures) c.requires.script.0 (c.in_ok-feed.ensures.feed).0 c.requires.script.1 c.requires.tables (c.in_ok-feed.ensures.feed).1 c.texts_are_few.ensures

pub returns-clause-nodes : goal.returns-clause-nodes
returns-clause-nodes g c = nodes_kept c.args.script c.args.tables c.in_ok-feed.feed c.in_ok-assembled.assembled c.in_ok-assembled.ensures
