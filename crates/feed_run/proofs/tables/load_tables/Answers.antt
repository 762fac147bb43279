use Rattle.std.proofs.Common.{refl}
use Rattle.std.proofs.lemmas.Result.{err_from_is_err_and}
use Rattle.tick_model.specs.LawfulRuns.{sources_of}
use Rattle.feed_run.{specs.Readings.tables_read, proofs.AskLemmas.some_of_none}
use Rattle.feed_run.proofs.tables.load_tables.Goals as goal

pub returns-in_err-sources-clause-asks : goal.returns-in_err-sources-clause-asks
returns-in_err-sources-clause-asks g c =
    let asked = g.I.Inputs.asked c.args.inputs.now in
    let p = err_from_is_err_and c.from_residual.result c.from_residual.ensures.1 in
    rw (p.1, p.2) (λ t. some_of_none asked asked (tables_read (g.I.Inputs.content c.args.inputs.now) (sources_of c.args.nodes.now) c.args.files.now) refl)
