use Rattle.std.proofs.Common.{◌+◌}
use Rattle.std.proofs.lemmas.Result.{err_from_is_err_and}
use Rattle.replay.{proofs.Reaching.good_more, proofs.Spoils.{past_is_cause, past_no_write, past_there, stop_is_cause, stop_no_write, within_there}}
use Rattle.replay.proofs.publishing.next_put.Goals as goal

pub returns-in_err-graph-clause-cause : goal.returns-in_err-graph-clause-cause
returns-in_err-graph-clause-cause g c =
    let p = err_from_is_err_and c.from_residual.result c.from_residual.ensures.1 in
    rw (p.1, p.2) (stop_is_cause c.args.run.now (c.args.graph.step + 1) c.in_err-graph.field-0.0 c.in_err-graph.ensures.cause)

pub returns-in_err-put_tables-clause-cause : goal.returns-in_err-put_tables-clause-cause
returns-in_err-put_tables-clause-cause g c =
    let p = err_from_is_err_and c.from_residual-in_err-put_tables.result c.from_residual-in_err-put_tables.ensures.1 in
    let made = c.in_ok-graph.ensures in
    rw (p.1, p.2) (λ told.
    past_is_cause c.args.run.now (c.args.graph.step + 1) c.in_err-put_tables.field-0.0 made.batch made.nodes
    (past_there c.args.run.now (c.args.graph.step + 1) _ _ c.in_err-put_tables.field-0.0 made.run made.step c.in_err-put_tables.ensures.past))

pub returns-clause-good : goal.returns-clause-good
returns-clause-good g c =
    let made = c.in_ok-graph.ensures in
    good_more c.args.run.now c.args.graph.step c.requires.good made.batch made.nodes (within_there c.args.run.now (c.args.graph.step + 1) _ _ made.run made.step c.in_ok-put_tables.ensures.within)

pub returns-in_err-graph-clause-no_write : goal.returns-in_err-graph-clause-no_write
returns-in_err-graph-clause-no_write g c is =
    let p = err_from_is_err_and c.from_residual.result c.from_residual.ensures.1 in
    stop_no_write c.in_err-graph.field-0.0 (cc)

pub returns-in_err-put_tables-clause-no_write : goal.returns-in_err-put_tables-clause-no_write
returns-in_err-put_tables-clause-no_write g c is =
    let p = err_from_is_err_and c.from_residual-in_err-put_tables.result c.from_residual-in_err-put_tables.ensures.1 in
    past_no_write c.in_ok-graph.graph.run c.in_ok-graph.graph.step c.in_err-put_tables.field-0.0 c.in_err-put_tables.ensures.past (cc)
