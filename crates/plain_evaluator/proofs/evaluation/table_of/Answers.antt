use Rattle.std.proofs.Common.{subst}
use Rattle.tick_model.specs.Ready.{table_in}
use Rattle.plain_evaluator.{specs.Gives.Gives, proofs.ReadyOperators.{operator_ready, ready_outcome}}
use Rattle.plain_evaluator.proofs.evaluation.table_of.Goals as goal

pub returns-in_default : goal.returns-in_default
returns-in_default c =
    subst (Gives c.operated.result) (ready_outcome c.args.op.now (table_in c.args.sources.now c.args.place) c.args.tables.now
    (operator_ready c.args.op.now c.args.sources.now c.args.place c.args.tables.now c.in_default.not-Source c.requires)) c.operated.ensures
