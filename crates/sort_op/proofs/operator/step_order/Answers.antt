use Rattle.std.proofs.Common.{arith}
use Rattle.tick_model.specs.Updates.{between}
use Rattle.tick_table.specs.Exact.{tick_of}
use Rattle.sort_op.{specs.Sorter.sorted, proofs.StepParts.reads_bounded}
use Rattle.sort_op.proofs.operator.step_order.Goals as goal

pub returns-in_err-edits-clause-reads : goal.returns-in_err-edits-clause-reads
returns-in_err-edits-clause-reads g c =
    reads_bounded c.args.input.now.new.width c.args.reads.now c.edits_of.new.reads c.edits_of.new.reads c.args.input.now.update (between (sorted c.args.order.now.by (tick_of c.args.input.now))) c.edits_of.ensures.reads (omega arith)

pub returns-clause-reads : goal.returns-clause-reads
returns-clause-reads g c =
    reads_bounded c.args.input.now.new.width c.args.reads.now c.edits_of.new.reads c.edited.new.reads c.args.input.now.update (between (sorted c.args.order.now.by (tick_of c.args.input.now))) c.edits_of.ensures.reads c.edited.ensures.reads
