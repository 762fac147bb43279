use Rattle.table_operator.specs.Inputs.{tables}
use Rattle.operators.{specs.declared.running.AnyOperator.TheVariants.{Where, Agg, Head, Tail}, proofs.Stepped.{as_change, as_reads}}
use Rattle.operators.proofs.running.AnyOperatorTableOperator.advance.Goals as goal

pub returns-in_ok-filter-in-Where-clause-change : goal.returns-in_ok-filter-in-Where-clause-change
returns-in_ok-filter-in-Where-clause-change g c = as_change c.args.self (Where c.in-Where.filter) c.in-Where.is (tables c.args.inputs.now) c.in_ok-filter-in-Where.change c.in_ok-filter-in-Where.ensures.change

pub returns-in_ok-filter-in-Where-clause-reads : goal.returns-in_ok-filter-in-Where-clause-reads
returns-in_ok-filter-in-Where-clause-reads g c = as_reads c.args.self (Where c.in-Where.filter) c.in-Where.is (tables c.args.inputs.now) c.advance.new.reads c.args.reads.now c.in_ok-filter-in-Where.ensures.reads

pub returns-in_err-filter-in-Where-clause-reads : goal.returns-in_err-filter-in-Where-clause-reads
returns-in_err-filter-in-Where-clause-reads g c = as_reads c.args.self (Where c.in-Where.filter) c.in-Where.is (tables c.args.inputs.now) c.advance.new.reads c.args.reads.now c.in_err-filter-in-Where.ensures.reads

pub returns-in_ok-agg-in-Agg-clause-change : goal.returns-in_ok-agg-in-Agg-clause-change
returns-in_ok-agg-in-Agg-clause-change g c = as_change c.args.self (Agg c.in-Agg.agg) c.in-Agg.is (tables c.args.inputs.now) c.in_ok-agg-in-Agg.change c.in_ok-agg-in-Agg.ensures.change

pub returns-in_ok-agg-in-Agg-clause-reads : goal.returns-in_ok-agg-in-Agg-clause-reads
returns-in_ok-agg-in-Agg-clause-reads g c = as_reads c.args.self (Agg c.in-Agg.agg) c.in-Agg.is (tables c.args.inputs.now) c.advance-in-Agg.new.reads c.args.reads.now c.in_ok-agg-in-Agg.ensures.reads

pub returns-in_err-agg-in-Agg-clause-reads : goal.returns-in_err-agg-in-Agg-clause-reads
returns-in_err-agg-in-Agg-clause-reads g c = as_reads c.args.self (Agg c.in-Agg.agg) c.in-Agg.is (tables c.args.inputs.now) c.advance-in-Agg.new.reads c.args.reads.now c.in_err-agg-in-Agg.ensures.reads

pub returns-in_ok-head-in-Head-clause-change : goal.returns-in_ok-head-in-Head-clause-change
returns-in_ok-head-in-Head-clause-change g c = as_change c.args.self (Head c.in-Head.head) c.in-Head.is (tables c.args.inputs.now) c.in_ok-head-in-Head.change c.in_ok-head-in-Head.ensures.change

pub returns-in_ok-head-in-Head-clause-reads : goal.returns-in_ok-head-in-Head-clause-reads
returns-in_ok-head-in-Head-clause-reads g c = as_reads c.args.self (Head c.in-Head.head) c.in-Head.is (tables c.args.inputs.now) c.advance-in-Head.new.reads c.args.reads.now c.in_ok-head-in-Head.ensures.reads

pub returns-in_err-head-in-Head-clause-reads : goal.returns-in_err-head-in-Head-clause-reads
returns-in_err-head-in-Head-clause-reads g c = as_reads c.args.self (Head c.in-Head.head) c.in-Head.is (tables c.args.inputs.now) c.advance-in-Head.new.reads c.args.reads.now c.in_err-head-in-Head.ensures.reads

pub returns-in_ok-tail-in-Tail-clause-change : goal.returns-in_ok-tail-in-Tail-clause-change
returns-in_ok-tail-in-Tail-clause-change g c = as_change c.args.self (Tail c.in-Tail.tail) c.in-Tail.is (tables c.args.inputs.now) c.in_ok-tail-in-Tail.change c.in_ok-tail-in-Tail.ensures.change

pub returns-in_ok-tail-in-Tail-clause-reads : goal.returns-in_ok-tail-in-Tail-clause-reads
returns-in_ok-tail-in-Tail-clause-reads g c = as_reads c.args.self (Tail c.in-Tail.tail) c.in-Tail.is (tables c.args.inputs.now) c.advance-in-Tail.new.reads c.args.reads.now c.in_ok-tail-in-Tail.ensures.reads

pub returns-in_err-tail-in-Tail-clause-reads : goal.returns-in_err-tail-in-Tail-clause-reads
returns-in_err-tail-in-Tail-clause-reads g c = as_reads c.args.self (Tail c.in-Tail.tail) c.in-Tail.is (tables c.args.inputs.now) c.advance-in-Tail.new.reads c.args.reads.now c.in_err-tail-in-Tail.ensures.reads
