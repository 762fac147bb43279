use Rattle.std.proofs.Common.{ap, sym, ◌∙◌, length, map}
use Rattle.source_changes.proofs.Opened.{opened_tables}
use Rattle.tick_model.{specs.declared.table.PlainTable.PlainTable, specs.LawfulRuns.sources_of, specs.Tables.keys}
use Rattle.update_graph.{specs.Graphs.reads_at, proofs.Batches.{entered_first, first_sources}, proofs.Counting.all_within, proofs.Following.one_read, proofs.Sweeping.{numbers_in_order, ran_once}}
use Rattle.update_graph.proofs.graph.Graph.start.Goals as goal

pub new-requires : goal.new-requires
new-requires c = opened_tables (length c.args.run.now.texts) (sources_of c.args.run.now.plan.nodes) c.args.run.now.opening c.requires.opening

pub open_all-requires-clause-entered : goal.open_all-requires-clause-entered
open_all-requires-clause-entered c = entered_first c.args.run.now c.requires

pub finished-requires-clause-entered : goal.finished-requires-clause-entered
finished-requires-clause-entered c = entered_first c.args.run.now c.requires

pub finished-requires-clause-base : goal.finished-requires-clause-base
finished-requires-clause-base c = record {
  edges = c.in_ok-of.ensures;
  keys = c.in_ok-new.ensures ∙ ap (map (λ (table : PlainTable). keys table.rows)) (sym (first_sources c.args.run.now));
  sources = c.in_ok-opened_sources.ensures;
}

pub finished-requires-clause-works : goal.finished-requires-clause-works
finished-requires-clause-works c = c.in_ok-sweep.ensures.works

pub finished-requires-clause-once : goal.finished-requires-clause-once
finished-requires-clause-once c = ran_once c.args.run.now c.in_ok-sweep.sweep.ran.items c.in_ok-sweep.ensures.ran

pub finished-requires-clause-order : goal.finished-requires-clause-order
finished-requires-clause-order c = numbers_in_order c.args.run.now c.requires c.in_ok-sweep.sweep.ran.items c.in_ok-sweep.ensures.ran

pub returns-clause-steps : goal.returns-clause-steps
returns-clause-steps c node within is = one_read (reads_at c.in_ok-graph.graph.reads node) (c.in_ok-graph.ensures.reached.stepped node within is).each

pub returns-clause-reads : goal.returns-clause-reads
returns-clause-reads c = all_within c.args.run.now 0 c.in_ok-graph.graph.reads c.in_ok-graph.ensures.reached.stepped
