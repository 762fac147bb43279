-- Nodes at the steps of a run.
--     tag run step node      a node at a step
--     tags run step count      the first so many nodes at a step
--     Kept      a node at a step, and what its operator has read in each of its steps
--     named kept      the node at the step
--     all_reads works      what the operator of each has read
--     node_at run node, op_at run node      a node of the plan, which is a source past the last one, and its operator
--     is_operator run node      whether it has an operator
--     operators run count      those of the first so many nodes that have one
use Rattle.std.{specs.Prelude.{ℕ, Bool, not, List, [], filter, map, slice_index_or}, specs.List.range_with_len}
use Rattle.tick_model.{specs.declared.feed.Run.Run, specs.declared.plan.Node.Node, specs.declared.plan.Op.Op, specs.declared.plan.Op.TheVariants.Source, specs.Evaluation.is_source}

pub record Tag : Type 0 where
  pub run : Run
  pub node : ℕ
  pub step : ℕ

abbrev pub tag : Run → ℕ → ℕ → Tag
tag run step node = record { run = run; node = node; step = step }

abbrev pub tags : Run → ℕ → ℕ → List Tag
tags run step count = map (tag run step) (range_with_len 0 count)

-- what a contract sees of what is kept of a node
pub record Kept : Type 0 where
  pub run : Run
  pub node : ℕ
  pub step : ℕ
  pub reads : List ℕ

abbrev pub named : Kept → Tag
named kept = tag kept.run kept.step kept.node

abbrev pub all_reads : List Kept → List (List ℕ)
all_reads works = map (λ work. work.reads) works

abbrev pub no_node : Node
no_node = record { name = []; columns = []; op = Source }

abbrev pub node_at : Run → ℕ → Node
node_at run node = slice_index_or run.plan.nodes node no_node

abbrev pub op_at : Run → ℕ → Op
op_at run node = (node_at run node).op

abbrev pub is_operator : Run → ℕ → Bool
is_operator run node = not (is_source (node_at run node))

abbrev pub operators : Run → ℕ → List ℕ
operators run count = filter (is_operator run) (range_with_len 0 count)
