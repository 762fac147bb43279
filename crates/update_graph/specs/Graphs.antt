-- What contracts see of a graph, and what it keeps.
--     GraphView      its run, the step at which every node stands, the nodes with an operator that were worked for it, and what the operator of each node has read in each of its steps
--     times nodes node      how often a node is worked in a step: once where it has an operator
--     RanOnce plan ran      each node with an operator was worked once, and no other
--     RanInOrder plan ran      and none before one of its inputs
--     reads_at reads node      what the operator of a node has read in each of its steps
--     read_in run step reads      how much all operators have read in a step
--     most_in run step      how much they may read in it, taken together
--     HaveStepped run steps reads      each operator has taken so many steps, each within its bound
--     SteppedOnce run old new      each operator has taken exactly one step more than before: what it read in its earlier steps stands as it was, and one number is added
--     HasReached run step graph      all nodes of the run stand at the step, whose batch breaks no rule and which no node spoils; those with an operator were worked once, after their inputs, and each has taken one step for each step of the run
--     AreSources run step tables      these are the tables of the sources, in order of the nodes
--     IsBase run step base      what a graph keeps beside its nodes is of this step
--     IsGraph run step base works      all that it keeps is
use Rattle.std.{specs.Prelude.{◌≡◌, ℕ, ◌+◌, ◌==◌, ◌<◌, ◌≤◌, AllPairs, List, [], None, count_by, length, map, if◌then◌else◌, slice_index, slice_index_or, true}, specs.List.sum_by, specs.declared.alloc.Global.Global, specs.declared.sync.Arc.Arc}
use mathlib.Core.Option.{some}
use lib.ListN.{get_elem?}
use Rattle.graph_words.specs.declared.graph.Edge.{Edge}
use Rattle.table_operator.specs.Inputs.{tables}
use Rattle.tick_laws.specs.Reached.{IsReached}
use Rattle.tick_model.{specs.declared.feed.Run.Run, specs.declared.plan.Node.Node, specs.declared.plan.Plan.Plan, specs.Evaluation.is_source, specs.LawfulRuns.IsLawfulRun, specs.Sources.{batch_fault, source_ticks, sources as sources_at}, specs.Spoiled.node_fault, specs.States.state, specs.Tables.keys as keys_of}
use Rattle.tick_table.{specs.Exact.ticking, specs.Ticking.Ticking}
use Rattle.update_graph.{specs.declared.graph.Base.Base, specs.Edges.edges_of, specs.Stands.{HasReadOnce, HasStepped, most_reads}, specs.Tags.{Kept, all_reads, is_operator, named, no_node, operators, tags}}

pub record GraphView : Type 0 where
  pub run : Run
  pub step : ℕ
  pub ran : List ℕ
  pub reads : List (List ℕ)

abbrev pub times : List Node → ℕ → ℕ
times nodes node = if is_source (slice_index_or nodes node no_node) then 0 else 1

abbrev pub RanOnce : Plan → List ℕ → Type 0
RanOnce plan ran = (node : ℕ) → count_by (λ n. n == node) ran ≡ times plan.nodes node

abbrev pub RanInOrder : Plan → List ℕ → Type 0
RanInOrder plan ran = AllPairs (λ first later. (e : ℕ) (x : Edge) → get_elem? (edges_of plan) e ≡ some x → x.from ≡ later → x.to ≡ first → ⊥) ran

abbrev pub reads_at : List (List ℕ) → ℕ → List ℕ
reads_at reads node = slice_index_or reads node []

abbrev pub read_in : Run → ℕ → List (List ℕ) → ℕ
read_in run step reads = sum_by (λ node. slice_index (reads_at reads node) step) (operators run (length run.plan.nodes))

abbrev pub most_in : Run → ℕ → ℕ
most_in run step = sum_by (most_reads run step) (operators run (length run.plan.nodes))

abbrev pub HaveStepped : Run → ℕ → List (List ℕ) → Type 0
HaveStepped run steps reads = (node : ℕ) → node < length run.plan.nodes → is_operator run node ≡ true → HasStepped run steps node (reads_at reads node)

abbrev pub SteppedOnce : Run → List (List ℕ) → List (List ℕ) → Type 0
SteppedOnce run old new = (node : ℕ) → node < length run.plan.nodes → is_operator run node ≡ true → HasReadOnce (reads_at old node) (reads_at new node)

pub record HasReached (run : Run) (step : ℕ) (graph : GraphView) : Type 0 where
  pub of_run : graph.run ≡ run
  pub at_step : graph.step ≡ step
  pub batch : batch_fault run step ≡ None
  pub nodes : node_fault 0 (state run step) ≡ None
  pub once : RanOnce run.plan graph.ran
  pub order : RanInOrder run.plan graph.ran
  pub stepped : HaveStepped run (step + 1) graph.reads

-- each source's table at a step, with its update
abbrev pub sources_shown : Run → ℕ → List Ticking
sources_shown run step = map ticking (source_ticks run step)

abbrev pub AreSources : Run → ℕ → List (Arc Ticking Global) → Type 0
AreSources run step own = tables own ≡ sources_shown run step

pub record IsBase (run : Run) (step : ℕ) (base : Base) : Type 0 where
  pub edges : base.edges ≡ edges_of run.plan
  pub keys : base.keys ≡ map (λ table. keys_of table.rows) (sources_at run step)
  pub sources : AreSources run step base.sources.items

pub record IsGraph (run : Run) (step : ℕ) (base : Base) (works : List Kept) : Type 0 where
  pub lawful : IsLawfulRun run
  pub within : step ≤ length run.batches
  pub reached : IsReached run step
  pub base_is : IsBase run step base
  pub works_are : map named works ≡ tags run step (length run.plan.nodes)
  pub stepped : HaveStepped run (step + 1) (all_reads works)
