-- A run is lawful wherever its formulas lie.
use Rattle.std.proofs.Common.{◌≡◌, refl, ap, sym, ◌∙◌, subst, ℕ, zero, suc, List, [], ◌∷◌, map, length}
use Rattle.std.{specs.Prelude.{slice_get, slice_index_or}, specs.List.AllByRecursion, specs.Option.option_map_or}
use Rattle.key_lists.proofs.Every.{every, every_weaker, filter-map, filter_same, map_map}
use Rattle.tick_model.{specs.declared.feed.Batch.Batch, specs.declared.feed.Block.Block, specs.declared.feed.Run.Run, specs.declared.plan.ColumnSpec.ColumnSpec, specs.declared.plan.Node.Node, specs.declared.plan.Plan.Plan, specs.declared.table.PlainTable.PlainTable, specs.Evaluation.is_source, specs.LawfulRuns.{AreOpenings, IsLawfulBlock, IsLawfulRun, IsSourceRow, is_source_number, sources_of}, specs.Plans.columns_at}
use Rattle.script_reader.specs.Plain.{plain_node, plain_plan}
use Rattle.feed_reader.{specs.Assembled.plain_run, proofs.PlainLemmas.{is_lawful_plain, plan_numbers_plain, plan_ranks_plain}, proofs.PlainFeeds.source_plain}

pub sources_plain : (nodes : List Node) → sources_of (map plain_node nodes) ≡ map plain_node (sources_of nodes)
sources_plain nodes =
    filter-map is_source plain_node nodes
    ∙ ap (map plain_node) (filter_same (λ node. is_source (plain_node node)) is_source nodes (every (λ node. is_source (plain_node node) ≡ is_source node) nodes source_plain))

openings_plain : (sources : List Node) (texts : ℕ) (tables : List PlainTable) → AreOpenings (map plain_node sources) texts tables → AreOpenings sources texts tables
openings_plain [] texts [] h = h
openings_plain [] texts (table ∷ tables) h = h
openings_plain (source ∷ sources) texts [] h = h
openings_plain (source ∷ sources) texts (table ∷ tables) h = (h.0, openings_plain sources texts tables h.1)

source_number_plain : (nodes : List Node) (number : ℕ) → is_source_number (map plain_node nodes) number ≡ is_source_number nodes number
source_number_plain [] number = refl
source_number_plain (node ∷ nodes) zero = source_plain node
source_number_plain (node ∷ nodes) (suc number) = source_number_plain nodes number

columns_plain : (nodes : List Node) (number : ℕ) → columns_at (map plain_node nodes) number ≡ columns_at nodes number
columns_plain nodes number = ap (λ (tables : List (List ColumnSpec)). slice_index_or tables number []) (map_map (λ (node : Node). node.columns) plain_node nodes)

block_plain : (plan : Plan) (texts : ℕ) (block : Block) → IsLawfulBlock (plain_plan plan) texts block → IsLawfulBlock plan texts block
block_plain plan texts block l = record {
  source = sym (source_number_plain plan.nodes block.table) ∙ l.source;
  removed = l.removed;
  shifts = l.shifts;
  ranges = l.ranges;
  added = subst (λ columns. AllByRecursion (IsSourceRow columns texts) block.added) (columns_plain plan.nodes block.table) l.added;
  modified = subst (λ columns. AllByRecursion (IsSourceRow columns texts) block.modified) (columns_plain plan.nodes block.table) l.modified;
  added_rise = l.added_rise;
  modified_rise = l.modified_rise;
  records = l.records;
}

pub lawful_from_plain : (run : Run) → IsLawfulRun (plain_run run) → IsLawfulRun run
lawful_from_plain run h = record {
  plan = sym (is_lawful_plain run.plan) ∙ h.plan;
  numbers = plan_numbers_plain run.plan h.numbers;
  ranks = plan_ranks_plain (length run.texts) run.plan h.ranks;
  opening = openings_plain (sources_of run.plan.nodes) (length run.texts) run.opening (subst (λ sources. AreOpenings sources (length run.texts) run.opening) (sources_plain run.plan.nodes) h.opening);
  steps = h.steps;
  batches =
      every_weaker (λ (batch : Batch). AllByRecursion (IsLawfulBlock (plain_plan run.plan) (length run.texts)) batch.blocks) (λ batch. AllByRecursion (IsLawfulBlock run.plan (length run.texts)) batch.blocks) run.batches
      (λ batch blocks. every_weaker (IsLawfulBlock (plain_plan run.plan) (length run.texts)) (IsLawfulBlock run.plan (length run.texts)) batch.blocks (block_plain run.plan (length run.texts)) blocks) h.batches;
  texts = h.texts;
}
