use Rattle.std.proofs.Common.{◌≡◌, true, map, take}
use Rattle.std.{specs.List.{AllByRecursion, flat_map}, specs.Option.option_to_list}
use Rattle.table_operator.specs.Inputs.{tables}
use Rattle.update_graph.{specs.Stands.{is_defined, shown}, specs.Tags.Tag}
use Rattle.update_graph.proofs.shares.Shares.tables.Given as goal

abbrev pub invariant-loop-share : goal.invariant-loop-share
invariant-loop-share l = record {
  defined : AllByRecursion (λ (share : Tag). is_defined share.run share.step share.node ≡ true) (flat_map option_to_list (take l.share-index l.shares));
  handed : tables l.tables.items ≡ map (λ (share : Tag). shown share.run share.step share.node) (flat_map option_to_list (take l.share-index l.shares));
}
