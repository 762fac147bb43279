use Rattle.std.proofs.Common.{take}
use Rattle.std.{specs.List.{AllByRecursion, flat_map}, specs.Option.option_to_list}
use Rattle.update_graph.{specs.Stands.Stays, specs.Tags.Tag}
use Rattle.update_graph.proofs.shares.Shares.all_stay.Given as goal

abbrev pub invariant-loop-share : goal.invariant-loop-share
invariant-loop-share l = AllByRecursion (λ (share : Tag). Stays share.run share.step share.node) (flat_map option_to_list (take l.share-index l.shares))
