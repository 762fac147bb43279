use Rattle.std.proofs.Common.{◌≡◌, map, take}
use Rattle.feed_reader.specs.Cells.{kinds_in}
use Rattle.feed_reader.proofs.feeds.kinds_by_node.Given as goal

abbrev pub invariant-loop-node : goal.invariant-loop-node
invariant-loop-node l = l.kinds.items ≡ map (λ node. kinds_in node.columns) (take l.node-index l.nodes)
