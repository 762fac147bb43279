use Rattle.std.proofs.Common.{◌≡◌, ◌++◌, drop, length}
use Rattle.std.specs.Vec.Iter.{into_iter_items, into_iter_len}
use Rattle.tick_model.specs.LawfulRuns.{sources_of}
use Rattle.feed_reader.specs.Runs.{opening_of}
use Rattle.feed_reader.proofs.coded.opened.Given as goal

abbrev pub invariant-loop-node : goal.invariant-loop-node
invariant-loop-node l = (into_iter_len l.tables ≡ length (into_iter_items l.tables)) × (opening_of l.ranks (sources_of l.nodes) l.fn.tables ≡ l.opening ++ opening_of l.ranks (sources_of (drop l.node-index l.nodes)) (into_iter_items l.tables))
