use Rattle.std.proofs.Common.{◌≡◌, drop}
use Rattle.std.specs.List.{list_all, enumerate_from}
use Rattle.tick_model.specs.Plans.{node_lawful}
use Rattle.tick_model.proofs.lawful.is_each_node_lawful.Given as goal

abbrev pub invariant-loop-number : goal.invariant-loop-number
invariant-loop-number l = list_all (node_lawful l.nodes) (enumerate_from l.number (drop l.number l.nodes)) ≡ list_all (node_lawful l.nodes) (enumerate_from 0 l.nodes)
