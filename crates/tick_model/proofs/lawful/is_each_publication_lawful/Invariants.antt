use Rattle.std.proofs.Common.{◌≡◌, drop}
use Rattle.std.specs.List.{list_all}
use Rattle.tick_model.specs.Plans.{publication_lawful}
use Rattle.tick_model.proofs.lawful.is_each_publication_lawful.Given as goal

abbrev pub invariant-loop-table : goal.invariant-loop-table
invariant-loop-table l = list_all (publication_lawful l.nodes) (drop l.table-index l.published) ≡ list_all (publication_lawful l.nodes) l.published
