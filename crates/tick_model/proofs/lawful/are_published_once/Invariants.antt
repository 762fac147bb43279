use Rattle.std.proofs.Common.{◌≡◌, map, drop}
use Rattle.tick_model.{specs.declared.plan.Published.Published, specs.Plans.number_distinct}
use Rattle.tick_model.proofs.lawful.are_published_once.Given as goal

abbrev pub invariant-loop-i : goal.invariant-loop-i
invariant-loop-i l = number_distinct (map (λ (table : Published). table.node) (drop l.i l.published)) ≡ number_distinct (map (λ (table : Published). table.node) l.published)
