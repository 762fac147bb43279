use Rattle.std.proofs.Common.{◌≡◌, drop}
use Rattle.tick_model.specs.Sort.{sort_cmp}
use Rattle.plain_evaluator.proofs.sort.compare_rows.Given as goal

abbrev pub invariant-loop-sort : goal.invariant-loop-sort
invariant-loop-sort l = sort_cmp (drop l.sort-index l.by) l.a l.b ≡ sort_cmp l.by l.a l.b
