use Rattle.std.proofs.Common.{◌≡◌, ℕ, ◌==◌, take}
use Rattle.std.specs.List.{list_any}
use Rattle.key_lists.specs.Keys.{IsRising, is_among}
use Rattle.agg_by.specs.declared.firsts.LedGroup.{LedGroup}
use Rattle.agg_by.proofs.firsts.firsts_of.Given as goal

abbrev pub invariant-loop-group : goal.invariant-loop-group
invariant-loop-group l = record {
  firsts : (first : ℕ) → is_among first l.firsts ≡ list_any (λ (group : LedGroup). group.first == first) (take l.group-index l.led);
  rising : IsRising l.firsts;
}
