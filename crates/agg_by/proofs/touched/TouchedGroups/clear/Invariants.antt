use Rattle.std.proofs.Common.{◌≡◌, ℕ, ◌<◌, false, get_or, length, take, if◌then◌else◌}
use Rattle.std.specs.List.{AllByRecursion}
use Rattle.key_lists.specs.Keys.{is_among}
use Rattle.agg_by.proofs.touched.TouchedGroups.clear.Given as goal

abbrev pub invariant-loop-number : goal.invariant-loop-number
invariant-loop-number l = record {
  within : AllByRecursion (λ number. number < length l.self-inside.1.1.0.items) l.number-items;
  marks : (number : ℕ) → get_or l.self-inside.1.1.0.items number false ≡ (if is_among number (take l.number-index l.number-items) then false else is_among number l.number-items);
}
