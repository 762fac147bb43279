use Rattle.std.proofs.Common.{◌≡◌, ℕ, ◌^◌, ◌<◌, ◌==◌, take}
use Rattle.std.specs.List.{AllByRecursion, list_any}
use Rattle.agg_by.{specs.declared.firsts.LedGroup.LedGroup, specs.Touched.{AreLed, starts_numbered}}
use Rattle.agg_by.proofs.firsts.find_led.Given as goal

abbrev pub invariant-loop-number : goal.invariant-loop-number
invariant-loop-number l = record {
  firsts : (first : ℕ) → list_any (λ (group : LedGroup). group.first == first) l.led.items ≡ list_any (starts_numbered l.rows first) (take l.number-index l.numbers);
  small : AllByRecursion (λ (group : LedGroup). group.first < 2 ^ 62) l.led.items;
  led : AreLed l.rows l.led.items;
}
