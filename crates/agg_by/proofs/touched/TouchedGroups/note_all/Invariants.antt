use Rattle.std.proofs.Common.{◌≡◌, ◌||◌, Bool, ℕ, take}
use Rattle.std.specs.List.{list_any}
use Rattle.agg_by.proofs.touched.TouchedGroups.note_all.Given as goal

abbrev pub invariant-loop-number : goal.invariant-loop-number
invariant-loop-number l = (test : ℕ → Bool) → list_any test l.self ≡ (list_any test l.fn.self || list_any test (take l.number-index l.numbers))
