use Rattle.std.proofs.Common.{◌≡◌, ◌+◌, ◌≤◌, ◌∷◌, ℕ, get_or, length, take}
use Rattle.key_lists.specs.Keys.{IsRising, is_among}
use Rattle.row_set.{specs.Ranges.keys_from, specs.Sets.united}
use Rattle.row_set.proofs.rows.RowSet.from_keys.Given as goal

abbrev pub invariant-loop-key : goal.invariant-loop-key
invariant-loop-key l = record {
  order : l.first ≤ l.last;
  last_is : l.last ≡ get_or (l.initial.first ∷ l.others) l.key-index 0;
  keys : (key : ℕ) → is_among key (united (keys_from l.first l.last) l.set) ≡ is_among key (take (l.key-index + 1) (l.initial.first ∷ l.others));
  rising : IsRising l.set;
  no_more : l.last + length l.set ≤ l.first + l.key-index;
}
