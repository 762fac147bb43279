use Rattle.std.proofs.Common.{◌≡◌, ◌+◌, ◌*◌, ◌≤◌, ◌||◌, ℕ, length}
use Rattle.std.specs.List.{AllByRecursion}
use Rattle.key_lists.specs.Keys.{IsRising, is_among}
use Rattle.lookup_join.specs.Keyed.{IsRowOf}
use Rattle.row_groups.specs.Members.{keys_of}
use Rattle.lookup_join.proofs.keyed.add_rows.Given as goal

abbrev pub invariant-loop-key : goal.invariant-loop-key
invariant-loop-key g l = record {
  rows : l.rows ≡ l.input.new;
  width : l.index.width ≡ length l.on;
  members : AllByRecursion (IsRowOf l.side l.on l.pick l.input.new.rows) l.index.members;
  rising : IsRising (keys_of l.index.members);
  keys : (key : ℕ) → is_among key (keys_of l.index.members) ≡ (is_among key l.yielded || is_among key (keys_of l.fn.index.members));
  reads : l.reads ≤ l.fn.reads + l.input.new.width * length l.yielded;
}
