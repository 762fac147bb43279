use Rattle.std.proofs.Common.{◌≡◌, ◌+◌, ◌*◌, ◌≤◌, length, take}
use Rattle.lookup_join.specs.Taken.{turned_members}
use Rattle.lookup_join.proofs.turned.turned_rows.Given as goal

abbrev pub invariant-loop-number : goal.invariant-loop-number
invariant-loop-number g l = record {
  keys : l.keys.items ≡ turned_members l.pick l.take l.left.members l.index.members l.notes.notes l.right.old.rows l.right.new.rows (take l.number l.notes.notes);
  reads : l.reads ≤ l.fn.reads + 2 * length l.take * l.number;
}
