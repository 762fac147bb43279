use Rattle.std.proofs.Common.{◌≡◌, ◌+◌, ◌*◌, ◌≤◌, map, length}
use Rattle.lookup_join.{specs.Notes.noting, specs.Taken.spot_at}
use Rattle.lookup_join.proofs.notes.note_added.Given as goal

abbrev pub invariant-loop-key : goal.invariant-loop-key
invariant-loop-key g l = record {
  rows : l.rows ≡ l.right.new;
  notes : l.notes ≡ record l.fn.notes { notes = noting l.pick l.index.members l.fn.notes.notes (map (spot_at l.on l.pick l.right.new.rows) l.yielded) };
  reads : l.reads ≤ l.fn.reads + l.right.new.width * length l.yielded;
}
