use Rattle.std.proofs.Common.{◌+◌, ◌*◌, ◌≤◌, ◌++◌, [], length, map, take}
use Rattle.agg_by.{specs.Steps.key_at, specs.Touched.HaveNoted, proofs.Changing.went_cells}
use Rattle.agg_by.proofs.touched.TouchedGroups.note_before.Given as goal

abbrev pub invariant-loop-place : goal.invariant-loop-place
invariant-loop-place g l = record {
  noted : HaveNoted l.kept.rows [] l.self (went_cells l.kept.by l.input ++ map (key_at l.kept.by l.input.new.rows) (take l.place l.input.update.added));
  reads : l.reads ≤ l.fn.reads + l.input.new.width * l.place;
}

abbrev pub invariant-loop-other : goal.invariant-loop-other
invariant-loop-other g l = record {
  noted : HaveNoted l.kept.rows [] l.self ((went_cells l.kept.by l.input ++ map (key_at l.kept.by l.input.new.rows) l.input.update.added) ++ map (key_at l.kept.by l.input.new.rows) (take l.other l.input.update.modified));
  reads : l.reads ≤ l.fn.reads + l.input.new.width * (length l.input.update.added + l.other);
}
