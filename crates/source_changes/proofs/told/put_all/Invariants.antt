use Rattle.std.proofs.Common.{◌≡◌, map, take}
use Rattle.tick_table.specs.Placed.{put_rows}
use Rattle.source_changes.specs.Told.{told_row}
use Rattle.source_changes.proofs.told.put_all.Given as goal

abbrev pub invariant-loop-place : goal.invariant-loop-place
invariant-loop-place l = map told_row l.told.entries ≡ put_rows (take l.place l.rows) (map told_row l.fn.told.entries)
