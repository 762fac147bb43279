use Rattle.std.proofs.Common.{◌≡◌, false, ◌^◌, ◌<◌, map, length, []}
use Rattle.std.{specs.List.AllByRecursion, specs.Map.keys_of as map_keys}
use Rattle.tick_model.{specs.Rules.is_past, specs.Shifts.moved, specs.Updates.shifting}
use Rattle.tick_table.specs.Placed.{put_rows}
use Rattle.source_changes.specs.Told.{told_row}
use Rattle.source_changes.proofs.told.moved_rows.Given as goal

abbrev pub invariant-loop-key : goal.invariant-loop-key
invariant-loop-key l = record {
  small : AllByRecursion (λ key. key < 2 ^ 62) (map_keys l.rows.entries);
  inside : AllByRecursion (λ key. is_past (2 ^ 62) (moved l.shift key) ≡ false) (map_keys l.rows.entries);
  whole : put_rows (shifting l.shift (map told_row l.rows.entries)) (map told_row l.moved.entries) ≡ put_rows (shifting l.shift (map told_row l.fn.rows.entries)) [];
}

abbrev pub decreases-loop-key : goal.decreases-loop-key
decreases-loop-key l = length l.rows.entries
