use Rattle.std.proofs.Common.{◌≡◌, drop}
use Rattle.std.specs.List.{list_all}
use Rattle.tick_model.specs.Fits.{is_source_row}
use Rattle.tick_model.proofs.sources.are_source_rows.Given as goal

abbrev pub invariant-loop-row : goal.invariant-loop-row
invariant-loop-row l = list_all (is_source_row l.width) (drop l.row-index l.rows) ≡ list_all (is_source_row l.width) l.rows
