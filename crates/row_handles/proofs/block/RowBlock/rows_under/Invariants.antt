use Rattle.std.proofs.Common.{map, take}
use Rattle.row_handles.specs.Blocks.{AreRowsUnder, entry_at}
use Rattle.row_handles.proofs.block.RowBlock.rows_under.Given as goal

abbrev pub invariant-loop-row : goal.invariant-loop-row
invariant-loop-row l = AreRowsUnder l.ceiling l.rows.items (map (entry_at l.self.ceiling) (take l.row-index l.self.rows.items))
