use Rattle.std.proofs.Common.{◌≡◌, map, take}
use Rattle.tick_model.specs.Tables.{keys}
use Rattle.source_changes.proofs.changes.SourceKeys.new.Given as goal

abbrev pub invariant-loop-table : goal.invariant-loop-table
invariant-loop-table l = l.sets.items ≡ map (λ table. keys table.rows) (take l.table-index l.opening)
