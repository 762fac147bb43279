-- Changes of a table as a whole.
--     replaced old new      the tick that keeps nothing
--     followed first second      two ticks, one after the other
use Rattle.std.specs.Prelude.{[]}
use Rattle.tick_model.{specs.declared.table.PlainTable.PlainTable, specs.Tables.keys, specs.Shifts.composed, specs.Updates.{Tick, Update}}

abbrev pub replaced : PlainTable → PlainTable → Tick
replaced old new = record { old = old; new = new; kept = [] }

-- all old rows are removed and all new ones added
abbrev pub whole_update : PlainTable → PlainTable → Update
whole_update old new = record { removed = keys old.rows; added = keys new.rows; modified = []; shifted = []; columns = [] }

-- nothing changes
abbrev pub no_update : Update
no_update = record { removed = []; added = []; modified = []; shifted = []; columns = [] }

abbrev pub followed : Tick → Tick → Tick
followed first second = record { old = first.old; new = second.new; kept = composed first.kept second.kept }
