-- What a viewport stands for.
--     Watching      its slice, the rows that the last message left, the rows of the table now, and of the former those that were kept since: the key of then with the key of now
--     started slice table      after a message on this table
--     passed watching tick      after a step of the table
--     message_tick watching      the tick of the next message, from the rows that the last one left to the slice now, along the rows that were kept and are in both
use Rattle.std.specs.Prelude.{List, map}
use Rattle.tick_model.{specs.declared.table.PlainTable.PlainTable, specs.declared.update.KeyPair.KeyPair, specs.Shifts.composed, specs.Sources.same_key, specs.Tables.keys, specs.Updates.{Tick, both_in}}
use Rattle.viewport.{specs.declared.slice.Slice.Slice, specs.Slices.cut}

pub record Watching : Type 0 where
  pub slice : Slice
  pub last : PlainTable
  pub table : PlainTable
  pub kept : List KeyPair

abbrev pub started : Slice → PlainTable → Watching
started slice table = let last = cut slice table in record { slice = slice; last = last; table = table; kept = map same_key (keys last.rows) }

abbrev pub passed : Watching → Tick → Watching
passed watching tick = record watching { table = tick.new; kept = composed watching.kept tick.kept }

abbrev pub message_tick : Watching → Tick
message_tick watching =
    let new = cut watching.slice watching.table in
    record { old = watching.last; new = new; kept = both_in watching.last new watching.kept }
