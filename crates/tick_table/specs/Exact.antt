-- Tables whose update is exactly the one between their rows before and now.
--     tick_of table      the tick from the table before to the table now
--     IsExact table      the update is the one between the two
--     counted update      removed rows, added rows and twice the modified ones
--     ticking tick      the table that a tick leaves, with its update
use Rattle.std.specs.Prelude.{◌≡◌, ℕ, ◌+◌, ◌*◌, length}
use Rattle.tick_model.specs.Updates.{Tick, IsTick, Update, between, pairs}
use Rattle.tick_table.specs.Ticking.{Ticking}

abbrev pub tick_of : Ticking → Tick
tick_of table = record { old = table.old; new = table.new; kept = pairs table.old table.update }

pub record IsExact (table : Ticking) : Type 0 where
  pub tick : IsTick (tick_of table)
  pub update : table.update ≡ between (tick_of table)

abbrev pub counted : Update → ℕ
counted update = length update.removed + length update.added + 2 * length update.modified

abbrev pub ticking : Tick → Ticking
ticking tick = record { old = tick.old; new = tick.new; update = between tick }
