-- A table before and now, with the update between the two.
--     no_rows width      the table of this width without rows
--     fresh width      a ticking table that has no rows, before or now
use Rattle.std.specs.Prelude.{ℕ, []}
use Rattle.tick_model.{specs.declared.table.PlainTable.PlainTable, specs.Updates.Update}
use Rattle.tick_laws.specs.Replaced.{no_update}

-- what contracts see of a ticking table
pub record Ticking : Type 0 where
  pub old : PlainTable
  pub new : PlainTable
  pub update : Update

abbrev pub no_rows : ℕ → PlainTable
no_rows width = record { width = width; rows = [] }

abbrev pub fresh : ℕ → Ticking
fresh width = record { old = no_rows width; new = no_rows width; update = no_update }
