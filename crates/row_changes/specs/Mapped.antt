-- Tables under the keys of another, before and now.
--     IsMapped input old new      tables of one width under the keys of the input's tables
--     mapped_tick old new input      the tick between the two, along the input's pairs
use Rattle.std.specs.Prelude.{◌≡◌}
use Rattle.tick_model.{specs.declared.table.PlainTable.PlainTable, specs.Tables.{keys, IsTable}, specs.Updates.Tick}
use Rattle.row_changes.specs.Parts.{tick_along}

pub record IsMapped (input : Tick) (old new : PlainTable) : Type 0 where
  pub before : keys old.rows ≡ keys input.old.rows
  pub now : keys new.rows ≡ keys input.new.rows
  pub old_table : IsTable old
  pub new_table : IsTable new
  pub one_width : new.width ≡ old.width

abbrev pub mapped_tick : PlainTable → PlainTable → Tick → Tick
mapped_tick old new input = tick_along old new input.kept
