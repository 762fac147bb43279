-- What may be told.
--     IsMessage columns texts old message      the change of a tick from these rows, whose new rows fit the columns
use Rattle.std.specs.Prelude.{◌≡◌, ℕ, List, length}
use Rattle.tick_laws.specs.Fitting.{HasColumns}
use Rattle.tick_model.{specs.declared.plan.ColumnSpec.ColumnSpec, specs.declared.table.PlainTable.PlainTable, specs.Changes.{Change, change_of}, specs.Updates.{IsTick, Tick}}

pub record IsMessage (columns : List ColumnSpec) (texts : ℕ) (old : PlainTable) (message : Change) : Type 0 where
  pub tick : Tick
  pub is_tick : IsTick tick
  pub old_is : old ≡ tick.old
  pub message_is : message ≡ change_of tick
  pub width : tick.new.width ≡ length columns
  pub fits : HasColumns columns texts tick.new
