-- What a viewport keeps.
--     kept_tick slice last table kept      the tick from the rows that the last message left to all rows of now, with the chosen columns
--     IsStanding slice last table update      the update says what became of the rows that the last message left
use Rattle.std.specs.Prelude.{◌≡◌, ◌^◌, List, [], None}
use Rattle.row_changes.specs.Parts.{tick_along}
use Rattle.table_update.specs.Coalesced.{key_pairs}
use Rattle.tick_model.{specs.declared.table.PlainTable.PlainTable, specs.declared.update.KeyPair.KeyPair, specs.Rules.update_fault, specs.Tables.keys, specs.Updates.{Tick, IsTick, Update}}
use Rattle.viewport.{specs.declared.slice.Slice.Slice, specs.Slices.{IsSlice, narrowed}}

abbrev pub kept_tick : Slice → PlainTable → PlainTable → List KeyPair → Tick
kept_tick slice last table = tick_along last (narrowed slice.columns table)

-- it adds and modifies nothing
pub record IsStanding (slice : Slice) (last table : PlainTable) (update : Update) : Type 0 where
  pub asked : IsSlice table.width slice
  pub tick : IsTick (kept_tick slice last table (key_pairs (keys last.rows) update))
  pub lawful : update_fault (2 ^ 62) (keys last.rows) update ≡ None
  pub none_added : update.added ≡ []
  pub none_modified : update.modified ≡ []
