-- A block that breaks no rule carries a table to a table, and its pairs are a tick's.
use Rattle.std.proofs.Common.{◌≡◌, ◌^◌, ◌++◌, None, lit≤}
use Rattle.std.{specs.Prelude.option_map, proofs.lemmas.List.map-append}
use Rattle.tick_model.{specs.declared.feed.Block.Block, specs.declared.table.PlainRow.PlainRow, specs.declared.table.PlainTable.PlainTable, specs.declared.update.FeedRule.TheVariants.Update as ByUpdate, specs.Tables.{keys, IsRow, IsTable}, specs.Changes.told_keys, specs.Rules.update_fault, specs.Sources.{update_of, block_fault, IsBlock}, specs.Updates.IsTick}
use Rattle.key_lists.{specs.Keys.IsRising, proofs.Every.every-append}
use Rattle.tick_laws.{specs.Checked.{IsChecked, carried_tick}, proofs.CheckedUpdates.{none_parts, map_none, tick-carry}}

-- a block that breaks no rule is checked
pub block_checked : (table : PlainTable) (block : Block) → block_fault table block ≡ None → IsRising (keys block.added) → IsChecked (2 ^ 40) (keys table.rows) (update_of block)
block_checked table block fine rise = record {
  breaks_none = map_none ByUpdate (update_fault (2 ^ 40) (keys table.rows) (update_of block)) (none_parts (option_map ByUpdate (update_fault (2 ^ 40) (keys table.rows) (update_of block))) _ fine).0;
  added_rise = rise;
}

pub block_told : (block : Block) → keys (block.added ++ block.modified) ≡ told_keys (update_of block)
block_told block = map-append (λ (row : PlainRow). row.key) block.added block.modified

pub block_tick : (table : PlainTable) (block : Block) → IsTable table → IsBlock table.width block → block_fault table block ≡ None → IsTick (carried_tick table (update_of block) (block.added ++ block.modified))
block_tick table block h l fine =
    tick-carry (2 ^ 40) table (update_of block) (block.added ++ block.modified) (block_checked table block fine l.rising_added) (block_told block) (lit≤ tt) h
    (every-append (IsRow table.width) block.added block.modified l.added l.modified)
