-- The table that a pick makes of two others.
--     pick_of choice      what a choice takes; where there is to be one match, it is the first
--     right_of on pick rows left      the right row that a left row takes
--     matched_table on pick take left right      the left rows, each followed by cells of its right row
--     matched_tick on pick take left right      its tick, from those of its inputs
use Rattle.std.specs.Prelude.{ℕ, ◌+◌, List, Option, length, map}
use Rattle.lookup_join.{specs.declared.pick.Pick.Pick, specs.declared.pick.Pick.TheVariants.{First, Last, Latest}}
use Rattle.row_changes.specs.Mapped.{mapped_tick}
use Rattle.tick_model.{specs.AsOf.{latest, not_later}, specs.declared.plan.Choice.Choice, specs.declared.plan.Choice.TheVariants.{Error, First as FirstMatch, Last as LastMatch}, specs.declared.plan.OnPair.OnPair, specs.declared.table.PlainRow.PlainRow, specs.declared.table.PlainTable.PlainTable, specs.Join.{chosen, joined, matches}, specs.Updates.Tick}

abbrev pub pick_of : Choice → Pick
pick_of Error = First
pick_of FirstMatch = First
pick_of LastMatch = Last

abbrev pub right_of : List OnPair → Pick → List PlainRow → PlainRow → Option PlainRow
right_of on First rows left = chosen FirstMatch (matches on rows left)
right_of on Last rows left = chosen LastMatch (matches on rows left)
right_of on (Latest at) rows left = latest at.right (not_later on at rows left)

abbrev pub matched_table : List OnPair → Pick → List ℕ → PlainTable → PlainTable → PlainTable
matched_table on pick take left right = record {
  width = left.width + length take;
  rows = map (joined take (λ row. right_of on pick right.rows row)) left.rows;
}

abbrev pub matched_tick : List OnPair → Pick → List ℕ → Tick → Tick → Tick
matched_tick on pick take left right = mapped_tick (matched_table on pick take left.old right.old) (matched_table on pick take left.new right.new) left
