-- Rows that are told, each as its cells under its key.
--     told_row entry      the row of an entry
--     with_block block rows      the rows, with those that a block adds or modifies put among them, if there is a block
--     Rises block      the rows that it adds rise by key, and so do those that it modifies
use Rattle.std.{specs.Borrow.Bor, specs.Prelude.{ℕ, List, ℤ, Option, None, Some}}
use Rattle.key_lists.specs.Keys.{IsRising}
use Rattle.tick_model.{specs.declared.feed.Block.Block, specs.declared.table.PlainRow.PlainRow, specs.Tables.keys}
use Rattle.tick_table.specs.Placed.{put_rows}

abbrev pub told_row : ℕ × Bor (List ℤ) → PlainRow
told_row entry = record { key = entry.0; cells = entry.1.now }

abbrev pub with_block : Option (Bor Block) → List PlainRow → List PlainRow
with_block None rows = rows
with_block (Some block) rows = put_rows block.now.modified (put_rows block.now.added rows)

abbrev pub Rises : Option (Bor Block) → Type 0
Rises None = Unit {0}
Rises (Some block) = IsRising (keys block.now.added) × IsRising (keys block.now.modified)
