-- The texts of a run, and the cells that they code.
--     texts_of literals tables feed      the distinct texts of a script, of table files and of a feed, in byte order
--     coded_table texts width table, coded_batch texts batch      the tables and batches, each text by its rank among the texts
use Rattle.std.{specs.Prelude.{ℕ, List, [], ◌++◌, map, flat_map, fold, ℤ, pos, if◌then◌else◌}, specs.List.position_or_len, specs.Str.bytes_eq, specs.Ordering.nat_cmp, specs.Cmp.Lexicographic.slice_cmp, specs.BTreeSet.insert_key}
use Rattle.tick_model.{specs.declared.feed.Batch.Batch, specs.declared.feed.Block.Block, specs.declared.table.PlainRow.PlainRow, specs.declared.table.PlainTable.PlainTable, specs.Changes.is_none, specs.Tables.null}
use Rattle.feed_reader.{specs.declared.raw.RawBatch.RawBatch, specs.declared.raw.RawBlock.RawBlock, specs.declared.raw.RawCell.RawCell, specs.declared.raw.RawCell.TheVariants.{Null, Long, Text}, specs.declared.raw.RawFeed.RawFeed, specs.declared.raw.RawRow.RawRow, specs.declared.raw.RawTable.RawTable}
pub use Rattle.feed_reader.specs.Raw.{cell_texts, row_texts, rows_texts, block_texts, batch_texts}

-- one more text, at its place in byte order, unless it is there; the empty text is none
abbrev pub with_text : List (List ℕ) → List ℕ → List (List ℕ)
with_text texts text = if is_none text then texts else insert_key (slice_cmp nat_cmp) texts text

abbrev pub with_texts : List (List ℕ) → List (List ℕ) → List (List ℕ)
with_texts = fold with_text

abbrev pub table_texts : RawTable → List (List ℕ)
table_texts table = rows_texts table.rows

abbrev pub all_texts : List (List ℕ) → List RawTable → RawFeed → List (List ℕ)
all_texts literals tables feed = literals ++ flat_map table_texts tables ++ flat_map batch_texts feed.batches

abbrev pub texts_of : List (List ℕ) → List RawTable → RawFeed → List (List ℕ)
texts_of literals tables feed = with_texts [] (all_texts literals tables feed)

-- a text is coded by its place among the texts
abbrev pub rank_of : List (List ℕ) → List ℕ → ℕ
rank_of texts text = position_or_len (bytes_eq text) texts

abbrev pub ranks_among : List (List ℕ) → List (List ℕ) → List ℤ
ranks_among texts = map (λ text. pos (rank_of texts text))

abbrev pub coded_cell : List (List ℕ) → RawCell → ℤ
coded_cell texts Null = null
coded_cell texts (Long n) = n
coded_cell texts (Text text) = pos (rank_of texts text)

abbrev pub coded_row : List (List ℕ) → RawRow → PlainRow
coded_row texts row = record { key = row.key; cells = map (coded_cell texts) row.cells }

abbrev pub coded_rows : List (List ℕ) → List RawRow → List PlainRow
coded_rows texts = map (coded_row texts)

abbrev pub coded_table : List (List ℕ) → ℕ → RawTable → PlainTable
coded_table texts width table = record { width = width; rows = coded_rows texts table.rows }

abbrev pub coded_block : List (List ℕ) → RawBlock → Block
coded_block texts block = record {
  table = block.table;
  number = block.number;
  removed = block.removed;
  shifts = block.shifts;
  added = coded_rows texts block.added;
  modified = coded_rows texts block.modified;
}

abbrev pub coded_batch : List (List ℕ) → RawBatch → Batch
coded_batch texts batch = record { blocks = map (coded_block texts) batch.blocks }

abbrev pub coded_feed : List (List ℕ) → RawFeed → List Batch
coded_feed texts feed = map (coded_batch texts) feed.batches
