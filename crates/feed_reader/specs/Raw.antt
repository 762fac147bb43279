-- What rows say whose text cells are the numbers of texts.
--     raw_row texts kinds row      the row as it is written
--     raw_batch texts kinds batch      the same of a step; the kinds are those of the columns of each node
--     AreNumbered kinds texts rows      each text cell is null or the number of a text, and each text stands in a cell
use Rattle.std.{specs.Prelude.{◌≡◌, ℕ, ◌<◌, ◌⊎◌, ◌++◌, ◌∷◌, true, false, List, [], ℤ, pos, negsuc, map, flat_map, length, slice_index_or, if◌then◌else◌}, specs.List.{AllByRecursion, list_any, zip}, specs.Str.bytes_eq}
use Rattle.tick_model.{specs.declared.feed.Batch.Batch, specs.declared.feed.Block.Block, specs.declared.plan.Kind.Kind, specs.declared.plan.Kind.TheVariants.{Long as LongKind, Text as TextKind}, specs.declared.table.PlainRow.PlainRow, specs.Tables.is_null}
use Rattle.feed_reader.{specs.declared.raw.RawBatch.RawBatch, specs.declared.raw.RawBlock.RawBlock, specs.declared.raw.RawCell.RawCell, specs.declared.raw.RawCell.TheVariants.{Null, Long, Text}, specs.declared.raw.RawRow.RawRow}

-- the texts that stand in cells, rows and blocks
abbrev pub cell_texts : RawCell → List (List ℕ)
cell_texts Null = []
cell_texts (Long n) = []
cell_texts (Text text) = text ∷ []

abbrev pub row_texts : RawRow → List (List ℕ)
row_texts row = flat_map cell_texts row.cells

abbrev pub rows_texts : List RawRow → List (List ℕ)
rows_texts = flat_map row_texts

abbrev pub block_texts : RawBlock → List (List ℕ)
block_texts block = rows_texts block.added ++ rows_texts block.modified

abbrev pub batch_texts : RawBatch → List (List ℕ)
batch_texts batch = flat_map block_texts batch.blocks

-- the text of a number
abbrev pub text_at : List (List ℕ) → ℤ → List ℕ
text_at texts (pos n) = slice_index_or texts n []
text_at texts (negsuc n) = []

abbrev pub known_cell : List (List ℕ) → Kind → ℤ → RawCell
known_cell texts LongKind n = Long n
known_cell texts TextKind n = Text (text_at texts n)

abbrev pub raw_cell : List (List ℕ) → Kind × ℤ → RawCell
raw_cell texts cell = if is_null cell.1 then Null else known_cell texts cell.0 cell.1

abbrev pub raw_cells : List (List ℕ) → List Kind → List ℤ → List RawCell
raw_cells texts kinds cells = map (raw_cell texts) (zip kinds cells)

abbrev pub raw_row : List (List ℕ) → List Kind → PlainRow → RawRow
raw_row texts kinds row = record { key = row.key; cells = raw_cells texts kinds row.cells }

abbrev pub kinds_at : List (List Kind) → ℕ → List Kind
kinds_at kinds table = slice_index_or kinds table []

abbrev pub raw_block : List (List ℕ) → List (List Kind) → Block → RawBlock
raw_block texts kinds block = record {
  table = block.table;
  number = block.number;
  removed = block.removed;
  shifts = block.shifts;
  added = map (raw_row texts (kinds_at kinds block.table)) block.added;
  modified = map (raw_row texts (kinds_at kinds block.table)) block.modified;
}

abbrev pub raw_batch : List (List ℕ) → List (List Kind) → Batch → RawBatch
raw_batch texts kinds batch = record { blocks = map (raw_block texts kinds) batch.blocks }

-- a text cell is null or the number of a text
abbrev pub IsNumber : ℕ → Kind × ℤ → Type 0
IsNumber texts (LongKind, n) = Unit {0}
IsNumber texts (TextKind, n) = is_null n ≡ false → (number : ℕ) × (n ≡ pos number) × (number < texts)

-- a row has a cell for each of the columns
pub record IsNumberedRow (kinds : List Kind) (texts : ℕ) (row : PlainRow) : Type 0 where
  pub whole : length row.cells ≡ length kinds
  pub numbers : AllByRecursion (IsNumber texts) (zip kinds row.cells)

-- each text is one of those that stand in cells
abbrev pub AreTold : List (List ℕ) → List (List ℕ) → Type 0
AreTold texts told = AllByRecursion (λ text. list_any (bytes_eq text) told ≡ true) texts

-- texts are put behind others, each of which stands in a cell
abbrev pub Grows : List (List ℕ) → List (List ℕ) → List (List ℕ) → Type 0
Grows before after told = (more : List (List ℕ)) × (after ≡ before ++ more) × AreTold more told

pub record AreNumbered (kinds : List Kind) (texts : List (List ℕ)) (rows : List PlainRow) : Type 0 where
  pub rows_are : AllByRecursion (IsNumberedRow kinds (length texts)) rows
  pub told : AreTold texts (rows_texts (map (raw_row texts kinds) rows))

pub record IsNumberedBlock (kinds : List (List Kind)) (texts : ℕ) (block : Block) : Type 0 where
  pub added : AllByRecursion (IsNumberedRow (kinds_at kinds block.table) texts) block.added
  pub modified : AllByRecursion (IsNumberedRow (kinds_at kinds block.table) texts) block.modified

pub record AreNumberedBatches (kinds : List (List Kind)) (texts : List (List ℕ)) (batches : List Batch) : Type 0 where
  pub blocks_are : AllByRecursion (λ batch. AllByRecursion (IsNumberedBlock kinds (length texts)) batch.blocks) batches
  pub told : AreTold texts (flat_map batch_texts (map (raw_batch texts kinds) batches))

-- a text is put behind others, or not, where it is one of them
abbrev pub IsNumbering : List ℕ → List (List ℕ) → List (List ℕ) → Type 0
IsNumbering text before after = (after ≡ before) ⊎ (after ≡ before ++ text ∷ [])
