-- What a record of a feed says.
--     said texts kinds cells entry      what an entry says, with the cells of its row, of which those of texts are numbers of texts
--     IsReadEntry known kinds read entry      the cells of an entry's row are numbered, and its texts are put behind others
use Rattle.std.specs.Prelude.{◌≡◌, ℕ, List, [], Result, Ok, Err, ℤ, length}
use Rattle.tick_model.{specs.declared.plan.Kind.Kind, specs.declared.table.PlainRow.PlainRow, specs.declared.update.KeyRange.KeyRange, specs.declared.update.ShiftRange.ShiftRange, specs.declared.plan.Plan.Plan, specs.Plans.columns_at}
use Rattle.feed_reader.{specs.declared.entries.FeedEntry.FeedEntry as Read, specs.declared.raw.RawRow.RawRow, specs.declared.fault.TextKind.TextKind, specs.declared.place.BlockState.BlockState, specs.declared.place.BlockState.TheVariants.{Outside, Inside}, specs.declared.cells.ReadCells.ReadCells, specs.Cells.kinds_in, specs.Raw.{raw_row, row_texts, Grows, IsNumberedRow}}
use Rattle.feed_reader.specs.declared.entries.FeedEntry.TheVariants as reads

pub data Entry : Type 0 where
  Block : ℕ → Entry
  Removed : KeyRange → Entry
  Shift : ShiftRange → Entry
  Added : RawRow → Entry
  Modified : RawRow → Entry
  End : Entry

-- a row of a key, with such cells
abbrev pub row_of_key : List ℤ → ℕ → PlainRow
row_of_key cells key = record { key = key; cells = cells }

abbrev pub raw_row_at : List (List ℕ) → List Kind → List ℤ → ℕ → RawRow
raw_row_at texts kinds cells key = raw_row texts kinds (row_of_key cells key)

abbrev pub said : List (List ℕ) → List Kind → List ℤ → Read → Entry
said texts kinds cells (reads.Block table) = Block table
said texts kinds cells (reads.Removed range) = Removed range
said texts kinds cells (reads.Shift range) = Shift range
said texts kinds cells (reads.Added key) = Added (raw_row_at texts kinds cells key)
said texts kinds cells (reads.Modified key) = Modified (raw_row_at texts kinds cells key)
said texts kinds cells reads.End = End

abbrev pub told_row : List (List ℕ) → List Kind → List ℤ → Result ℕ TextKind → Result RawRow TextKind
told_row texts kinds cells (Ok key) = Ok (raw_row_at texts kinds cells key)
told_row texts kinds cells (Err kind) = Err kind

abbrev pub told_entry : List (List ℕ) → List Kind → List ℤ → Result Read TextKind → Result Entry TextKind
told_entry texts kinds cells (Ok entry) = Ok (said texts kinds cells entry)
told_entry texts kinds cells (Err kind) = Err kind

-- the kinds of the columns of the source whose block is read
abbrev pub kinds_within : Plan → BlockState → List Kind
kinds_within plan Outside = []
kinds_within plan (Inside table part last) = kinds_in (columns_at plan.nodes table)

-- a row is read: its cells are numbered, and its texts are put behind others
pub record IsReadRow (known : List (List ℕ)) (kinds : List Kind) (read : ReadCells) (key : ℕ) : Type 0 where
  pub numbered : IsNumberedRow kinds (length read.texts) (row_of_key read.cells.items key)
  pub grows : Grows known read.texts (row_texts (raw_row_at read.texts kinds read.cells.items key))

abbrev pub IsReadEntry : List (List ℕ) → List Kind → ReadCells → Read → Type 0
IsReadEntry known kinds read (reads.Added key) = IsReadRow known kinds read key
IsReadEntry known kinds read (reads.Modified key) = IsReadRow known kinds read key
IsReadEntry known kinds read entry = read.texts ≡ known
