-- Rows, tables and blocks whose texts have ranks keep the rules of a run.
use Rattle.std.proofs.Common.{◌≡◌, ℕ, suc, ◌+◌, ◌^◌, ◌<◌, Bool, true, false, cond, List, [], ◌∷◌, map, length, pos, refl, ap, ◌∙◌, arith}
use Rattle.std.{proofs.lemmas.List.length-map, specs.Prelude.{not, ◌&&◌, ◌||◌, FitsSigned, flat_map}, specs.List.{AllByRecursion, list_any}, specs.Int.w64, specs.Str.bytes_eq, proofs.lemmas.Bool.lt-ltb, proofs.lemmas.Int.fits_signed_from_abs}
use Rattle.key_lists.{specs.Keys.IsRising, proofs.Every.every_weaker, proofs.Parts.{every_front, every_back}}
use Rattle.tick_model.{specs.declared.plan.ColumnSpec.ColumnSpec, specs.declared.plan.Kind.Kind, specs.declared.plan.Kind.TheVariants.{Long as LongKind, Text as TextKind}, specs.declared.plan.Plan.Plan, specs.declared.update.KeyRange.KeyRange, specs.declared.update.ShiftRange.ShiftRange, specs.LawfulRuns.{IsSourceRow, IsLawfulBlock, AreRanges}, specs.Plans.columns_at, specs.Printable.{IsShift, IsShiftRange, fits_kind, fit_columns}, specs.Tables.{keys, null}}
use Rattle.feed_reader.{specs.declared.raw.RawBatch.RawBatch, specs.declared.raw.RawBlock.RawBlock, specs.declared.raw.RawCell.RawCell, specs.declared.raw.RawCell.TheVariants.{Null, Long, Text}, specs.declared.raw.RawRow.RawRow, specs.Coding.{cell_texts, row_texts, rows_texts, block_texts, batch_texts, rank_of, coded_cell, coded_row, coded_rows, coded_block, coded_batch}, specs.Runs.IsAmong, proofs.Orderly.{CellFits, CellsFit, IsRawRow, IsRange, IsMove}, proofs.BlockLemmas.{Ascends, IsRawBlock}}

-- a text that is among the texts has a rank below their number
rank_next : (b : Bool) (n len : ℕ) (more : Bool) → (more ≡ true → n < len) → (b || more) ≡ true → cond (not b) (1 + n) 0 < suc len
rank_next true n len more below there = omega arith
rank_next false n len more below there = omega (arith, below there)

pub rank_below : (text : List ℕ) (texts : List (List ℕ)) → list_any (bytes_eq text) texts ≡ true → rank_of texts text < length texts
rank_below text [] there = cc there
rank_below text (first ∷ others) there = rank_next (bytes_eq text first) (rank_of others text) (length others) (list_any (bytes_eq text) others) (rank_below text others) there

fits_null : FitsSigned w64 null
fits_null = record { sfits = omega arith }

-- ranges and keys that ascend
ranges_are : (ranges : List KeyRange) → Ascends (λ (range : KeyRange). range.first) (λ range. range.last) ranges → AllByRecursion IsRange ranges → AreRanges ranges
ranges_are [] rise all = tt
ranges_are (range ∷ ranges) rise all = (all.0.0, all.0.1, rise.0, ranges_are ranges rise.1 all.1)

shift_is : (ranges : List ShiftRange) → Ascends (λ (range : ShiftRange). range.begin) (λ range. range.end) ranges → AllByRecursion IsMove ranges → IsShift ranges
shift_is [] rise all = tt
shift_is (range ∷ ranges) rise all = (all.0.rises, all.0.moves, rise.0, shift_is ranges rise.1 all.1)

module _ (texts : List (List ℕ)) (small : length texts < 2 ^ 63) where
  cell_of_kind : (kind : Kind) (cell : RawCell) → CellFits kind cell → AllByRecursion (IsAmong texts) (cell_texts cell) → (fits_kind (length texts) kind (coded_cell texts cell) ≡ true) × FitsSigned w64 (coded_cell texts cell)
  cell_of_kind LongKind Null fits among = (refl, fits_null)
  cell_of_kind TextKind Null fits among = (refl, fits_null)
  cell_of_kind LongKind (Long n) fits among = (refl, fits)
  cell_of_kind TextKind (Long n) fits among = absurd fits
  cell_of_kind LongKind (Text text) fits among = absurd fits
  cell_of_kind TextKind (Text text) fits among =
      let below = rank_below text texts (among.0 fits) in
      (lt-ltb (rank_of texts text) (length texts) below, fits_signed_from_abs w64 (pos (rank_of texts text)) (omega arith))

  cells_of_columns : (columns : List ColumnSpec) (cells : List RawCell) → CellsFit columns cells → AllByRecursion (IsAmong texts) (flat_map cell_texts cells) → (fit_columns (length texts) columns (map (coded_cell texts) cells) ≡ true) × AllByRecursion (FitsSigned w64) (map (coded_cell texts) cells)
  cells_of_columns [] [] fits among = (refl, tt)
  cells_of_columns [] (cell ∷ cells) fits among = absurd fits
  cells_of_columns (column ∷ columns) [] fits among = absurd fits
  cells_of_columns (column ∷ columns) (cell ∷ cells) fits among =
      let here = cell_of_kind column.kind cell fits.0 (every_front (IsAmong texts) (cell_texts cell) (flat_map cell_texts cells) among) in
      let later = cells_of_columns columns cells fits.1 (every_back (IsAmong texts) (cell_texts cell) (flat_map cell_texts cells) among) in
      (ap (λ b. b && fit_columns (length texts) columns (map (coded_cell texts) cells)) here.0 ∙ later.0, (here.1, later.1))

  row_of_source : (columns : List ColumnSpec) (row : RawRow) → IsRawRow columns row → AllByRecursion (IsAmong texts) (row_texts row) → IsSourceRow columns (length texts) (coded_row texts row)
  row_of_source columns row is among =
      let cells = cells_of_columns columns row.cells is.cells among in
      record { key = is.key; cells = cells.0; numbers = cells.1 }

  pub rows_of_source : (columns : List ColumnSpec) (rows : List RawRow) → AllByRecursion (IsRawRow columns) rows → AllByRecursion (IsAmong texts) (rows_texts rows) → AllByRecursion (IsSourceRow columns (length texts)) (coded_rows texts rows)
  rows_of_source columns [] all among = tt
  rows_of_source columns (row ∷ rows) all among =
      (row_of_source columns row all.0 (every_front (IsAmong texts) (row_texts row) (rows_texts rows) among), rows_of_source columns rows all.1 (every_back (IsAmong texts) (row_texts row) (rows_texts rows) among))

  keys_above : (key : ℕ) (rows : List RawRow) → AllByRecursion (λ row. key < row.key) rows → AllByRecursion (λ other. key < other) (keys (coded_rows texts rows))
  keys_above key [] above = tt
  keys_above key (row ∷ rows) above = (above.0, keys_above key rows above.1)

  rows_rise : (rows : List RawRow) → Ascends (λ (row : RawRow). row.key) (λ row. row.key) rows → IsRising (keys (coded_rows texts rows))
  rows_rise [] rise = tt
  rows_rise (row ∷ rows) rise = (keys_above row.key rows rise.0, rows_rise rows rise.1)

  block_of_run : (plan : Plan) (total : ℕ) (block : RawBlock) → total < 2 ^ 64 → IsRawBlock plan total block → AllByRecursion (IsAmong texts) (block_texts block) → IsLawfulBlock plan (length texts) (coded_block texts block)
  block_of_run plan total block low is among = record {
    source = is.source;
    removed = ranges_are block.removed is.removed.0 is.removed.1;
    shifts = shift_is block.shifts is.shifts.0 is.shifts.1;
    ranges = every_weaker IsMove (IsShiftRange (2 ^ 40)) block.shifts (λ range move. move.fits) is.shifts.1;
    added = rows_of_source (columns_at plan.nodes block.table) block.added is.added.1 (every_front (IsAmong texts) (rows_texts block.added) (rows_texts block.modified) among);
    modified = rows_of_source (columns_at plan.nodes block.table) block.modified is.modified.1 (every_back (IsAmong texts) (rows_texts block.added) (rows_texts block.modified) among);
    added_rise = rows_rise block.added is.added.0;
    modified_rise = rows_rise block.modified is.modified.0;
    records = omega (arith, is.count, length-map block.added (coded_row texts), length-map block.modified (coded_row texts));
  }

  blocks_of_run : (plan : Plan) (total : ℕ) (blocks : List RawBlock) → total < 2 ^ 64 → AllByRecursion (IsRawBlock plan total) blocks → AllByRecursion (IsAmong texts) (flat_map block_texts blocks) → AllByRecursion (IsLawfulBlock plan (length texts)) (map (coded_block texts) blocks)
  blocks_of_run plan total [] low all among = tt
  blocks_of_run plan total (block ∷ blocks) low all among = (
    block_of_run plan total block low all.0 (every_front (IsAmong texts) (block_texts block) (flat_map block_texts blocks) among),
    blocks_of_run plan total blocks low all.1 (every_back (IsAmong texts) (block_texts block) (flat_map block_texts blocks) among),
  )

  pub batches_of_run : (plan : Plan) (total : ℕ) (batches : List RawBatch) → total < 2 ^ 64 → AllByRecursion (λ batch. AllByRecursion (IsRawBlock plan total) batch.blocks) batches → AllByRecursion (IsAmong texts) (flat_map batch_texts batches) → AllByRecursion (λ batch. AllByRecursion (IsLawfulBlock plan (length texts)) batch.blocks) (map (coded_batch texts) batches)
  batches_of_run plan total [] low all among = tt
  batches_of_run plan total (batch ∷ batches) low all among = (
    blocks_of_run plan total batch.blocks low all.0 (every_front (IsAmong texts) (batch_texts batch) (flat_map batch_texts batches) among),
    batches_of_run plan total batches low all.1 (every_back (IsAmong texts) (batch_texts batch) (flat_map batch_texts batches) among),
  )
