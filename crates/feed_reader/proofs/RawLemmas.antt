-- Rows whose text cells are numbers of texts: what they tell stays as it is where texts are put behind others, and those that they tell are among the texts.
use Rattle.std.proofs.Common.{◌≡◌, ℕ, ◌+◌, ◌<◌, ◌≤◌, Bool, true, false, cond, List, [], ◌∷◌, ◌++◌, map, ℤ, pos, refl, sym, ap, ◌∙◌, subst, length, length-append, arith}
use Rattle.std.{specs.Prelude.{◌||◌, flat_map}, specs.List.{AllByRecursion, list_any, zip}, specs.Str.bytes_eq, proofs.lemmas.Bool.{cond_both, or_right}, proofs.lemmas.Cmp.nat_list_eq_equiv, proofs.lemmas.List.{append-nil, append_assoc, get_or_append_left, map-append}, proofs.lemmas.List.Concat.flat_map-append, proofs.lemmas.List.Folds.{list_any-append, list_any_at}}
use Rattle.key_lists.proofs.Every.{every_weaker, every-append, map_same}
use Rattle.tick_model.{specs.declared.feed.Batch.Batch, specs.declared.feed.Block.Block, specs.declared.plan.Kind.Kind, specs.declared.plan.Kind.TheVariants.{Long as LongKind, Text as TextKind}, specs.declared.table.PlainRow.PlainRow, specs.Tables.is_null}
use Rattle.feed_reader.{specs.declared.raw.RawCell.RawCell, specs.declared.raw.RawCell.TheVariants.{Null, Long, Text}, specs.declared.raw.RawRow.RawRow, specs.Raw.{cell_texts, row_texts, rows_texts, block_texts, batch_texts, text_at, raw_cell, raw_cells, raw_row, raw_block, raw_batch, kinds_at, IsNumber, IsNumberedRow, IsNumberedBlock, AreNumbered, AreTold, Grows}}

-- texts that stand in cells
pub told_before : (texts told more : List (List ℕ)) → AreTold texts told → AreTold texts (told ++ more)
told_before texts told more are =
    every_weaker (λ text. list_any (bytes_eq text) told ≡ true) (λ text. list_any (bytes_eq text) (told ++ more) ≡ true) texts
    (λ text there. list_any-append (bytes_eq text) told more ∙ ap (λ b. b || list_any (bytes_eq text) more) there) are

pub told_behind : (texts told more : List (List ℕ)) → AreTold texts more → AreTold texts (told ++ more)
told_behind texts told more are =
    every_weaker (λ text. list_any (bytes_eq text) more ≡ true) (λ text. list_any (bytes_eq text) (told ++ more) ≡ true) texts
    (λ text there. list_any-append (bytes_eq text) told more ∙ or_right (list_any (bytes_eq text) told) (list_any (bytes_eq text) more) there) are

pub told_both : (xs ys told more : List (List ℕ)) → AreTold xs told → AreTold ys more → AreTold (xs ++ ys) (told ++ more)
told_both xs ys told more first next =
    every-append (λ text. list_any (bytes_eq text) (told ++ more) ≡ true) xs ys (told_before xs told more first) (told_behind ys told more next)

pub grows_none : (texts : List (List ℕ)) → Grows texts texts []
grows_none texts = ([], sym (append-nil texts), tt)

pub grows_on : (before texts after told more : List (List ℕ)) → Grows before texts told → Grows texts after more → Grows before after (told ++ more)
grows_on before texts after told more first next = (
  first.0 ++ next.0,
  next.1 ∙ ap (λ (all : List (List ℕ)). all ++ next.0) first.1 ∙ append_assoc before first.0 next.0,
  told_both first.0 next.0 told more first.2 next.2,
)

pub grown_longer : (before after told : List (List ℕ)) → Grows before after told → length before ≤ length after
grown_longer before after told grows = omega (arith, ap length grows.1, length-append before grows.0)

-- numbers stay numbers of the same texts
unless_null : {X : Type 0} (b : Bool) (null x y : X) → (b ≡ false → x ≡ y) → cond b null x ≡ cond b null y
unless_null true null x y same = refl
unless_null false null x y same = same refl

pub number_kept : (few many : ℕ) (cell : Kind × ℤ) → few ≤ many → IsNumber few cell → IsNumber many cell
number_kept few many (LongKind, n) less is = tt
number_kept few many (TextKind, n) less is = λ some. let found = is some in (found.0, found.1, omega (arith, found.2))

text_kept : (texts more : List (List ℕ)) (n : ℤ) (number : ℕ) → n ≡ pos number → number < length texts → text_at (texts ++ more) n ≡ text_at texts n
text_kept texts more n number is below = rw is (get_or_append_left texts more [] number below)

pub cell_kept : (texts more : List (List ℕ)) (cell : Kind × ℤ) → IsNumber (length texts) cell → raw_cell (texts ++ more) cell ≡ raw_cell texts cell
cell_kept texts more (LongKind, n) is = refl
cell_kept texts more (TextKind, n) is =
    unless_null (is_null n) Null (Text (text_at (texts ++ more) n)) (Text (text_at texts n)) (λ some. let found = is some in ap Text (text_kept texts more n found.0 found.1 found.2))

pub cells_kept : (texts more : List (List ℕ)) (kinds : List Kind) (cells : List ℤ) → AllByRecursion (IsNumber (length texts)) (zip kinds cells) → raw_cells (texts ++ more) kinds cells ≡ raw_cells texts kinds cells
cells_kept texts more kinds cells are =
    map_same (raw_cell (texts ++ more)) (raw_cell texts) (zip kinds cells)
    (every_weaker (IsNumber (length texts)) (λ cell. raw_cell (texts ++ more) cell ≡ raw_cell texts cell) (zip kinds cells) (cell_kept texts more) are)

row_kept : (texts more : List (List ℕ)) (kinds : List Kind) (row : PlainRow) → IsNumberedRow kinds (length texts) row → raw_row (texts ++ more) kinds row ≡ raw_row texts kinds row
row_kept texts more kinds row is = ap (λ (cells : List RawCell). let raw : RawRow = record { key = row.key; cells = cells } in raw) (cells_kept texts more kinds row.cells is.numbers)

pub rows_kept : (texts more : List (List ℕ)) (kinds : List Kind) (rows : List PlainRow) → AllByRecursion (IsNumberedRow kinds (length texts)) rows → map (raw_row (texts ++ more) kinds) rows ≡ map (raw_row texts kinds) rows
rows_kept texts more kinds rows are =
    map_same (raw_row (texts ++ more) kinds) (raw_row texts kinds) rows
    (every_weaker (IsNumberedRow kinds (length texts)) (λ row. raw_row (texts ++ more) kinds row ≡ raw_row texts kinds row) rows (row_kept texts more kinds) are)

pub numbers_kept : (few many : ℕ) (kinds : List Kind) (cells : List ℤ) → few ≤ many → AllByRecursion (IsNumber few) (zip kinds cells) → AllByRecursion (IsNumber many) (zip kinds cells)
numbers_kept few many kinds cells less are = every_weaker (IsNumber few) (IsNumber many) (zip kinds cells) (λ cell is. number_kept few many cell less is) are

pub rows_more : (few many : ℕ) (kinds : List Kind) (rows : List PlainRow) → few ≤ many → AllByRecursion (IsNumberedRow kinds few) rows → AllByRecursion (IsNumberedRow kinds many) rows
rows_more few many kinds rows less are =
    every_weaker (IsNumberedRow kinds few) (IsNumberedRow kinds many) rows
    (λ row is. record { whole = is.whole; numbers = numbers_kept few many kinds row.cells less is.numbers }) are

-- one more row, with texts behind those before
module _ (kinds : List Kind) (before after : List (List ℕ)) (rows : List PlainRow) (row : PlainRow) (are : AreNumbered kinds before rows) (grows : Grows before after (row_texts (raw_row after kinds row))) where
  pub told_push : map (raw_row after kinds) (rows ++ row ∷ []) ≡ map (raw_row before kinds) rows ++ raw_row after kinds row ∷ []
  told_push =
      map-append (raw_row after kinds) rows (row ∷ [])
      ∙ ap (λ (raw : List RawRow). raw ++ raw_row after kinds row ∷ []) (ap (λ (texts : List (List ℕ)). map (raw_row texts kinds) rows) grows.1 ∙ rows_kept before grows.0 kinds rows are.rows_are)

  pub numbered_push : IsNumberedRow kinds (length after) row → AreNumbered kinds after (rows ++ row ∷ [])
  numbered_push is =
      let own = row_texts (raw_row after kinds row) in
      let texts : rows_texts (map (raw_row after kinds) (rows ++ row ∷ [])) ≡ rows_texts (map (raw_row before kinds) rows) ++ own =
      ap rows_texts told_push ∙ flat_map-append row_texts (map (raw_row before kinds) rows) (raw_row after kinds row ∷ []) ∙ ap (λ (last : List (List ℕ)). rows_texts (map (raw_row before kinds) rows) ++ last) (append-nil own) in
      record {
        rows_are =
            every-append (IsNumberedRow kinds (length after)) rows (row ∷ [])
            (rows_more (length before) (length after) kinds rows (grown_longer before after own grows) are.rows_are) (is, tt);
        told =
            subst (AreTold after) (sym texts)
            (subst (λ (all : List (List ℕ)). AreTold all (rows_texts (map (raw_row before kinds) rows) ++ own)) (sym grows.1) (told_both before grows.0 (rows_texts (map (raw_row before kinds) rows)) own are.told grows.2));
      }

-- what is told is among the texts
module _ (texts : List (List ℕ)) where
  abbrev among : List ℕ → Type 0
  among text = list_any (bytes_eq text) texts ≡ true

  number_told : (n : ℤ) (number : ℕ) → n ≡ pos number → number < length texts → among (text_at texts n)
  number_told n number is below = rw is (list_any_at (bytes_eq (text_at texts (pos number))) texts number [] below (nat_list_eq_equiv.refl (text_at texts (pos number))))

  cell_told : (cell : Kind × ℤ) → IsNumber (length texts) cell → AreTold (cell_texts (raw_cell texts cell)) texts
  cell_told (LongKind, n) is = cond_both (is_null n) Null (Long n) (λ cell. AreTold (cell_texts cell) texts) (λ _. tt) (λ _. tt)
  cell_told (TextKind, n) is =
      cond_both (is_null n) Null (Text (text_at texts n)) (λ cell. AreTold (cell_texts cell) texts) (λ _. tt)
      (λ some. let found = is some in (number_told n found.0 found.1 found.2, tt))

  cells_told : (cells : List (Kind × ℤ)) → AllByRecursion (IsNumber (length texts)) cells → AreTold (flat_map cell_texts (map (raw_cell texts) cells)) texts
  cells_told [] are = tt
  cells_told (cell ∷ cells) are = every-append among (cell_texts (raw_cell texts cell)) (flat_map cell_texts (map (raw_cell texts) cells)) (cell_told cell are.0) (cells_told cells are.1)

  pub rows_told : (kinds : List Kind) (rows : List PlainRow) → AllByRecursion (IsNumberedRow kinds (length texts)) rows → AreTold (rows_texts (map (raw_row texts kinds) rows)) texts
  rows_told kinds [] are = tt
  rows_told kinds (row ∷ rows) are =
      every-append among (row_texts (raw_row texts kinds row)) (rows_texts (map (raw_row texts kinds) rows)) (cells_told (zip kinds row.cells) are.0.numbers) (rows_told kinds rows are.1)

  blocks_told : (kinds : List (List Kind)) (blocks : List Block) → AllByRecursion (IsNumberedBlock kinds (length texts)) blocks → AreTold (flat_map block_texts (map (raw_block texts kinds) blocks)) texts
  blocks_told kinds [] are = tt
  blocks_told kinds (block ∷ blocks) are =
      let own = kinds_at kinds block.table in
      every-append among (block_texts (raw_block texts kinds block)) (flat_map block_texts (map (raw_block texts kinds) blocks))
      (every-append among (rows_texts (map (raw_row texts own) block.added)) (rows_texts (map (raw_row texts own) block.modified)) (rows_told own block.added are.0.added) (rows_told own block.modified are.0.modified))
      (blocks_told kinds blocks are.1)

  pub batches_told : (kinds : List (List Kind)) (batches : List Batch) → AllByRecursion (λ batch. AllByRecursion (IsNumberedBlock kinds (length texts)) batch.blocks) batches → AreTold (flat_map batch_texts (map (raw_batch texts kinds) batches)) texts
  batches_told kinds [] are = tt
  batches_told kinds (batch ∷ batches) are =
      every-append among (batch_texts (raw_batch texts kinds batch)) (flat_map batch_texts (map (raw_batch texts kinds) batches)) (blocks_told kinds batch.blocks are.0) (batches_told kinds batches are.1)
