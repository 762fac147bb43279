-- Ranks in the place of the numbers of texts.
use Rattle.std.proofs.Common.{◌≡◌, ℕ, zero, suc, ◌+◌, ◌*◌, ◌<◌, ◌≤◌, ℤ, pos, Bool, true, false, List, [], ◌∷◌, ◌++◌, map, take, drop, set, get_or, refl, sym, ap, ◌∙◌, subst, length, append_assoc, length-take-le, length-drop, arith}
use Rattle.std.{specs.Prelude.{◌^◌, flat_map, FitsSigned}, specs.Int.w64, specs.List.{AllByRecursion, zip}, proofs.lemmas.Int.fits_signed_from_abs, proofs.lemmas.Bool.cond_both, proofs.lemmas.Bool.Decides.Decides-int_eq, proofs.lemmas.List.{length-map, map-append, append-nil, take_more, take_more_set, take_all, take_at, drop_at, drop-drop, drop-set-lt, get_or-drop, drop_all, at_drop_more}, proofs.lemmas.Nat.mul-le, proofs.lemmas.Slice.Zip.{get_or-zip, length-zip}}
use Rattle.key_lists.{proofs.Every.{every_both, every_weaker, map_map, map_own}, proofs.Parts.every_at}
use Rattle.tick_model.{specs.declared.plan.Kind.Kind, specs.declared.plan.Kind.TheVariants.{Long as LongKind, Text as TextKind}, specs.declared.table.PlainRow.PlainRow, specs.Changes.rows_under, specs.Tables.{null, is_null}, proofs.RowLists.widths_under}
use Rattle.feed_reader.{specs.declared.raw.RawCell.RawCell, specs.declared.raw.RawCell.TheVariants.{Null, Long, Text}, specs.declared.raw.RawRow.RawRow, specs.Coding.{coded_cell, coded_row, coded_rows}, specs.Raw.{known_cell, raw_cell, raw_cells, raw_row, IsNumber, IsNumberedRow}}

-- a cell that is no text's number stays as it is
null_is : (n : ℤ) → is_null n ≡ true → null ≡ n
null_is n is = sym ((Decides-int_eq n null).0 is)

known_own : (texts own : List (List ℕ)) (kind : Kind) (n : ℤ) → is_null n ≡ false → IsNumber 0 (kind, n) → coded_cell texts (known_cell own kind n) ≡ n
known_own texts own LongKind n some number = refl
known_own texts own TextKind n some number = absurd (omega (arith, (number some).2))

cell_own : (texts own : List (List ℕ)) (kind : Kind) (n : ℤ) → IsNumber 0 (kind, n) → coded_cell texts (raw_cell own (kind, n)) ≡ n
cell_own texts own kind n number =
    cond_both (is_null n) Null (known_cell own kind n) (λ cell. coded_cell texts cell ≡ n) (λ e. null_is n e) (λ e. known_own texts own kind n e number)

pub long_own : (texts own : List (List ℕ)) (n : ℤ) → n ≡ coded_cell texts (raw_cell own (LongKind, n))
long_own texts own n = sym (cell_own texts own LongKind n tt)

-- the cells of a row, coded
abbrev pub coded_at : List (List ℕ) → List (List ℕ) → Kind × ℤ → ℤ
coded_at texts own cell = coded_cell texts (raw_cell own cell)

abbrev pub row_coded : List (List ℕ) → List (List ℕ) → List Kind → PlainRow → List ℤ
row_coded texts own kinds row = map (coded_cell texts) (raw_cells own kinds row.cells)

-- the cell at a place of a row that begins at a place
same_cell : (old cells : List ℤ) (place : ℕ) (d : ℤ) → drop place cells ≡ drop place old → get_or cells place d ≡ get_or old place d
same_cell old cells place d same =
    let on : place ≡ place + 0 = omega arith in
    ap (λ n. get_or cells n d) on ∙ sym (get_or-drop place cells 0 d) ∙ ap (λ rest. get_or rest 0 d) same ∙ get_or-drop place old 0 d ∙ ap (λ n. get_or old n d) (sym on)

module _ (kinds : List Kind) (old cells : List ℤ) (start place : ℕ) (kind : Kind) (within : place < length kinds) (room : start + length kinds ≤ length old) (here : get_or kinds place LongKind ≡ kind) (same : drop (start + place) cells ≡ drop (start + place) old) where
  pair_is : get_or (zip kinds (drop start old)) place (LongKind, pos 0) ≡ (kind, get_or cells (start + place) (pos 0))
  pair_is =
      get_or-zip kinds (drop start old) place (LongKind, pos 0) within (omega (arith, length-drop start old))
      ∙ ap (λ (k : Kind). let it : Kind × ℤ = (k, get_or (drop start old) place (pos 0)) in it) here
      ∙ ap (λ (n : ℤ). let it : Kind × ℤ = (kind, n) in it) (get_or-drop start old place (pos 0) ∙ sym (same_cell old cells (start + place) (pos 0) same))

  in_pairs : place < length (zip kinds (drop start old))
  in_pairs = omega (arith, length-zip kinds (drop start old), length-drop start old)

  pub cell_number : (ranks : ℕ) → AllByRecursion (IsNumber ranks) (zip kinds (drop start old)) → IsNumber ranks (kind, get_or cells (start + place) (pos 0))
  cell_number ranks numbers = subst (IsNumber ranks) pair_is (every_at (IsNumber ranks) (zip kinds (drop start old)) place (LongKind, pos 0) in_pairs numbers)

  -- one more cell
  module _ (new : List ℤ) (v : ℤ) (put : new ≡ set cells (start + place) v) where
    next : start + (place + 1) ≡ start + place + 1
    next = omega arith

    pub code_step : (F : Kind × ℤ → ℤ) → length cells ≡ length old → v ≡ F (kind, get_or cells (start + place) (pos 0)) → take (start + place) cells ≡ take start old ++ map F (take place (zip kinds (drop start old)))
        → take (start + (place + 1)) new ≡ take start old ++ map F (take (place + 1) (zip kinds (drop start old)))
    code_step F whole is before =
        let pairs = zip kinds (drop start old) in
        ap (λ n. take n new) next
        ∙ ap (take (start + place + 1)) put
        ∙ take_more_set cells (start + place) v (omega (arith, whole))
        ∙ ap (λ front. front ++ v ∷ []) before
        ∙ append_assoc (take start old) (map F (take place pairs)) (v ∷ [])
        ∙ ap (λ last. take start old ++ (map F (take place pairs) ++ last ∷ [])) (is ∙ ap F (sym pair_is))
        ∙ ap (λ more. take start old ++ more) (sym (map-append F (take place pairs) (get_or pairs place (LongKind, pos 0) ∷ [])))
        ∙ ap (λ front. take start old ++ map F front) (sym (take_more pairs place (LongKind, pos 0) in_pairs))

    pub left_step : drop (start + (place + 1)) new ≡ drop (start + (place + 1)) old
    left_step =
        ap (λ n. drop n new) next
        ∙ ap (drop (start + place + 1)) put
        ∙ drop-set-lt (start + place + 1) cells (start + place) v (omega arith)
        ∙ sym (drop-drop 1 (start + place) cells)
        ∙ ap (drop 1) same
        ∙ drop-drop 1 (start + place) old
        ∙ ap (λ n. drop n old) (sym next)

pub number_fits : (ranks : ℕ) (n : ℤ) → ranks < 2 ^ 63 → IsNumber ranks (TextKind, n) → FitsSigned w64 n
number_fits ranks n small number =
    (elim (is_null n) as (λ b. is_null n ≡ b → FitsSigned w64 n) [
      | true ↦ λ e. subst (FitsSigned w64) (null_is n e) (record { sfits = omega arith })
      | false ↦ λ e. let found = number e in subst (FitsSigned w64) (sym found.1) (fits_signed_from_abs w64 (pos found.0) (omega (arith, found.2)))
    ]) refl

-- the rows from a place on
abbrev pub rows_left : ℕ → List ℕ → ℕ → List ℤ → List PlainRow
rows_left width keys place cells = rows_under width (drop place keys) (drop (width * place) cells)

-- rows of which those before a place are coded
abbrev pub coded_from : List (List ℕ) → List (List ℕ) → List Kind → ℕ → List ℕ → ℕ → List ℤ → List ℤ
coded_from texts own kinds width keys place cells = take (width * place) cells ++ flat_map (row_coded texts own kinds) (rows_left width keys place cells)

abbrev row_at : ℕ → List ℕ → ℕ → List ℤ → PlainRow
row_at width keys place cells = record { key = get_or keys place 0; cells = take width (drop (width * place) cells) }

next_place : (width place : ℕ) → width * place + width ≡ width * (place + 1)
next_place width place = omega arith

next_row : (width : ℕ) (keys : List ℕ) (place : ℕ) (cells : List ℤ) → place < length keys → rows_left width keys place cells ≡ row_at width keys place cells ∷ rows_left width keys (place + 1) cells
next_row width keys place cells within =
    at_drop_more (λ ks. rows_under width ks (drop (width * place) cells)) keys place 0 within
    ∙ ap (λ rest. row_at width keys place cells ∷ rows_under width (drop (place + 1) keys) rest) (drop-drop width (width * place) cells ∙ ap (λ n. drop n cells) (next_place width place))

pub row_room : (width place count : ℕ) → place < count → width * place + width ≤ width * count
row_room width place count within = omega (arith, mul-le width (suc place) width count (omega arith) (omega arith))

zip-take : {A B : Type 0} (xs : List A) (ys : List B) → zip xs (take (length xs) ys) ≡ zip xs ys
zip-take [] ys = refl
zip-take (x ∷ xs) [] = refl
zip-take {A} {B} (x ∷ xs) (y ∷ ys) = ap (λ (rest : List (A × B)). (x, y) ∷ rest) (zip-take xs ys)

-- the rows of cells that stand one behind the other
rows_recoded : (F : PlainRow → List ℤ) (width : ℕ) (keys : List ℕ) (cells : List ℤ) → AllByRecursion (λ row. length (F row) ≡ width) (rows_under width keys cells) → rows_under width keys (flat_map F (rows_under width keys cells)) ≡ map (λ row. record { key = row.key; cells = F row }) (rows_under width keys cells)
rows_recoded F width [] cells wide = refl
rows_recoded F width (key ∷ keys) cells wide =
    let own = F (record { key = key; cells = take width cells }) in
    let rest = flat_map F (rows_under width keys (drop width cells)) in
    ap (λ front. (record { key = key; cells = front }) ∷ rows_under width keys (drop width (own ++ rest))) (take_at own rest width wide.0)
    ∙ ap (λ left. (record { key = key; cells = own }) ∷ rows_under width keys left) (drop_at own rest width wide.0)
    ∙ ap (λ rows. (record { key = key; cells = own }) ∷ rows) (rows_recoded F width keys (drop width cells) wide.1)

module _ (kinds : List Kind) (ranks width : ℕ) (keys : List ℕ) where
  pub row_whole : (place : ℕ) (cells : List ℤ) → place < length keys → length cells ≡ width * length keys → AllByRecursion (IsNumberedRow kinds ranks) (rows_left width keys place cells) → length kinds ≡ width
  row_whole place cells within whole numbered =
      let row = (subst (AllByRecursion (IsNumberedRow kinds ranks)) (next_row width keys place cells within) numbered).0 in
      sym row.whole ∙ length-take-le width (drop (width * place) cells) (omega (arith, length-drop (width * place) cells, row_room width place (length keys) within, whole))

  pub row_numbers : (place : ℕ) (cells : List ℤ) → place < length keys → length cells ≡ width * length keys → AllByRecursion (IsNumberedRow kinds ranks) (rows_left width keys place cells) → AllByRecursion (IsNumber ranks) (zip kinds (drop (width * place) cells))
  row_numbers place cells within whole numbered =
      let row = (subst (AllByRecursion (IsNumberedRow kinds ranks)) (next_row width keys place cells within) numbered).0 in
      let same : zip kinds (take width (drop (width * place) cells)) ≡ zip kinds (drop (width * place) cells) =
      ap (λ n. zip kinds (take n (drop (width * place) cells))) (sym (row_whole place cells within whole numbered)) ∙ zip-take kinds (drop (width * place) cells) in
      subst (AllByRecursion (IsNumber ranks)) same row.numbers

  left_same : (place : ℕ) (cells new : List ℤ) → length kinds ≡ width → drop (width * place + length kinds) new ≡ drop (width * place + length kinds) cells → rows_left width keys (place + 1) new ≡ rows_left width keys (place + 1) cells
  left_same place cells new wide left =
      let on : width * place + length kinds ≡ width * (place + 1) = omega (arith, wide) in
      ap (rows_under width (drop (place + 1) keys)) (subst (λ n. drop n new ≡ drop n cells) on left)

  pub left_numbered : (place : ℕ) (cells new : List ℤ) → place < length keys → length kinds ≡ width → drop (width * place + length kinds) new ≡ drop (width * place + length kinds) cells → AllByRecursion (IsNumberedRow kinds ranks) (rows_left width keys place cells) → AllByRecursion (IsNumberedRow kinds ranks) (rows_left width keys (place + 1) new)
  left_numbered place cells new within wide left numbered =
      subst (AllByRecursion (IsNumberedRow kinds ranks)) (sym (left_same place cells new wide left)) (subst (AllByRecursion (IsNumberedRow kinds ranks)) (next_row width keys place cells within) numbered).1

  module _ (texts own : List (List ℕ)) where
    -- a row is coded, and those behind it are left as they are
    pub row_step : (place : ℕ) (cells new : List ℤ) → place < length keys → length kinds ≡ width → drop (width * place + length kinds) new ≡ drop (width * place + length kinds) cells
        → take (width * place + length kinds) new ≡ take (width * place) cells ++ map (coded_cell texts) (raw_cells own kinds (drop (width * place) cells))
        → coded_from texts own kinds width keys (place + 1) new ≡ coded_from texts own kinds width keys place cells
    row_step place cells new within wide left coded =
        let on : width * place + length kinds ≡ width * (place + 1) = omega (arith, wide) in
        let front = take (width * place) cells in
        let later = flat_map (row_coded texts own kinds) (rows_left width keys (place + 1) cells) in
        let row = row_at width keys place cells in
        let here : map (coded_cell texts) (raw_cells own kinds (drop (width * place) cells)) ≡ row_coded texts own kinds row =
        ap (λ (pairs : List (Kind × ℤ)). map (coded_cell texts) (map (raw_cell own) pairs)) (sym (zip-take kinds (drop (width * place) cells)))
        ∙ ap (λ n. map (coded_cell texts) (raw_cells own kinds (take n (drop (width * place) cells)))) wide in
        ap (λ rows. take (width * (place + 1)) new ++ flat_map (row_coded texts own kinds) rows) (left_same place cells new wide left)
        ∙ ap (λ n. take n new ++ later) (sym on)
        ∙ ap (λ done. done ++ later) (coded ∙ ap (λ cells. front ++ cells) here)
        ∙ append_assoc front (row_coded texts own kinds row) later
        ∙ ap (λ rows. front ++ flat_map (row_coded texts own kinds) rows) (sym (next_row width keys place cells within))

    -- all rows are coded
    wide_coded : (row : PlainRow) → length row.cells ≡ width → IsNumberedRow kinds ranks row → length (row_coded texts own kinds row) ≡ width
    wide_coded row wide numbered =
        omega (arith, length-map (raw_cells own kinds row.cells) (coded_cell texts), length-map (zip kinds row.cells) (raw_cell own), length-zip kinds row.cells, wide, numbered.whole)

    pub rows_done : (place : ℕ) (old cells : List ℤ) → length keys ≡ place → length old ≡ width * length keys → length cells ≡ width * length keys → AllByRecursion (IsNumberedRow kinds ranks) (rows_under width keys old)
        → coded_from texts own kinds width keys place cells ≡ flat_map (row_coded texts own kinds) (rows_under width keys old) → rows_under width keys cells ≡ coded_rows texts (map (raw_row own kinds) (rows_under width keys old))
    rows_done place old cells all whole same numbered coded =
        let rows = rows_under width keys old in
        let wide = every_both (λ (row : PlainRow). length row.cells ≡ width) (IsNumberedRow kinds ranks) (λ row. length (row_coded texts own kinds row) ≡ width) rows wide_coded (widths_under width keys old whole) numbered in
        let is : cells ≡ flat_map (row_coded texts own kinds) rows =
        sym (take_all (width * place) cells (omega (arith, same, ap (λ n. width * n) all)))
        ∙ sym (append-nil (take (width * place) cells))
        ∙ ap (λ ks. take (width * place) cells ++ flat_map (row_coded texts own kinds) (rows_under width ks (drop (width * place) cells))) (sym (drop_all place keys (omega (arith, all))))
        ∙ coded in
        ap (rows_under width keys) is
        ∙ rows_recoded (row_coded texts own kinds) width keys old wide
        ∙ sym (map_map (coded_row texts) (raw_row own kinds) rows)

-- rows without numbers of texts stay as they are
module _ (texts own : List (List ℕ)) (kinds : List Kind) where
  cells_own : (columns : List Kind) (cells : List ℤ) → length cells ≡ length columns → AllByRecursion (IsNumber 0) (zip columns cells) → map (coded_cell texts) (raw_cells own columns cells) ≡ cells
  cells_own [] [] whole numbers = refl
  cells_own [] (n ∷ cells) whole numbers = absurd (omega (arith, whole))
  cells_own (kind ∷ columns) [] whole numbers = refl
  cells_own (kind ∷ columns) (n ∷ cells) whole numbers =
      ap (λ first. first ∷ map (coded_cell texts) (raw_cells own columns cells)) (cell_own texts own kind n numbers.0) ∙ ap (λ rest. n ∷ rest) (cells_own columns cells (omega (arith, whole)) numbers.1)

  row_own : (row : PlainRow) → IsNumberedRow kinds 0 row → coded_row texts (raw_row own kinds row) ≡ row
  row_own row numbered = ap (λ cells. let it : PlainRow = record { key = row.key; cells = cells } in it) (cells_own kinds row.cells numbered.whole numbered.numbers)

  pub rows_own : (rows : List PlainRow) → AllByRecursion (IsNumberedRow kinds 0) rows → coded_rows texts (map (raw_row own kinds) rows) ≡ rows
  rows_own rows numbered =
      map_map (coded_row texts) (raw_row own kinds) rows
      ∙ map_own (λ row. coded_row texts (raw_row own kinds row)) rows (every_weaker (IsNumberedRow kinds 0) (λ row. coded_row texts (raw_row own kinds row) ≡ row) rows row_own numbered)
