-- The rows of a join, made of the left rows.
use Rattle.std.proofs.Common.{◌≡◌, refl, ap, sym, ◌∙◌, Bool, true, false, cond, ◌&&◌, arith, ℕ, List, [], ◌∷◌, ◌++◌, map, filter, Option, Some, None, ℤ, pos}
use Rattle.std.{specs.Prelude.{fold, int_le, int_lt, option_map, slice_get}, specs.List.{AllByRecursion, last_or}, specs.Ordering.int_eq, proofs.lemmas.Int.ints}
use Rattle.key_lists.{proofs.Every.{every, every-map, filter-map, filter_same, map_map, map_same}, proofs.Booleans.and_true}
use Rattle.lookup_join.{specs.declared.keyed.Side.Side, specs.declared.keyed.Side.TheVariants.{Left, Right}, specs.declared.pick.Pick.Pick, specs.declared.pick.Pick.TheVariants.{First, Last, Latest}, specs.Keyed.{key_cells, keyed, time_of}, specs.Latest.{latest_by, match_of, or_later}, specs.Matched.{matched_table, right_of}, specs.Taken.{gathered, taken_cells}, proofs.Spans.latest-map}
use Rattle.row_changes.proofs.MadeRows.{made_row}
use Rattle.row_groups.specs.Members.{Member, by_at, group_of, keys_of, member_of, placed}
use Rattle.tick_model.{specs.AsOf.{later, latest, not_later}, specs.declared.plan.OnPair.OnPair, specs.declared.table.PlainRow.PlainRow, specs.declared.table.PlainTable.PlainTable, specs.Join.{agree, matches, taken}, specs.Tables.{cell, keys, same_cells}}

-- rows agree where their key cells are the same
agree_is : (on : List OnPair) (left right : PlainRow) → agree on left right ≡ same_cells (key_cells Left on left.cells) (key_cells Right on right.cells)
agree_is [] left right = refl
agree_is (pair ∷ on) left right = ap (λ b. int_eq (cell left.cells pair.left) (cell right.cells pair.right) && b) (agree_is on left right)

pub not_later_is : (on : List OnPair) (at : OnPair) (rows : List PlainRow) (left : PlainRow) → not_later on at rows left ≡ gathered on (Latest at) rows (key_cells Left on left.cells) (time_of Left (Latest at) left.cells)
not_later_is on at rows left =
    filter_same (λ right. agree on left right && int_le (cell right.cells at.right) (cell left.cells at.left)) (λ row. same_cells (key_cells Left on left.cells) (key_cells Right on row.cells) && int_le (cell row.cells at.right) (cell left.cells at.left)) rows
    (every (λ right. (agree on left right && int_le (cell right.cells at.right) (cell left.cells at.left)) ≡ (same_cells (key_cells Left on left.cells) (key_cells Right on right.cells) && int_le (cell right.cells at.right) (cell left.cells at.left))) rows
    (λ right. ap (λ b. b && int_le (cell right.cells at.right) (cell left.cells at.left)) (agree_is on left right)))

module _ (at : OnPair) where
  abbrev time : PlainRow → ℤ
  time row = cell row.cells at.right

  not_later_from : (a b : ℤ) → int_le a b ≡ true → int_lt b a ≡ false
  not_later_from a b e = grind (arith, ints)

  later_from : (a b : ℤ) → int_le a b ≡ false → int_lt b a ≡ true
  later_from a b e = grind (arith, ints)

  not_through : (a b d : ℤ) → int_le a b ≡ true → int_lt d b ≡ false → int_lt d a ≡ false
  not_through a b d e f = grind (arith, ints)

  through : (a b d : ℤ) → int_le a b ≡ false → int_lt d b ≡ true → int_lt d a ≡ true
  through a b d e f = grind (arith, ints)

  -- the later of two, before others
  later_pair : (best row : PlainRow) (o : Option PlainRow) → or_later (Latest at) time (later at.right best row) o ≡ or_later (Latest at) time best (or_later (Latest at) time row o)
  later_pair best row o = by (int_le (time best) (time row)) refl o
    where
      by : (b : Bool) → int_le (time best) (time row) ≡ b → (o : Option PlainRow) → or_later (Latest at) time (cond b row best) o ≡ or_later (Latest at) time best (or_later (Latest at) time row o)
      by true e None = sym (ap (λ c. cond c (Some best) (Some row)) (not_later_from (time best) (time row) e))
      by false e None = sym (ap (λ c. cond c (Some best) (Some row)) (later_from (time best) (time row) e))
      by true e (Some last) = third (int_lt (time last) (time row)) refl
        where
          third : (c : Bool) → int_lt (time last) (time row) ≡ c → cond c (Some row) (Some last) ≡ or_later (Latest at) time best (cond c (Some row) (Some last))
          third true f = sym (ap (λ d. cond d (Some best) (Some row)) (not_later_from (time best) (time row) e))
          third false f = sym (ap (λ d. cond d (Some best) (Some last)) (not_through (time best) (time row) (time last) e f))
      by false e (Some last) = third (int_lt (time last) (time row)) refl
        where
          third : (c : Bool) → int_lt (time last) (time row) ≡ c → cond (int_lt (time last) (time best)) (Some best) (Some last) ≡ or_later (Latest at) time best (cond c (Some row) (Some last))
          third true f = ap (λ d. cond d (Some best) (Some last)) (through (time best) (time row) (time last) e f) ∙ sym (ap (λ d. cond d (Some best) (Some row)) (later_from (time best) (time row) e))
          third false f = refl

  fold_is : (best : PlainRow) (rows : List PlainRow) → Some (fold (later at.right) best rows) ≡ or_later (Latest at) time best (latest_by (Latest at) time rows)
  fold_is best [] = refl
  fold_is best (row ∷ rows) = fold_is (later at.right best row) rows ∙ later_pair best row (latest_by (Latest at) time rows)

  pub latest_is : (rows : List PlainRow) → latest at.right rows ≡ latest_by (Latest at) time rows
  latest_is [] = refl
  latest_is (row ∷ rows) = fold_is row rows

-- the rows with these key cells, of either side
abbrev pub with_cells : Side → List OnPair → List PlainRow → List ℤ → List PlainRow
with_cells side on rows cells = filter (λ row. same_cells cells (key_cells side on row.cells)) rows

pub matches_are : (on : List OnPair) (rows : List PlainRow) (left : PlainRow) → matches on rows left ≡ with_cells Right on rows (key_cells Left on left.cells)
matches_are on rows left = filter_same (agree on left) (λ row. same_cells (key_cells Left on left.cells) (key_cells Right on row.cells)) rows (every (λ row. agree on left row ≡ same_cells (key_cells Left on left.cells) (key_cells Right on row.cells)) rows (agree_is on left))

-- where all are of one time, none is later than another
all_in_time : (on : List OnPair) (rows : List PlainRow) (cells : List ℤ) → with_cells Right on rows cells ≡ filter (λ row. same_cells cells (key_cells Right on row.cells) && int_le (pos 0) (pos 0)) rows
all_in_time on rows cells =
    filter_same (λ row. same_cells cells (key_cells Right on row.cells)) (λ row. same_cells cells (key_cells Right on row.cells) && int_le (pos 0) (pos 0)) rows
    (every (λ row. same_cells cells (key_cells Right on row.cells) ≡ (same_cells cells (key_cells Right on row.cells) && int_le (pos 0) (pos 0))) rows (λ row. sym (and_true (same_cells cells (key_cells Right on row.cells)))))

-- and members stand by their keys
by_at_same : (members : List Member) → AllByRecursion (λ (member : Member). member.at ≡ pos 0) members → by_at members ≡ members
by_at_same [] h = refl
by_at_same (member ∷ members) h = ap (placed member) (by_at_same members h.1) ∙ first members h.1
  where
    first : (members : List Member) → AllByRecursion (λ (other : Member). other.at ≡ pos 0) members → placed member members ≡ member ∷ members
    first [] k = refl
    first (other ∷ others) k =
        ap (λ at. cond (int_lt at member.at) (other ∷ placed member others) (member ∷ other ∷ others)) k.0
        ∙ ap (λ at. cond (int_lt (pos 0) at) (other ∷ placed member others) (member ∷ other ∷ others)) h.0

pub keys-group : (side : Side) (on : List OnPair) (rows : List PlainRow) (cells : List ℤ) → keys_of (group_of cells (keyed side on First rows)) ≡ keys (with_cells side on rows cells)
keys-group side on rows cells =
    ap (λ members. keys_of (by_at members)) (filter-map (λ (member : Member). same_cells cells member.cells) (λ (row : PlainRow). member_of row.key (key_cells side on row.cells) (pos 0)) rows)
    ∙ ap keys_of (by_at_same (keyed side on First (with_cells side on rows cells)) (every-map (λ (member : Member). member.at ≡ pos 0) (λ (row : PlainRow). member_of row.key (key_cells side on row.cells) (pos 0)) (with_cells side on rows cells) (every (λ row. pos 0 ≡ pos 0) (with_cells side on rows cells) (λ row. refl))))
    ∙ map_map (λ (member : Member). member.key) (λ (row : PlainRow). member_of row.key (key_cells side on row.cells) (pos 0)) (with_cells side on rows cells)

abbrev no_time : PlainRow → ℤ
no_time row = pos 0

first_is : (rows : List PlainRow) → slice_get rows 0 ≡ latest_by First no_time rows
first_is [] = refl
first_is (row ∷ rows) = by (latest_by First no_time rows)
  where
    by : (o : Option PlainRow) → Some row ≡ or_later First no_time row o
    by None = refl
    by (Some best) = refl

last_is : (row : PlainRow) (rows : List PlainRow) → last_or (Some row) rows ≡ or_later Last no_time row (latest_by Last no_time rows)
last_is row [] = refl
last_is row (other ∷ rows) = last_is other rows ∙ by (latest_by Last no_time rows)
  where
    by : (o : Option PlainRow) → or_later Last no_time other o ≡ or_later Last no_time row (or_later Last no_time other o)
    by None = refl
    by (Some best) = refl

-- the right row that a left row takes is the one that is picked of those that are not later
pub right_is : (on : List OnPair) (pick : Pick) (rows : List PlainRow) (left : PlainRow) → right_of on pick rows left ≡ latest_by pick (λ row. time_of Right pick row.cells) (gathered on pick rows (key_cells Left on left.cells) (time_of Left pick left.cells))
right_is on First rows left = first_is (matches on rows left) ∙ ap (latest_by First no_time) (matches_are on rows left ∙ all_in_time on rows (key_cells Left on left.cells))
right_is on Last rows left = of_last (matches on rows left) ∙ ap (latest_by Last no_time) (matches_are on rows left ∙ all_in_time on rows (key_cells Left on left.cells))
  where
    of_last : (rows : List PlainRow) → last_or None rows ≡ latest_by Last no_time rows
    of_last [] = refl
    of_last (row ∷ rows) = last_is row rows
right_is on (Latest at) rows left = latest_is at (not_later on at rows left) ∙ ap (latest_by (Latest at) (λ row. cell row.cells at.right)) (not_later_is on at rows left)

-- the cells of a left row, followed by those that it takes
abbrev pub matched_cells : List OnPair → Pick → List ℕ → List PlainRow → List ℤ → List ℤ
matched_cells on pick take right cells = cells ++ taken_cells on pick take right (key_cells Left on cells) (time_of Left pick cells)

pub matched_rows : (on : List OnPair) (pick : Pick) (take : List ℕ) (left right : PlainTable) → (matched_table on pick take left right).rows ≡ map (made_row (matched_cells on pick take right.rows)) left.rows
matched_rows on pick take left right =
    map_same (λ row. let made : PlainRow = record row { cells = row.cells ++ taken take (right_of on pick right.rows row) } in made) (made_row (matched_cells on pick take right.rows)) left.rows
    (every (λ row. (let made : PlainRow = record row { cells = row.cells ++ taken take (right_of on pick right.rows row) } in made) ≡ made_row (matched_cells on pick take right.rows) row) left.rows
    (λ row. ap (λ o. let made : PlainRow = record row { cells = row.cells ++ taken take o } in made) (right_is on pick right.rows row)))

-- the match that an index gives is that row
pub match_is : (on : List OnPair) (pick : Pick) (rows : List PlainRow) (cells : List ℤ) (until : ℤ) → match_of pick cells until (keyed Right on pick rows) ≡ option_map (λ row. member_of row.key (key_cells Right on row.cells) (time_of Right pick row.cells)) (latest_by pick (λ row. time_of Right pick row.cells) (gathered on pick rows cells until))
match_is on pick rows cells until =
    ap (latest_by pick (λ (member : Member). member.at)) (filter-map (λ (member : Member). same_cells cells member.cells && int_le member.at until) (λ (row : PlainRow). member_of row.key (key_cells Right on row.cells) (time_of Right pick row.cells)) rows)
    ∙ latest-map pick (λ (member : Member). member.at) (λ (row : PlainRow). member_of row.key (key_cells Right on row.cells) (time_of Right pick row.cells)) (gathered on pick rows cells until)
