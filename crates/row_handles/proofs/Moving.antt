-- Whole blocks that move.
use Rattle.std.proofs.Common.{◌≡◌, ◌≢◌, refl, ap, sym, ◌∙◌, subst, ℕ, zero, suc, ◌+◌, ◌-◌, length, take, drop, get_or, set, take-append-drop, ◌^◌, ◌<◌, ◌≤◌, arith, List, [], ◌∷◌, ◌++◌, map, Some, None, ℤ, inl, inr, false, ◌&&◌, leb, pos, ◌+ℤ◌, option_map, unwrap_or}
use Rattle.std.{proofs.lemmas.List.map-append, specs.List.AllByRecursion, proofs.lemmas.Int.ints, proofs.lemmas.Bool.{lt-leb, le-leb}}
use Rattle.key_lists.{specs.Keys.IsRising, proofs.Every.{every_weaker, every_both, every-map, every_unmapped, every-append, map_map, map_own, find_none, find_same, turned}, proofs.Booleans.and_false, proofs.Parts.{every-take, every-drop, every_front, every_back, around, last_taken, set_around, take_nil}}
use Rattle.tick_model.{specs.declared.update.ShiftRange.ShiftRange, specs.Shifts.{moved, as_key, delta_at, holds}, specs.Rules.{is_past, shift_fault}, specs.Printable.IsShift}
use Rattle.shift_data.proofs.Lawful.{lawful, not_past}
use Rattle.slab.specs.Slab.{Slab, get, Updates}
use Rattle.row_handles.{specs.declared.block.RowBlock.RowBlock, specs.declared.block.BlockRow.BlockRow, specs.declared.index.Location.Location, specs.declared.index.HandleIndex.HandleIndex, specs.Entries.{Entry, entry_of, keys_of, moved_row, moved_rows, Ascend, AreDistinct}, specs.Blocks.{BeginAt, IsBlock, IsIndex, IsPlaced, entry_at, rows_of, rows, number_of}, specs.Moves.{IsBeside, IsBesideRange, IsMovable, moved_block}, proofs.Lists.others_of, proofs.EntryLists.{ascend_by_keys, ascend_front, ascend_back, begin_has, from_begin}, proofs.Listings.{rows_before, own_block}}

-- the first key of a block, and that it is below the ceiling
own_first : (P : ℕ → Type 0) (block : RowBlock) → IsBlock block → AllByRecursion (λ x. P x.key) (rows_of block) → P block.first
own_first P block is h = begin_has P block.first (rows_of block) is.begun h

within_ceiling : (ceiling : ℕ) (xs : List BlockRow) → AllByRecursion (λ x. x.key ≤ ceiling) (map (entry_at ceiling) xs)
within_ceiling ceiling [] = tt
within_ceiling ceiling (x ∷ xs) = (omega arith, within_ceiling ceiling xs)

pub first_below : (block : RowBlock) → IsBlock block → block.first ≤ block.ceiling
first_below block is = own_first (λ k. k ≤ block.ceiling) block is (within_ceiling block.ceiling block.rows.items)

pub each_movable : (shifts : List ShiftRange) (blocks : List RowBlock) → AllByRecursion IsBlock blocks → AllByRecursion (λ x. x.key < 2 ^ 62) (rows blocks) → AllByRecursion (λ x. is_past (2 ^ 62) (moved shifts x.key) ≡ false) (rows blocks) → AllByRecursion (IsMovable shifts) blocks
each_movable shifts [] sound small inside = tt
each_movable shifts (block ∷ blocks) sound small inside = (
  record {
    small = own_first (λ k. k < 2 ^ 62) block sound.0 (every_front (λ x. x.key < 2 ^ 62) (rows_of block) (rows blocks) small);
    lands = own_first (λ k. is_past (2 ^ 62) (moved shifts k) ≡ false) block sound.0 (every_front (λ x. is_past (2 ^ 62) (moved shifts x.key) ≡ false) (rows_of block) (rows blocks) inside);
  },
  each_movable shifts blocks sound.1 (every_back (λ x. x.key < 2 ^ 62) (rows_of block) (rows blocks) small) (every_back (λ x. is_past (2 ^ 62) (moved shifts x.key) ≡ false) (rows_of block) (rows blocks) inside),
)

-- a range holds all rows of a block that stands beside its ends, or none
begin_same : (key : ℕ) (block : RowBlock) → IsBlock block → Ascend (rows_of block) → IsBeside key block → AllByRecursion (λ x. leb key x.key ≡ leb key block.first) (rows_of block)
begin_same key block is ascend (inl le) =
    every_weaker (λ x. block.first ≤ x.key) (λ x. leb key x.key ≡ leb key block.first) (rows_of block) (λ x from. le-leb key x.key (omega (arith, le, from)) ∙ sym (le-leb key block.first le)) (from_begin block.first (rows_of block) is.begun ascend)
begin_same key block is ascend (inr h) =
    every_weaker (λ x. x.key < key) (λ x. leb key x.key ≡ leb key block.first) (rows_of block) (λ x lt. lt-leb key x.key lt ∙ sym (lt-leb key block.first (own_first (λ k. k < key) block is h))) h

end_same : (key : ℕ) (block : RowBlock) → IsBlock block → Ascend (rows_of block) → IsBeside (key + 1) block → AllByRecursion (λ x. leb x.key key ≡ leb block.first key) (rows_of block)
end_same key block is ascend (inl le) =
    every_weaker (λ x. block.first ≤ x.key) (λ x. leb x.key key ≡ leb block.first key) (rows_of block) (λ x from. lt-leb x.key key (omega (arith, le, from)) ∙ sym (lt-leb block.first key (omega (arith, le)))) (from_begin block.first (rows_of block) is.begun ascend)
end_same key block is ascend (inr h) =
    every_weaker (λ x. x.key < key + 1) (λ x. leb x.key key ≡ leb block.first key) (rows_of block) (λ x lt. le-leb x.key key (omega (arith, lt)) ∙ sym (le-leb block.first key (omega (arith, own_first (λ k. k < key + 1) block is h)))) h

holds_same : (range : ShiftRange) (block : RowBlock) → IsBlock block → Ascend (rows_of block) → IsBesideRange range block → AllByRecursion (λ x. holds range x.key ≡ holds range block.first) (rows_of block)
holds_same range block is ascend beside =
    every_both (λ x. leb range.begin x.key ≡ leb range.begin block.first) (λ x. leb x.key range.end ≡ leb block.first range.end) (λ x. holds range x.key ≡ holds range block.first) (rows_of block)
    (λ x a b. ap (λ t. t && leb x.key range.end) a ∙ ap (λ t. leb range.begin block.first && t) b)
    (begin_same range.begin block is ascend beside.0) (end_same range.end block is ascend beside.1)

delta_same : (shifts : List ShiftRange) (block : RowBlock) → IsBlock block → Ascend (rows_of block) → AllByRecursion (λ range. IsBesideRange range block) shifts → AllByRecursion (λ x. delta_at shifts x.key ≡ delta_at shifts block.first) (rows_of block)
delta_same shifts block is ascend beside =
    every_weaker (λ x. AllByRecursion (λ range. holds range x.key ≡ holds range block.first) shifts) (λ x. delta_at shifts x.key ≡ delta_at shifts block.first) (rows_of block)
    (λ x h. ap (λ found. unwrap_or (option_map (λ range. range.delta) found) (pos 0)) (find_same (λ range. holds range x.key) (λ range. holds range block.first) shifts h))
    (turned (λ range x. holds range x.key ≡ holds range block.first) shifts (rows_of block) (every_weaker (λ range. IsBesideRange range block) (λ range. AllByRecursion (λ x. holds range x.key ≡ holds range block.first) (rows_of block)) shifts (λ range h. holds_same range block is ascend h) beside))

-- rows that all move by one delta
land_less : (ceiling landing depth key : ℕ) (delta : ℤ) → depth ≤ ceiling → pos landing ≡ pos ceiling +ℤ delta → pos (ceiling - depth) +ℤ delta ≡ pos key → landing - depth ≡ key
land_less ceiling landing depth key delta le lands e = omega (arith, ints)

moved_items : (shifts : List ShiftRange) (delta : ℤ) (ceiling landing : ℕ) (xs : List BlockRow) → pos landing ≡ pos ceiling +ℤ delta → AllByRecursion (λ row. row.depth ≤ ceiling) xs → AllByRecursion (λ x. delta_at shifts x.key ≡ delta) (map (entry_at ceiling) xs) → AllByRecursion (λ x. is_past (2 ^ 62) (moved shifts x.key) ≡ false) (map (entry_at ceiling) xs) → map (entry_at landing) xs ≡ moved_rows shifts (map (entry_at ceiling) xs)
moved_items shifts delta ceiling landing [] lands held same inside = refl
moved_items shifts delta ceiling landing (x ∷ xs) lands held same inside =
    ap (λ key. entry_of key x.handle ∷ map (entry_at landing) xs) (land_less ceiling landing x.depth (as_key (moved shifts (ceiling - x.depth))) delta held.0 lands (ap (λ d. pos (ceiling - x.depth) +ℤ d) (sym same.0) ∙ (not_past (2 ^ 62) (moved shifts (ceiling - x.depth)) inside.0).0))
    ∙ ap (λ xs. moved_row shifts (entry_at ceiling x) ∷ xs) (moved_items shifts delta ceiling landing xs lands held.1 same.1 inside.1)

ceiling_lands : (first ceiling landing : ℕ) (delta : ℤ) → first ≤ ceiling → pos first +ℤ delta ≡ pos landing → pos (landing + (ceiling - first)) ≡ pos ceiling +ℤ delta
ceiling_lands first ceiling landing delta le e = omega (arith, ints)

moved_own : (shifts : List ShiftRange) (block : RowBlock) → IsBlock block → Ascend (rows_of block) → AllByRecursion (λ range. IsBesideRange range block) shifts → AllByRecursion (λ x. is_past (2 ^ 62) (moved shifts x.key) ≡ false) (rows_of block) → rows_of (moved_block shifts block) ≡ moved_rows shifts (rows_of block)
moved_own shifts block is ascend beside inside =
    moved_items shifts (delta_at shifts block.first) block.ceiling (moved_block shifts block).ceiling block.rows.items
    (ceiling_lands block.first block.ceiling (as_key (moved shifts block.first)) (delta_at shifts block.first) (first_below block is) (not_past (2 ^ 62) (moved shifts block.first) (own_first (λ k. is_past (2 ^ 62) (moved shifts k) ≡ false) block is inside)).0)
    is.held (delta_same shifts block is ascend beside) inside

pub rows-moved : (shifts : List ShiftRange) (blocks : List RowBlock) → AllByRecursion IsBlock blocks → Ascend (rows blocks) → AllByRecursion (λ range. AllByRecursion (IsBesideRange range) blocks) shifts → AllByRecursion (λ x. is_past (2 ^ 62) (moved shifts x.key) ≡ false) (rows blocks) → rows (map (moved_block shifts) blocks) ≡ moved_rows shifts (rows blocks)
rows-moved shifts [] sound ascend beside inside = refl
rows-moved shifts (block ∷ blocks) sound ascend beside inside =
    ap (λ xs. xs ++ rows (map (moved_block shifts) blocks)) (moved_own shifts block sound.0 (ascend_front (rows_of block) (rows blocks) ascend) (every_weaker (λ range. AllByRecursion (IsBesideRange range) (block ∷ blocks)) (λ range. IsBesideRange range block) shifts (λ range h. h.0) beside) (every_front (λ x. is_past (2 ^ 62) (moved shifts x.key) ≡ false) (rows_of block) (rows blocks) inside))
    ∙ ap (λ xs. moved_rows shifts (rows_of block) ++ xs) (rows-moved shifts blocks sound.1 (ascend_back (rows_of block) (rows blocks) ascend) (every_weaker (λ range. AllByRecursion (IsBesideRange range) (block ∷ blocks)) (λ range. AllByRecursion (IsBesideRange range) blocks) shifts (λ range h. h.1) beside) (every_back (λ x. is_past (2 ^ 62) (moved shifts x.key) ≡ false) (rows_of block) (rows blocks) inside))
    ∙ sym (map-append (moved_row shifts) (rows_of block) (rows blocks))

-- the blocks are sound where they moved to
begin_moved : (shifts : List ShiftRange) (first : ℕ) (xs : List Entry) → BeginAt first xs → BeginAt (as_key (moved shifts first)) (moved_rows shifts xs)
begin_moved shifts first [] begin = begin
begin_moved shifts first (x ∷ xs) begin = ap (λ k. as_key (moved shifts k)) begin

lower_held : (first ceiling landing : ℕ) (xs : List BlockRow) → AllByRecursion (λ row. row.depth ≤ ceiling) xs → AllByRecursion (λ x. first ≤ x.key) (map (entry_at ceiling) xs) → AllByRecursion (λ row. row.depth ≤ landing + (ceiling - first)) xs
lower_held first ceiling landing [] held from = tt
lower_held first ceiling landing (x ∷ xs) held from = (omega (arith, held.0, from.0), lower_held first ceiling landing xs held.1 from.1)

pub sound-moved : (shifts : List ShiftRange) (blocks : List RowBlock) → AllByRecursion IsBlock blocks → Ascend (rows blocks) → AllByRecursion (λ range. AllByRecursion (IsBesideRange range) blocks) shifts → AllByRecursion (λ x. is_past (2 ^ 62) (moved shifts x.key) ≡ false) (rows blocks) → AllByRecursion IsBlock (map (moved_block shifts) blocks)
sound-moved shifts [] sound ascend beside inside = tt
sound-moved shifts (block ∷ blocks) sound ascend beside inside =
    let own_ascend = ascend_front (rows_of block) (rows blocks) ascend in
    let own = moved_own shifts block sound.0 own_ascend (every_weaker (λ range. AllByRecursion (IsBesideRange range) (block ∷ blocks)) (λ range. IsBesideRange range block) shifts (λ range h. h.0) beside) (every_front (λ x. is_past (2 ^ 62) (moved shifts x.key) ≡ false) (rows_of block) (rows blocks) inside) in (
      record {
        begun = subst (BeginAt (as_key (moved shifts block.first))) (sym own) (begin_moved shifts block.first (rows_of block) sound.0.begun);
        held = lower_held block.first block.ceiling (as_key (moved shifts block.first)) block.rows.items sound.0.held (from_begin block.first (rows_of block) sound.0.begun own_ascend);
      },
      sound-moved shifts blocks sound.1 (ascend_back (rows_of block) (rows blocks) ascend) (every_weaker (λ range. AllByRecursion (IsBesideRange range) (block ∷ blocks)) (λ range. AllByRecursion (IsBesideRange range) blocks) shifts (λ range h. h.1) beside) (every_back (λ x. is_past (2 ^ 62) (moved shifts x.key) ≡ false) (rows_of block) (rows blocks) inside),
    )

-- rows that a lawful shift moves
pub inside_rows : (shifts : List ShiftRange) (xs : List Entry) → shift_fault (2 ^ 62) shifts (keys_of xs) ≡ None → AllByRecursion (λ x. is_past (2 ^ 62) (moved shifts x.key) ≡ false) xs
inside_rows shifts xs e = every_unmapped (λ key. is_past (2 ^ 62) (moved shifts key) ≡ false) (λ x. x.key) xs (lawful shifts (keys_of xs) e).inside

pub moved_ascend : (shifts : List ShiftRange) (xs : List Entry) → shift_fault (2 ^ 62) shifts (keys_of xs) ≡ None → Ascend (moved_rows shifts xs)
moved_ascend shifts xs e =
    ascend_by_keys (moved_rows shifts xs) (subst IsRising (map_map (λ key. as_key (moved shifts key)) (λ x. x.key) xs ∙ sym (map_map (λ x. x.key) (moved_row shifts) xs)) (lawful shifts (keys_of xs) e).rising)

pub moved_small : (shifts : List ShiftRange) (xs : List Entry) → shift_fault (2 ^ 62) shifts (keys_of xs) ≡ None → AllByRecursion (λ x. x.key < 2 ^ 62) (moved_rows shifts xs)
moved_small shifts xs e =
    every-map (λ x. x.key < 2 ^ 62) (moved_row shifts) xs (every_weaker (λ x. is_past (2 ^ 62) (moved shifts x.key) ≡ false) (λ x. as_key (moved shifts x.key) < 2 ^ 62) xs (λ x inside. (not_past (2 ^ 62) (moved shifts x.key) inside).1) (inside_rows shifts xs e))

-- the numbers and the rows' places are as they were
numbers-moved : (shifts : List ShiftRange) (blocks : List RowBlock) → map number_of (map (moved_block shifts) blocks) ≡ map number_of blocks
numbers-moved shifts blocks = map_map number_of (moved_block shifts) blocks

placed-moved : (shifts : List ShiftRange) (ceilings others : Slab ℕ) (places : Slab Location) (blocks : List RowBlock) → AllByRecursion (λ block. get others block.number ≡ Some block.ceiling) (map (moved_block shifts) blocks) → AllByRecursion (IsPlaced ceilings places) blocks → AllByRecursion (IsPlaced others places) (map (moved_block shifts) blocks)
placed-moved shifts ceilings others places [] held h = tt
placed-moved shifts ceilings others places (block ∷ blocks) held h = (record { ceiling = held.0; rows = h.0.rows }, placed-moved shifts ceilings others places blocks held.1 h.1)

pub moved_index : (shifts : List ShiftRange) (old new : HandleIndex) → IsIndex old → AllByRecursion (λ range. AllByRecursion (IsBesideRange range) old.blocks.items) shifts → shift_fault (2 ^ 62) shifts (keys_of (rows old.blocks.items)) ≡ None → new.blocks.items ≡ map (moved_block shifts) old.blocks.items → AllByRecursion (λ block. get new.ceilings block.number ≡ Some block.ceiling) new.blocks.items → new.places ≡ old.places → IsIndex new
moved_index shifts old new sound beside allowed blocks held places =
    let inside = inside_rows shifts (rows old.blocks.items) allowed in
    let whole : rows new.blocks.items ≡ moved_rows shifts (rows old.blocks.items) = ap rows blocks ∙ rows-moved shifts old.blocks.items sound.sound sound.ascend beside inside in
    record {
      sound = subst (AllByRecursion IsBlock) (sym blocks) (sound-moved shifts old.blocks.items sound.sound sound.ascend beside inside);
      ascend = subst Ascend (sym whole) (moved_ascend shifts (rows old.blocks.items) allowed);
      small = subst (AllByRecursion (λ x. x.key < 2 ^ 62)) (sym whole) (moved_small shifts (rows old.blocks.items) allowed);
      numbered = subst AreDistinct (sym (ap (map number_of) blocks ∙ numbers-moved shifts old.blocks.items)) sound.numbered;
      placed = subst (AllByRecursion (IsPlaced new.ceilings new.places)) (sym blocks) (subst (λ places. AllByRecursion (IsPlaced new.ceilings places) (map (moved_block shifts) old.blocks.items)) (sym places) (placed-moved shifts old.ceilings new.ceilings old.places old.blocks.items (subst (AllByRecursion (λ block. get new.ceilings block.number ≡ Some block.ceiling)) blocks held) sound.placed));
    }

-- blocks that no range reaches stay
block_stays : (shifts : List ShiftRange) (block : RowBlock) → IsBlock block → AllByRecursion (λ range. holds range block.first ≡ false) shifts → moved_block shifts block ≡ block
block_stays shifts block is h =
    ap (λ n. record block { first = n; ceiling = n + (block.ceiling - block.first) }) (ap (λ found. as_key (pos block.first +ℤ unwrap_or (option_map (λ range. range.delta) found) (pos 0))) (find_none (λ range. holds range block.first) shifts h) ∙ ap as_key (nothing_more block.first))
    ∙ ap (λ n. record block { ceiling = n }) (same_sum block.first block.ceiling (first_below block is))
  where
    nothing_more : (n : ℕ) → pos n +ℤ pos 0 ≡ pos n
    nothing_more n = omega (arith, ints)

    same_sum : (a b : ℕ) → a ≤ b → a + (b - a) ≡ b
    same_sum a b le = omega arith

begins_from : (key : ℕ) (ranges : List ShiftRange) (d : ShiftRange) → IsShift ranges → key < (get_or ranges 0 d).begin → AllByRecursion (λ range. key < range.begin) ranges
begins_from key [] d shift below = tt
begins_from key (range ∷ ranges) d shift below = (below, every_weaker (λ next. range.end < next.begin) (λ next. key < next.begin) ranges (λ next lt. omega (arith, lt, below, shift.0)) shift.2)

ends_to : (key m : ℕ) (ranges : List ShiftRange) (d : ShiftRange) → IsShift ranges → length ranges ≡ suc m → (get_or ranges m d).end < key → AllByRecursion (λ range. range.end < key) ranges
ends_to key m [] d shift len above = tt
ends_to key zero (range ∷ []) d shift len above = (above, tt)
ends_to key (suc m) (range ∷ []) d shift len above = absurd (omega arith)
ends_to key zero (range ∷ next ∷ ranges) d shift len above = absurd (omega arith)
ends_to key (suc m) (range ∷ next ∷ ranges) d shift len above =
    let later = ends_to key m (next ∷ ranges) d shift.3 (omega arith) above in
    (omega (arith, later.0, shift.2.0, shift.3.0), later)

below_stays : (shifts : List ShiftRange) (block : RowBlock) → IsBlock block → AllByRecursion (λ range. block.first < range.begin) shifts → moved_block shifts block ≡ block
below_stays shifts block is h =
    block_stays shifts block is (every_weaker (λ range. block.first < range.begin) (λ range. holds range block.first ≡ false) shifts (λ range lt. ap (λ b. b && leb block.first range.end) (lt-leb range.begin block.first lt)) h)

above_stays : (shifts : List ShiftRange) (block : RowBlock) → IsBlock block → AllByRecursion (λ range. range.end < block.first) shifts → moved_block shifts block ≡ block
above_stays shifts block is h =
    block_stays shifts block is (every_weaker (λ range. range.end < block.first) (λ range. holds range block.first ≡ false) shifts (λ range lt. ap (λ b. leb range.begin block.first && b) (lt-leb block.first range.end lt) ∙ and_false (leb range.begin block.first)) h)

firsts_below : (bound : ℕ) (blocks : List RowBlock) → AllByRecursion IsBlock blocks → AllByRecursion (λ x. x.key < bound) (rows blocks) → AllByRecursion (λ block. block.first < bound) blocks
firsts_below bound [] sound h = tt
firsts_below bound (block ∷ blocks) sound h =
    (own_first (λ k. k < bound) block sound.0 (every_front (λ x. x.key < bound) (rows_of block) (rows blocks) h), firsts_below bound blocks sound.1 (every_back (λ x. x.key < bound) (rows_of block) (rows blocks) h))

-- the rows of the blocks before the last that begins at a key or before it
pub below_next : (key : ℕ) (blocks : List RowBlock) (next : ℕ) → next ≤ length blocks → AllByRecursion IsBlock blocks → Ascend (rows blocks) → AllByRecursion (λ block. block.first ≤ key) (take next blocks) → AllByRecursion (λ x. x.key < key) (rows (take (next - 1) blocks))
below_next key [] next le sound ascend begun = subst (λ bs. AllByRecursion (λ x. x.key < key) (rows bs)) (sym (take_nil (next - 1))) tt
below_next key (block ∷ blocks) zero le sound ascend begun = tt
below_next key (block ∷ blocks) (suc next) le sound ascend begun =
    let whole = block ∷ blocks in
    let lt : next < length whole = omega arith in
    let last = get_or whole next block in
    let is = own_default whole next block lt in
    let below = rows_before (take next whole) last (drop (suc next) whole) (own_block IsBlock whole next last lt is sound) (subst (λ bs. Ascend (rows bs)) (around whole next last lt is) ascend) in
    let begins : last.first ≤ key = last_taken (λ b. b.first ≤ key) whole (suc next) last (λ e. omega arith) le (is ∙ ap (λ n. get_or whole n last) same) begun in
    subst (λ n. AllByRecursion (λ x. x.key < key) (rows (take n whole))) same (every_weaker (λ x. x.key < last.first) (λ x. x.key < key) (rows (take next whole)) (λ x l. omega (arith, l, begins)) below)
  where
    same : next ≡ suc next - 1
    same = omega arith

    own_default : (xs : List RowBlock) (i : ℕ) (d : RowBlock) → i < length xs → get_or xs i d ≡ get_or xs i (get_or xs i d)
    own_default [] i d l = absurd (omega arith)
    own_default (x ∷ xs) zero d l = refl
    own_default (x ∷ xs) (suc i) d l = own_default xs i d (omega arith)

pub moves_begin : (shifts : List ShiftRange) (d : ShiftRange) (blocks : List RowBlock) (next : ℕ) → IsShift shifts → next ≤ length blocks → AllByRecursion IsBlock blocks → Ascend (rows blocks) → AllByRecursion (λ block. block.first ≤ (get_or shifts 0 d).begin) (take next blocks) → blocks ≡ map (moved_block shifts) (take (next - 1) blocks) ++ drop (next - 1) blocks
moves_begin shifts d blocks next shift le sound ascend begun =
    sym (take-append-drop (next - 1) blocks)
    ∙ ap (λ bs. bs ++ drop (next - 1) blocks) (sym (map_own (moved_block shifts) (take (next - 1) blocks)
    (every_both IsBlock (λ block. block.first < (get_or shifts 0 d).begin) (λ block. moved_block shifts block ≡ block) (take (next - 1) blocks) (λ block is lt. below_stays shifts block is (begins_from block.first shifts d shift lt))
    (every-take IsBlock (next - 1) blocks sound)
    (firsts_below (get_or shifts 0 d).begin (take (next - 1) blocks) (every-take IsBlock (next - 1) blocks sound) (below_next (get_or shifts 0 d).begin blocks next le sound ascend begun)))))

pub drop_later : {X : Type 0} (P : X → Type 0) (to place : ℕ) (xs : List X) → to ≤ place → AllByRecursion P (drop to xs) → AllByRecursion P (drop place xs)
drop_later P zero place xs le h = every-drop P place xs h
drop_later P (suc to) zero xs le h = absurd (omega arith)
drop_later P (suc to) (suc place) [] le h = tt
drop_later P (suc to) (suc place) (x ∷ xs) le h = drop_later P to place xs (omega arith) h

pub moves_end : (shifts : List ShiftRange) (d : ShiftRange) (m : ℕ) (blocks : List RowBlock) (to place : ℕ) → IsShift shifts → length shifts ≡ suc m → to ≤ place → AllByRecursion IsBlock blocks → AllByRecursion (λ block. (get_or shifts m d).end < block.first) (drop to blocks) → map (moved_block shifts) (take place blocks) ++ drop place blocks ≡ map (moved_block shifts) blocks
moves_end shifts d m blocks to place shift len le sound above =
    ap (λ bs. map (moved_block shifts) (take place blocks) ++ bs) (sym (map_own (moved_block shifts) (drop place blocks)
    (every_both IsBlock (λ block. (get_or shifts m d).end < block.first) (λ block. moved_block shifts block ≡ block) (drop place blocks) (λ block is lt. above_stays shifts block is (ends_to block.first m shifts d shift len lt)) (every-drop IsBlock place blocks sound) (drop_later (λ block. (get_or shifts m d).end < block.first) to place blocks le above))))
    ∙ sym (map-append (moved_block shifts) (take place blocks) (drop place blocks))
    ∙ ap (map (moved_block shifts)) (take-append-drop place blocks)

pub moves_none : (blocks : List RowBlock) → AllByRecursion IsBlock blocks → map (moved_block []) blocks ≡ blocks
moves_none blocks sound = map_own (moved_block []) blocks (every_weaker IsBlock (λ block. moved_block [] block ≡ block) blocks (λ block is. block_stays [] block is tt) sound)

-- one block more that has moved
pub moved_more : (f : RowBlock → RowBlock) (old : List RowBlock) (m : ℕ) (held : RowBlock) → m < length old → held ≡ get_or (map f (take m old) ++ drop m old) m held → set (map f (take m old) ++ drop m old) m (f held) ≡ map f (take (suc m) old) ++ drop (suc m) old
moved_more f [] m held lt at = absurd (omega arith)
moved_more f (x ∷ old) zero held lt at = ap (λ b. f b ∷ old) at
moved_more f (x ∷ old) (suc m) held lt at = ap (λ bs. f x ∷ bs) (moved_more f old m held (omega arith) at)

pub length_partly : (f : RowBlock → RowBlock) (old : List RowBlock) (m : ℕ) → length (map f (take m old) ++ drop m old) ≡ length old
length_partly f [] zero = refl
length_partly f [] (suc m) = refl
length_partly f (x ∷ old) zero = refl
length_partly f (x ∷ old) (suc m) = ap suc (length_partly f old m)

pub partly_numbers : (shifts : List ShiftRange) (old : List RowBlock) (m : ℕ) → map number_of (map (moved_block shifts) (take m old) ++ drop m old) ≡ map number_of old
partly_numbers shifts [] zero = refl
partly_numbers shifts [] (suc m) = refl
partly_numbers shifts (x ∷ old) zero = refl
partly_numbers shifts (x ∷ old) (suc m) = ap (λ ns. x.number ∷ ns) (partly_numbers shifts old m)

-- the ceilings that are kept, when one block has moved
pub held_more : (blocks : List RowBlock) (at : ℕ) (block other : RowBlock) (old new : Slab ℕ) → at < length blocks → block ≡ get_or blocks at block → other.number ≡ block.number → AreDistinct (map number_of blocks) → Updates old new block.number (Some other.ceiling) → AllByRecursion (λ b. get old b.number ≡ Some b.ceiling) blocks → AllByRecursion (λ b. get new b.number ≡ Some b.ceiling) (set blocks at other)
held_more blocks at block other old new within is number distinct updates held =
    let apart = others_of block.number (map number_of (take at blocks)) (map number_of (drop (suc at) blocks)) (subst AreDistinct (ap (map number_of) (around blocks at block within is) ∙ map-append number_of (take at blocks) (block ∷ drop (suc at) blocks)) distinct) in
    subst (AllByRecursion (λ b. get new b.number ≡ Some b.ceiling)) (sym (set_around blocks at other within))
    (every-append (λ b. get new b.number ≡ Some b.ceiling) (take at blocks) (other ∷ drop (suc at) blocks)
    (stay (take at blocks) (every_unmapped (λ n. n ≢ block.number) number_of (take at blocks) apart.0) (every-take (λ b. get old b.number ≡ Some b.ceiling) at blocks held))
    (ap (get new) number ∙ updates.changed, stay (drop (suc at) blocks) (every_unmapped (λ n. n ≢ block.number) number_of (drop (suc at) blocks) apart.1) (every-drop (λ b. get old b.number ≡ Some b.ceiling) (suc at) blocks held)))
  where
    stay : (bs : List RowBlock) → AllByRecursion (λ b. b.number ≢ block.number) bs → AllByRecursion (λ b. get old b.number ≡ Some b.ceiling) bs → AllByRecursion (λ b. get new b.number ≡ Some b.ceiling) bs
    stay bs = every_both (λ b. b.number ≢ block.number) (λ b. get old b.number ≡ Some b.ceiling) (λ b. get new b.number ≡ Some b.ceiling) bs (λ b ne there. updates.others b.number ne ∙ there)
