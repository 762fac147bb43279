-- Rows that leave.
use Rattle.std.proofs.Common.{◌≡◌, ◌≢◌, refl, ap, sym, ◌∙◌, subst, true, false, not, ◌&&◌, ◌||◌, ℕ, zero, suc, ◌+◌, ◌-◌, ◌^◌, ◌<◌, ◌≤◌, arith, List, [], ◌∷◌, ◌++◌, map, length, take, drop, get_or, set, leb, Some, None, append_assoc, take-append-drop}
use Rattle.std.{specs.Prelude.slice_range, specs.List.{AllByRecursion, remove}, proofs.lemmas.Bool.{lt-leb, le-leb}, proofs.lemmas.List.{map-append, drop-take, take-set, drop-set-lt}, proofs.lemmas.List.Elements.filter-append, proofs.lemmas.List.Folds.drop_split, proofs.lemmas.Grind.flat_map-append}
use Rattle.key_lists.{proofs.Every.{every, every_weaker, every_both, every-append, every-map, every_unmapped, filter_none, filter_same, filter_all, filter_filter}, proofs.Among.among-append, proofs.Booleans.{and_false, neither}, proofs.Parts.{every-take, every-drop, every_front, every_back, around}, specs.Keys.is_among}
use Rattle.row_set.{specs.declared.ranges.Range.Range, specs.Ranges.{keys_in, keys_of, IsRangeFrom, AreApart}, proofs.Held.among-in, proofs.Apart.each_range}
use Rattle.slab.specs.Slab.{Slab, get, Updates}
use Rattle.row_handles.{specs.declared.block.RowBlock.RowBlock, specs.declared.block.BlockRow.BlockRow, specs.declared.index.HandleIndex.HandleIndex, specs.Entries.{Entry, left_rows, Ascend, AreDistinct}, specs.Blocks.{IsBlock, IsIndex, IsPlaced, entry_at, place_in, rows_of, rows, number_of}, specs.Moves.has_handle, specs.Drops.{is_between, outside, left_by, AreOutside}, proofs.Lists.{distinct_less, others_of}, proofs.EntryLists.ascend_back, proofs.Listings.{rows_above, own_block, later_firsts}, proofs.Apart.{all_parts, apart_front, apart_lower, apart_upper, apart_back, rows_stay, blocks_stay}}

-- keys that are no keys from first to last, and keys that are
between_not : (first last key : ℕ) → key < first → is_between first last key ≡ false
between_not first last key lt = ap (λ b. b && leb key last) (lt-leb first key lt)

between_past : (first last key : ℕ) → last < key → is_between first last key ≡ false
between_past first last key lt = ap (λ b. leb first key && b) (lt-leb key last lt) ∙ and_false (leb first key)

between_is : (first last key : ℕ) → first ≤ key → key ≤ last → is_between first last key ≡ true
between_is first last key a b = ap (λ t. t && leb key last) (le-leb first key a) ∙ le-leb key last b

none_outside : (first last : ℕ) (xs : List Entry) → AllByRecursion (λ x. first ≤ x.key) xs → AllByRecursion (λ x. x.key < last + 1) xs → outside first last xs ≡ []
none_outside first last xs from to =
    filter_none (λ x. not (is_between first last x.key)) xs (every_both (λ x. first ≤ x.key) (λ x. x.key < last + 1) (λ x. not (is_between first last x.key) ≡ false) xs (λ x a b. ap not (between_is first last x.key a (omega (arith, b)))) from to)

outside_all : (first last : ℕ) (xs : List Entry) → AreOutside first last xs → outside first last xs ≡ xs
outside_all first last xs h =
    filter_same (λ x. not (is_between first last x.key)) (λ _. true) xs (every_weaker (λ x. is_between first last x.key ≡ false) (λ x. not (is_between first last x.key) ≡ true) xs (λ x e. ap not e) h) ∙ filter_all xs

pub below_outside : (first last : ℕ) (xs : List Entry) → AllByRecursion (λ x. x.key < first) xs → AreOutside first last xs
below_outside first last xs = every_weaker (λ x. x.key < first) (λ x. is_between first last x.key ≡ false) xs (λ x lt. between_not first last x.key lt)

-- a list without its middle part
every_less : {X : Type 0} (P : X → Type 0) (xs ys zs : List X) → AllByRecursion P (xs ++ (ys ++ zs)) → AllByRecursion P (xs ++ zs)
every_less P xs ys zs h = every-append P xs zs (every_front P xs (ys ++ zs) h) (every_back P ys zs (every_back P xs (ys ++ zs) h))

ascend_less : (xs ys zs : List Entry) → Ascend (xs ++ (ys ++ zs)) → Ascend (xs ++ zs)
ascend_less [] ys zs h = ascend_back ys zs h
ascend_less (x ∷ xs) ys zs h = (every_less (λ y. x.key < y.key) xs ys zs h.0, ascend_less xs ys zs h.1)

-- the rows of a block that leave, and what the blocks are instead of it
pub record Leaves (first last at from to : ℕ) (block : RowBlock) (instead : List RowBlock) (old new : HandleIndex) : Type 0 where
  pub within : at < length old.blocks.items
  pub is : block ≡ get_or old.blocks.items at block
  pub blocks : new.blocks.items ≡ take at old.blocks.items ++ (instead ++ drop (suc at) old.blocks.items)
  pub entries : rows instead ≡ map (entry_at block.ceiling) (take from block.rows.items ++ drop to block.rows.items)
  pub sound : AllByRecursion IsBlock instead
  pub order : from ≤ to
  pub below : AllByRecursion (λ row. block.ceiling - row.depth < first) (take from block.rows.items)
  pub begun : AllByRecursion (λ row. first ≤ block.ceiling - row.depth) (drop from block.rows.items)
  pub ended : AllByRecursion (λ row. block.ceiling - row.depth < last + 1) (take to block.rows.items)
  pub above : AllByRecursion (λ row. last + 1 ≤ block.ceiling - row.depth) (drop to block.rows.items)
  pub numbered : AreDistinct (map number_of new.blocks.items)
  pub front_held : AllByRecursion (λ b. get new.ceilings b.number ≡ Some b.ceiling) (take at old.blocks.items)
  pub own_held : AllByRecursion (λ b. (get new.ceilings b.number ≡ Some b.ceiling) × (b.number ≡ block.number) × (b.rows.items ≡ take from block.rows.items ++ drop to block.rows.items)) instead
  pub back_held : AllByRecursion (λ b. get new.ceilings b.number ≡ Some b.ceiling) (drop (suc at) old.blocks.items)
  pub places : (handle : ℕ) → has_handle handle (slice_range block.rows.items from to) ≡ false → get new.places handle ≡ get old.places handle

module _ (first last at from to : ℕ) (block : RowBlock) (instead : List RowBlock) (old new : HandleIndex) (sound : IsIndex old) (leaves : Leaves first last at from to block instead old new) where
  abbrev items : List BlockRow
  items = block.rows.items

  abbrev gone : List BlockRow
  gone = slice_range items from to

  whole : items ≡ take from items ++ (gone ++ drop to items)
  whole = sym (take-append-drop from items) ∙ ap (λ s. take from items ++ s) (drop_split items from to leaves.order)

  abbrev lower : List Entry
  lower = map (entry_at block.ceiling) (take from items)

  abbrev middle : List Entry
  middle = map (entry_at block.ceiling) gone

  abbrev upper : List Entry
  upper = map (entry_at block.ceiling) (drop to items)

  abbrev front : List Entry
  front = rows (take at old.blocks.items)

  abbrev back : List Entry
  back = rows (drop (suc at) old.blocks.items)

  was : rows old.blocks.items ≡ (front ++ lower) ++ (middle ++ (upper ++ back))
  was = all_parts old sound at block leaves.within leaves.is (take from items) gone (drop to items) whole

  now_rows : rows new.blocks.items ≡ (front ++ lower) ++ (upper ++ back)
  now_rows =
      ap rows leaves.blocks
      ∙ flat_map-append rows_of (take at old.blocks.items) (instead ++ drop (suc at) old.blocks.items)
      ∙ ap (λ s. front ++ s) (flat_map-append rows_of instead (drop (suc at) old.blocks.items) ∙ ap (λ s. s ++ back) (leaves.entries ∙ map-append (entry_at block.ceiling) (take from items) (drop to items)) ∙ append_assoc lower upper back)
      ∙ sym (append_assoc front lower (upper ++ back))

  middle_from : AllByRecursion (λ x. first ≤ x.key) middle
  middle_from =
      every-map (λ x. first ≤ x.key) (entry_at block.ceiling) gone
      (every_front (λ row. first ≤ block.ceiling - row.depth) gone (drop to items) (subst (AllByRecursion (λ row. first ≤ block.ceiling - row.depth)) (drop_split items from to leaves.order) leaves.begun))

  middle_to : AllByRecursion (λ x. x.key < last + 1) middle
  middle_to =
      every-map (λ x. x.key < last + 1) (entry_at block.ceiling) gone
      (subst (AllByRecursion (λ row. block.ceiling - row.depth < last + 1)) (ap (λ n. drop from (take n items)) total ∙ drop-take from (to - from) items) (every-drop (λ row. block.ceiling - row.depth < last + 1) from (take to items) leaves.ended))
    where
      total : to ≡ from + (to - from)
      total = omega (arith, leaves.order)

  pub left_rest : outside first last (rows new.blocks.items) ≡ outside first last (rows old.blocks.items)
  left_rest =
      ap (outside first last) now_rows
      ∙ filter-append (λ x. not (is_between first last x.key)) (front ++ lower) (upper ++ back)
      ∙ ap (λ s. outside first last (front ++ lower) ++ (s ++ outside first last (upper ++ back))) (sym (none_outside first last middle middle_from middle_to))
      ∙ ap (λ s. outside first last (front ++ lower) ++ s) (sym (filter-append (λ x. not (is_between first last x.key)) middle (upper ++ back)))
      ∙ sym (filter-append (λ x. not (is_between first last x.key)) (front ++ lower) (middle ++ (upper ++ back)))
      ∙ ap (outside first last) (sym was)

  pub instead_outside : AreOutside first last (rows instead)
  instead_outside =
      subst (AreOutside first last) (sym (leaves.entries ∙ map-append (entry_at block.ceiling) (take from items) (drop to items)))
      (every-append (λ x. is_between first last x.key ≡ false) lower upper
      (every-map (λ x. is_between first last x.key ≡ false) (entry_at block.ceiling) (take from items) (every_weaker (λ row. block.ceiling - row.depth < first) (λ row. is_between first last (block.ceiling - row.depth) ≡ false) (take from items) (λ row lt. between_not first last (block.ceiling - row.depth) lt) leaves.below))
      (every-map (λ x. is_between first last x.key ≡ false) (entry_at block.ceiling) (drop to items) (every_weaker (λ row. last + 1 ≤ block.ceiling - row.depth) (λ row. is_between first last (block.ceiling - row.depth) ≡ false) (drop to items) (λ row le. between_past first last (block.ceiling - row.depth) (omega (arith, le))) leaves.above)))

  pub left_done : AreOutside first last (rows (take at old.blocks.items)) → AreOutside first last (rows (take at old.blocks.items ++ instead))
  left_done done = subst (AreOutside first last) (sym (flat_map-append rows_of (take at old.blocks.items) instead)) (every-append (λ x. is_between first last x.key ≡ false) front (rows instead) done instead_outside)

  own_place : IsPlaced old.ceilings old.places block
  own_place = own_block (IsPlaced old.ceilings old.places) old.blocks.items at block leaves.within leaves.is sound.placed

  abbrev Stands : BlockRow → Type 0
  Stands row = get old.places row.handle ≡ Some (place_in block.number row.depth)

  kept_rows : AllByRecursion (λ row. get new.places row.handle ≡ Some (place_in block.number row.depth)) (take from items ++ drop to items)
  kept_rows =
      every-append (λ row. get new.places row.handle ≡ Some (place_in block.number row.depth)) (take from items) (drop to items)
      (rows_stay old.places new.places gone block.number (take from items) leaves.places (apart_lower old sound at block leaves.within leaves.is (take from items) gone (drop to items) whole) (every-take Stands from items own_place.rows))
      (rows_stay old.places new.places gone block.number (drop to items) leaves.places (apart_upper old sound at block leaves.within leaves.is (take from items) gone (drop to items) whole) (every-drop Stands to items own_place.rows))

  instead_placed : AllByRecursion (IsPlaced new.ceilings new.places) instead
  instead_placed =
      every_weaker (λ b. (get new.ceilings b.number ≡ Some b.ceiling) × (b.number ≡ block.number) × (b.rows.items ≡ take from items ++ drop to items)) (IsPlaced new.ceilings new.places) instead
      (λ b h. record {
        ceiling = h.0;
        rows = subst (λ n. AllByRecursion (λ row. get new.places row.handle ≡ Some (place_in n row.depth)) b.rows.items) (sym h.1) (subst (AllByRecursion (λ row. get new.places row.handle ≡ Some (place_in block.number row.depth))) (sym h.2) kept_rows);
      }) leaves.own_held

  pub left_index : IsIndex new
  left_index = record {
    sound =
        subst (AllByRecursion IsBlock) (sym leaves.blocks)
        (every-append IsBlock (take at old.blocks.items) (instead ++ drop (suc at) old.blocks.items) (every-take IsBlock at old.blocks.items sound.sound) (every-append IsBlock instead (drop (suc at) old.blocks.items) leaves.sound (every-drop IsBlock (suc at) old.blocks.items sound.sound)));
    ascend = subst Ascend (sym now_rows) (ascend_less (front ++ lower) middle (upper ++ back) (subst Ascend was sound.ascend));
    small = subst (AllByRecursion (λ x. x.key < 2 ^ 62)) (sym now_rows) (every_less (λ x. x.key < 2 ^ 62) (front ++ lower) middle (upper ++ back) (subst (AllByRecursion (λ x. x.key < 2 ^ 62)) was sound.small));
    numbered = leaves.numbered;
    placed =
        subst (AllByRecursion (IsPlaced new.ceilings new.places)) (sym leaves.blocks)
        (every-append (IsPlaced new.ceilings new.places) (take at old.blocks.items) (instead ++ drop (suc at) old.blocks.items)
        (blocks_stay old.ceilings new.ceilings old.places new.places gone (take at old.blocks.items) leaves.places leaves.front_held (apart_front old sound at block leaves.within leaves.is (take from items) gone (drop to items) whole) (every-take (IsPlaced old.ceilings old.places) at old.blocks.items sound.placed))
        (every-append (IsPlaced new.ceilings new.places) instead (drop (suc at) old.blocks.items) instead_placed
        (blocks_stay old.ceilings new.ceilings old.places new.places gone (drop (suc at) old.blocks.items) leaves.places leaves.back_held (apart_back old sound at block leaves.within leaves.is (take from items) gone (drop to items) whole) (every-drop (IsPlaced old.ceilings old.places) (suc at) old.blocks.items sound.placed))));
  }

-- the order of two searches in a block
pub order_of : (first last ceiling from to : ℕ) (xs : List BlockRow) → first ≤ last → from ≤ length xs → to ≤ length xs → AllByRecursion (λ row. ceiling - row.depth < first) (take from xs) → AllByRecursion (λ row. last + 1 ≤ ceiling - row.depth) (drop to xs) → from ≤ to
order_of first last ceiling zero to xs le a b below above = omega arith
order_of first last ceiling (suc from) zero [] le a b below above = absurd (omega arith)
order_of first last ceiling (suc from) zero (x ∷ xs) le a b below above = absurd (omega (arith, below.0, above.0))
order_of first last ceiling (suc from) (suc to) [] le a b below above = absurd (omega arith)
order_of first last ceiling (suc from) (suc to) (x ∷ xs) le a b below above =
    let rest = order_of first last ceiling from to xs le (omega arith) (omega arith) below.1 above in
    omega (arith, rest)

-- the ceilings of the other blocks, when one is vacant
pub held_less : (blocks : List RowBlock) (at : ℕ) (block : RowBlock) (old new : Slab ℕ) → at < length blocks → block ≡ get_or blocks at block → AreDistinct (map number_of blocks) → Updates old new block.number None → AllByRecursion (λ b. get old b.number ≡ Some b.ceiling) blocks → AllByRecursion (λ b. get new b.number ≡ Some b.ceiling) (take at blocks) × AllByRecursion (λ b. get new b.number ≡ Some b.ceiling) (drop (suc at) blocks)
held_less blocks at block old new within is distinct updates held =
    let apart = others_of block.number (map number_of (take at blocks)) (map number_of (drop (suc at) blocks)) (subst AreDistinct (ap (map number_of) (around blocks at block within is) ∙ map-append number_of (take at blocks) (block ∷ drop (suc at) blocks)) distinct) in (
      stay (take at blocks) (every_unmapped (λ n. n ≢ block.number) number_of (take at blocks) apart.0) (every-take (λ b. get old b.number ≡ Some b.ceiling) at blocks held),
      stay (drop (suc at) blocks) (every_unmapped (λ n. n ≢ block.number) number_of (drop (suc at) blocks) apart.1) (every-drop (λ b. get old b.number ≡ Some b.ceiling) (suc at) blocks held),
    )
  where
    stay : (bs : List RowBlock) → AllByRecursion (λ b. b.number ≢ block.number) bs → AllByRecursion (λ b. get old b.number ≡ Some b.ceiling) bs → AllByRecursion (λ b. get new b.number ≡ Some b.ceiling) bs
    stay bs = every_both (λ b. b.number ≢ block.number) (λ b. get old b.number ≡ Some b.ceiling) (λ b. get new b.number ≡ Some b.ceiling) bs (λ b ne there. updates.others b.number ne ∙ there)

pub distinct_gone : (blocks : List RowBlock) (at : ℕ) (block : RowBlock) → at < length blocks → block ≡ get_or blocks at block → AreDistinct (map number_of blocks) → AreDistinct (map number_of (take at blocks ++ drop (suc at) blocks))
distinct_gone blocks at block within is distinct =
    subst AreDistinct (sym (map-append number_of (take at blocks) (drop (suc at) blocks)))
    (distinct_less block.number (map number_of (take at blocks)) (map number_of (drop (suc at) blocks)) (subst AreDistinct (ap (map number_of) (around blocks at block within is) ∙ map-append number_of (take at blocks) (block ∷ drop (suc at) blocks)) distinct))

pub all_held : (old : HandleIndex) → IsIndex old → AllByRecursion (λ b. get old.ceilings b.number ≡ Some b.ceiling) old.blocks.items
all_held old sound = every_weaker (IsPlaced old.ceilings old.places) (λ b. get old.ceilings b.number ≡ Some b.ceiling) old.blocks.items (λ b is. is.ceiling) sound.placed

-- lists with one element replaced, and then left out
pub set_removed : {X : Type 0} (xs : List X) (i : ℕ) (x : X) → i < length xs → remove (set xs i x) i ≡ take i xs ++ drop (suc i) xs
set_removed xs i x lt = ap (λ ys. ys ++ drop (suc i) (set xs i x)) (take-set xs i x) ∙ ap (λ ys. take i xs ++ ys) (drop-set-lt (suc i) xs i x (omega arith))

-- the rows of the blocks from one on
pub begin_later : (bound : ℕ) (blocks : List RowBlock) (index : ℕ) (block : RowBlock) → index < length blocks → block ≡ get_or blocks index block → AllByRecursion IsBlock blocks → Ascend (rows blocks) → bound < block.first → AllByRecursion (λ other. bound < other.first) (drop index blocks)
begin_later bound [] index block lt at sound ascend above = absurd (omega arith)
begin_later bound (first ∷ blocks) zero block lt at sound ascend above =
    let own : bound < first.first = subst (λ b. bound < b.first) at above in
    (own, every_weaker (λ other. first.first < other.first) (λ other. bound < other.first) blocks (λ other more. omega (arith, own, more)) (later_firsts first blocks sound ascend))
begin_later bound (first ∷ blocks) (suc index) block lt at sound ascend above = begin_later bound blocks index block (omega arith) at sound.1 (ascend_back (rows_of first) (rows blocks) ascend) above

pub left_all : (first last : ℕ) (old : List Entry) (new : List RowBlock) (index : ℕ) → outside first last (rows new) ≡ outside first last old → AllByRecursion IsBlock new → Ascend (rows new) → AreOutside first last (rows (take index new)) → AllByRecursion (λ block. last < block.first) (drop index new) → rows new ≡ outside first last old
left_all first last old new index rest sound ascend done above = sym (outside_all first last (rows new) all) ∙ rest
  where
    two : rows new ≡ rows (take index new) ++ rows (drop index new)
    two = ap rows (sym (take-append-drop index new)) ∙ flat_map-append rows_of (take index new) (drop index new)

    all : AreOutside first last (rows new)
    all =
        subst (AreOutside first last) (sym two)
        (every-append (λ x. is_between first last x.key ≡ false) (rows (take index new)) (rows (drop index new)) done
        (every_weaker (λ x. last < x.key) (λ x. is_between first last x.key ≡ false) (rows (drop index new)) (λ x lt. between_past first last x.key lt)
        (rows_above last (drop index new) (every-drop IsBlock index new sound) (ascend_back (rows (take index new)) (rows (drop index new)) (subst Ascend two ascend)) above)))

-- range by range
pub left_by-append : (ranges : List Range) (range : Range) (xs : List Entry) → left_by (ranges ++ range ∷ []) xs ≡ outside range.first range.last (left_by ranges xs)
left_by-append [] range xs = refl
left_by-append (other ∷ ranges) range xs = left_by-append ranges range (outside other.first other.last xs)

-- the rows of no range are those whose keys are none of the ranges' keys
pub left_by_keys : (ranges : List Range) (xs : List Entry) → left_by ranges xs ≡ left_rows (keys_of ranges) xs
left_by_keys [] xs = sym (filter_same (λ x. not (is_among x.key [])) (λ _. true) xs (every (λ x. not (is_among x.key []) ≡ true) xs (λ x. refl)) ∙ filter_all xs)
left_by_keys (range ∷ ranges) xs =
    left_by_keys ranges (outside range.first range.last xs)
    ∙ filter_filter (λ x. not (is_among x.key (keys_of ranges))) (λ x. not (is_between range.first range.last x.key)) xs
    ∙ filter_same (λ x. not (is_between range.first range.last x.key) && not (is_among x.key (keys_of ranges))) (λ x. not (is_among x.key (keys_of (range ∷ ranges)))) xs
    (every (λ x. (not (is_between range.first range.last x.key) && not (is_among x.key (keys_of ranges))) ≡ not (is_among x.key (keys_of (range ∷ ranges)))) xs (λ x.
    neither (is_between range.first range.last x.key) (is_among x.key (keys_of ranges))
    ∙ ap not (ap (λ b. b || is_among x.key (keys_of ranges)) (sym (among-in x.key range)) ∙ sym (among-append x.key (keys_in range) (keys_of ranges)))))

pub ordered_ranges : (ranges : List Range) → AreApart 0 ranges → AllByRecursion (λ range. range.first ≤ range.last) ranges
ordered_ranges ranges h = every_weaker (IsRangeFrom 0) (λ range. range.first ≤ range.last) ranges (λ range is. is.ascends) (each_range 0 ranges h)

pub small_ranges : (ranges : List Range) → AreApart 0 ranges → AllByRecursion (λ range. range.last < 2 ^ 62) ranges
small_ranges ranges h = every_weaker (IsRangeFrom 0) (λ range. range.last < 2 ^ 62) ranges (λ range is. is.small) (each_range 0 ranges h)
