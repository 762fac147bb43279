-- Blocks that are split where a key falls between their rows.
use Rattle.std.proofs.Common.{◌≡◌, ◌≢◌, ap, sym, ◌∙◌, subst, true, ℕ, zero, suc, ◌+◌, ◌-◌, ◌^◌, ◌<◌, ◌≤◌, arith, List, [], ◌∷◌, ◌++◌, map, length, take, drop, get_or, Some, None, inl, inr, append_assoc, append-nil, take-append-drop, option_map}
use Rattle.std.{specs.List.AllByRecursion, proofs.lemmas.List.map-append, proofs.lemmas.Grind.flat_map-append}
use Rattle.key_lists.{proofs.Every.{every_weaker, every_both, every-append, every-map}, proofs.Parts.{every-take, every-drop, every_front, every_back, around}}
use Rattle.slab.specs.Slab.{get}
use Rattle.tick_model.specs.declared.update.ShiftRange.{ShiftRange}
use Rattle.row_handles.{specs.declared.block.RowBlock.RowBlock, specs.declared.block.BlockRow.BlockRow, specs.declared.index.HandleIndex.HandleIndex, specs.Entries.{Ascend, AreDistinct}, specs.Blocks.{BeginAt, IsBlock, IsIndex, IsPlaced, entry_at, place_in, rows_of, rows, number_of}, specs.Moves.{AreRenamed, IsBeside, IsBesideRange, IsSplit, IsCut, has_handle}, proofs.EntryLists.{begin_has, from_begin}, proofs.Listings.{parts, own_block, own_ascend}, proofs.Places.{Keeps, fresh_number}, proofs.Inserting.rows_around, proofs.Moving.below_next, proofs.Apart.{own_handles, apart_front, apart_lower, apart_back, rows_stay, blocks_stay}}

-- a block in two
pub record Splits (from at : ℕ) (block left right : RowBlock) (old new : HandleIndex) : Type 0 where
  pub within : at < length old.blocks.items
  pub is : block ≡ get_or old.blocks.items at block
  pub blocks : new.blocks.items ≡ take at old.blocks.items ++ left ∷ right ∷ drop (suc at) old.blocks.items
  pub some : 0 < from
  pub left_number : left.number ≡ block.number
  pub left_first : left.first ≡ block.first
  pub left_ceiling : left.ceiling ≡ block.ceiling
  pub left_rows : left.rows.items ≡ take from block.rows.items
  pub vacant : get old.ceilings right.number ≡ None
  pub right_begun : BeginAt right.first (rows_of right)
  pub right_ceiling : right.ceiling ≡ block.ceiling
  pub right_rows : right.rows.items ≡ drop from block.rows.items
  pub ceilings : Keeps old.ceilings new.ceilings
  pub held : get new.ceilings right.number ≡ Some block.ceiling
  pub renamed : AreRenamed right.number (drop from block.rows.items) old.places new.places

begin_part : (first ceiling from : ℕ) (xs : List BlockRow) → 0 < from → BeginAt first (map (entry_at ceiling) xs) → BeginAt first (map (entry_at ceiling) (take from xs))
begin_part first ceiling zero xs some begin = absurd (omega arith)
begin_part first ceiling (suc from) [] some begin = begin
begin_part first ceiling (suc from) (x ∷ xs) some begin = begin

distinct_after : (n m : ℕ) (xs ys : List ℕ) → AllByRecursion (λ x. x ≢ n) xs → m ≢ n → AllByRecursion (λ y. y ≢ n) ys → AreDistinct (xs ++ m ∷ ys) → AreDistinct (xs ++ m ∷ n ∷ ys)
distinct_after n m [] ys h own k d = ((own, d.0), (every_weaker (λ y. y ≢ n) (λ y. n ≢ y) ys (λ y ne e. ne (sym e)) k, d.1))
distinct_after n m (x ∷ xs) ys h own k d =
    let rest = every_back (λ y. x ≢ y) xs (m ∷ ys) d.0 in
    (every-append (λ y. x ≢ y) xs (m ∷ n ∷ ys) (every_front (λ y. x ≢ y) xs (m ∷ ys) d.0) (rest.0, (h.0, rest.1)), distinct_after n m xs ys h.1 own k d.1)

module _ (from at : ℕ) (block left right : RowBlock) (old new : HandleIndex) (sound : IsIndex old) (splits : Splits from at block left right old new) where
  abbrev items : List BlockRow
  items = block.rows.items

  whole : items ≡ take from items ++ (drop from items ++ [])
  whole = sym (take-append-drop from items) ∙ ap (λ s. take from items ++ s) (sym (append-nil (drop from items)))

  is_block : IsBlock block
  is_block = own_block IsBlock old.blocks.items at block splits.within splits.is sound.sound

  left_entries : rows_of left ≡ map (entry_at block.ceiling) (take from items)
  left_entries = ap (λ c. map (entry_at c) left.rows.items) splits.left_ceiling ∙ ap (map (entry_at block.ceiling)) splits.left_rows

  right_entries : rows_of right ≡ map (entry_at block.ceiling) (drop from items)
  right_entries = ap (λ c. map (entry_at c) right.rows.items) splits.right_ceiling ∙ ap (map (entry_at block.ceiling)) splits.right_rows

  pub split_rows : rows new.blocks.items ≡ rows old.blocks.items
  split_rows =
      ap rows splits.blocks
      ∙ flat_map-append rows_of (take at old.blocks.items) (left ∷ right ∷ drop (suc at) old.blocks.items)
      ∙ ap (λ s. rows (take at old.blocks.items) ++ s)
      (sym (append_assoc (rows_of left) (rows_of right) (rows (drop (suc at) old.blocks.items)))
      ∙ ap (λ s. s ++ rows (drop (suc at) old.blocks.items)) (ap (λ s. s ++ rows_of right) left_entries ∙ ap (λ s. map (entry_at block.ceiling) (take from items) ++ s) right_entries ∙ sym (parts block.ceiling items from)))
      ∙ sym (rows_around old.blocks.items at block splits.within splits.is)

  pub split_made : IsSplit from block at old.blocks.items new.blocks.items
  split_made = record {
    left = left;
    right = right;
    list = splits.blocks;
    left_first = splits.left_first;
    left_rows = left_entries;
    right_first = splits.right_begun;
    right_rows = right_entries;
  }

  left_block : IsBlock left
  left_block = record {
    begun = subst (λ n. BeginAt n (rows_of left)) (sym splits.left_first) (subst (BeginAt block.first) (sym left_entries) (begin_part block.first block.ceiling from items splits.some is_block.begun));
    held = subst (λ c. AllByRecursion (λ row. row.depth ≤ c) left.rows.items) (sym splits.left_ceiling) (subst (AllByRecursion (λ row. row.depth ≤ block.ceiling)) (sym splits.left_rows) (every-take (λ row. row.depth ≤ block.ceiling) from items is_block.held));
  }

  right_block : IsBlock right
  right_block = record {
    begun = splits.right_begun;
    held = subst (λ c. AllByRecursion (λ row. row.depth ≤ c) right.rows.items) (sym splits.right_ceiling) (subst (AllByRecursion (λ row. row.depth ≤ block.ceiling)) (sym splits.right_rows) (every-drop (λ row. row.depth ≤ block.ceiling) from items is_block.held));
  }

  in_place : (P : RowBlock → Type 0) → P left → P right → AllByRecursion P (take at old.blocks.items) → AllByRecursion P (drop (suc at) old.blocks.items) → AllByRecursion P new.blocks.items
  in_place P one two h k = subst (AllByRecursion P) (sym splits.blocks) (every-append P (take at old.blocks.items) (left ∷ right ∷ drop (suc at) old.blocks.items) h (one, (two, k)))

  own_place : IsPlaced old.ceilings old.places block
  own_place = own_block (IsPlaced old.ceilings old.places) old.blocks.items at block splits.within splits.is sound.placed

  held_all : (blocks : List RowBlock) → AllByRecursion (IsPlaced old.ceilings old.places) blocks → AllByRecursion (λ b. get new.ceilings b.number ≡ Some b.ceiling) blocks
  held_all blocks = every_weaker (IsPlaced old.ceilings old.places) (λ b. get new.ceilings b.number ≡ Some b.ceiling) blocks (λ b is. splits.ceilings b.number b.ceiling is.ceiling)

  left_placed : IsPlaced new.ceilings new.places left
  left_placed = record {
    ceiling = ap (get new.ceilings) splits.left_number ∙ splits.ceilings block.number block.ceiling own_place.ceiling ∙ ap Some (sym splits.left_ceiling);
    rows =
        subst (λ n. AllByRecursion (λ row. get new.places row.handle ≡ Some (place_in n row.depth)) left.rows.items) (sym splits.left_number)
        (subst (AllByRecursion (λ row. get new.places row.handle ≡ Some (place_in block.number row.depth))) (sym splits.left_rows)
        (rows_stay old.places new.places (drop from items) block.number (take from items) splits.renamed.others
        (apart_lower old sound at block splits.within splits.is (take from items) (drop from items) [] whole)
        (every-take (λ row. get old.places row.handle ≡ Some (place_in block.number row.depth)) from items own_place.rows)));
  }

  right_placed : IsPlaced new.ceilings new.places right
  right_placed = record {
    ceiling = splits.held ∙ ap Some (sym splits.right_ceiling);
    rows =
        subst (AllByRecursion (λ row. get new.places row.handle ≡ Some (place_in right.number row.depth))) (sym splits.right_rows)
        (every_both (λ row. has_handle row.handle (drop from items) ≡ true) (λ row. get old.places row.handle ≡ Some (place_in block.number row.depth)) (λ row. get new.places row.handle ≡ Some (place_in right.number row.depth)) (drop from items)
        (λ row own there. splits.renamed.moved row.handle own ∙ ap (option_map (λ place. place_in right.number place.depth)) there)
        (own_handles (drop from items))
        (every-drop (λ row. get old.places row.handle ≡ Some (place_in block.number row.depth)) from items own_place.rows));
  }

  pub split_index : IsIndex new
  split_index = record {
    sound = in_place IsBlock left_block right_block (every-take IsBlock at old.blocks.items sound.sound) (every-drop IsBlock (suc at) old.blocks.items sound.sound);
    ascend = subst Ascend (sym split_rows) sound.ascend;
    small = subst (AllByRecursion (λ x. x.key < 2 ^ 62)) (sym split_rows) sound.small;
    numbered = subst AreDistinct (sym (ap (map number_of) splits.blocks ∙ map-append number_of (take at old.blocks.items) (left ∷ right ∷ drop (suc at) old.blocks.items) ∙ ap (λ n. map number_of (take at old.blocks.items) ++ n ∷ right.number ∷ map number_of (drop (suc at) old.blocks.items)) splits.left_number)) numbers;
    placed =
        in_place (IsPlaced new.ceilings new.places) left_placed right_placed
        (blocks_stay old.ceilings new.ceilings old.places new.places (drop from items) (take at old.blocks.items) splits.renamed.others (held_all (take at old.blocks.items) front_placed) (apart_front old sound at block splits.within splits.is (take from items) (drop from items) [] whole) front_placed)
        (blocks_stay old.ceilings new.ceilings old.places new.places (drop from items) (drop (suc at) old.blocks.items) splits.renamed.others (held_all (drop (suc at) old.blocks.items) back_placed) (apart_back old sound at block splits.within splits.is (take from items) (drop from items) [] whole) back_placed);
  }
    where
      front_placed : AllByRecursion (IsPlaced old.ceilings old.places) (take at old.blocks.items)
      front_placed = every-take (IsPlaced old.ceilings old.places) at old.blocks.items sound.placed

      back_placed : AllByRecursion (IsPlaced old.ceilings old.places) (drop (suc at) old.blocks.items)
      back_placed = every-drop (IsPlaced old.ceilings old.places) (suc at) old.blocks.items sound.placed

      numbers : AreDistinct (map number_of (take at old.blocks.items) ++ block.number ∷ right.number ∷ map number_of (drop (suc at) old.blocks.items))
      numbers =
          let fronts = map number_of (take at old.blocks.items) in
          let backs = map number_of (drop (suc at) old.blocks.items) in
          let all : map number_of old.blocks.items ≡ fronts ++ block.number ∷ backs = ap (map number_of) (around old.blocks.items at block splits.within splits.is) ∙ map-append number_of (take at old.blocks.items) (block ∷ drop (suc at) old.blocks.items) in
          let fresh = subst (AllByRecursion (λ n. n ≢ right.number)) all (fresh_number old.ceilings old.places right.number old.blocks.items splits.vacant sound.placed) in
          let late = every_back (λ n. n ≢ right.number) fronts (block.number ∷ backs) fresh in
          distinct_after right.number block.number fronts backs (every_front (λ n. n ≢ right.number) fronts (block.number ∷ backs) fresh) late.0 late.1 (subst AreDistinct all sound.numbered)

-- where a list of rows begins
pub begins_first : (first ceiling : ℕ) (row : BlockRow) (xs : List BlockRow) → 0 < length xs → row ≡ get_or xs 0 row → first ≡ ceiling - row.depth → BeginAt first (map (entry_at ceiling) xs)
begins_first first ceiling row [] some is e = absurd (omega arith)
begins_first first ceiling row (x ∷ xs) some is e = ap (λ r. ceiling - r.depth) (sym is) ∙ sym e

-- blocks of rows on one side of a key
beside_below : (key : ℕ) (blocks : List RowBlock) → AllByRecursion (λ x. x.key < key) (rows blocks) → AllByRecursion (IsBeside key) blocks
beside_below key [] h = tt
beside_below key (block ∷ blocks) h = (inr (every_front (λ x. x.key < key) (rows_of block) (rows blocks) h), beside_below key blocks (every_back (λ x. x.key < key) (rows_of block) (rows blocks) h))

pub beside_above : (key : ℕ) (blocks : List RowBlock) → AllByRecursion (λ block. key < block.first) blocks → AllByRecursion (IsBeside key) blocks
beside_above key blocks = every_weaker (λ block. key < block.first) (IsBeside key) blocks (λ block lt. inl (omega arith))

pub cut_none : (key : ℕ) (blocks : List RowBlock) → AllByRecursion (IsBeside key) blocks → IsCut key blocks blocks
cut_none key blocks beside = record { beside = beside; others = λ other h. h }

-- the last block that begins at a key or before it
pub record Found (key : ℕ) (blocks : List RowBlock) (at from : ℕ) (block : RowBlock) : Type 0 where
  pub within : at < length blocks
  pub is : block ≡ get_or blocks at block
  pub sound : AllByRecursion IsBlock blocks
  pub ascend : Ascend (rows blocks)
  pub front : AllByRecursion (λ x. x.key < key) (rows (take at blocks))
  pub back : AllByRecursion (λ other. key < other.first) (drop (suc at) blocks)
  pub below : AllByRecursion (λ row. block.ceiling - row.depth < key) (take from block.rows.items)
  pub others : AllByRecursion (λ row. key ≤ block.ceiling - row.depth) (drop from block.rows.items)

module _ (key : ℕ) (blocks : List RowBlock) (at from : ℕ) (block : RowBlock) (found : Found key blocks at from block) where
  found_block : IsBlock block
  found_block = own_block IsBlock blocks at block found.within found.is found.sound

  -- nothing is split where the block has rows on one side alone
  pub found_none : IsBeside key block → IsCut key blocks blocks
  found_none beside =
      cut_none key blocks (subst (AllByRecursion (IsBeside key)) (sym (around blocks at block found.within found.is)) (every-append (IsBeside key) (take at blocks) (block ∷ drop (suc at) blocks) (beside_below key (take at blocks) found.front) (beside, beside_above key (drop (suc at) blocks) found.back)))

  pub found_first : from ≡ 0 → IsCut key blocks blocks
  found_first e =
      found_none (inl (begin_has (λ k. key ≤ k) block.first (rows_of block) found_block.begun (every-map (λ x. key ≤ x.key) (entry_at block.ceiling) block.rows.items (subst (λ n. AllByRecursion (λ row. key ≤ block.ceiling - row.depth) (drop n block.rows.items)) e found.others))))

  pub found_past : take from block.rows.items ≡ block.rows.items → IsCut key blocks blocks
  found_past e =
      found_none (inr (every-map (λ x. x.key < key) (entry_at block.ceiling) block.rows.items (subst (AllByRecursion (λ row. block.ceiling - row.depth < key)) e found.below)))

  pub found_cut : (new : List RowBlock) → IsSplit from block at blocks new → IsCut key blocks new
  found_cut new split = record {
    beside =
        in_new (IsBeside key) (inr (subst (AllByRecursion (λ x. x.key < key)) (sym split.left_rows) (every-map (λ x. x.key < key) (entry_at block.ceiling) (take from block.rows.items) found.below)))
        (inl (begin_has (λ k. key ≤ k) split.right.first (rows_of split.right) split.right_first (subst (AllByRecursion (λ x. key ≤ x.key)) (sym split.right_rows) (every-map (λ x. key ≤ x.key) (entry_at block.ceiling) (drop from block.rows.items) found.others))))
        (beside_below key (take at blocks) found.front) (beside_above key (drop (suc at) blocks) found.back);
    others = λ other h.
        let own = own_block (IsBeside other) blocks at block found.within found.is h in
        in_new (IsBeside other) (left_beside other own) (right_beside other own) (every-take (IsBeside other) at blocks h) (every-drop (IsBeside other) (suc at) blocks h);
  }
    where
      in_new : (P : RowBlock → Type 0) → P split.left → P split.right → AllByRecursion P (take at blocks) → AllByRecursion P (drop (suc at) blocks) → AllByRecursion P new
      in_new P one two h k = subst (AllByRecursion P) (sym split.list) (every-append P (take at blocks) (split.left ∷ split.right ∷ drop (suc at) blocks) h (one, (two, k)))

      two_rows : rows_of block ≡ rows_of split.left ++ rows_of split.right
      two_rows = parts block.ceiling block.rows.items from ∙ ap (λ s. s ++ map (entry_at block.ceiling) (drop from block.rows.items)) (sym split.left_rows) ∙ ap (λ s. rows_of split.left ++ s) (sym split.right_rows)

      left_beside : (other : ℕ) → IsBeside other block → IsBeside other split.left
      left_beside other (inl le) = inl (omega (arith, le, split.left_first))
      left_beside other (inr h) = inr (every_front (λ x. x.key < other) (rows_of split.left) (rows_of split.right) (subst (AllByRecursion (λ x. x.key < other)) two_rows h))

      right_beside : (other : ℕ) → IsBeside other block → IsBeside other split.right
      right_beside other (inl le) =
          let from_first = from_begin block.first (rows_of block) found_block.begun (own_ascend blocks at block found.within found.is found.ascend) in
          let late = every_back (λ x. block.first ≤ x.key) (rows_of split.left) (rows_of split.right) (subst (AllByRecursion (λ x. block.first ≤ x.key)) two_rows from_first) in
          inl (begin_has (λ k. other ≤ k) split.right.first (rows_of split.right) split.right_first (every_weaker (λ x. block.first ≤ x.key) (λ x. other ≤ x.key) (rows_of split.right) (λ x ge. omega (arith, le, ge)) late))
      right_beside other (inr h) = inr (every_back (λ x. x.key < other) (rows_of split.left) (rows_of split.right) (subst (AllByRecursion (λ x. x.key < other)) two_rows h))

pub beside_kept : (key : ℕ) (old new : List RowBlock) (range : ShiftRange) → IsCut key old new → AllByRecursion (IsBesideRange range) old → AllByRecursion (IsBesideRange range) new
beside_kept key old new range is h =
    every_both (IsBeside range.begin) (IsBeside (range.end + 1)) (IsBesideRange range) new (λ block a b. (a, b))
    (is.others range.begin (every_weaker (IsBesideRange range) (IsBeside range.begin) old (λ block both. both.0) h))
    (is.others (range.end + 1) (every_weaker (IsBesideRange range) (IsBeside (range.end + 1)) old (λ block both. both.1) h))

pub found_made : (key : ℕ) (blocks : List RowBlock) (next from : ℕ) (block : RowBlock) → next ≢ 0 → next ≤ length blocks → block ≡ get_or blocks (next - 1) block → AllByRecursion IsBlock blocks → Ascend (rows blocks) → AllByRecursion (λ other. other.first ≤ key) (take next blocks) → AllByRecursion (λ other. key < other.first) (drop next blocks) → AllByRecursion (λ row. block.ceiling - row.depth < key) (take from block.rows.items) → AllByRecursion (λ row. key ≤ block.ceiling - row.depth) (drop from block.rows.items) → Found key blocks (next - 1) from block
found_made key blocks next from block some within is sound ascend begun above below others = record {
  within = omega (arith, some, within);
  is = is;
  sound = sound;
  ascend = ascend;
  front = below_next key blocks next within sound ascend begun;
  back = subst (λ n. AllByRecursion (λ other. key < other.first) (drop n blocks)) same above;
  below = below;
  others = others;
}
  where
    same : next ≡ suc (next - 1)
    same = omega (arith, some)
