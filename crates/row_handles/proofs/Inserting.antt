-- A row that comes: what the rows, the blocks and the places are afterwards.
use Rattle.std.proofs.Common.{◌≡◌, ◌≢◌, ap, sym, ◌∙◌, subst, ℕ, suc, ◌+◌, ◌-◌, ◌^◌, ◌<◌, ◌≤◌, arith, List, [], ◌∷◌, ◌++◌, map, length, take, drop, get_or, set, min, Some, None, inl, inr, append_assoc, take-append-drop, Result, Ok, Err}
use Rattle.std.{specs.Prelude.OnErr, specs.List.AllByRecursion, proofs.lemmas.List.map-append, proofs.lemmas.Grind.flat_map-append, proofs.Math.Seq.map-set_same}
use Rattle.key_lists.{proofs.Every.{every-append, every-map}, proofs.Parts.{every-take, every-drop, every_front, every_back, around, set_around, every_set}}
use Rattle.slab.specs.Slab.{get}
use Rattle.row_handles.{specs.declared.block.RowBlock.RowBlock, specs.declared.block.BlockRow.BlockRow, specs.declared.index.HandleIndex.HandleIndex, specs.Entries.{Entry, entry_of, with_row, handle_under, Ascend, AreDistinct}, specs.Blocks.{BeginAt, IsBlock, IsIndex, IsPlaced, entry_at, place_in, rows_of, rows, number_of}, specs.Moves.IsBeside, proofs.Lists.distinct_more, proofs.EntryLists.{absent_all, with_row-between, ascend_between, begin_has, ascend_back}, proofs.Listings.{parts, rows_above, own_block}, proofs.Places.{Keeps, placed_kept, fresh_number}}

-- one row more between those of smaller keys and those of greater ones
pub record IsOneMore (key handle : ℕ) (old new : List Entry) : Type 0 where
  pub left : List Entry
  pub right : List Entry
  pub was : old ≡ left ++ right
  pub is : new ≡ left ++ entry_of key handle ∷ right
  pub below : AllByRecursion (λ x. x.key < key) left
  pub above : AllByRecursion (λ y. key < y.key) right

pub more_rows : (key handle : ℕ) (old new : List Entry) → IsOneMore key handle old new → new ≡ with_row key handle old
more_rows key handle old new more = more.is ∙ sym (with_row-between key handle more.left more.right more.below more.above) ∙ ap (with_row key handle) (sym more.was)

pub more_ascend : (key handle : ℕ) (old new : List Entry) → IsOneMore key handle old new → Ascend old → Ascend new
more_ascend key handle old new more ascend = subst Ascend (sym more.is) (ascend_between (entry_of key handle) more.left more.right more.below more.above (subst Ascend more.was ascend))

pub more_every : (P : Entry → Type 0) (key handle : ℕ) (old new : List Entry) → IsOneMore key handle old new → P (entry_of key handle) → AllByRecursion P old → AllByRecursion P new
more_every P key handle old new more own h =
    let both = subst (AllByRecursion P) more.was h in
    subst (AllByRecursion P) (sym more.is) (every-append P more.left (entry_of key handle ∷ more.right) (every_front P more.left more.right both) (own, every_back P more.left more.right both))

begin_more : (first key handle : ℕ) (xs ys : List Entry) → BeginAt first (xs ++ ys) → AllByRecursion (λ x. x.key < key) xs → AllByRecursion (λ y. key < y.key) ys → BeginAt (min first key) (xs ++ entry_of key handle ∷ ys)
begin_more first key handle [] [] begin below above = absurd begin
begin_more first key handle [] (y ∷ ys) begin below above = least first key y.key begin above.0
  where
    least : (a b c : ℕ) → c ≡ a → b < c → b ≡ min a b
    least a b c e lt = omega arith
begin_more first key handle (x ∷ xs) ys begin below above = least first key x.key begin below.0
  where
    least : (a b c : ℕ) → c ≡ a → c < b → c ≡ min a b
    least a b c e lt = omega arith

strictly : (key : ℕ) (ceiling : ℕ) (xs : List BlockRow) → AllByRecursion (λ row. key ≤ ceiling - row.depth) xs → AllByRecursion (λ x. x.key ≢ key) (map (entry_at ceiling) xs) → AllByRecursion (λ y. key < y.key) (map (entry_at ceiling) xs)
strictly key ceiling [] h absent = tt
strictly key ceiling (x ∷ xs) h absent = (above key (ceiling - x.depth) h.0 absent.0, strictly key ceiling xs h.1 absent.1)
  where
    above : (a b : ℕ) → a ≤ b → b ≢ a → a < b
    above a b le ne = omega arith

-- the rows of a list of blocks around one of them
pub rows_around : (blocks : List RowBlock) (i : ℕ) (block : RowBlock) → i < length blocks → block ≡ get_or blocks i block → rows blocks ≡ rows (take i blocks) ++ (rows_of block ++ rows (drop (suc i) blocks))
rows_around blocks i block lt is = ap rows (around blocks i block lt is) ∙ flat_map-append rows_of (take i blocks) (block ∷ drop (suc i) blocks)

pub rows_set : (blocks : List RowBlock) (i : ℕ) (block : RowBlock) → i < length blocks → rows (set blocks i block) ≡ rows (take i blocks) ++ (rows_of block ++ rows (drop (suc i) blocks))
rows_set blocks i block lt = ap rows (set_around blocks i block lt) ∙ flat_map-append rows_of (take i blocks) (block ∷ drop (suc i) blocks)

regroup : (xs ys zs ws : List Entry) → xs ++ ((ys ++ zs) ++ ws) ≡ (xs ++ ys) ++ (zs ++ ws)
regroup xs ys zs ws = ap (λ s. xs ++ s) (append_assoc ys zs ws) ∙ sym (append_assoc xs ys (zs ++ ws))

-- other blocks of the same rows
pub record IsSame (block other : RowBlock) : Type 0 where
  pub number : other.number ≡ block.number
  pub first : other.first ≡ block.first
  pub ceiling : other.ceiling ≡ block.ceiling
  pub rows : other.rows.items ≡ block.rows.items

same_rows : (block other : RowBlock) → IsSame block other → rows_of other ≡ rows_of block
same_rows block other same = ap (λ c. map (entry_at c) other.rows.items) same.ceiling ∙ ap (map (entry_at block.ceiling)) same.rows

same_block : (block other : RowBlock) → IsSame block other → IsBlock block → IsBlock other
same_block block other same is = record {
  begun = subst (λ n. BeginAt n (rows_of other)) (sym same.first) (subst (BeginAt block.first) (sym (same_rows block other same)) is.begun);
  held = subst (λ c. AllByRecursion (λ row. row.depth ≤ c) other.rows.items) (sym same.ceiling) (subst (AllByRecursion (λ row. row.depth ≤ block.ceiling)) (sym same.rows) is.held);
}

pub kept_rows : (blocks : List RowBlock) (at : ℕ) (block other : RowBlock) → at < length blocks → block ≡ get_or blocks at block → IsSame block other → rows (set blocks at other) ≡ rows blocks
kept_rows blocks at block other within is same =
    rows_set blocks at other within
    ∙ ap (λ s. rows (take at blocks) ++ (s ++ rows (drop (suc at) blocks))) (same_rows block other same)
    ∙ sym (rows_around blocks at block within is)

-- the same blocks, with places that keep what they had
pub same_index : (old new : HandleIndex) → new.blocks.items ≡ old.blocks.items → Keeps old.ceilings new.ceilings → Keeps old.places new.places → IsIndex old → IsIndex new
same_index old new same ceilings places sound = record {
  sound = subst (AllByRecursion IsBlock) (sym same) sound.sound;
  ascend = subst (λ bs. Ascend (rows bs)) (sym same) sound.ascend;
  small = subst (λ bs. AllByRecursion (λ x. x.key < 2 ^ 62) (rows bs)) (sym same) sound.small;
  numbered = subst (λ bs. AreDistinct (map number_of bs)) (sym same) sound.numbered;
  placed = subst (AllByRecursion (IsPlaced new.ceilings new.places)) (sym same) (placed_kept old.ceilings new.ceilings old.places new.places old.blocks.items ceilings places sound.placed);
}

module _ (old new : HandleIndex) (at : ℕ) (block other : RowBlock) (within : at < length old.blocks.items) (is : block ≡ get_or old.blocks.items at block) (same : IsSame block other) (blocks : new.blocks.items ≡ set old.blocks.items at other) (ceilings : Keeps old.ceilings new.ceilings) (places : Keeps old.places new.places) where
  rows_kept : rows new.blocks.items ≡ rows old.blocks.items
  rows_kept = ap rows blocks ∙ kept_rows old.blocks.items at block other within is same

  pub kept_index : IsIndex old → IsIndex new
  kept_index sound = record {
    sound = subst (AllByRecursion IsBlock) (sym blocks) (every_set IsBlock old.blocks.items at other (same_block block other same (own_block IsBlock old.blocks.items at block within is sound.sound)) sound.sound);
    ascend = subst Ascend (sym rows_kept) sound.ascend;
    small = subst (AllByRecursion (λ x. x.key < 2 ^ 62)) (sym rows_kept) sound.small;
    numbered = subst AreDistinct (sym (ap (map number_of) blocks ∙ map-set_same number_of old.blocks.items at other block (same.number ∙ ap number_of is))) sound.numbered;
    placed = subst (AllByRecursion (IsPlaced new.ceilings new.places)) (sym blocks) (every_set (IsPlaced new.ceilings new.places) old.blocks.items at other other_placed kept);
  }
    where
      kept : AllByRecursion (IsPlaced new.ceilings new.places) old.blocks.items
      kept = placed_kept old.ceilings new.ceilings old.places new.places old.blocks.items ceilings places sound.placed

      own : IsPlaced new.ceilings new.places block
      own = own_block (IsPlaced new.ceilings new.places) old.blocks.items at block within is kept

      other_placed : IsPlaced new.ceilings new.places other
      other_placed = record {
        ceiling = ap (get new.ceilings) same.number ∙ own.ceiling ∙ ap Some (sym same.ceiling);
        rows = subst (λ n. AllByRecursion (λ row. get new.places row.handle ≡ Some (place_in n row.depth)) other.rows.items) (sym same.number) (subst (AllByRecursion (λ row. get new.places row.handle ≡ Some (place_in block.number row.depth))) (sym same.rows) own.rows);
      }

-- a row that comes into a block
pub record Inserts (key depth handle at place : ℕ) (block other : RowBlock) (old new : HandleIndex) : Type 0 where
  pub within : at < length old.blocks.items
  pub is : block ≡ get_or old.blocks.items at block
  pub blocks : new.blocks.items ≡ set old.blocks.items at other
  pub items : other.rows.items ≡ take place block.rows.items ++ (record { depth = depth; handle = handle }) ∷ drop place block.rows.items
  pub first : other.first ≡ min block.first key
  pub ceiling : other.ceiling ≡ block.ceiling
  pub number : other.number ≡ block.number
  pub height : depth + key ≡ block.ceiling
  pub below : AllByRecursion (λ row. block.ceiling - row.depth < key) (take place block.rows.items)
  pub others : AllByRecursion (λ row. key ≤ block.ceiling - row.depth) (drop place block.rows.items)
  pub front : AllByRecursion (λ x. x.key < key) (rows (take at old.blocks.items))
  pub back : AllByRecursion (λ other. key < other.first) (drop (suc at) old.blocks.items)
  pub absent : handle_under key (rows old.blocks.items) ≡ None
  pub ceilings : Keeps old.ceilings new.ceilings
  pub places : Keeps old.places new.places
  pub placed : get new.places handle ≡ Some (place_in block.number depth)

module _ (key depth handle at place : ℕ) (block other : RowBlock) (old new : HandleIndex) (sound : IsIndex old) (inserts : Inserts key depth handle at place block other old new) where
  abbrev row : BlockRow
  row = record { depth = depth; handle = handle }

  abbrev lower : List Entry
  lower = map (entry_at block.ceiling) (take place block.rows.items)

  abbrev upper : List Entry
  upper = map (entry_at block.ceiling) (drop place block.rows.items)

  abbrev front_rows : List Entry
  front_rows = rows (take at old.blocks.items)

  abbrev back_rows : List Entry
  back_rows = rows (drop (suc at) old.blocks.items)

  is_block : IsBlock block
  is_block = own_block IsBlock old.blocks.items at block inserts.within inserts.is sound.sound

  around_rows : rows old.blocks.items ≡ front_rows ++ ((lower ++ upper) ++ back_rows)
  around_rows = rows_around old.blocks.items at block inserts.within inserts.is ∙ ap (λ s. front_rows ++ (s ++ back_rows)) (parts block.ceiling block.rows.items place)

  own_entry : entry_at block.ceiling row ≡ entry_of key handle
  own_entry = ap (λ k. entry_of k handle) (less block.ceiling inserts.height)
    where
      less : (c : ℕ) → depth + key ≡ c → c - depth ≡ key
      less c e = omega arith

  other_rows : rows_of other ≡ lower ++ entry_of key handle ∷ upper
  other_rows =
      ap (λ c. map (entry_at c) other.rows.items) inserts.ceiling
      ∙ ap (map (entry_at block.ceiling)) inserts.items
      ∙ map-append (entry_at block.ceiling) (take place block.rows.items) (row ∷ drop place block.rows.items)
      ∙ ap (λ x. lower ++ x ∷ upper) own_entry

  lower_below : AllByRecursion (λ x. x.key < key) lower
  lower_below = every-map (λ x. x.key < key) (entry_at block.ceiling) (take place block.rows.items) inserts.below

  upper_above : AllByRecursion (λ x. key < x.key) upper
  upper_above =
      let all = subst (AllByRecursion (λ x. x.key ≢ key)) around_rows (absent_all key (rows old.blocks.items) inserts.absent) in
      let own = every_front (λ x. x.key ≢ key) (lower ++ upper) back_rows (every_back (λ x. x.key ≢ key) front_rows ((lower ++ upper) ++ back_rows) all) in
      strictly key block.ceiling (drop place block.rows.items) inserts.others (every_back (λ x. x.key ≢ key) lower upper own)

  back_above : AllByRecursion (λ x. key < x.key) back_rows
  back_above =
      rows_above key (drop (suc at) old.blocks.items) (every-drop IsBlock (suc at) old.blocks.items sound.sound)
      (ascend_back (lower ++ upper) back_rows (ascend_back front_rows ((lower ++ upper) ++ back_rows) (subst Ascend around_rows sound.ascend))) inserts.back

  pub inserted_more : IsOneMore key handle (rows old.blocks.items) (rows new.blocks.items)
  inserted_more = record {
    left = front_rows ++ lower;
    right = upper ++ back_rows;
    was = around_rows ∙ regroup front_rows lower upper back_rows;
    is =
        ap rows inserts.blocks
        ∙ rows_set old.blocks.items at other inserts.within
        ∙ ap (λ s. front_rows ++ (s ++ back_rows)) other_rows
        ∙ regroup front_rows lower (entry_of key handle ∷ upper) back_rows;
    below = every-append (λ x. x.key < key) front_rows lower inserts.front lower_below;
    above = every-append (λ x. key < x.key) upper back_rows upper_above back_above;
  }

  other_block : IsBlock other
  other_block = record {
    begun =
        subst (λ n. BeginAt n (rows_of other)) (sym inserts.first)
        (subst (BeginAt (min block.first key)) (sym other_rows) (begin_more block.first key handle lower upper (subst (BeginAt block.first) (parts block.ceiling block.rows.items place) is_block.begun) lower_below upper_above));
    held =
        subst (λ c. AllByRecursion (λ row. row.depth ≤ c) other.rows.items) (sym inserts.ceiling)
        (subst (AllByRecursion (λ row. row.depth ≤ block.ceiling)) (sym inserts.items)
        (every-append (λ row. row.depth ≤ block.ceiling) (take place block.rows.items) (row ∷ drop place block.rows.items) (every-take (λ row. row.depth ≤ block.ceiling) place block.rows.items is_block.held)
        (omega (arith, inserts.height), every-drop (λ row. row.depth ≤ block.ceiling) place block.rows.items is_block.held)));
  }

  kept_places : AllByRecursion (IsPlaced new.ceilings new.places) old.blocks.items
  kept_places = placed_kept old.ceilings new.ceilings old.places new.places old.blocks.items inserts.ceilings inserts.places sound.placed

  own_place : IsPlaced new.ceilings new.places block
  own_place = own_block (IsPlaced new.ceilings new.places) old.blocks.items at block inserts.within inserts.is kept_places

  abbrev Stands : BlockRow → Type 0
  Stands row = get new.places row.handle ≡ Some (place_in block.number row.depth)

  other_placed : IsPlaced new.ceilings new.places other
  other_placed = record {
    ceiling = ap (get new.ceilings) inserts.number ∙ own_place.ceiling ∙ ap Some (sym inserts.ceiling);
    rows =
        subst (λ n. AllByRecursion (λ row. get new.places row.handle ≡ Some (place_in n row.depth)) other.rows.items) (sym inserts.number)
        (subst (AllByRecursion Stands) (sym inserts.items)
        (every-append Stands (take place block.rows.items) (row ∷ drop place block.rows.items) (every-take Stands place block.rows.items own_place.rows) (inserts.placed, every-drop Stands place block.rows.items own_place.rows)));
  }

  pub inserted_index : key < 2 ^ 62 → IsIndex new
  inserted_index small = record {
    sound = subst (AllByRecursion IsBlock) (sym inserts.blocks) (every_set IsBlock old.blocks.items at other other_block sound.sound);
    ascend = more_ascend key handle (rows old.blocks.items) (rows new.blocks.items) inserted_more sound.ascend;
    small = more_every (λ x. x.key < 2 ^ 62) key handle (rows old.blocks.items) (rows new.blocks.items) inserted_more small sound.small;
    numbered = subst AreDistinct (sym (ap (map number_of) inserts.blocks ∙ map-set_same number_of old.blocks.items at other block (inserts.number ∙ ap number_of inserts.is))) sound.numbered;
    placed = subst (AllByRecursion (IsPlaced new.ceilings new.places)) (sym inserts.blocks) (every_set (IsPlaced new.ceilings new.places) old.blocks.items at other other_placed kept_places);
  }

-- a row that comes in a block of its own
pub record Begins (key depth handle next : ℕ) (block : RowBlock) (old new : HandleIndex) : Type 0 where
  pub blocks : new.blocks.items ≡ take next old.blocks.items ++ block ∷ drop next old.blocks.items
  pub items : block.rows.items ≡ (record { depth = depth; handle = handle }) ∷ []
  pub first : block.first ≡ key
  pub ceiling : block.ceiling ≡ key + depth
  pub vacant : get old.ceilings block.number ≡ None
  pub begun : AllByRecursion (λ other. other.first ≤ key) (take next old.blocks.items)
  pub back : AllByRecursion (λ other. key < other.first) (drop next old.blocks.items)
  pub beside : AllByRecursion (IsBeside key) old.blocks.items
  pub absent : handle_under key (rows old.blocks.items) ≡ None
  pub ceilings : Keeps old.ceilings new.ceilings
  pub held : get new.ceilings block.number ≡ Some block.ceiling
  pub places : Keeps old.places new.places
  pub placed : get new.places handle ≡ Some (place_in block.number depth)

-- the rows of blocks that begin before a key and stand beside it
below_beside : (key : ℕ) (blocks : List RowBlock) → AllByRecursion IsBlock blocks → AllByRecursion (λ block. block.first ≤ key) blocks → AllByRecursion (IsBeside key) blocks → AllByRecursion (λ x. x.key ≢ key) (rows blocks) → AllByRecursion (λ x. x.key < key) (rows blocks)
below_beside key [] sound begun beside absent = tt
below_beside key (block ∷ blocks) sound begun beside absent =
    every-append (λ x. x.key < key) (rows_of block) (rows blocks) (own beside.0) (below_beside key blocks sound.1 begun.1 beside.1 (every_back (λ x. x.key ≢ key) (rows_of block) (rows blocks) absent))
  where
    own : IsBeside key block → AllByRecursion (λ x. x.key < key) (rows_of block)
    own (inl le) = absurd (begin_has (λ k. k ≢ key) block.first (rows_of block) sound.0.begun (every_front (λ x. x.key ≢ key) (rows_of block) (rows blocks) absent) (omega (arith, le, begun.0)))
    own (inr h) = h

module _ (key depth handle next : ℕ) (block : RowBlock) (old new : HandleIndex) (sound : IsIndex old) (begins : Begins key depth handle next block old new) where
  abbrev early : List Entry
  early = rows (take next old.blocks.items)

  abbrev late : List Entry
  late = rows (drop next old.blocks.items)

  two_parts : rows old.blocks.items ≡ early ++ late
  two_parts = ap rows (sym (take-append-drop next old.blocks.items)) ∙ flat_map-append rows_of (take next old.blocks.items) (drop next old.blocks.items)

  one_row : rows_of block ≡ entry_of key handle ∷ []
  one_row = ap (map (entry_at block.ceiling)) begins.items ∙ ap (λ k. entry_of k handle ∷ []) (ap (λ c. c - depth) begins.ceiling ∙ less)
    where
      less : (key + depth) - depth ≡ key
      less = omega arith

  pub begun_more : IsOneMore key handle (rows old.blocks.items) (rows new.blocks.items)
  begun_more = record {
    left = early;
    right = late;
    was = two_parts;
    is = ap rows begins.blocks ∙ flat_map-append rows_of (take next old.blocks.items) (block ∷ drop next old.blocks.items) ∙ ap (λ s. early ++ (s ++ late)) one_row;
    below =
        below_beside key (take next old.blocks.items) (every-take IsBlock next old.blocks.items sound.sound) begins.begun (every-take (IsBeside key) next old.blocks.items begins.beside)
        (every_front (λ x. x.key ≢ key) early late (subst (AllByRecursion (λ x. x.key ≢ key)) two_parts (absent_all key (rows old.blocks.items) begins.absent)));
    above = rows_above key (drop next old.blocks.items) (every-drop IsBlock next old.blocks.items sound.sound) (ascend_back early late (subst Ascend two_parts sound.ascend)) begins.back;
  }

  begun_block : IsBlock block
  begun_block = record {
    begun = subst (BeginAt block.first) (sym one_row) (sym begins.first);
    held = subst (AllByRecursion (λ row. row.depth ≤ block.ceiling)) (sym begins.items) (omega (arith, begins.ceiling), tt);
  }

  begun_placed : IsPlaced new.ceilings new.places block
  begun_placed = record {
    ceiling = begins.held;
    rows = subst (AllByRecursion (λ row. get new.places row.handle ≡ Some (place_in block.number row.depth))) (sym begins.items) (begins.placed, tt);
  }

  in_place : (P : RowBlock → Type 0) → P block → AllByRecursion P old.blocks.items → AllByRecursion P new.blocks.items
  in_place P own h = subst (AllByRecursion P) (sym begins.blocks) (every-append P (take next old.blocks.items) (block ∷ drop next old.blocks.items) (every-take P next old.blocks.items h) (own, every-drop P next old.blocks.items h))

  pub begun_index : key < 2 ^ 62 → IsIndex new
  begun_index small = record {
    sound = in_place IsBlock begun_block sound.sound;
    ascend = more_ascend key handle (rows old.blocks.items) (rows new.blocks.items) begun_more sound.ascend;
    small = more_every (λ x. x.key < 2 ^ 62) key handle (rows old.blocks.items) (rows new.blocks.items) begun_more small sound.small;
    numbered = subst AreDistinct (sym (ap (map number_of) begins.blocks ∙ map-append number_of (take next old.blocks.items) (block ∷ drop next old.blocks.items))) numbers;
    placed = in_place (IsPlaced new.ceilings new.places) begun_placed (placed_kept old.ceilings new.ceilings old.places new.places old.blocks.items begins.ceilings begins.places sound.placed);
  }
    where
      numbers : AreDistinct (map number_of (take next old.blocks.items) ++ block.number ∷ map number_of (drop next old.blocks.items))
      numbers =
          let fronts = map number_of (take next old.blocks.items) in
          let backs = map number_of (drop next old.blocks.items) in
          let whole : map number_of old.blocks.items ≡ fronts ++ backs = ap (map number_of) (sym (take-append-drop next old.blocks.items)) ∙ map-append number_of (take next old.blocks.items) (drop next old.blocks.items) in
          let fresh = subst (AllByRecursion (λ n. n ≢ block.number)) whole (fresh_number old.ceilings old.places block.number old.blocks.items begins.vacant sound.placed) in
          distinct_more block.number fronts backs (every_front (λ n. n ≢ block.number) fronts backs fresh) (every_back (λ n. n ≢ block.number) fronts backs fresh) (subst AreDistinct whole sound.numbered)

-- a fact that holds anyway holds after a refusal
pub on_err : {T E : Type 0} (result : Result T E) (P : Type 0) → P → OnErr result P
on_err (Ok x) P p = tt
on_err (Err e) P p = p
