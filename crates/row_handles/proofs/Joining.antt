-- Two blocks that become one.
use Rattle.std.proofs.Common.{◌≡◌, ◌≢◌, refl, ap, sym, ◌∙◌, subst, false, ◌||◌, ℕ, zero, suc, ◌+◌, ◌^◌, ◌<◌, ◌≤◌, arith, List, [], ◌∷◌, ◌++◌, map, length, take, drop, get_or, set, Some, None, IsSome, ◌==◌, append_assoc, append-nil}
use Rattle.std.{specs.List.{AllByRecursion, remove}, proofs.lemmas.Bool.ne_eqb, proofs.lemmas.List.map-append, proofs.lemmas.Grind.flat_map-append, proofs.Math.Seq.take-suc}
use Rattle.key_lists.{specs.Keys.is_among, proofs.Every.{every_weaker, every_both, every-append, every-map, every_unmapped}, proofs.Parts.{every-take, every-drop, every_front, every_back, every_at, around, every_next}}
use Rattle.slab.specs.Slab.{Slab, ContainsKey, get, Updates}
use Rattle.row_handles.{specs.declared.block.RowBlock.RowBlock, specs.declared.block.BlockRow.BlockRow, specs.declared.index.Location.Location, specs.declared.index.HandleIndex.HandleIndex, specs.Entries.{Entry, handles_of, Ascend, AreDistinct}, specs.Blocks.{AreRowsUnder, BeginAt, IsBlock, IsIndex, IsPlaced, entry_at, place_in, rows_of, rows, number_of}, specs.Moves.{handle_in, has_handle}, proofs.Lists.distinct_less, proofs.Listings.{own_block, own_ascend}, proofs.Places.{located_rows, distinct}, proofs.Inserting.rows_around, proofs.Apart.{apart_front, apart_back, blocks_stay}, proofs.Leaving.{all_held, held_less}}

-- rows of distinct handles that are put into a block one by one
ne_before : (xs : List BlockRow) (i : ℕ) (d : BlockRow) → i < length xs → AreDistinct (map handle_in xs) → AllByRecursion (λ row. row.handle ≢ (get_or xs i d).handle) (take i xs)
ne_before [] i d lt apart = absurd (omega arith)
ne_before (x ∷ xs) zero d lt apart = tt
ne_before (x ∷ xs) (suc i) d lt apart = (every_at (λ row. x.handle ≢ row.handle) xs i d (omega arith) (every_unmapped (λ other. x.handle ≢ other) handle_in xs apart.0), ne_before xs i d (omega arith) apart.1)

none_of : (handle : ℕ) (xs : List BlockRow) → AllByRecursion (λ row. row.handle ≢ handle) xs → has_handle handle xs ≡ false
none_of handle [] h = refl
none_of handle (x ∷ xs) h = ap (λ b. b || has_handle handle xs) (ne_eqb x.handle handle h.0) ∙ none_of handle xs h.1

pub fresh_at : (xs : List BlockRow) (i : ℕ) (d : BlockRow) → i < length xs → AreDistinct (map handle_in xs) → has_handle (get_or xs i d).handle (take i xs) ≡ false
fresh_at xs i d lt apart = none_of (get_or xs i d).handle (take i xs) (ne_before xs i d lt apart)

pub settled_more : (number : ℕ) (xs : List BlockRow) (i : ℕ) (d : BlockRow) (mid new : Slab Location) → i < length xs → AreDistinct (map handle_in xs) → Updates mid new (get_or xs i d).handle (Some (place_in number (get_or xs i d).depth)) → AllByRecursion (λ row. get mid row.handle ≡ Some (place_in number row.depth)) (take i xs) → AllByRecursion (λ row. get new row.handle ≡ Some (place_in number row.depth)) (take (i + 1) xs)
settled_more number xs i d mid new lt apart updates settled =
    every_next (λ row. get new row.handle ≡ Some (place_in number row.depth)) xs i d lt updates.changed
    (every_both (λ row. row.handle ≢ (get_or xs i d).handle) (λ row. get mid row.handle ≡ Some (place_in number row.depth)) (λ row. get new row.handle ≡ Some (place_in number row.depth)) (take i xs) (λ row ne there. updates.others row.handle ne ∙ there) (ne_before xs i d lt apart) settled)

-- handles of rows below two ceilings
handles_entries : (ceiling : ℕ) (xs : List BlockRow) → map handle_in xs ≡ handles_of (map (entry_at ceiling) xs)
handles_entries ceiling [] = refl
handles_entries ceiling (x ∷ xs) = ap (λ ns. x.handle ∷ ns) (handles_entries ceiling xs)

has_by : (handle : ℕ) (xs : List BlockRow) → has_handle handle xs ≡ is_among handle (map handle_in xs)
has_by handle [] = refl
has_by handle (x ∷ xs) = ap (λ b. x.handle == handle || b) (has_by handle xs)

handles_same : (ceiling : ℕ) (moved : List BlockRow) (block : RowBlock) → AreRowsUnder ceiling moved (rows_of block) → map handle_in moved ≡ map handle_in block.rows.items
handles_same ceiling moved block under = handles_entries ceiling moved ∙ ap handles_of under.same ∙ sym (handles_entries block.ceiling block.rows.items)

-- the handles of rows that are to be moved to another block
module _ (index : HandleIndex) (sound : IsIndex index) (at : ℕ) (block : RowBlock) (within : at < length index.blocks.items) (is : block ≡ get_or index.blocks.items at block) (ceiling : ℕ) (moved : List BlockRow) (under : AreRowsUnder ceiling moved (rows_of block)) where
  own_place : IsPlaced index.ceilings index.places block
  own_place = own_block (IsPlaced index.ceilings index.places) index.blocks.items at block within is sound.placed

  pub moved_there : AllByRecursion (λ row. ContainsKey index.places row.handle) moved
  moved_there =
      every_unmapped (λ x. ContainsKey index.places x.handle) (entry_at ceiling) moved
      (subst (AllByRecursion (λ x. ContainsKey index.places x.handle)) (sym under.same)
      (every-map (λ x. ContainsKey index.places x.handle) (entry_at block.ceiling) block.rows.items
      (every_weaker (λ row. get index.places row.handle ≡ Some (place_in block.number row.depth)) (λ row. ContainsKey index.places row.handle) block.rows.items (λ row there. subst IsSome (sym there) refl) own_place.rows)))

  pub moved_distinct : AreDistinct (map handle_in moved)
  moved_distinct =
      subst AreDistinct (ap handles_of (sym under.same) ∙ sym (handles_entries ceiling moved))
      (distinct index.ceilings index.places (rows_of block) (own_ascend index.blocks.items at block within is sound.ascend) (located_rows index.ceilings index.places block.number block.ceiling block.rows.items own_place.ceiling own_place.rows))

begin_longer : (key : ℕ) (xs ys : List Entry) → BeginAt key xs → BeginAt key (xs ++ ys)
begin_longer key [] ys begin = absurd begin
begin_longer key (x ∷ xs) ys begin = begin

-- the rows of a block that go to the block before it
pub record Joins (at : ℕ) (left right joined : RowBlock) (moved : List BlockRow) (old new : HandleIndex) : Type 0 where
  pub left_is : left ≡ get_or old.blocks.items at left
  pub within : suc at < length old.blocks.items
  pub right_is : right ≡ get_or old.blocks.items (suc at) right
  pub blocks : new.blocks.items ≡ take at old.blocks.items ++ joined ∷ drop (suc (suc at)) old.blocks.items
  pub number : joined.number ≡ left.number
  pub first : joined.first ≡ left.first
  pub ceiling : joined.ceiling ≡ left.ceiling
  pub items : joined.rows.items ≡ left.rows.items ++ moved
  pub under : AreRowsUnder left.ceiling moved (rows_of right)
  pub ceilings : Updates old.ceilings new.ceilings right.number None
  pub settled : AllByRecursion (λ row. get new.places row.handle ≡ Some (place_in left.number row.depth)) moved
  pub others : (handle : ℕ) → has_handle handle moved ≡ false → get new.places handle ≡ get old.places handle

module _ (at : ℕ) (left right joined : RowBlock) (moved : List BlockRow) (old new : HandleIndex) (sound : IsIndex old) (joins : Joins at left right joined moved old new) where
  abbrev early : List RowBlock
  early = take at old.blocks.items

  abbrev late : List RowBlock
  late = drop (suc (suc at)) old.blocks.items

  left_within : at < length old.blocks.items
  left_within = omega (arith, joins.within)

  front_is : take (suc at) old.blocks.items ≡ early ++ left ∷ []
  front_is = take-suc old.blocks.items at left left_within ∙ ap (λ b. early ++ b ∷ []) (sym joins.left_is)

  joined_rows : rows_of joined ≡ rows_of left ++ rows_of right
  joined_rows =
      ap (λ c. map (entry_at c) joined.rows.items) joins.ceiling
      ∙ ap (map (entry_at left.ceiling)) joins.items
      ∙ map-append (entry_at left.ceiling) left.rows.items moved
      ∙ ap (λ s. rows_of left ++ s) joins.under.same

  rows_old : rows old.blocks.items ≡ rows early ++ (rows_of left ++ (rows_of right ++ rows late))
  rows_old =
      rows_around old.blocks.items (suc at) right joins.within joins.right_is
      ∙ ap (λ s. s ++ (rows_of right ++ rows late)) (ap rows front_is ∙ flat_map-append rows_of early (left ∷ []) ∙ ap (λ s. rows early ++ s) (append-nil (rows_of left)))
      ∙ append_assoc (rows early) (rows_of left) (rows_of right ++ rows late)

  pub joins_rows : rows new.blocks.items ≡ rows old.blocks.items
  joins_rows =
      ap rows joins.blocks
      ∙ flat_map-append rows_of early (joined ∷ late)
      ∙ ap (λ s. rows early ++ s) (ap (λ s. s ++ rows late) joined_rows ∙ append_assoc (rows_of left) (rows_of right) (rows late))
      ∙ sym rows_old

  others_stay : (handle : ℕ) → has_handle handle right.rows.items ≡ false → get new.places handle ≡ get old.places handle
  others_stay handle none = joins.others handle (has_by handle moved ∙ ap (is_among handle) (handles_same left.ceiling moved right joins.under) ∙ sym (has_by handle right.rows.items) ∙ none)

  whole : right.rows.items ≡ [] ++ (right.rows.items ++ [])
  whole = sym (append-nil right.rows.items)

  held : AllByRecursion (λ b. get new.ceilings b.number ≡ Some b.ceiling) (take (suc at) old.blocks.items) × AllByRecursion (λ b. get new.ceilings b.number ≡ Some b.ceiling) late
  held = held_less old.blocks.items (suc at) right old.ceilings new.ceilings joins.within joins.right_is sound.numbered joins.ceilings (all_held old sound)

  front_placed : AllByRecursion (IsPlaced new.ceilings new.places) (early ++ left ∷ [])
  front_placed =
      subst (AllByRecursion (IsPlaced new.ceilings new.places)) front_is
      (blocks_stay old.ceilings new.ceilings old.places new.places right.rows.items (take (suc at) old.blocks.items) others_stay held.0 (apart_front old sound (suc at) right joins.within joins.right_is [] right.rows.items [] whole) (every-take (IsPlaced old.ceilings old.places) (suc at) old.blocks.items sound.placed))

  back_placed : AllByRecursion (IsPlaced new.ceilings new.places) late
  back_placed =
      blocks_stay old.ceilings new.ceilings old.places new.places right.rows.items late others_stay held.1 (apart_back old sound (suc at) right joins.within joins.right_is [] right.rows.items [] whole) (every-drop (IsPlaced old.ceilings old.places) (suc (suc at)) old.blocks.items sound.placed)

  left_placed : IsPlaced new.ceilings new.places left
  left_placed = (every_back (IsPlaced new.ceilings new.places) early (left ∷ []) front_placed).0

  abbrev Stands : BlockRow → Type 0
  Stands row = get new.places row.handle ≡ Some (place_in left.number row.depth)

  joined_placed : IsPlaced new.ceilings new.places joined
  joined_placed = record {
    ceiling = ap (get new.ceilings) joins.number ∙ left_placed.ceiling ∙ ap Some (sym joins.ceiling);
    rows =
        subst (λ n. AllByRecursion (λ row. get new.places row.handle ≡ Some (place_in n row.depth)) joined.rows.items) (sym joins.number)
        (subst (AllByRecursion Stands) (sym joins.items) (every-append Stands left.rows.items moved left_placed.rows joins.settled));
  }

  left_block : IsBlock left
  left_block = own_block IsBlock old.blocks.items at left left_within joins.left_is sound.sound

  joined_block : IsBlock joined
  joined_block = record {
    begun = subst (λ n. BeginAt n (rows_of joined)) (sym joins.first) (subst (BeginAt left.first) (sym joined_rows) (begin_longer left.first (rows_of left) (rows_of right) left_block.begun));
    held =
        subst (λ c. AllByRecursion (λ row. row.depth ≤ c) joined.rows.items) (sym joins.ceiling)
        (subst (AllByRecursion (λ row. row.depth ≤ left.ceiling)) (sym joins.items) (every-append (λ row. row.depth ≤ left.ceiling) left.rows.items moved left_block.held joins.under.held));
  }

  numbers : AreDistinct (map number_of early ++ left.number ∷ map number_of late)
  numbers =
      let fronts = map number_of early in
      let backs = map number_of late in
      let all : map number_of old.blocks.items ≡ (fronts ++ left.number ∷ []) ++ right.number ∷ backs =
      ap (map number_of) (around old.blocks.items (suc at) right joins.within joins.right_is)
      ∙ map-append number_of (take (suc at) old.blocks.items) (right ∷ late)
      ∙ ap (λ ns. ns ++ right.number ∷ backs) (ap (map number_of) front_is ∙ map-append number_of early (left ∷ []))
      in
      subst AreDistinct (append_assoc fronts (left.number ∷ []) backs) (distinct_less right.number (fronts ++ left.number ∷ []) backs (subst AreDistinct all sound.numbered))

  pub joins_index : IsIndex new
  joins_index = record {
    sound = subst (AllByRecursion IsBlock) (sym joins.blocks) (every-append IsBlock early (joined ∷ late) (every-take IsBlock at old.blocks.items sound.sound) (joined_block, every-drop IsBlock (suc (suc at)) old.blocks.items sound.sound));
    ascend = subst Ascend (sym joins_rows) sound.ascend;
    small = subst (AllByRecursion (λ x. x.key < 2 ^ 62)) (sym joins_rows) sound.small;
    numbered = subst AreDistinct (sym (ap (map number_of) joins.blocks ∙ map-append number_of early (joined ∷ late) ∙ ap (λ n. map number_of early ++ n ∷ map number_of late) joins.number)) numbers;
    placed = subst (AllByRecursion (IsPlaced new.ceilings new.places)) (sym joins.blocks) (every-append (IsPlaced new.ceilings new.places) early (joined ∷ late) (every_front (IsPlaced new.ceilings new.places) early (left ∷ []) front_placed) (joined_placed, back_placed));
  }

-- a list of which one element is replaced and the next left out
pub removed_next : {X : Type 0} (xs : List X) (i : ℕ) (x : X) → suc i < length xs → remove (set xs i x) (suc i) ≡ take i xs ++ x ∷ drop (suc (suc i)) xs
removed_next [] i x lt = absurd (omega arith)
removed_next (y ∷ xs) zero x lt = refl
removed_next (y ∷ xs) (suc i) x lt = ap (λ zs. y ∷ zs) (removed_next xs i x (omega arith))
