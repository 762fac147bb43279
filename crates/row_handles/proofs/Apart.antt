-- Some rows of a block: the places of all others, when these alone change theirs.
use Rattle.std.proofs.Common.{◌≡◌, ◌≢◌, refl, ap, sym, ◌∙◌, subst, true, false, ◌||◌, ℕ, suc, ◌<◌, List, [], ◌∷◌, ◌++◌, map, length, take, drop, get_or, Some, ◌==◌, append_assoc}
use Rattle.std.{specs.List.AllByRecursion, proofs.lemmas.Bool.{ne_eqb, eq-eqb, or_right}, proofs.lemmas.List.map-append}
use Rattle.key_lists.{proofs.Every.{every_weaker, every_both, every_unmapped, turned}, proofs.Parts.{every_front, every_back}}
use Rattle.slab.specs.Slab.{Slab, get}
use Rattle.row_handles.{specs.declared.block.RowBlock.RowBlock, specs.declared.block.BlockRow.BlockRow, specs.declared.index.Location.Location, specs.declared.index.HandleIndex.HandleIndex, specs.Entries.{Entry, Ascend}, specs.Blocks.{IsIndex, IsPlaced, entry_at, place_in, rows_of, rows}, specs.Moves.has_handle, proofs.EntryLists.ascend_back, proofs.Places.{IsAt, located, apart_lists}, proofs.Inserting.rows_around}

no_handle : (handle ceiling : ℕ) (xs : List BlockRow) → AllByRecursion (λ x. x.handle ≢ handle) (map (entry_at ceiling) xs) → has_handle handle xs ≡ false
no_handle handle ceiling [] h = refl
no_handle handle ceiling (x ∷ xs) h = ap (λ b. b || has_handle handle xs) (ne_eqb x.handle handle h.0) ∙ no_handle handle ceiling xs h.1

pub own_handles : (xs : List BlockRow) → AllByRecursion (λ row. has_handle row.handle xs ≡ true) xs
own_handles [] = tt
own_handles (x ∷ xs) =
    (ap (λ b. b || has_handle x.handle xs) (eq-eqb x.handle x.handle refl), every_weaker (λ row. has_handle row.handle xs ≡ true) (λ row. has_handle row.handle (x ∷ xs) ≡ true) xs (λ row e. or_right (x.handle == row.handle) (has_handle row.handle xs) e) (own_handles xs))

-- the rows in five parts: those of the blocks before, three parts of the block, and those of the blocks behind
pub five_parts : (front xs ys zs back : List Entry) → front ++ ((xs ++ (ys ++ zs)) ++ back) ≡ (front ++ xs) ++ (ys ++ (zs ++ back))
five_parts front xs ys zs back =
    ap (λ s. front ++ s) (append_assoc xs (ys ++ zs) back ∙ ap (λ s. xs ++ s) (append_assoc ys zs back)) ∙ sym (append_assoc front xs (ys ++ (zs ++ back)))

module _ (index : HandleIndex) (sound : IsIndex index) (at : ℕ) (block : RowBlock) (within : at < length index.blocks.items) (is : block ≡ get_or index.blocks.items at block) (xs ys zs : List BlockRow) (whole : block.rows.items ≡ xs ++ (ys ++ zs)) where
  abbrev lower : List Entry
  lower = map (entry_at block.ceiling) xs

  abbrev middle : List Entry
  middle = map (entry_at block.ceiling) ys

  abbrev upper : List Entry
  upper = map (entry_at block.ceiling) zs

  abbrev front : List Entry
  front = rows (take at index.blocks.items)

  abbrev back : List Entry
  back = rows (drop (suc at) index.blocks.items)

  pub block_parts : rows_of block ≡ lower ++ (middle ++ upper)
  block_parts = ap (map (entry_at block.ceiling)) whole ∙ map-append (entry_at block.ceiling) xs (ys ++ zs) ∙ ap (λ s. lower ++ s) (map-append (entry_at block.ceiling) ys zs)

  pub all_parts : rows index.blocks.items ≡ (front ++ lower) ++ (middle ++ (upper ++ back))
  all_parts = rows_around index.blocks.items at block within is ∙ ap (λ s. front ++ (s ++ back)) block_parts ∙ five_parts front lower middle upper back

  parts_ascend : Ascend ((front ++ lower) ++ (middle ++ (upper ++ back)))
  parts_ascend = subst Ascend all_parts sound.ascend

  parts_located : AllByRecursion (λ x. IsAt index.ceilings index.places x.handle x.key) ((front ++ lower) ++ (middle ++ (upper ++ back)))
  parts_located = subst (AllByRecursion (λ x. IsAt index.ceilings index.places x.handle x.key)) all_parts (located index.ceilings index.places index.blocks.items sound.placed)

  abbrev Apart : Entry → Type 0
  Apart x = has_handle x.handle ys ≡ false

  apart_before : AllByRecursion Apart (front ++ lower)
  apart_before =
      every_weaker (λ x. AllByRecursion (λ y. x.handle ≢ y.handle) (middle ++ (upper ++ back))) Apart (front ++ lower)
      (λ x h. no_handle x.handle block.ceiling ys (every_weaker (λ y. x.handle ≢ y.handle) (λ y. y.handle ≢ x.handle) middle (λ y ne e. ne (sym e)) (every_front (λ y. x.handle ≢ y.handle) middle (upper ++ back) h)))
      (apart_lists index.ceilings index.places (front ++ lower) (middle ++ (upper ++ back)) parts_ascend parts_located)

  apart_behind : AllByRecursion Apart (upper ++ back)
  apart_behind =
      every_weaker (λ x. AllByRecursion (λ y. y.handle ≢ x.handle) middle) Apart (upper ++ back) (λ x h. no_handle x.handle block.ceiling ys h)
      (turned (λ y x. y.handle ≢ x.handle) middle (upper ++ back)
      (apart_lists index.ceilings index.places middle (upper ++ back) (ascend_back (front ++ lower) (middle ++ (upper ++ back)) parts_ascend) (every_back (λ x. IsAt index.ceilings index.places x.handle x.key) (front ++ lower) (middle ++ (upper ++ back)) parts_located)))

  pub apart_front : AllByRecursion Apart front
  apart_front = every_front Apart front lower apart_before

  pub apart_lower : AllByRecursion (λ row. has_handle row.handle ys ≡ false) xs
  apart_lower = every_unmapped Apart (entry_at block.ceiling) xs (every_back Apart front lower apart_before)

  pub apart_upper : AllByRecursion (λ row. has_handle row.handle ys ≡ false) zs
  apart_upper = every_unmapped Apart (entry_at block.ceiling) zs (every_front Apart upper back apart_behind)

  pub apart_back : AllByRecursion Apart back
  apart_back = every_back Apart upper back apart_behind

-- rows that keep their places
pub rows_stay : (places others : Slab Location) (ys : List BlockRow) (number : ℕ) (xs : List BlockRow) → ((handle : ℕ) → has_handle handle ys ≡ false → get others handle ≡ get places handle) → AllByRecursion (λ row. has_handle row.handle ys ≡ false) xs → AllByRecursion (λ row. get places row.handle ≡ Some (place_in number row.depth)) xs → AllByRecursion (λ row. get others row.handle ≡ Some (place_in number row.depth)) xs
rows_stay places others ys number xs stay = every_both (λ row. has_handle row.handle ys ≡ false) (λ row. get places row.handle ≡ Some (place_in number row.depth)) (λ row. get others row.handle ≡ Some (place_in number row.depth)) xs (λ row apart there. stay row.handle apart ∙ there)

pub blocks_stay : (ceilings heights : Slab ℕ) (places others : Slab Location) (ys : List BlockRow) (blocks : List RowBlock) → ((handle : ℕ) → has_handle handle ys ≡ false → get others handle ≡ get places handle) → AllByRecursion (λ block. get heights block.number ≡ Some block.ceiling) blocks → AllByRecursion (λ x. has_handle x.handle ys ≡ false) (rows blocks) → AllByRecursion (IsPlaced ceilings places) blocks → AllByRecursion (IsPlaced heights others) blocks
blocks_stay ceilings heights places others ys [] stay held apart h = tt
blocks_stay ceilings heights places others ys (block ∷ blocks) stay held apart h = (
  record {
    ceiling = held.0;
    rows = rows_stay places others ys block.number block.rows.items stay (every_unmapped (λ x. has_handle x.handle ys ≡ false) (entry_at block.ceiling) block.rows.items (every_front (λ x. has_handle x.handle ys ≡ false) (rows_of block) (rows blocks) apart)) h.0.rows;
  },
  blocks_stay ceilings heights places others ys blocks stay held.1 (every_back (λ x. has_handle x.handle ys ≡ false) (rows_of block) (rows blocks) apart) h.1,
)
