-- Where the rows with handles stand.
use Rattle.std.proofs.Common.{◌≡◌, ◌≢◌, refl, ap, sym, ◌∙◌, subst, cond, ℕ, ◌-◌, ◌<◌, arith, List, [], ◌∷◌, ◌++◌, map, Option, Some, None, IsSome, inl, inr, true≢false}
use Rattle.std.{specs.List.AllByRecursion, proofs.lemmas.Bool.{ne_eqb, eq-eqb, cases_eq}, proofs.lemmas.Option.same_Some}
use Rattle.key_lists.{proofs.Every.{every_weaker, every-append, every-map, every_both}, proofs.Parts.every_back}
use Rattle.slab.specs.Slab.{Slab, get, Updates}
use Rattle.row_handles.{specs.declared.block.RowBlock.RowBlock, specs.declared.block.BlockRow.BlockRow, specs.declared.index.Location.Location, specs.Entries.{Entry, handles_of, key_with, Ascend, AreDistinct}, specs.Blocks.{IsPlaced, entry_at, place_in, rows_of, rows, number_of}, proofs.Lists.none_some, proofs.EntryLists.none_with}

-- the places lead from the handle to the key
pub record IsAt (ceilings : Slab ℕ) (places : Slab Location) (handle key : ℕ) : Type 0 where
  pub place : Location
  pub placed : get places handle ≡ Some place
  pub ceiling : ℕ
  pub held : get ceilings place.block ≡ Some ceiling
  pub is : ceiling - place.depth ≡ key

-- what a key of the slab has, it has afterwards
abbrev pub Keeps : {X : Type 0} → Slab X → Slab X → Type 0
Keeps {X} old new = (key : ℕ) (x : X) → get old key ≡ Some x → get new key ≡ Some x

module _ (ceilings : Slab ℕ) (places : Slab Location) where
  pub located_rows : (number ceiling : ℕ) (xs : List BlockRow) → get ceilings number ≡ Some ceiling → AllByRecursion (λ row. get places row.handle ≡ Some (place_in number row.depth)) xs → AllByRecursion (λ x. IsAt ceilings places x.handle x.key) (map (entry_at ceiling) xs)
  located_rows number ceiling [] held h = tt
  located_rows number ceiling (x ∷ xs) held h = (record { place = place_in number x.depth; placed = h.0; ceiling = ceiling; held = held; is = refl }, located_rows number ceiling xs held h.1)

  pub located : (blocks : List RowBlock) → AllByRecursion (IsPlaced ceilings places) blocks → AllByRecursion (λ x. IsAt ceilings places x.handle x.key) (rows blocks)
  located [] h = tt
  located (block ∷ blocks) h = every-append (λ x. IsAt ceilings places x.handle x.key) (rows_of block) (rows blocks) (located_rows block.number block.ceiling block.rows.items h.0.ceiling h.0.rows) (located blocks h.1)

  pub one_key : (handle key other : ℕ) → IsAt ceilings places handle key → IsAt ceilings places handle other → key ≡ other
  one_key handle key other a b =
      sym a.is ∙ ap (λ c. c - a.place.depth) ceiling_same ∙ ap (λ p. b.ceiling - p.depth) place_same ∙ b.is
    where
      place_same : a.place ≡ b.place
      place_same = same_Some a.place b.place (sym a.placed ∙ b.placed)

      ceiling_same : a.ceiling ≡ b.ceiling
      ceiling_same = same_Some a.ceiling b.ceiling (sym a.held ∙ ap (λ p. get ceilings p.block) place_same ∙ b.held)

  pub apart : (x y : Entry) → IsAt ceilings places x.handle x.key → IsAt ceilings places y.handle y.key → x.key < y.key → x.handle ≢ y.handle
  apart x y a b lt e = below_same x.key y.key lt (one_key y.handle x.key y.key (subst (λ h. IsAt ceilings places h x.key) e a) b)
    where
      below_same : (k l : ℕ) → k < l → k ≡ l → ⊥
      below_same k l lt e = omega arith

  -- the handles of rows that ascend are distinct
  apart_all : (x : Entry) (ys : List Entry) → IsAt ceilings places x.handle x.key → AllByRecursion (λ y. IsAt ceilings places y.handle y.key) ys → AllByRecursion (λ y. x.key < y.key) ys → AllByRecursion (λ y. x.handle ≢ y.handle) ys
  apart_all x ys a h lt = every_both (λ y. IsAt ceilings places y.handle y.key) (λ y. x.key < y.key) (λ y. x.handle ≢ y.handle) ys (λ y b l. apart x y a b l) h lt

  pub distinct : (xs : List Entry) → Ascend xs → AllByRecursion (λ x. IsAt ceilings places x.handle x.key) xs → AreDistinct (handles_of xs)
  distinct [] ascend h = tt
  distinct (x ∷ xs) ascend h = (every-map (λ other. x.handle ≢ other) (λ y. y.handle) xs (apart_all x xs h.0 h.1 ascend.0), distinct xs ascend.1 h.1)

  -- rows before others have other handles
  pub apart_lists : (xs ys : List Entry) → Ascend (xs ++ ys) → AllByRecursion (λ x. IsAt ceilings places x.handle x.key) (xs ++ ys) → AllByRecursion (λ x. AllByRecursion (λ y. x.handle ≢ y.handle) ys) xs
  apart_lists [] ys ascend h = tt
  apart_lists (x ∷ xs) ys ascend h =
      (apart_all x ys h.0 (every_back (λ y. IsAt ceilings places y.handle y.key) xs ys h.1) (every_back (λ y. x.key < y.key) xs ys ascend.0), apart_lists xs ys ascend.1 h.1)

  -- a handle that has no place is no row's
  pub vacant_none : (handle : ℕ) (xs : List Entry) → get places handle ≡ None → AllByRecursion (λ x. IsAt ceilings places x.handle x.key) xs → key_with handle xs ≡ None
  vacant_none handle xs vacant h =
      none_with handle xs (every_weaker (λ x. IsAt ceilings places x.handle x.key) (λ x. x.handle ≢ handle) xs (λ x at e. none_some at.place (sym vacant ∙ ap (get places) (sym e) ∙ at.placed)) h)

  -- the key of the row with a handle
  pub found_key : (handle : ℕ) (xs : List Entry) → AllByRecursion (λ x. IsAt ceilings places x.handle x.key) xs → IsSome (key_with handle xs) → (key : ℕ) × (key_with handle xs ≡ Some key) × IsAt ceilings places handle key
  found_key handle [] h some = absurd (true≢false (sym some))
  found_key handle (x ∷ xs) h some =
      elim (cases_eq x.handle handle) [
        | inl same ↦ (x.key, ap (λ b. cond b (Some x.key) (key_with handle xs)) (eq-eqb x.handle handle same), subst (λ n. IsAt ceilings places n x.key) same h.0)
        | inr other ↦
            let skip = ap (λ b. cond b (Some x.key) (key_with handle xs)) (ne_eqb x.handle handle other) in
            let rest = found_key handle xs h.1 (subst IsSome skip some) in
            (rest.0, skip ∙ rest.1, rest.2)
      ]

-- a slab with a value where there was none
pub keeps_fresh : {X : Type 0} (old new : Slab X) (key : ℕ) (slot : Option X) → Updates old new key slot → get old key ≡ None → Keeps old new
keeps_fresh old new key slot updates vacant other x there = updates.others other (λ e. none_some x (sym vacant ∙ ap (get old) (sym e) ∙ there)) ∙ there

pub placed_kept : (ceilings others : Slab ℕ) (places more : Slab Location) (blocks : List RowBlock) → Keeps ceilings others → Keeps places more → AllByRecursion (IsPlaced ceilings places) blocks → AllByRecursion (IsPlaced others more) blocks
placed_kept ceilings others places more blocks keeps stay =
    every_weaker (IsPlaced ceilings places) (IsPlaced others more) blocks (λ block is. record {
      ceiling = keeps block.number block.ceiling is.ceiling;
      rows = every_weaker (λ row. get places row.handle ≡ Some (place_in block.number row.depth)) (λ row. get more row.handle ≡ Some (place_in block.number row.depth)) block.rows.items (λ row there. stay row.handle (place_in block.number row.depth) there) is.rows;
    })

-- a number that no block has
pub fresh_number : (ceilings : Slab ℕ) (places : Slab Location) (number : ℕ) (blocks : List RowBlock) → get ceilings number ≡ None → AllByRecursion (IsPlaced ceilings places) blocks → AllByRecursion (λ n. n ≢ number) (map number_of blocks)
fresh_number ceilings places number blocks vacant h =
    every-map (λ n. n ≢ number) number_of blocks (every_weaker (IsPlaced ceilings places) (λ block. block.number ≢ number) blocks (λ block is e. none_some block.ceiling (sym vacant ∙ ap (get ceilings) (sym e) ∙ is.ceiling)) h)
