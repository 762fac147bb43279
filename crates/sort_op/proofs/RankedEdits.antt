-- Rows in order by their handles: a row more and a row less, other keys and other cells.
use Rattle.std.proofs.Common.{◌≡◌, ◌≢◌, refl, ap, ap₂, sym, ◌∙◌, subst, Bool, true, false, cond, not, ℕ, zero, suc, ◌≤◌, List, [], ◌∷◌, map, length, take, drop, Option, Some, None, Result, Ok, Err, IsSome, unwrap_or, true≢false, inl, inr, ℤ}
use Rattle.std.{specs.Prelude.{OnErr, OnOk, insert, remove}, specs.List.AllByRecursion, proofs.lemmas.Bool.{cases_eq, eq-eqb, ne_eqb}, proofs.lemmas.Option.{none-some, same_Some}}
use Rattle.key_lists.{specs.Keys.{IsRising, is_among, without}, proofs.Among.each_among, proofs.Every.{every_both, every_weaker, every-map, every_unmapped, filter-map, map_map, map_same}, proofs.Parts.{every_insert, every_remove}, proofs.Rising.rising_some}
use Rattle.row_handles.specs.Entries.{Entry as Handled, key_with, keys_of, left_rows, moved_row, moved_rows}
use Rattle.shift_data.specs.Moves.{IsLawful}
use Rattle.table_update.proofs.LawfulParts.{places_rise}
use Rattle.tick_model.{specs.declared.plan.SortBy.SortBy, specs.declared.update.ShiftRange.ShiftRange, specs.Shifts.{as_key, moved}}
use Rattle.sort_op.{specs.declared.entry.Entry.Entry, specs.declared.row_order.OrderedRow.OrderedRow, specs.Entries.{Rises, comes_before, keys_in, place_of, rekeyed}, specs.Places.left_from, specs.Ranks.{IsRanking, Ranking, arrived, cell_in, entry_in, key_in, kept_cells, listed}, proofs.KeptCells.cells_same, proofs.Made.rises_more, proofs.Ranked.{arrived_whole, entry_known, key_there, some_key, whole_all}, proofs.Rekeyed.rises_moved, proofs.Rises.rises_without}

module _ {X Y : Type 0} (f : X → Y) where
  pub map_insert : (xs : List X) (i : ℕ) (x : X) → map f (insert xs i x) ≡ insert (map f xs) i (f x)
  map_insert [] zero x = refl
  map_insert [] (suc i) x = refl
  map_insert (y ∷ xs) zero x = refl
  map_insert (y ∷ xs) (suc i) x = ap (λ ys. f y ∷ ys) (map_insert xs i x)

  pub map_remove : (xs : List X) (i : ℕ) → map f (remove xs i) ≡ remove (map f xs) i
  map_remove [] zero = refl
  map_remove [] (suc i) = refl
  map_remove (y ∷ xs) zero = refl
  map_remove (y ∷ xs) (suc i) = ap (λ ys. f y ∷ ys) (map_remove xs i)

  pub map_left : (first : ℕ) (positions : List ℕ) (xs : List X) → map f (left_from first positions xs) ≡ left_from first positions (map f xs)
  map_left first positions [] = refl
  map_left first positions (x ∷ xs) = go (is_among first positions) (left_from (suc first) positions xs) (left_from (suc first) positions (map f xs)) (map_left (suc first) positions xs)
    where
      go : (b : Bool) (ys : List X) (zs : List Y) → map f ys ≡ zs → map f (cond b ys (x ∷ ys)) ≡ cond b zs (f x ∷ zs)
      go true ys zs e = e
      go false ys zs e = ap (λ zs. f x ∷ zs) e

-- a row more, at its place, and a row less
pub listed_more : (ranking : Ranking) (row : OrderedRow) (n : ℕ) → key_with row.handle ranking.handles ≡ Some row.key → listed (record ranking { rows = insert ranking.rows n row.handle }) ≡ insert (listed ranking) n (arrived ranking row)
listed_more ranking row n known = map_insert (entry_in ranking) ranking.rows n row.handle ∙ ap (insert (listed ranking) n) (entry_known ranking row known)

module _ (ranking : Ranking) (is : IsRanking ranking) where
  module _ (row : OrderedRow) (n : ℕ) (known : key_with row.handle ranking.handles ≡ Some row.key) where
    pub ranking_more : n ≤ length (listed ranking) → AllByRecursion (λ x. comes_before ranking.by x (arrived ranking row) ≡ true) (take n (listed ranking)) → AllByRecursion (λ y. comes_before ranking.by y (arrived ranking row) ≡ false) (drop n (listed ranking))
        → place_of (arrived ranking row) (listed ranking) ≡ None → IsRanking (record ranking { rows = insert ranking.rows n row.handle })
    ranking_more within less more absent = record {
      known = every_insert (λ handle. IsSome (key_with handle ranking.handles)) ranking.rows n row.handle (subst IsSome (sym known) refl) is.known;
      rising = subst (Rises ranking.by) (sym (listed_more ranking row n known)) (rises_more ranking.by (arrived ranking row) (listed ranking) n within less more is.rising (whole_all ranking) (arrived_whole ranking row) absent);
      keys = is.keys;
    }

  pub ranking_less : (n : ℕ) → IsRanking (record ranking { rows = remove ranking.rows n })
  ranking_less n = record {
    known = every_remove (λ handle. IsSome (key_with handle ranking.handles)) ranking.rows n is.known;
    rising = subst (Rises ranking.by) (sym (map_remove (entry_in ranking) ranking.rows n)) (rises_without ranking.by (listed ranking) n is.rising);
    keys = is.keys;
  }

-- other keys of the same rows
module _ (by : List SortBy) (old new : List Handled) (cells : List (List ℤ)) (land : ℕ → ℕ) where
  abbrev Lands : ℕ → Type 0
  Lands handle = key_with handle new ≡ Some (land (key_in old handle))

  abbrev entry_old : List ℕ → Ranking
  entry_old rows = record { by = by; handles = old; cells = cells; rows = rows }

  abbrev entry_new : List ℕ → Ranking
  entry_new rows = record { by = by; handles = new; cells = cells; rows = rows }

  abbrev landed : Entry → Entry
  landed entry = record entry { key = land entry.key }

  known_landed : (rows : List ℕ) → AllByRecursion Lands rows → AllByRecursion (λ handle. IsSome (key_with handle new)) rows
  known_landed rows = every_weaker Lands (λ handle. IsSome (key_with handle new)) rows (λ handle is. subst IsSome (sym is) refl)

  listed_landed : (rows : List ℕ) → AllByRecursion Lands rows → listed (entry_new rows) ≡ map landed (listed (entry_old rows))
  listed_landed rows h =
      map_same (entry_in (entry_new rows)) (λ handle. landed (entry_in (entry_old rows) handle)) rows
      (every_weaker Lands (λ handle. entry_in (entry_new rows) handle ≡ landed (entry_in (entry_old rows) handle)) rows (λ handle is. ap (λ (o : Option ℕ). let entry : Entry = record { cells = kept_cells by cells handle; key = unwrap_or o 0 } in entry) is) h)
      ∙ sym (map_map landed (entry_in (entry_old rows)) rows)

-- the handles that are forgotten are not those of the rows
kept_key : (gone : List ℕ) (handle key : ℕ) (xs : List Handled) → key_with handle xs ≡ Some key → is_among key gone ≡ false → key_with handle (left_rows gone xs) ≡ Some key
kept_key gone handle key [] e out = absurd (none-some key e)
kept_key gone handle key (x ∷ xs) e out =
    elim (cases_eq x.handle handle) [
      | inl same ↦
          let own : x.key ≡ key = same_Some x.key key (sym (ap (λ b. cond b (Some x.key) (key_with handle xs)) (eq-eqb x.handle handle same)) ∙ e) in
          ap (λ b. key_with handle (cond (not b) (x ∷ left_rows gone xs) (left_rows gone xs))) (ap (λ k. is_among k gone) own ∙ out)
          ∙ ap (λ b. cond b (Some x.key) (key_with handle (left_rows gone xs))) (eq-eqb x.handle handle same)
          ∙ ap Some own
      | inr other ↦
          let later : key_with handle xs ≡ Some key = sym (ap (λ b. cond b (Some x.key) (key_with handle xs)) (ne_eqb x.handle handle other)) ∙ e in
          (elim (is_among x.key gone) as (λ b. key_with handle (cond (not b) (x ∷ left_rows gone xs) (left_rows gone xs)) ≡ key_with handle (left_rows gone xs)) [
            | true ↦ refl
            | false ↦ ap (λ b. cond b (Some x.key) (key_with handle (left_rows gone xs))) (ne_eqb x.handle handle other)
          ])
          ∙ kept_key gone handle key xs later out
    ]

moved_key : (shifts : List ShiftRange) (handle key : ℕ) (xs : List Handled) → key_with handle xs ≡ Some key → key_with handle (moved_rows shifts xs) ≡ Some (as_key (moved shifts key))
moved_key shifts handle key [] e = absurd (none-some key e)
moved_key shifts handle key (x ∷ xs) e =
    elim (cases_eq x.handle handle) [
      | inl same ↦
          let own : x.key ≡ key = same_Some x.key key (sym (ap (λ b. cond b (Some x.key) (key_with handle xs)) (eq-eqb x.handle handle same)) ∙ e) in
          ap (λ b. cond b (Some (as_key (moved shifts x.key))) (key_with handle (moved_rows shifts xs))) (eq-eqb x.handle handle same)
          ∙ ap (λ k. Some (as_key (moved shifts k))) own
      | inr other ↦
          let later : key_with handle xs ≡ Some key = sym (ap (λ b. cond b (Some x.key) (key_with handle xs)) (ne_eqb x.handle handle other)) ∙ e in
          ap (λ b. cond b (Some (as_key (moved shifts x.key))) (key_with handle (moved_rows shifts xs))) (ne_eqb x.handle handle other)
          ∙ moved_key shifts handle key xs later
    ]

pub keys_left : (gone : List ℕ) (xs : List Handled) → keys_of (left_rows gone xs) ≡ without gone (keys_of xs)
keys_left gone xs = sym (filter-map (λ key. not (is_among key gone)) (λ (x : Handled). x.key) xs)

pub keys_moved : (shifts : List ShiftRange) (xs : List Handled) → keys_of (moved_rows shifts xs) ≡ map (λ key. as_key (moved shifts key)) (keys_of xs)
keys_moved shifts xs = map_map (λ (x : Handled). x.key) (moved_row shifts) xs ∙ sym (map_map (λ key. as_key (moved shifts key)) (λ (x : Handled). x.key) xs)

module _ (ranking : Ranking) (is : IsRanking ranking) where
  own_keys : AllByRecursion (λ handle. key_with handle ranking.handles ≡ Some (key_in ranking.handles handle)) ranking.rows
  own_keys = every_weaker (λ handle. IsSome (key_with handle ranking.handles)) (λ handle. key_with handle ranking.handles ≡ Some (key_in ranking.handles handle)) ranking.rows (λ handle there. some_key (key_with handle ranking.handles) there) is.known

  module _ (gone : List ℕ) (none : AllByRecursion (λ (entry : Entry). is_among entry.key gone ≡ false) (listed ranking)) where
    stay : AllByRecursion (Lands ranking.by ranking.handles (left_rows gone ranking.handles) ranking.cells (λ key. key)) ranking.rows
    stay =
        every_both (λ handle. key_with handle ranking.handles ≡ Some (key_in ranking.handles handle)) (λ handle. is_among (key_in ranking.handles handle) gone ≡ false) (λ handle. key_with handle (left_rows gone ranking.handles) ≡ Some (key_in ranking.handles handle)) ranking.rows
        (λ handle known out. kept_key gone handle (key_in ranking.handles handle) ranking.handles known out) own_keys
        (every_unmapped (λ (entry : Entry). is_among entry.key gone ≡ false) (entry_in ranking) ranking.rows none)

    pub listed_left : listed (record ranking { handles = left_rows gone ranking.handles }) ≡ listed ranking
    listed_left =
        listed_landed ranking.by ranking.handles (left_rows gone ranking.handles) ranking.cells (λ key. key) ranking.rows stay
        ∙ map_map (λ (entry : Entry). let same : Entry = record entry { key = entry.key } in same) (entry_in ranking) ranking.rows

    pub ranking_left : IsRanking (record ranking { handles = left_rows gone ranking.handles })
    ranking_left = record {
      known = known_landed ranking.by ranking.handles (left_rows gone ranking.handles) ranking.cells (λ key. key) ranking.rows stay;
      rising = subst (Rises ranking.by) (sym listed_left) is.rising;
      keys = subst IsRising (sym (keys_left gone ranking.handles)) (rising_some (λ key. not (is_among key gone)) (keys_of ranking.handles) is.keys);
    }

  module _ (shifts : List ShiftRange) (lawful : IsLawful shifts (keys_of ranking.handles)) where
    abbrev land : ℕ → ℕ
    land key = as_key (moved shifts key)

    move : AllByRecursion (Lands ranking.by ranking.handles (moved_rows shifts ranking.handles) ranking.cells land) ranking.rows
    move =
        every_weaker (λ handle. key_with handle ranking.handles ≡ Some (key_in ranking.handles handle)) (λ handle. key_with handle (moved_rows shifts ranking.handles) ≡ Some (land (key_in ranking.handles handle))) ranking.rows
        (λ handle known. moved_key shifts handle (key_in ranking.handles handle) ranking.handles known) own_keys

    pub listed_moved : listed (record ranking { handles = moved_rows shifts ranking.handles }) ≡ map (rekeyed shifts) (listed ranking)
    listed_moved = listed_landed ranking.by ranking.handles (moved_rows shifts ranking.handles) ranking.cells land ranking.rows move

    among_all : AllByRecursion (λ (entry : Entry). is_among entry.key (keys_of ranking.handles) ≡ true) (listed ranking)
    among_all =
        every-map (λ (entry : Entry). is_among entry.key (keys_of ranking.handles) ≡ true) (entry_in ranking) ranking.rows
        (every_weaker (λ handle. key_with handle ranking.handles ≡ Some (key_in ranking.handles handle)) (λ handle. is_among (key_in ranking.handles handle) (keys_of ranking.handles) ≡ true) ranking.rows
        (λ handle known. key_there (key_in ranking.handles handle) handle ranking.handles known) own_keys)

    pub ranking_moved : IsRanking (record ranking { handles = moved_rows shifts ranking.handles })
    ranking_moved = record {
      known = known_landed ranking.by ranking.handles (moved_rows shifts ranking.handles) ranking.cells land ranking.rows move;
      rising = subst (Rises ranking.by) (sym listed_moved) (rises_moved shifts ranking.by (keys_of ranking.handles) (listed ranking) is.keys lawful among_all is.rising);
      keys = subst IsRising (sym (keys_moved shifts ranking.handles)) (places_rise shifts (keys_of ranking.handles) lawful);
    }

  -- what is entered under a key that no row of the order has
  module _ (key : ℕ) (absent : is_among key (keys_in (listed ranking)) ≡ false) (handles : List Handled) (cells : List (List ℤ))
      (same : (handle other : ℕ) → key_with handle ranking.handles ≡ Some other → other ≢ key → (key_with handle handles ≡ Some other) × ((at : ℕ) → cell_in cells at handle ≡ cell_in ranking.cells at handle)) where
    abbrev entered : Ranking
    entered = record { by = ranking.by; handles = handles; cells = cells; rows = ranking.rows }

    apart : AllByRecursion (λ handle. key_in ranking.handles handle ≢ key) ranking.rows
    apart =
        every_weaker (λ handle. is_among (key_in ranking.handles handle) (keys_in (listed ranking)) ≡ true) (λ handle. key_in ranking.handles handle ≢ key) ranking.rows
        (λ handle own e. true≢false (sym own ∙ ap (λ k. is_among k (keys_in (listed ranking))) e ∙ absent))
        (every_unmapped (λ (entry : Entry). is_among entry.key (keys_in (listed ranking)) ≡ true) (entry_in ranking) ranking.rows
        (every_unmapped (λ k. is_among k (keys_in (listed ranking)) ≡ true) (λ (entry : Entry). entry.key) (listed ranking) (each_among (keys_in (listed ranking)))))

    kept : AllByRecursion (λ handle. (key_with handle handles ≡ Some (key_in ranking.handles handle)) × ((at : ℕ) → cell_in cells at handle ≡ cell_in ranking.cells at handle)) ranking.rows
    kept =
        every_both (λ handle. key_with handle ranking.handles ≡ Some (key_in ranking.handles handle)) (λ handle. key_in ranking.handles handle ≢ key) (λ handle. (key_with handle handles ≡ Some (key_in ranking.handles handle)) × ((at : ℕ) → cell_in cells at handle ≡ cell_in ranking.cells at handle)) ranking.rows
        (λ handle known ne. same handle (key_in ranking.handles handle) known ne) own_keys apart

    pub listed_entered : listed entered ≡ listed ranking
    listed_entered =
        map_same (entry_in entered) (entry_in ranking) ranking.rows
        (every_weaker (λ handle. (key_with handle handles ≡ Some (key_in ranking.handles handle)) × ((at : ℕ) → cell_in cells at handle ≡ cell_in ranking.cells at handle)) (λ handle. entry_in entered handle ≡ entry_in ranking handle) ranking.rows
        (λ handle h. ap₂ (λ (xs : List ℤ) (o : Option ℕ). let entry : Entry = record { cells = xs; key = unwrap_or o 0 } in entry) (cells_same 0 ranking.by cells ranking.cells handle h.1) h.0) kept)

    pub ranking_entered : IsRising (keys_of handles) → IsRanking entered
    ranking_entered rising = record {
      known =
          every_weaker (λ handle. (key_with handle handles ≡ Some (key_in ranking.handles handle)) × ((at : ℕ) → cell_in cells at handle ≡ cell_in ranking.cells at handle)) (λ handle. IsSome (key_with handle handles)) ranking.rows
          (λ handle h. subst IsSome (sym h.0) refl) kept;
      rising = subst (Rises ranking.by) (sym listed_entered) is.rising;
      keys = rising;
    }

-- the handles after a shift, or after its refusal
module _ (ranking : Ranking) (is : IsRanking ranking) (gone : List ℕ) (none : AllByRecursion (λ (entry : Entry). is_among entry.key gone ≡ false) (listed ranking)) (shifts : List ShiftRange) (left : List Handled) (l : left ≡ left_rows gone ranking.handles) (lawful : IsLawful shifts (keys_of left)) where
  abbrev with_left : Ranking
  with_left = record ranking { handles = left }

  left_ranking : IsRanking with_left
  left_ranking = subst (λ (handles : List Handled). let order : Ranking = record ranking { handles = handles } in IsRanking order) (sym l) (ranking_left ranking is gone none)

  pub shifted_ranking : {X E : Type 0} (result : Result X E) (new : List Handled) → OnOk result (new ≡ moved_rows shifts left) → OnErr result (new ≡ left) → IsRanking (record ranking { handles = new })
  shifted_ranking (Ok x) new ok err = subst (λ (handles : List Handled). let order : Ranking = record ranking { handles = handles } in IsRanking order) (sym ok) (ranking_moved with_left left_ranking shifts lawful)
  shifted_ranking (Err e) new ok err = subst (λ (handles : List Handled). let order : Ranking = record ranking { handles = handles } in IsRanking order) (sym err) left_ranking

  pub shifted_listed : {X E : Type 0} (result : Result X E) (new : List Handled) → OnOk result (new ≡ moved_rows shifts left) → OnOk result (listed (record ranking { handles = new }) ≡ map (rekeyed shifts) (listed ranking))
  shifted_listed (Ok x) new ok =
      ap (λ (handles : List Handled). let order : Ranking = record ranking { handles = handles } in listed order) ok
      ∙ listed_moved with_left left_ranking shifts lawful
      ∙ ap (map (rekeyed shifts)) (ap (λ (handles : List Handled). let order : Ranking = record ranking { handles = handles } in listed order) l ∙ listed_left ranking is gone none)
  shifted_listed (Err e) new ok = tt

  pub shifted_keys : {X E : Type 0} (result : Result X E) (new : List Handled) → OnOk result (new ≡ moved_rows shifts left) → OnOk result (keys_of new ≡ map (λ key. as_key (moved shifts key)) (without gone (keys_of ranking.handles)))
  shifted_keys (Ok x) new ok = ap keys_of ok ∙ keys_moved shifts left ∙ ap (map (λ key. as_key (moved shifts key))) (ap keys_of l ∙ keys_left gone ranking.handles)
  shifted_keys (Err e) new ok = tt
