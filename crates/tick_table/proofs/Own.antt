-- Slots of which no two rows have one: as rows are taken out, put in and replaced.
use Rattle.std.proofs.Common.{◌≡◌, refl, ap, ap₂, sym, ◌∙◌, subst, cond, ℕ, zero, suc, ◌+◌, ◌-◌, ◌<◌, ◌≤◌, arith, List, [], ◌∷◌, ◌++◌, append_assoc, append-nil, length, map, take, drop, get_or, set, reverse, slice_range, ℤ, ◌==◌, inl, inr}
use Rattle.std.{specs.List.{AllByRecursion, insert, range_with_len, remove, remove_range}, proofs.Math.Seq.get_or-append_seam, proofs.lemmas.Bool.{cases_eq, eq-eqb, ne_eqb}, proofs.lemmas.List.{drop-drop, drop-map, get_or-map, get_or-set_other, get_or-set_same, get_or_append_left, length_push, length-map, length-set, map-append, reverse-append, take-map}, proofs.lemmas.List.Edits.insert_end, proofs.lemmas.List.Sorted.{IsPermutation-reverse, sum_by-IsPermutation}, proofs.lemmas.List.Sums.{sum_by-append, sum_by-cons, sum_by-insert, sum_by-remove, sum_by-take-drop}}
use Rattle.key_lists.{proofs.Every.{every_both, every_weaker, every-append, map_same}, proofs.Parts.{every-drop, every-take, every_at, every_front, every_insert}}
use Rattle.tick_table.{specs.Placed.{AreFilled, AreOwn, cells_of, uses}, specs.Slots.{AreSlots, IsFilled, SlotCells}}

abbrev is_used : ℕ → ℕ → ℕ
is_used slot other = cond (other == slot) 1 0

used_own : (slot other : ℕ) → other ≡ slot → is_used slot other ≡ 1
used_own slot other e = ap (λ b. cond b 1 0) (eq-eqb other slot e)

used_other : (slot other : ℕ) → (other ≡ slot → ⊥) → is_used slot other ≡ 0
used_other slot other e = ap (λ b. cond b 1 0) (ne_eqb other slot e)

uses-cons : (slot other : ℕ) (others : List ℕ) → uses slot (other ∷ others) ≡ is_used slot other + uses slot others
uses-cons slot other others = sum_by-cons (is_used slot) other others

uses-append : (slot : ℕ) (xs ys : List ℕ) → uses slot (xs ++ ys) ≡ uses slot xs + uses slot ys
uses-append slot xs ys = sum_by-append (is_used slot) xs ys

uses-one : (slot other : ℕ) → uses slot (other ∷ []) ≡ is_used slot other
uses-one slot other = uses-cons slot other [] ∙ omega arith

uses-reverse : (slot : ℕ) (xs : List ℕ) → uses slot (reverse xs) ≡ uses slot xs
uses-reverse slot xs = sum_by-IsPermutation (is_used slot) xs (reverse xs) (IsPermutation-reverse xs)

uses-remove : (slot : ℕ) (xs : List ℕ) (n : ℕ) → n < length xs → uses slot (remove xs n) + is_used slot (get_or xs n 0) ≡ uses slot xs
uses-remove slot xs n within = sum_by-remove (is_used slot) xs n 0 within

-- those of a run, and those before and behind it
uses-out : (slot : ℕ) (xs : List ℕ) (n k : ℕ) → uses slot (take n xs) + (uses slot (slice_range xs n (n + k)) + uses slot (drop (n + k) xs)) ≡ uses slot xs
uses-out slot xs n k =
    let far : n + (n + k - n) ≡ n + k = omega arith in
    let front : uses slot (take n xs) + uses slot (drop n xs) ≡ uses slot xs = sum_by-take-drop (is_used slot) xs n in
    let back : uses slot (slice_range xs n (n + k)) + uses slot (drop (n + k - n) (drop n xs)) ≡ uses slot (drop n xs) = sum_by-take-drop (is_used slot) (drop n xs) (n + k - n) in
    let same = ap (uses slot) (drop-drop (n + k - n) n xs ∙ ap (λ i. drop i xs) far) in
    omega (arith, front, back, same)

uses-insert : (slot : ℕ) (xs : List ℕ) (n other : ℕ) → uses slot (insert xs n other) ≡ uses slot xs + is_used slot other
uses-insert slot xs n other = sum_by-insert (is_used slot) xs n other

uses_at : (slot : ℕ) (xs : List ℕ) (n : ℕ) → n < length xs → get_or xs n 0 ≡ slot → 1 ≤ uses slot xs
uses_at slot xs n within same = let own = used_own slot (get_or xs n 0) same in let all = uses-remove slot xs n within in omega (arith, own, all)

every-reverse : {X : Type 0} (P : X → Type 0) (xs : List X) → AllByRecursion P xs → AllByRecursion P (reverse xs)
every-reverse P [] h = tt
every-reverse P (x ∷ xs) h = subst (AllByRecursion P) (sym (reverse-append (x ∷ []) xs)) (every-append P (reverse xs) (x ∷ []) (every-reverse P xs h.1) (h.0, tt))

-- a slot that does not stand in a list is none of it, and one behind all slots does not
none_of : (slot : ℕ) (xs : List ℕ) → uses slot xs ≡ 0 → AllByRecursion (λ other. other ≡ slot → ⊥) xs
none_of slot [] none = tt
none_of slot (x ∷ xs) none =
    let first = uses-cons slot x xs in
    (λ same. let own = used_own slot x same in omega (arith, first, none, own), none_of slot xs (omega (arith, first, none)))

uses_past : (count : ℕ) (xs : List ℕ) → AreSlots count xs → uses count xs ≡ 0
uses_past count [] h = refl
uses_past count (x ∷ xs) h = uses-cons count x xs ∙ ap₂ (λ (m n : ℕ). m + n) (used_other count x (λ same. omega (arith, same, h.0))) (uses_past count xs h.1)

-- the cells of slots: at a position, after an edit of the list, and where one slot alone has other cells
pub length-cells : (rows : List (List ℤ)) (xs : List ℕ) → length (cells_of rows xs) ≡ length xs
length-cells rows xs = length-map xs (λ slot. get_or rows slot [])

pub at-cells : (rows : List (List ℤ)) (xs : List ℕ) (n : ℕ) → n < length xs → get_or (cells_of rows xs) n [] ≡ get_or rows (get_or xs n 0) []
at-cells rows xs n within = get_or-map (λ slot. get_or rows slot []) xs n 0 [] within

pub own_as : (slots : SlotCells) (places left places_is left_is : List ℕ) → places_is ≡ places → left_is ≡ left → AreOwn slots places left → AreOwn slots places_is left_is
own_as slots places left places_is left_is p l h = subst (λ (xs : List ℕ). AreOwn slots xs left_is) (sym p) (subst (AreOwn slots places) (sym l) h)

pub own_front : (slots : SlotCells) (places more left : List ℕ) → AreOwn slots (places ++ more) left → AreOwn slots places left
own_front slots places more left h = record {
  place_slots = every_front (λ slot. slot < length slots.rows) places more h.place_slots;
  left_slots = h.left_slots;
  free_slots = h.free_slots;
  once = λ slot. omega (arith, h.once slot, uses-append slot places more);
}

pub map-left : {X Y : Type 0} (f : X → Y) (xs : List X) (n m : ℕ) → map f (remove_range xs n m) ≡ remove_range (map f xs) n m
map-left f xs n m = map-append f (take n xs) (drop m xs) ∙ sym (ap₂ (λ ys zs. ys ++ zs) (take-map f n xs) (drop-map f m xs))

pub map-run : {X Y : Type 0} (f : X → Y) (xs : List X) (n m : ℕ) → map f (slice_range xs n m) ≡ slice_range (map f xs) n m
map-run f xs n m = sym (ap (take (m - n)) (drop-map f n xs) ∙ take-map f (m - n) (drop n xs))

pub map-insert : {X Y : Type 0} (f : X → Y) (xs : List X) (n : ℕ) (x : X) → map f (insert xs n x) ≡ insert (map f xs) n (f x)
map-insert f xs n x = map-append f (take n xs) (x ∷ drop n xs) ∙ sym (ap₂ (λ ys zs. ys ++ f x ∷ zs) (take-map f n xs) (drop-map f n xs))

cells_same : (count slot : ℕ) (new old : List (List ℤ)) (xs : List ℕ) → ((other : ℕ) → other < count → (other ≡ slot → ⊥) → get_or new other [] ≡ get_or old other [])
    → AreSlots count xs → uses slot xs ≡ 0 → cells_of new xs ≡ cells_of old xs
cells_same count slot new old xs others within none =
    map_same (λ other. get_or new other []) (λ other. get_or old other []) xs
    (every_both (λ other. other < count) (λ other. other ≡ slot → ⊥) (λ other. get_or new other [] ≡ get_or old other []) xs (λ other inside apart. others other inside apart) within (none_of slot xs none))

cells_set : (count slot : ℕ) (row : List ℤ) (new old : List (List ℤ)) (xs : List ℕ) (n : ℕ) → ((other : ℕ) → other < count → (other ≡ slot → ⊥) → get_or new other [] ≡ get_or old other []) → get_or new slot [] ≡ row
    → AreSlots count xs → uses slot xs ≤ 1 → n < length xs → get_or xs n 0 ≡ slot → cells_of new xs ≡ set (cells_of old xs) n row
cells_set count slot row new old [] n others own within once below same = absurd (omega (arith, below))
cells_set count slot row new old (x ∷ xs) zero others own within once below same =
    let first = uses-cons slot x xs in
    let used = used_own slot x same in
    ap₂ (λ (cells : List ℤ) (rest : List (List ℤ)). cells ∷ rest) (ap (λ k. get_or new k []) same ∙ own) (cells_same count slot new old xs others within.1 (omega (arith, first, used, once)))
cells_set count slot row new old (x ∷ xs) (suc n) others own within once below same =
    let first = uses-cons slot x xs in
    let inside : n < length xs = omega (arith, below) in
    let later = uses_at slot xs n inside same in
    ap₂ (λ (cells : List ℤ) (rest : List (List ℤ)). cells ∷ rest)
    (others x within.0 (λ is. let used = used_own slot x is in omega (arith, first, used, later, once)))
    (cells_set count slot row new old xs n others own within.1 (omega (arith, first, once)) inside same)

module _ (slots : SlotCells) (places left : List ℕ) (h : AreOwn slots places left) where
  pub own_reversed : AreOwn slots places (reverse left)
  own_reversed = record {
    place_slots = h.place_slots;
    left_slots = every-reverse (λ slot. slot < length slots.rows) left h.left_slots;
    free_slots = h.free_slots;
    once = λ slot. omega (arith, h.once slot, uses-reverse slot left);
  }

  pub own_released : (new : SlotCells) → new.rows ≡ slots.rows → new.free ≡ slots.free ++ reverse left → AreOwn new places []
  own_released new same free =
      let count : length slots.rows ≡ length new.rows = sym (ap length same) in record {
        place_slots = subst (λ n. AreSlots n places) count h.place_slots;
        left_slots = tt;
        free_slots = subst (λ n. AreSlots n new.free) count
            (subst (AreSlots (length slots.rows)) (sym free)
            (every-append (λ slot. slot < length slots.rows) slots.free (reverse left) h.free_slots (every-reverse (λ slot. slot < length slots.rows) left h.left_slots)));
        once = λ slot.
            let used = ap (uses slot) free ∙ uses-append slot slots.free (reverse left) in
            let none : uses slot [] ≡ 0 = refl in
            omega (arith, h.once slot, used, none, uses-reverse slot left);
      }

  pub own_out : (n k : ℕ) → AreOwn slots (remove_range places n (n + k)) (left ++ slice_range places n (n + k))
  own_out n k = record {
    place_slots = every-append (λ slot. slot < length slots.rows) (take n places) (drop (n + k) places) (every-take (λ slot. slot < length slots.rows) n places h.place_slots) (every-drop (λ slot. slot < length slots.rows) (n + k) places h.place_slots);
    left_slots = every-append (λ slot. slot < length slots.rows) left (slice_range places n (n + k)) h.left_slots (every-take (λ slot. slot < length slots.rows) (n + k - n) (drop n places) (every-drop (λ slot. slot < length slots.rows) n places h.place_slots));
    free_slots = h.free_slots;
    once = λ slot.
        let rest = uses-append slot (take n places) (drop (n + k) places) in
        let more = uses-append slot left (slice_range places n (n + k)) in
        omega (arith, h.once slot, rest, more, uses-out slot places n k);
  }

  -- a row was put into a slot that no row had
  module _ (row : List ℤ) (new : SlotCells) (slot : ℕ) (f : IsFilled row slots new slot) where
    widened : (xs : List ℕ) → AreSlots (length slots.rows) xs → AreSlots (length new.rows) xs
    widened xs = every_weaker (λ other. other < length slots.rows) (λ other. other < length new.rows) xs (λ other own. omega (arith, own, f.more))

    unused : (xs : List ℕ) → AreSlots (length slots.rows) xs → (1 ≤ uses slot slots.free → uses slot xs ≡ 0) → uses slot xs ≡ 0
    unused xs own none =
        elim f.source [
          | inl taken ↦
              let all = ap (uses slot) taken ∙ uses-append slot new.free (slot ∷ []) in
              let one = uses-one slot slot ∙ used_own slot slot refl in
              none (omega (arith, all, one))
          | inr opened ↦ ap (λ other. uses other xs) opened.1 ∙ uses_past (length slots.rows) xs own
        ]

    unused_places : uses slot places ≡ 0
    unused_places = unused places h.place_slots (λ one. omega (arith, h.once slot, one))

    unused_left : uses slot left ≡ 0
    unused_left = unused left h.left_slots (λ one. omega (arith, h.once slot, one))

    unused_free : uses slot new.free ≡ 0
    unused_free =
        elim f.source [
          | inl taken ↦
              let all = ap (uses slot) taken ∙ uses-append slot new.free (slot ∷ []) in
              let one = uses-one slot slot ∙ used_own slot slot refl in
              omega (arith, all, one, h.once slot)
          | inr opened ↦ ap₂ uses opened.1 opened.0 ∙ uses_past (length slots.rows) slots.free h.free_slots
        ]

    fewer : (other : ℕ) → uses other new.free ≤ uses other slots.free
    fewer other =
        elim f.source [
          | inl taken ↦ let all = ap (uses other) taken ∙ uses-append other new.free (slot ∷ []) in omega (arith, all)
          | inr opened ↦ let same = ap (uses other) opened.0 in omega (arith, same)
        ]

    free_ones : AreSlots (length slots.rows) new.free
    free_ones =
        elim f.source [
          | inl taken ↦ every_front (λ other. other < length slots.rows) new.free (slot ∷ []) (subst (AreSlots (length slots.rows)) taken h.free_slots)
          | inr opened ↦ subst (AreSlots (length slots.rows)) (sym opened.0) h.free_slots
        ]

    pub own_put : (n : ℕ) → AreOwn new (insert places n slot) left
    own_put n = record {
      place_slots = every_insert (λ other. other < length new.rows) places n slot f.inside (widened places h.place_slots);
      left_slots = widened left h.left_slots;
      free_slots = widened new.free free_ones;
      once = λ other. once_put other;
    }
      where
        once_put : (other : ℕ) → uses other new.free + uses other left + uses other (insert places n slot) ≤ 1
        once_put other =
            let more = uses-insert other places n slot in
            elim (cases_eq slot other) [
              | inl same ↦
                  let own = used_own other slot same in
                  let a = ap (λ k. uses k places) (sym same) ∙ unused_places in
                  let b = ap (λ k. uses k left) (sym same) ∙ unused_left in
                  let d = ap (λ k. uses k new.free) (sym same) ∙ unused_free in
                  omega (arith, more, own, a, b, d)
              | inr differs ↦ let own = used_other other slot differs in omega (arith, more, own, h.once other, fewer other)
            ]

    pub own_last : AreOwn new (places ++ slot ∷ []) left
    own_last = subst (λ (xs : List ℕ). AreOwn new xs left) (insert_end places slot) (own_put (length places))

    pub own_filled : AreOwn new places left
    own_filled = own_front new places (slot ∷ []) left own_last

    pub places_same : cells_of new.rows places ≡ cells_of slots.rows places
    places_same = cells_same (length slots.rows) slot new.rows slots.rows places f.others h.place_slots unused_places

    pub left_same : cells_of new.rows left ≡ cells_of slots.rows left
    left_same = cells_same (length slots.rows) slot new.rows slots.rows left f.others h.left_slots unused_left

    pub filled_one : AreFilled (row ∷ []) slots new (slot ∷ []) places left
    filled_one = record {
      own = own_last;
      cells = map-append (λ slot. get_or new.rows slot []) places (slot ∷ []) ∙ ap₂ (λ (front : List (List ℤ)) (last : List ℤ). front ++ last ∷ []) places_same f.here;
      others = left_same;
    }

  -- the cells of the row at a position were written over
  module _ (row : List ℤ) (new : SlotCells) (n : ℕ) (within : n < length places) (rows : new.rows ≡ set slots.rows (get_or places n 0) row) (free : new.free ≡ slots.free) where
    same_count : length new.rows ≡ length slots.rows
    same_count = ap length rows ∙ length-set slots.rows (get_or places n 0) row

    others_same : (other : ℕ) → other < length slots.rows → (other ≡ get_or places n 0 → ⊥) → get_or new.rows other [] ≡ get_or slots.rows other []
    others_same other below apart = ap (λ (rows : List (List ℤ)). get_or rows other []) rows ∙ get_or-set_other slots.rows (get_or places n 0) other row [] apart

    pub own_over : AreOwn new places left
    own_over = record {
      place_slots = subst (λ count. AreSlots count places) (sym same_count) h.place_slots;
      left_slots = subst (λ count. AreSlots count left) (sym same_count) h.left_slots;
      free_slots = subst (λ count. AreSlots count new.free) (sym same_count) (subst (AreSlots (length slots.rows)) (sym free) h.free_slots);
      once = λ slot. let same = ap (uses slot) free in omega (arith, h.once slot, same);
    }

    pub places_set : cells_of new.rows places ≡ set (cells_of slots.rows places) n row
    places_set =
        cells_set (length slots.rows) (get_or places n 0) row new.rows slots.rows places n others_same
        (ap (λ (rows : List (List ℤ)). get_or rows (get_or places n 0) []) rows ∙ get_or-set_same slots.rows (get_or places n 0) row [] (every_at (λ slot. slot < length slots.rows) places n 0 within h.place_slots))
        h.place_slots (omega (arith, h.once (get_or places n 0))) within refl

    pub left_kept : cells_of new.rows left ≡ cells_of slots.rows left
    left_kept =
        let used = uses_at (get_or places n 0) places n within refl in
        cells_same (length slots.rows) (get_or places n 0) new.rows slots.rows left others_same h.left_slots (omega (arith, h.once (get_or places n 0), used))

-- rows were put into slots after others were
pub filled_then : (rows more : List (List ℤ)) (old now new : SlotCells) (slots others places left : List ℕ) → AreFilled rows old now slots places left → AreFilled more now new others (places ++ slots) left → AreFilled (rows ++ more) old new (slots ++ others) places left
filled_then rows more old now new slots others places left first last =
    let all = append_assoc places slots others in record {
      own = subst (λ (xs : List ℕ). AreOwn new xs left) all last.own;
      cells = ap (cells_of new.rows) (sym all) ∙ last.cells ∙ ap (λ (front : List (List ℤ)). front ++ more) first.cells ∙ append_assoc (cells_of old.rows places) rows more;
      others = last.others ∙ first.others;
    }

-- rows were put into new slots
pub filled_opened : (old new : SlotCells) (more : List (List ℤ)) (first : ℕ) (places left : List ℕ) → first ≡ length old.rows → new.width ≡ old.width → new.rows ≡ old.rows ++ more → new.free ≡ old.free → AreOwn old places left
    → AreFilled more old new (range_with_len first (length more)) places left
filled_opened old new [] first places left at wide rows free own =
    subst (λ (slots : SlotCells). AreFilled [] old slots [] places left)
    (ap₂ (λ (rows : List (List ℤ)) (free : List ℕ). let slots : SlotCells = record { width = old.width; rows = rows; free = free } in slots) (sym (rows ∙ append-nil old.rows)) (sym free)
    ∙ ap (λ (width : ℕ). let slots : SlotCells = record { width = width; rows = new.rows; free = new.free } in slots) (sym wide))
    (record {
      own = subst (λ (xs : List ℕ). AreOwn old xs left) (sym (append-nil places)) own;
      cells = ap (cells_of old.rows) (append-nil places) ∙ sym (append-nil (cells_of old.rows places));
      others = refl;
    })
filled_opened old new (row ∷ more) first places left at wide rows free own =
    let one : SlotCells = record { width = old.width; rows = old.rows ++ row ∷ []; free = old.free } in
    let filled : IsFilled row old one first = record {
      width = refl;
      more = omega (arith, length_push old.rows row);
      inside = omega (arith, at, length_push old.rows row);
      here = ap (λ n. get_or (old.rows ++ row ∷ []) n []) at ∙ get_or-append_seam old.rows row [] [];
      others = λ other below apart. get_or_append_left old.rows (row ∷ []) [] other below;
      source = inr (refl, at);
    } in
    filled_then (row ∷ []) more old one new (first ∷ []) (range_with_len (first + 1) (length more)) places left (filled_one old places left own row one first filled)
    (filled_opened one new more (first + 1) (places ++ first ∷ []) left (omega (arith, at, length_push old.rows row)) wide (rows ∙ sym (append_assoc old.rows (row ∷ []) more)) free (own_last old places left own row one first filled))
