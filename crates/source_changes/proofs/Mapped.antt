-- Told rows in a map by key: as they are found, put, taken away and moved.
use Rattle.std.proofs.Common.{◌≡◌, refl, ap, ap₂, sym, ◌∙◌, subst, Bool, true, false, cond, not, ◌||◌, ◌&&◌, ◌==◌, ℕ, zero, suc, ◌+◌, ◌^◌, ◌<◌, ◌≤◌, arith, List, [], ◌∷◌, ◌++◌, append_assoc, length, get_or, take, map, add-one, ℤ, pos, Bor, Option, Some, None, Result, Ok, Err, Less, Equal, Greater, nat_cmp, leb, inl, inr, filter, unwrap_or, Ordering}
use Rattle.std.{proofs.Math.Seq.take-suc, specs.BTreeMap.{insert_entry, is_at}, specs.BTreeMap.Range.{entries_between, range_contains}, specs.declared.ops.Bound.TheVariants.Included, specs.Cmp.nat_cmp_is, specs.List.AllByRecursion, specs.List.Sorted.IsBinarySearchResult, specs.Map.{keys_of as map_keys, lookup, remove_entry}, specs.Option.option_or, specs.Result.MatchResult, specs.Ordering.{is_eq, is_le, is_lt, match_ordering}, specs.Prelude.{option_map, find, ◌+ℤ◌}, proofs.lemmas.Bool.{and_right, cases_eq, cases_lt, eq-eqb, eqb-true, le-leb, le-ltb, lt-leb, lt-ltb, ne_eqb}, proofs.lemmas.Grind.flat_map-append, proofs.lemmas.Int.ints, proofs.lemmas.List.{append-nil, get_or-map, length-map}, proofs.lemmas.List.Sorted.searched}
use Rattle.table_update.proofs.StillKeys.{still_key}
use Rattle.key_lists.{specs.Keys.{is_among, IsRising}, proofs.Among.among-append, proofs.Every.{every, every_weaker, filter-map, filter_all, filter_filter, filter_same, map_map, map_own}, proofs.Booleans.{neither, is_eq-nat_cmp}, proofs.Parts.every_at}
use Rattle.row_set.{specs.declared.ranges.Range.Range, specs.Ranges.{AreApart, holds, keys_in, keys_of}, proofs.Held.among-in}
use Rattle.shift_data.{specs.Moves.IsLawful, specs.ShiftLists.IsShiftList, proofs.Lawful.{lawful, not_past}}
use Rattle.tick_model.{specs.declared.table.PlainRow.PlainRow, specs.declared.update.ShiftRange.ShiftRange, specs.Printable.IsShiftRange, specs.Rules.is_past, specs.Shifts.{as_key, holds as moves, moved}, specs.Tables.{keys, row_at}, specs.Updates.{moved_row, removing, shifting}, proofs.Among.each_found}
use Rattle.tick_table.specs.Placed.{put_row, put_rows}
use Rattle.source_changes.{specs.Told.told_row, proofs.Carrying.not_there, proofs.Looked.keys-shifting}

abbrev Told : Type 0
Told = ℕ × Bor (List ℤ)

-- the row under a key
pub cells_found : (key : ℕ) (entries : List Told) → option_map (λ (cells : Bor (List ℤ)). cells.now) (lookup (is_at (nat_cmp key)) entries) ≡ option_map (λ (row : PlainRow). row.cells) (row_at key (map told_row entries))
cells_found key [] = refl
cells_found key (entry ∷ entries) =
    ap (λ b. option_map (λ (cells : Bor (List ℤ)). cells.now) (cond b (Some entry.1) (lookup (is_at (nat_cmp key)) entries))) (is_eq-nat_cmp key entry.0)
    ∙ elim (entry.0 == key) as (λ b. option_map (λ (cells : Bor (List ℤ)). cells.now) (cond b (Some entry.1) (lookup (is_at (nat_cmp key)) entries)) ≡ option_map (λ (row : PlainRow). row.cells) (cond b (Some (told_row entry)) (row_at key (map told_row entries)))) [
      | true ↦ refl
      | false ↦ cells_found key entries
    ]

-- a row that is put
pub told_put : (key : ℕ) (cells : Bor (List ℤ)) (entries : List Told) → map told_row (insert_entry nat_cmp entries key cells) ≡ put_row (told_row (key, cells)) (map told_row entries)
told_put key cells [] = refl
told_put key cells (entry ∷ entries) =
    elim (cases_lt key entry.0) [
      | inl below ↦
          ap placed (sym (nat_cmp_is key entry.0 Less below))
          ∙ sym (ap₂ put (le-ltb entry.0 key (omega arith)) (ne_eqb entry.0 key (λ e. omega arith)))
      | inr not_below ↦ elim (cases_eq key entry.0) [
        | inl same ↦
            ap placed (sym (nat_cmp_is key entry.0 Equal same))
            ∙ ap (λ k. told_row (k, cells) ∷ map told_row entries) (sym same)
            ∙ sym (ap₂ put (le-ltb entry.0 key (omega arith)) (eq-eqb entry.0 key (sym same)))
        | inr other ↦
            let above : entry.0 < key = omega arith in
            ap placed (sym (nat_cmp_is key entry.0 Greater above))
            ∙ ap (λ rest. told_row entry ∷ rest) (told_put key cells entries)
            ∙ sym (ap (λ b. put b (entry.0 == key)) (lt-ltb entry.0 key above))
      ]
    ]
  where
    placed : Ordering → List PlainRow
    placed order = map told_row (match_ordering order ((key, cells) ∷ entry ∷ entries) ((entry.0, cells) ∷ entries) (entry ∷ insert_entry nat_cmp entries key cells))

    put : Bool → Bool → List PlainRow
    put less same =
        cond less (told_row entry ∷ put_row (told_row (key, cells)) (map told_row entries))
        (cond same (told_row (key, cells) ∷ map told_row entries) (told_row (key, cells) ∷ told_row entry ∷ map told_row entries))

put_rows-one : (first : List PlainRow) (row : PlainRow) (others : List PlainRow) → put_rows (first ++ row ∷ []) others ≡ put_row row (put_rows first others)
put_rows-one [] row others = refl
put_rows-one (other ∷ first) row others = put_rows-one first row (put_row other others)

pub put_more : (rows : List PlainRow) (i : ℕ) (row : PlainRow) (others : List PlainRow) → row ≡ get_or rows i row → i < length rows → put_row row (put_rows (take i rows) others) ≡ put_rows (take (i + 1) rows) others
put_more rows i row others is less =
    ap (λ row. put_row row (put_rows (take i rows) others)) is
    ∙ sym (ap (λ some. put_rows some others) (ap (λ n. take n rows) (add-one i) ∙ take-suc rows i row less) ∙ put_rows-one (take i rows) (get_or rows i row) others)

-- rows that are taken away
abbrev outside : Range → Told → Bool
outside range entry = not (holds entry.0 range)

filter_empty : {X : Type 0} (p : X → Bool) (xs : List X) → filter p xs ≡ [] → AllByRecursion (λ x. p x ≡ false) xs
filter_empty p [] h = tt
filter_empty p (x ∷ xs) h =
    (elim (p x) as (λ b. p x ≡ b → cond b (x ∷ filter p xs) (filter p xs) ≡ [] → AllByRecursion (λ x. p x ≡ false) (x ∷ xs)) [
      | true ↦ λ e h. absurd (cc h)
      | false ↦ λ e h. (e, filter_empty p xs h)
    ]) refl h

at_or_above : (first key : ℕ) → is_le (nat_cmp first key) ≡ leb first key
at_or_above first key =
    elim (cases_lt first key) [
      | inl below ↦ ap is_le (sym (nat_cmp_is first key Less below)) ∙ sym (le-leb first key (omega arith))
      | inr not_below ↦ elim (cases_eq first key) [
        | inl same ↦ ap is_le (sym (nat_cmp_is first key Equal same)) ∙ sym (le-leb first key (omega arith))
        | inr other ↦ let above : key < first = omega arith in ap is_le (sym (nat_cmp_is first key Greater above)) ∙ sym (lt-leb first key above)
      ]
    ]

not_past_last : (last key : ℕ) → not (is_lt (nat_cmp last key)) ≡ leb key last
not_past_last last key =
    elim (cases_lt last key) [
      | inl below ↦ ap (λ order. not (is_lt order)) (sym (nat_cmp_is last key Less below)) ∙ sym (lt-leb key last below)
      | inr not_below ↦ elim (cases_eq last key) [
        | inl same ↦ ap (λ order. not (is_lt order)) (sym (nat_cmp_is last key Equal same)) ∙ sym (le-leb key last (omega arith))
        | inr other ↦ let above : key < last = omega arith in ap (λ order. not (is_lt order)) (sym (nat_cmp_is last key Greater above)) ∙ sym (le-leb key last (omega arith))
      ]
    ]

between_is : (range : Range) (key : ℕ) → range_contains nat_cmp (Included range.first) (Included range.last) key ≡ holds key range
between_is range key = ap₂ (λ a b. a && b) (at_or_above range.first key) (not_past_last range.last key)

pub none_held : (range : Range) (entries : List Told) → entries_between nat_cmp (Included range.first) (Included range.last) entries ≡ [] → AllByRecursion (λ entry. holds entry.0 range ≡ false) entries
none_held range entries h =
    every_weaker (λ (entry : Told). range_contains nat_cmp (Included range.first) (Included range.last) entry.0 ≡ false) (λ entry. holds entry.0 range ≡ false) entries
    (λ entry e. sym (between_is range entry.0) ∙ e)
    (filter_empty (λ (entry : Told). range_contains nat_cmp (Included range.first) (Included range.last) entry.0) entries h)

pub left_without : (key : ℕ) (range : Range) (entries : List Told) → holds key range ≡ true → filter (λ entry. not (holds entry.0 range)) (remove_entry (is_at (nat_cmp key)) entries) ≡ filter (λ entry. not (holds entry.0 range)) entries
left_without key range [] h = refl
left_without key range (entry ∷ entries) h =
    (elim (is_eq (nat_cmp key entry.0)) as (λ b. is_eq (nat_cmp key entry.0) ≡ b → filter (outside range) (cond b entries (entry ∷ remove_entry (is_at (nat_cmp key)) entries)) ≡ filter (outside range) (entry ∷ entries)) [
      | true ↦ λ e. sym (ap (λ b. cond (not b) (entry ∷ filter (outside range) entries) (filter (outside range) entries)) (ap (λ k. holds k range) (eqb-true entry.0 key (sym (is_eq-nat_cmp key entry.0) ∙ e)) ∙ h))
      | false ↦ λ e. ap (λ rest. cond (outside range entry) (entry ∷ rest) rest) (left_without key range entries h)
    ]) refl

pub all_left : (range : Range) (entries : List Told) → AllByRecursion (λ entry. holds entry.0 range ≡ false) entries → filter (λ entry. not (holds entry.0 range)) entries ≡ entries
all_left range entries h =
    filter_same (outside range) (λ _. true) entries (every_weaker (λ (entry : Told). holds entry.0 range ≡ false) (λ entry. outside range entry ≡ true) entries (λ entry e. ap not e) h)
    ∙ filter_all entries

pub left_more : (ranges : List Range) (i : ℕ) (d : Range) (entries : List Told) → i < length ranges
    → filter (λ entry. not (holds entry.0 (get_or ranges i d))) (filter (λ entry. not (is_among entry.0 (keys_of (take i ranges)))) entries) ≡ filter (λ entry. not (is_among entry.0 (keys_of (take (i + 1) ranges)))) entries
left_more ranges i d entries less =
    filter_filter (outside (get_or ranges i d)) (λ (entry : Told). not (is_among entry.0 (keys_of (take i ranges)))) entries
    ∙ filter_same (λ (entry : Told). not (is_among entry.0 (keys_of (take i ranges))) && outside (get_or ranges i d) entry) (λ entry. not (is_among entry.0 (keys_of (take (i + 1) ranges)))) entries (every (λ (entry : Told). (not (is_among entry.0 (keys_of (take i ranges))) && outside (get_or ranges i d) entry) ≡ not (is_among entry.0 (keys_of (take (i + 1) ranges)))) entries (λ entry. each entry.0))
  where
    more : keys_of (take (i + 1) ranges) ≡ keys_of (take i ranges) ++ keys_in (get_or ranges i d)
    more =
        ap (λ n. keys_of (take n ranges)) (add-one i) ∙ ap keys_of (take-suc ranges i d less)
        ∙ flat_map-append keys_in (take i ranges) (get_or ranges i d ∷ []) ∙ ap (λ keys. keys_of (take i ranges) ++ keys) (append-nil (keys_in (get_or ranges i d)))

    each : (key : ℕ) → (not (is_among key (keys_of (take i ranges))) && not (holds key (get_or ranges i d))) ≡ not (is_among key (keys_of (take (i + 1) ranges)))
    each key =
        ap (λ b. not (is_among key (keys_of (take i ranges))) && not b) (sym (among-in key (get_or ranges i d)))
        ∙ neither (is_among key (keys_of (take i ranges))) (is_among key (keys_in (get_or ranges i d)))
        ∙ ap not (sym (ap (is_among key) more ∙ among-append key (keys_of (take i ranges)) (keys_in (get_or ranges i d))))

pub ranges_ascend : (low : ℕ) (ranges : List Range) → AreApart low ranges → AllByRecursion (λ range. range.first ≤ range.last) ranges
ranges_ascend low [] h = tt
ranges_ascend low (range ∷ ranges) h = (h.0.ascends, ranges_ascend (range.last + 2) ranges h.1)

-- rows that move
none_moves : (limit : ℕ) (shifts : List ShiftRange) (key : ℕ) → AllByRecursion (IsShiftRange limit) shifts → limit ≤ key → find (λ range. moves range key) shifts ≡ None
none_moves limit [] key h above = refl
none_moves limit (range ∷ shifts) key h above =
    let end = h.0.end in
    ap (λ b. cond b (Some range) (find (λ range. moves range key) shifts)) (and_right (leb range.begin key) (leb key range.end) (lt-leb key range.end (omega (arith, end, above))))
    ∙ none_moves limit shifts key h.1 above

small_key : (limit : ℕ) (shifts : List ShiftRange) (key : ℕ) → AllByRecursion (IsShiftRange limit) shifts → is_past limit (moved shifts key) ≡ false → key < limit
small_key limit shifts key h inside =
    elim (cases_lt key limit) [
      | inl below ↦ below
      | inr not_below ↦
          let above : limit ≤ key = omega arith in
          let there = not_past limit (moved shifts key) inside in
          let stays : moved shifts key ≡ pos key +ℤ pos 0 = ap (λ o. pos key +ℤ unwrap_or (option_map (λ (range : ShiftRange). range.delta) o) (pos 0)) (none_moves limit shifts key h above) in
          let place : pos (as_key (moved shifts key)) ≡ pos key +ℤ pos 0 = sym there.0 ∙ stays in
          let under = there.1 in
          absurd (omega (arith, ints, place, under, above))
    ]

pub small_keys : (shifts : List ShiftRange) (keys : List ℕ) → IsShiftList shifts → IsLawful shifts keys → AllByRecursion (λ key. key < 2 ^ 62) keys
small_keys shifts keys h law =
    every_weaker (λ key. is_past (2 ^ 62) (moved shifts key) ≡ false) (λ key. key < 2 ^ 62) keys (λ key inside. small_key (2 ^ 62) shifts key h.small inside) (lawful shifts keys law).inside

put_last : (row : PlainRow) (others rows : List PlainRow) → IsRising (keys (others ++ row ∷ rows)) → put_row row others ≡ others ++ row ∷ []
put_last row [] rows h = refl
put_last row (other ∷ others) rows h =
    ap (λ b. cond b (other ∷ put_row row others) (cond (other.key == row.key) (row ∷ others) (row ∷ other ∷ others))) (lt-ltb other.key row.key (behind (λ key. other.key < key) others h.0))
    ∙ ap (λ rest. other ∷ rest) (put_last row others rows h.1)
  where
    behind : (P : ℕ → Type 0) (others : List PlainRow) → AllByRecursion P (keys (others ++ row ∷ rows)) → P row.key
    behind P [] h = h.0
    behind P (other ∷ others) h = behind P others h.1

put_behind : (rows others : List PlainRow) → IsRising (keys (others ++ rows)) → put_rows rows others ≡ others ++ rows
put_behind [] others h = sym (append-nil others)
put_behind (row ∷ rows) others h =
    let more : (others ++ row ∷ []) ++ rows ≡ others ++ row ∷ rows = append_assoc others (row ∷ []) rows in
    ap (put_rows rows) (put_last row others rows h) ∙ put_behind rows (others ++ row ∷ []) (subst (λ all. IsRising (keys all)) (sym more) h) ∙ more

-- rows that are put one after the other as they move are the moved rows
pub all_put : (shifts : List ShiftRange) (rows : List PlainRow) → IsLawful shifts (keys rows) → put_rows (shifting shifts rows) [] ≡ shifting shifts rows
all_put shifts rows law = put_behind (shifting shifts rows) [] (subst IsRising (sym (keys-shifting shifts rows)) (lawful shifts (keys rows) law).rising)

pub keys-told : (entries : List Told) → keys (map told_row entries) ≡ map_keys entries
keys-told entries = map_map (λ (row : PlainRow). row.key) told_row entries

-- the rows under other keys
pub told_left : (removed ks : List ℕ) (left entries : List Told) (told : List PlainRow) → left ≡ filter (λ entry. not (is_among entry.0 ks)) entries → ks ≡ removed → map told_row entries ≡ told → map told_row left ≡ removing removed told
told_left removed ks left entries told less same all = ap (map told_row) less ∙ sym (filter-map (λ (row : PlainRow). not (is_among row.key ks)) told_row entries) ∙ ap₂ removing same all

-- with no range, and with all rows moved
pub none_shifted : (shifts : List ShiftRange) (rows : List PlainRow) → shifts ≡ [] → rows ≡ shifting shifts rows
none_shifted shifts rows none =
    sym (ap (λ shifts. shifting shifts rows) none ∙ map_own (moved_row []) rows (every (λ (row : PlainRow). moved_row [] row ≡ row) rows (λ row. ap (λ key. let made : PlainRow = record { key = key; cells = row.cells } in made) (still_key row.key))))

pub all_moved : (shifts : List ShiftRange) (entries done all : List Told) → entries ≡ [] → IsLawful shifts (map_keys all) → put_rows (shifting shifts (map told_row entries)) (map told_row done) ≡ put_rows (shifting shifts (map told_row all)) [] → map told_row done ≡ shifting shifts (map told_row all)
all_moved shifts entries done all none law whole =
    sym (ap (λ (entries : List Told). put_rows (shifting shifts (map told_row entries)) (map told_row done)) none) ∙ whole ∙ all_put shifts (map told_row all) (subst (IsLawful shifts) (sym (keys-told all)) law)

-- the row under a key, as a search among keys that rise finds it
rising_far : (ks : List ℕ) → IsRising ks → (i j : ℕ) → i ≤ j → j < length ks → get_or ks i 0 ≤ get_or ks j 0
rising_far [] r i j le less = absurd (omega (arith, less))
rising_far (key ∷ ks) r zero zero le less = omega arith
rising_far (key ∷ ks) r zero (suc j) le less = let above = every_at (λ other. key < other) ks j 0 (omega (arith, less)) r.0 in omega (arith, above)
rising_far (key ∷ ks) r (suc i) zero le less = absurd (omega (arith, le))
rising_far (key ∷ ks) r (suc i) (suc j) le less = rising_far ks r.1 i j (omega (arith, le)) (omega (arith, less))

absent : (key : ℕ) (ks : List ℕ) → ((i : ℕ) → i < length ks → get_or ks i 0 ≡ key → ⊥) → is_among key ks ≡ false
absent key [] h = refl
absent key (k ∷ ks) h = ap₂ (λ a b. a || b) (ne_eqb k key (h 0 (omega arith))) (absent key ks (λ i less. h (suc i) (omega (arith, less))))

-- in place of a row past the last
pub blank : PlainRow
blank = record { key = 0; cells = [] }

abbrev pub Searched : ℕ → List PlainRow → Result ℕ ℕ → Type 0
Searched key rows r = MatchResult r (λ i. (i < length rows) × (row_at key rows ≡ Some (get_or rows i blank))) (λ _. row_at key rows ≡ None)

pub row_searched : (key : ℕ) (rows : List PlainRow) (ks : List ℕ) (r : Result ℕ ℕ) → IsRising (keys rows) → ks ≡ keys rows → IsBinarySearchResult (λ k. nat_cmp k key) ks r → Searched key rows r
row_searched key rows ks (Ok i) rise are h =
    let place = searched ks key (Ok i) h (rising_far ks (subst IsRising (sym are) rise)) in
    let less : i < length rows = omega (arith, place.0, ap length are, length-map rows (λ (row : PlainRow). row.key)) in
    let same : (get_or rows i blank).key ≡ key = sym (ap (λ ks. get_or ks i 0) are ∙ get_or-map (λ (row : PlainRow). row.key) rows i blank 0 less) ∙ place.1 in
    (less, ap (λ k. row_at k rows) (sym same) ∙ every_at (λ (row : PlainRow). row_at row.key rows ≡ Some row) rows i blank less (each_found rows rise))
row_searched key rows ks (Err i) rise are h =
    let place = searched ks key (Err i) h (rising_far ks (subst IsRising (sym are) rise)) in
    not_there key rows (sym (ap (is_among key) are) ∙ absent key ks (λ k less same. elim (cases_lt k i) [
      | inl before ↦ let below = place.1 k before in absurd (omega (arith, below, same))
      | inr behind ↦ let above = place.2 k (omega arith) less in absurd (omega (arith, above, same))
    ]))

-- the cells of the first of two rows that is there
pub cells_either : (o p : Option (Bor (List ℤ))) (r s : Option PlainRow) → option_map (λ cells. cells.now) o ≡ option_map (λ (row : PlainRow). row.cells) r → option_map (λ cells. cells.now) p ≡ option_map (λ (row : PlainRow). row.cells) s
    → option_map (λ (cells : Bor (List ℤ)). cells.now) (option_or o p) ≡ option_map (λ (row : PlainRow). row.cells) (option_or r s)
cells_either None p None s e f = f
cells_either None p (Some row) s e f = absurd (cc e)
cells_either (Some cells) p None s e f = absurd (cc e)
cells_either (Some cells) p (Some row) s e f = e
