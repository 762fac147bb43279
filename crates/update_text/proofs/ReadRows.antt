-- Rows, their cells and their keys, read back.
use Rattle.std.proofs.Common.{◌≡◌, refl, ap, sym, ◌∙◌, subst, true, false, true≢false, cond, ◌&&◌, ◌==◌, ℕ, zero, suc, ◌+◌, ◌-◌, ◌<◌, ◌≤◌, arith, List, [], ◌∷◌, ◌++◌, length, take, drop, get_or, map, append_assoc, inl, inr, eq-eqb, eqb-true}
use Rattle.std.{specs.Prelude.{ℤ, FitsSigned, Some, None, Result, Ok, Err, ◌⊎◌, slice_get}, specs.Int.w64, specs.List.{AllByRecursion, range_with_len}, specs.List.Sorted.{IsBinarySearchResult, IsSearchInRange}, specs.Result.{result_ok, IsErrAnd}, specs.Ordering.{nat_cmp, ordering_index, ordering_reverse}, specs.Cmp.Lexicographic.{slice_cmp, nat_list_cmp_total}, specs.declared.cmp.Ordering.Ordering, specs.declared.cmp.Ordering.TheVariants.{Less, Equal, Greater}, proofs.lemmas.Bool.{and_parts, or_from, cases_eq, cases_lt}, proofs.lemmas.Bool.Decides.Decides-int_eq, proofs.lemmas.List.{drop_more, get_or_default, take_more}, proofs.lemmas.Option.same_Some}
use Rattle.key_lists.{specs.Keys.{IsRising, is_among}, proofs.Among.among-append, proofs.Every.every_weaker, proofs.Rising.{rising-append, rising_same}, proofs.Booleans.{less_from, or_turned}}
use Rattle.row_set.{specs.Ranges.keys_from, specs.Sets.{last_key, united}, proofs.Held.range_rises, proofs.United.{among-united, united_rises}}
use Rattle.tick_model.{specs.declared.plan.ColumnSpec.ColumnSpec, specs.declared.plan.Kind.Kind, specs.LawfulRuns.{AreTexts, is_before}, specs.Printable.{fits_kind, fit_columns}, specs.Tables.{is_null, null}, specs.Texts.{cell_text, cell_texts, known_cell_text, needs_quotes, records_text, record_text}}
use Rattle.update_text.{specs.declared.printed.PrintedFault.PrintedFault, specs.declared.printed.PrintedFault.TheVariants.Memory, specs.Reading.{AreAhead, Gives, has_tag, next_fields}, proofs.Digits.field_text-plain, proofs.Quoting.record_before, proofs.RowsBack.known_is_some}

-- an earlier text is less than a later one
before_later : (text : List ℕ) (texts : List (List ℕ)) (k : ℕ) → AllByRecursion (λ later. is_before text later ≡ true) texts → k < length texts → is_before text (get_or texts k []) ≡ true
before_later text [] k h less = absurd (omega arith)
before_later text (other ∷ texts) zero h less = h.0
before_later text (other ∷ texts) (suc k) h less = before_later text texts k h.1 (omega arith)

texts_before : (texts : List (List ℕ)) (j k : ℕ) → AreTexts texts → j < k → k < length texts → is_before (get_or texts j []) (get_or texts k []) ≡ true
texts_before [] j k h less within = absurd (omega arith)
texts_before (text ∷ texts) j zero h less within = absurd (omega arith)
texts_before (text ∷ texts) zero (suc k) h less within = before_later text texts k h.1 (omega arith)
texts_before (text ∷ texts) (suc j) (suc k) h less within = texts_before texts j k h.2 (omega arith) (omega arith)

own_equal : (o : Ordering) → o ≡ ordering_reverse o → o ≡ Equal
own_equal Less e = absurd (cc)
own_equal Equal e = refl
own_equal Greater e = absurd (cc)

-- how each text compares with the one at a place
abbrev compared : List (List ℕ) → ℕ → ℕ → Ordering
compared texts place k = slice_cmp nat_cmp (get_or texts k []) (get_or texts place [])

abbrev IsCase : ℕ → ℕ → Ordering → Type 0
IsCase place k o = ((k < place) × (o ≡ Less)) ⊎ (((k ≡ place) × (o ≡ Equal)) ⊎ ((place < k) × (o ≡ Greater)))

own_case : (texts : List (List ℕ)) (place : ℕ) → compared texts place place ≡ Equal
own_case texts place = own_equal (compared texts place place) (nat_list_cmp_total.antisymm (get_or texts place []) (get_or texts place []))

compared_is : (texts : List (List ℕ)) (place k : ℕ) → AreTexts texts → place < length texts → k < length texts → IsCase place k (compared texts place k)
compared_is texts place k h less within =
    elim (cases_lt k place) [
      | inl below ↦ inl (below, less_from (compared texts place k) (texts_before texts k place h below less))
      | inr above ↦
          elim (cases_eq k place) [
            | inl same ↦ inr (inl (same, ap (compared texts place) same ∙ own_case texts place))
            | inr other ↦
                let past : place < k = omega (arith, above, other) in
                inr (inr (
                  past,
                  nat_list_cmp_total.antisymm (get_or texts k []) (get_or texts place [])
                      ∙ ap ordering_reverse (less_from (slice_cmp nat_cmp (get_or texts place []) (get_or texts k [])) (texts_before texts place k h past within)),
                ))
          ]
    ]

case_rises : (place i j : ℕ) (a b : Ordering) → i ≤ j → IsCase place i a → IsCase place j b → ordering_index a ≤ ordering_index b
case_rises place i j a b le (inl x) y = omega (arith, ap ordering_index x.1)
case_rises place i j a b le (inr (inl x)) (inl y) = absurd (omega (arith, x.0, y.0))
case_rises place i j a b le (inr (inl x)) (inr (inl y)) = omega (arith, ap ordering_index x.1, ap ordering_index y.1)
case_rises place i j a b le (inr (inl x)) (inr (inr y)) = omega (arith, ap ordering_index x.1, ap ordering_index y.1)
case_rises place i j a b le (inr (inr x)) (inl y) = absurd (omega (arith, x.0, y.0))
case_rises place i j a b le (inr (inr x)) (inr (inl y)) = absurd (omega (arith, x.0, y.0))
case_rises place i j a b le (inr (inr x)) (inr (inr y)) = omega (arith, ap ordering_index x.1, ap ordering_index y.1)

equal_case : (place k : ℕ) (o : Ordering) → IsCase place k o → o ≡ Equal → k ≡ place
equal_case place k o (inl x) e = absurd (not_equal_less (sym x.1 ∙ e))
  where
    not_equal_less : Less ≡ Equal → ⊥
    not_equal_less e = cc
equal_case place k o (inr (inl x)) e = x.0
equal_case place k o (inr (inr x)) e = absurd (not_equal_greater (sym x.1 ∙ e))
  where
    not_equal_greater : Greater ≡ Equal → ⊥
    not_equal_greater e = cc

-- a search among the texts finds a text that is there
pub found_text : (texts : List (List ℕ)) (place : ℕ) (r : Result ℕ ℕ) → AreTexts texts → place < length texts → IsSearchInRange r (length texts) →
    IsBinarySearchResult (λ name. slice_cmp nat_cmp name (get_or texts place [])) texts r → result_ok r ≡ Some place
found_text texts place (Ok i) h less bound search_ = ap Some (equal_case place i (compared texts place i) (compared_is texts place i h less bound) (search_ []))
found_text texts place (Err i) h less bound search_ =
    let parted = search_ (λ i j d le within.
    subst (λ (a : List ℕ). ordering_index (slice_cmp nat_cmp a (get_or texts place [])) ≤ ordering_index (slice_cmp nat_cmp (get_or texts j d) (get_or texts place []))) (get_or_default texts i [] d (omega arith))
    (subst (λ (b : List ℕ). ordering_index (compared texts place i) ≤ ordering_index (slice_cmp nat_cmp b (get_or texts place []))) (get_or_default texts j [] d within)
    (case_rises place i j (compared texts place i) (compared texts place j) le (compared_is texts place i h less (omega arith)) (compared_is texts place j h less within)))) in
    elim (cases_lt place i) [
      | inl below ↦ absurd (less_is_not_equal (sym (parted.0 place [] (omega arith) below) ∙ own_case texts place))
      | inr above ↦ absurd (greater_is_not_equal (sym (parted.1 place [] above less) ∙ own_case texts place))
    ]
  where
    less_is_not_equal : Less ≡ Equal → ⊥
    less_is_not_equal e = cc

    greater_is_not_equal : Greater ≡ Equal → ⊥
    greater_is_not_equal e = cc

pub united_behind : (bound : ℕ) (ks keys : List ℕ) → AllByRecursion (λ key. key < bound) keys → AllByRecursion (λ key. bound ≤ key) ks → IsRising keys → IsRising ks → united ks keys ≡ keys ++ ks
united_behind bound ks keys below above rising behind =
    rising_same (united ks keys) (keys ++ ks) (united_rises ks keys rising) (rising-append bound keys ks below above rising behind)
    (λ key. among-united key ks keys ∙ or_turned (is_among key ks) (is_among key keys) ∙ sym (among-append key keys ks))

from_first : (first count : ℕ) → AllByRecursion (λ key. first ≤ key) (range_with_len first count)
from_first first zero = tt
from_first first (suc count) = (omega arith, every_weaker (λ key. first + 1 ≤ key) (λ key. first ≤ key) (range_with_len (first + 1) count) (λ key h. omega (arith, h)) (from_first (first + 1) count))

pub united_range : (first last : ℕ) (keys : List ℕ) → AllByRecursion (λ key. key < first) keys → IsRising keys → united (keys_from first last) keys ≡ keys ++ keys_from first last
united_range first last keys below rising =
    united_behind first (keys_from first last) keys below (from_first first (last + 1 - first)) rising (range_rises first (last + 1 - first))

-- the last of rising keys is the greatest
pub last_greatest : (keys : List ℕ) (bound last : ℕ) → IsRising keys → last_key keys ≡ Some last → last < bound → AllByRecursion (λ key. key < bound) keys
last_greatest [] bound last rising e less = tt
last_greatest (key ∷ []) bound last rising e less = (omega (arith, same_Some key last e), tt)
last_greatest (key ∷ next ∷ keys) bound last rising e less =
    let others = last_greatest (next ∷ keys) bound last rising.1 (sym (ap (λ n. slice_get (key ∷ next ∷ keys) n) (place (length keys))) ∙ e) less in
    (omega (arith, rising.0.0, others.0), others)
  where
    place : (n : ℕ) → suc (suc n) - 1 ≡ suc (suc n - 1)
    place n = omega arith

pub last_below : (keys : List ℕ) (bound last : ℕ) → last_key keys ≡ Some last → AllByRecursion (λ key. key < bound) keys → last < bound
last_below [] bound last e h = absurd (cc)
last_below (key ∷ []) bound last e h = omega (arith, same_Some key last e, h.0)
last_below (key ∷ next ∷ keys) bound last e h = last_below (next ∷ keys) bound last (sym (ap (λ n. slice_get (key ∷ next ∷ keys) n) (place (length keys))) ∙ e) h.1
  where
    place : (n : ℕ) → suc (suc n) - 1 ≡ suc (suc n - 1)
    place n = omega arith

-- a cell whose text is empty is null, and one whose text is not is told as what it is
pub null_cell : (texts : List (List ℕ)) (kind : Kind) (cell : ℤ) → AreTexts texts → FitsSigned w64 cell → fits_kind (length texts) kind cell ≡ true → cell_text texts kind cell ≡ [] → cell ≡ null
null_cell texts kind cell h fits kind_ =
    (elim (is_null cell) as (λ b. is_null cell ≡ b → cond b [] (known_cell_text texts kind cell) ≡ [] → cell ≡ null) [
      | true ↦ λ e _. (Decides-int_eq cell null).0 e
      | false ↦ λ e told. absurd (known_is_some texts kind cell h fits kind_ e told)
    ]) refl

pub known_cell : (texts : List (List ℕ)) (kind : Kind) (cell : ℤ) (field : List ℕ) → (length field == 0) ≡ false → field ≡ cell_text texts kind cell → (is_null cell ≡ false) × (field ≡ known_cell_text texts kind cell)
known_cell texts kind cell field some =
    (elim (is_null cell) as (λ b. is_null cell ≡ b → field ≡ cond b [] (known_cell_text texts kind cell) → (is_null cell ≡ false) × (field ≡ known_cell_text texts kind cell)) [
      | true ↦ λ _ told. absurd (true≢false (sym (ap (λ (bytes : List ℕ). length bytes == 0) told) ∙ some))
      | false ↦ λ e told. (e, told)
    ]) refl

-- one cell more
pub fit_more : (texts : ℕ) (columns : List ColumnSpec) (k : ℕ) (row : List ℤ) (cell : ℤ) (column : ColumnSpec) → k < length columns → column ≡ get_or columns k column →
    fit_columns texts (take k columns) row ≡ true → fits_kind texts column.kind cell ≡ true → fit_columns texts (take (k + 1) columns) (row ++ cell ∷ []) ≡ true
fit_more texts columns k row cell column less same fit fits =
    ap (λ some. fit_columns texts some (row ++ cell ∷ [])) (take_more columns k column less ∙ ap (λ last. take k columns ++ last ∷ []) (sym same))
    ∙ behind texts (take k columns) row column cell fit fits
  where
    behind : (texts : ℕ) (columns : List ColumnSpec) (row : List ℤ) (column : ColumnSpec) (cell : ℤ) → fit_columns texts columns row ≡ true → fits_kind texts column.kind cell ≡ true → fit_columns texts (columns ++ column ∷ []) (row ++ cell ∷ []) ≡ true
    behind texts [] [] column cell fit fits = ap (λ b. b && true) fits
    behind texts [] (x ∷ row) column cell fit fits = absurd (true≢false (sym fit))
    behind texts (first ∷ columns) [] column cell fit fits = absurd (true≢false (sym fit))
    behind texts (first ∷ columns) (x ∷ row) column cell fit fits =
        let parts = and_parts (fits_kind texts first.kind x) (fit_columns texts columns row) fit in
        ap (λ b. b && fit_columns texts (columns ++ column ∷ []) (row ++ cell ∷ [])) parts.0 ∙ behind texts columns row column cell parts.1 fits

-- the next of the cells that are still to come
pub next_cell : (texts : List (List ℕ)) (columns : List ColumnSpec) (k : ℕ) (todo : List ℤ) (column : ColumnSpec) → k < length columns → column ≡ get_or columns k column →
    fit_columns (length texts) (drop k columns) todo ≡ true →
    (cell : ℤ) × (later : List ℤ) × (todo ≡ cell ∷ later) × (fits_kind (length texts) column.kind cell ≡ true) × (fit_columns (length texts) (drop (k + 1) columns) later ≡ true)
    × (cell_texts texts (drop k columns) todo ≡ cell_text texts column.kind cell ∷ cell_texts texts (drop (k + 1) columns) later)
next_cell texts columns k todo column less same fit =
    let seam : drop k columns ≡ column ∷ drop (k + 1) columns = drop_more columns k column less ∙ ap (λ first. first ∷ drop (k + 1) columns) (sym same) in
    first_of todo (sym (ap (λ some. fit_columns (length texts) some todo) seam) ∙ fit) seam
  where
    first_of : (todo : List ℤ) → fit_columns (length texts) (column ∷ drop (k + 1) columns) todo ≡ true → drop k columns ≡ column ∷ drop (k + 1) columns →
        (cell : ℤ) × (later : List ℤ) × (todo ≡ cell ∷ later) × (fits_kind (length texts) column.kind cell ≡ true) × (fit_columns (length texts) (drop (k + 1) columns) later ≡ true)
        × (cell_texts texts (drop k columns) todo ≡ cell_text texts column.kind cell ∷ cell_texts texts (drop (k + 1) columns) later)
    first_of [] fit seam = absurd (true≢false (sym fit))
    first_of (cell ∷ later) fit seam =
        let parts = and_parts (fits_kind (length texts) column.kind cell) (fit_columns (length texts) (drop (k + 1) columns) later) fit in
        (cell, later, refl, parts.0, parts.1, ap (λ some. cell_texts texts some (cell ∷ later)) seam)

-- the first of the items that are told, and that there is none
module _ {X : Type 0} (record_of : X → List (List ℕ)) (Fits : X → Type 0) (tag : ℕ) where
  pub first_ahead : (items : List X) (rest bytes : List ℕ) → AreAhead record_of Fits tag items rest bytes → has_tag tag bytes ≡ true →
      (item : X) × (later : List X) × (items ≡ item ∷ later) × Fits item × (bytes ≡ record_text (record_of item) ++ (records_text (map record_of later) ++ rest)) × AllByRecursion Fits later × (has_tag tag rest ≡ false)
  first_ahead [] rest bytes ahead here = absurd (true≢false (sym here ∙ ap (has_tag tag) ahead.told ∙ ahead.ends))
  first_ahead (item ∷ later) rest bytes ahead here =
      (item, later, refl, ahead.fit.0, ahead.told ∙ append_assoc (record_text (record_of item)) (records_text (map record_of later)) rest, ahead.fit.1, ahead.ends)

  pub none_ahead : (items : List X) (rest bytes : List ℕ) → ((x : X) (u : List ℕ) → has_tag tag (record_text (record_of x) ++ u) ≡ true) → AreAhead record_of Fits tag items rest bytes → has_tag tag bytes ≡ false →
      (items ≡ []) × (bytes ≡ rest)
  none_ahead [] rest bytes tagged ahead none = (refl, ahead.told)
  none_ahead (item ∷ later) rest bytes tagged ahead none =
      absurd (true≢false (
      sym (tagged item (records_text (map record_of later) ++ rest))
      ∙ ap (has_tag tag) (sym (append_assoc (record_text (record_of item)) (records_text (map record_of later)) rest))
      ∙ sym (ap (has_tag tag) ahead.told) ∙ none
      ))

-- a record that a plain tag begins
pub tagged_text : (tag : ℕ) (field : List ℕ) (fields : List (List ℕ)) (u : List ℕ) → needs_quotes tag ≡ false → record_text ((tag ∷ []) ∷ field ∷ fields) ++ u ≡ tag ∷ next_fields (field ∷ fields) u
tagged_text tag field fields u plain =
    record_before (tag ∷ []) (field ∷ fields) u
    ∙ ap (λ (first : List ℕ). first ++ next_fields (field ∷ fields) u) (field_text-plain (tag ∷ []) (or_from (needs_quotes tag) false plain refl))

pub tagged_here : (tag : ℕ) (field : List ℕ) (fields : List (List ℕ)) (u : List ℕ) → needs_quotes tag ≡ false → has_tag tag (record_text ((tag ∷ []) ∷ field ∷ fields) ++ u) ≡ true
tagged_here tag field fields u plain = ap (has_tag tag) (tagged_text tag field fields u plain) ∙ ap (λ b. b && true) (eq-eqb tag tag refl)

some_at : (keys : List ℕ) (place : ℕ) → place < length keys → None ≡ slice_get keys place → ⊥
some_at [] place less e = absurd (omega arith)
some_at (key ∷ keys) zero less e = absurd (cc)
some_at (key ∷ keys) (suc place) less e = some_at keys place (omega arith) e

pub none_last : (keys : List ℕ) (bound : ℕ) → None ≡ last_key keys → AllByRecursion (λ key. key < bound) keys
none_last [] bound e = tt
none_last (key ∷ keys) bound e = absurd (some_at (key ∷ keys) (length (key ∷ keys) - 1) (omega arith) e)

pub none_from_test : (field : List ℕ) → (length field == 0) ≡ true → field ≡ []
none_from_test [] e = refl
none_from_test (byte ∷ field) e = let zero_ : length (byte ∷ field) ≡ 0 = eqb-true (length (byte ∷ field)) 0 e in absurd (omega (arith, zero_))

pub gives_memory : {T : Type 0} (result : Result T PrintedFault) (P : T → Type 0) (fault : PrintedFault) → IsErrAnd result (λ e. e ≡ fault) → fault ≡ Memory → Gives result P
gives_memory (Ok x) P fault h e = absurd h
gives_memory (Err f) P fault h e = h ∙ e
