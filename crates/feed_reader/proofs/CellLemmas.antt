-- The loop over the cells of a row.
use Rattle.std.proofs.Common.{◌≡◌, ℕ, ◌+◌, ◌^◌, ◌<◌, ◌≤◌, ℤ, pos, true, false, eqb, List, [], ◌∷◌, ◌++◌, map, take, drop, get_or, Option, Some, None, refl, sym, ap, ◌∙◌, subst, length, length-append, ⊎_elim, arith, length-drop}
use Rattle.std.{specs.Prelude.{flat_map, IfSome, option_map, slice_get, unsigned_abs}, specs.List.{AllByRecursion, zip}, specs.Str.bytes_eq, proofs.lemmas.Bool.{cond-true, cond-false, false_from_ne_true, or_left}, proofs.lemmas.Bool.Decides.Decides-int_eq, proofs.lemmas.Cmp.nat_list_eq_equiv, proofs.lemmas.List.{append-nil, append_assoc, length-map, map-append, take_more, take-append-drop, take_all, at_drop_more, get_or-drop}, proofs.lemmas.List.Concat.flat_map-append, proofs.lemmas.Option.{get_or_from_slice_get, slice_get_within}, proofs.lemmas.Slice.Zip.{get_or-zip, length-zip}}
use Rattle.key_lists.proofs.Every.{every-append}
use Rattle.tick_model.{specs.declared.plan.ColumnSpec.ColumnSpec, specs.declared.plan.Kind.Kind, specs.declared.plan.Kind.TheVariants.{Long as LongKind, Text as TextKind}, specs.Changes.is_none, specs.Tables.{null, is_null}}
use Rattle.feed_reader.{specs.declared.cells.ReadCells.ReadCells, specs.declared.raw.RawCell.RawCell, specs.declared.raw.RawCell.TheVariants.{Null, Long, Text}, specs.Cells.{with_first, all_some, long_of, cell_of, cell_in, cells_of, kinds_in, IsCellOf}, specs.Raw.{cell_texts, text_at, known_cell as told_cell, raw_cell, raw_cells, Grows, IsNumber, IsNumbering}, specs.ReadCells.{Reads, AreRead}, proofs.Orderly.{IsWithin, signed_fits}, proofs.RawLemmas.{grows_none, grows_on, grown_longer, numbers_kept, cells_kept}, proofs.TextLemmas.not_none}

-- one by one, until one is not there
with_first-none : {X : Type 0} (first : Option X) → with_first first None ≡ None
with_first-none None = refl
with_first-none (Some first) = refl

all_some-none : {X : Type 0} (before after : List (Option X)) → all_some (before ++ None ∷ after) ≡ None
all_some-none [] after = refl
all_some-none (first ∷ before) after = ap (with_first first) (all_some-none before after) ∙ with_first-none first

-- a loop that gathers what a function gives, and stops where it gives nothing
Ends : {X : Type 0} → X → Option (List X) → Option (List X) → Type 0
Ends y None all = all ≡ None
Ends y (Some ys) all = all ≡ Some (ys ++ y ∷ [])

one_before : {X : Type 0} (first : Option X) (before all : Option (List X)) (y : X) → Ends y before all → Ends y (with_first first before) (with_first first all)
unfolding Ends
one_before None before all y e = refl
one_before (Some x) None all y e = ap (with_first (Some x)) e
one_before (Some x) (Some ys) all y e = ap (with_first (Some x)) e

all_some-last : {X : Type 0} (xs : List (Option X)) (y : X) → Ends y (all_some xs) (all_some (xs ++ Some y ∷ []))
unfolding Ends
all_some-last [] y = refl
all_some-last (x ∷ xs) y = one_before x (all_some xs) (all_some (xs ++ Some y ∷ [])) y (all_some-last xs y)

ends_at : {X : Type 0} (y : X) (before all : Option (List X)) (ys : List X) → before ≡ Some ys → Ends y before all → all ≡ Some (ys ++ y ∷ [])
unfolding Ends
ends_at y before all ys is e = let P : Option (List _) → Type 0 = λ b. Ends y b all in subst P is e

gathered_more : {A B : Type 0} (f : A → Option B) (xs : List A) (i : ℕ) (d : A) (ys : List B) (y : B) → i < length xs → all_some (map f (take i xs)) ≡ Some ys → f (get_or xs i d) ≡ Some y → all_some (map f (take (i + 1) xs)) ≡ Some (ys ++ y ∷ [])
gathered_more f xs i d ys y within so_far next =
    ap (λ front. all_some (map f front)) (take_more xs i d within)
    ∙ ap all_some (map-append f (take i xs) (get_or xs i d ∷ []))
    ∙ ap (λ last. all_some (map f (take i xs) ++ last ∷ [])) next
    ∙ ends_at y (all_some (map f (take i xs))) (all_some (map f (take i xs) ++ Some y ∷ [])) ys so_far (all_some-last (map f (take i xs)) y)

gathered_stop : {A B : Type 0} (f : A → Option B) (xs : List A) (i : ℕ) (d : A) → i < length xs → f (get_or xs i d) ≡ None → all_some (map f xs) ≡ None
gathered_stop f xs i d within next =
    ap (λ ys. all_some (map f ys)) (sym (take-append-drop i xs) ∙ ap (λ rest. take i xs ++ rest) (at_drop_more (λ rest. rest) xs i d within))
    ∙ ap all_some (map-append f (take i xs) (get_or xs i d ∷ drop (i + 1) xs))
    ∙ ap (λ here. all_some (map f (take i xs) ++ here ∷ map f (drop (i + 1) xs))) next
    ∙ all_some-none (map f (take i xs)) (map f (drop (i + 1) xs))

gathered_all : {A B : Type 0} (f : A → Option B) (xs : List A) (i : ℕ) (ys : List B) → length xs ≤ i → all_some (map f (take i xs)) ≡ Some ys → all_some (map f xs) ≡ Some ys
gathered_all f xs i ys all so_far = ap (λ zs. all_some (map f zs)) (sym (take_all i xs all)) ∙ so_far

-- the cells are of the fields from a place on
zip-long : (columns : List ColumnSpec) (fields : List (List ℕ)) (first : ℕ) → length fields ≡ length columns + first → length (zip columns (drop first fields)) ≡ length columns
zip-long columns fields first whole = length-zip columns (drop first fields) ∙ rw (length-drop first fields) (omega arith)

cell_at : (columns : List ColumnSpec) (fields : List (List ℕ)) (first i : ℕ) (d : ColumnSpec) → length fields ≡ length columns + first → i < length columns → get_or (zip columns (drop first fields)) i (d, []) ≡ (get_or columns i d, get_or fields (first + i) [])
cell_at columns fields first i d whole within =
    get_or-zip columns (drop first fields) i (d, []) within (rw (length-drop first fields) (omega arith))
    ∙ ap (λ (text : List ℕ). let pair : ColumnSpec × List ℕ = (get_or columns i d, text) in pair) (get_or-drop first fields i [])

pub cells_stop : (columns : List ColumnSpec) (fields : List (List ℕ)) (first i : ℕ) (d : ColumnSpec) → length fields ≡ length columns + first → i < length columns → cell_of (get_or columns i d).kind (get_or fields (first + i) []) ≡ None → cells_of columns (drop first fields) ≡ None
cells_stop columns fields first i d whole within next =
    gathered_stop cell_in (zip columns (drop first fields)) i (d, []) (rw (zip-long columns fields first whole) within) (ap cell_in (cell_at columns fields first i d whole within) ∙ next)

pub cells_more : (columns : List ColumnSpec) (fields : List (List ℕ)) (first i : ℕ) (d : ColumnSpec) (cells : List RawCell) (cell : RawCell) → length fields ≡ length columns + first → i < length columns → all_some (map cell_in (take i (zip columns (drop first fields)))) ≡ Some cells → cell_of (get_or columns i d).kind (get_or fields (first + i) []) ≡ Some cell → all_some (map cell_in (take (i + 1) (zip columns (drop first fields)))) ≡ Some (cells ++ cell ∷ [])
cells_more columns fields first i d cells cell whole within so_far next =
    gathered_more cell_in (zip columns (drop first fields)) i (d, []) cells cell (rw (zip-long columns fields first whole) within) so_far (ap cell_in (cell_at columns fields first i d whole within) ∙ next)

pub cells_all : (columns : List ColumnSpec) (fields : List (List ℕ)) (first i : ℕ) (cells : List RawCell) → length fields ≡ length columns + first → length columns ≤ i → all_some (map cell_in (take i (zip columns (drop first fields)))) ≡ Some cells → cells_of columns (drop first fields) ≡ Some cells
cells_all columns fields first i cells whole all so_far =
    gathered_all cell_in (zip columns (drop first fields)) i cells (rw (zip-long columns fields first whole) all) so_far

-- cells that are read behind others
zip_push : {X Y : Type 0} (xs : List X) (ys : List Y) (x : X) (y : Y) → length ys ≡ length xs → zip (xs ++ x ∷ []) (ys ++ y ∷ []) ≡ zip xs ys ++ (x, y) ∷ []
zip_push [] [] x y same = refl
zip_push [] (b ∷ ys) x y same = absurd (omega (arith, same))
zip_push (a ∷ xs) [] x y same = absurd (omega (arith, same))
zip_push (a ∷ xs) (b ∷ ys) x y same = ap (λ rest. (a, b) ∷ rest) (zip_push xs ys x y (omega (arith, same)))

module _ (front : List ColumnSpec) (column : ColumnSpec) (before mid after : ReadCells) (cells : List RawCell) (own : List ℤ) (n : ℤ) (reads : Reads front before mid cells own) (number : IsNumber (length after.texts) (column.kind, n)) (grows : Grows mid.texts after.texts (cell_texts (raw_cell after.texts (column.kind, n)))) (put : after.cells.items ≡ mid.cells.items ++ n ∷ []) where
  abbrev last : Kind × ℤ
  last = (column.kind, n)

  pairs : zip (kinds_in (front ++ column ∷ [])) (own ++ n ∷ []) ≡ zip (kinds_in front) own ++ last ∷ []
  pairs =
      ap (λ (kinds : List Kind). zip kinds (own ++ n ∷ [])) (map-append (λ (spec : ColumnSpec). spec.kind) front (column ∷ []))
      ∙ zip_push (kinds_in front) own column.kind n (reads.whole ∙ sym (length-map front (λ (spec : ColumnSpec). spec.kind)))

  kept : raw_cells after.texts (kinds_in front) own ≡ cells
  kept = ap (λ (texts : List (List ℕ)). raw_cells texts (kinds_in front) own) grows.1 ∙ cells_kept mid.texts grows.0 (kinds_in front) own reads.numbers ∙ reads.cells_are

  pub reads_push : Reads (front ++ column ∷ []) before after (cells ++ raw_cell after.texts (column.kind, n) ∷ []) (own ++ n ∷ [])
  reads_push =
      let cell = raw_cell after.texts last in
      let more = grown_longer mid.texts after.texts (cell_texts cell) grows in
      record {
        behind = put ∙ ap (λ (all : List ℤ). all ++ n ∷ []) reads.behind ∙ append_assoc before.cells.items own (n ∷ []);
        whole = omega (arith, length-append own (n ∷ []), length-append front (column ∷ []), reads.whole);
        numbers =
            subst (AllByRecursion (IsNumber (length after.texts))) (sym pairs)
            (every-append (IsNumber (length after.texts)) (zip (kinds_in front) own) (last ∷ []) (numbers_kept (length mid.texts) (length after.texts) (kinds_in front) own more reads.numbers) (number, tt));
        cells_are =
            ap (map (raw_cell after.texts)) pairs ∙ map-append (raw_cell after.texts) (zip (kinds_in front) own) (last ∷ []) ∙ ap (λ (all : List RawCell). all ++ cell ∷ []) kept;
        grows =
            subst (Grows before.texts after.texts) (sym (flat_map-append cell_texts cells (cell ∷ []) ∙ ap (λ (texts : List (List ℕ)). flat_map cell_texts cells ++ texts) (append-nil (cell_texts cell))))
            (grows_on before.texts mid.texts after.texts (flat_map cell_texts cells) (cell_texts cell) reads.grows grows);
      }

-- so many cells of a row are read
pub record ReadSoFar (columns : List ColumnSpec) (fields : List (List ℕ)) (first i : ℕ) (before now : ReadCells) : Type 0 where
  pub cells : List RawCell
  pub own : List ℤ
  pub spelt : all_some (map cell_in (take i (zip columns (drop first fields)))) ≡ Some cells
  pub reads : Reads (take i columns) before now cells own

pub none_so_far : (columns : List ColumnSpec) (fields : List (List ℕ)) (first : ℕ) (read : ReadCells) → ReadSoFar columns fields first 0 read read
none_so_far columns fields first read = record {
  cells = [];
  own = [];
  spelt = refl;
  reads = record { behind = sym (append-nil read.cells.items); whole = refl; numbers = tt; cells_are = refl; grows = grows_none read.texts };
}

module _ (columns : List ColumnSpec) (fields : List (List ℕ)) (first i : ℕ) (before mid : ReadCells) (whole : length fields ≡ length columns + first) where
  pub more_so_far : (column : ColumnSpec) (after : ReadCells) (n : ℤ) → i < length columns → column ≡ get_or columns i column → ReadSoFar columns fields first i before mid → IsCellOf column.kind (get_or fields (first + i) []) mid.texts after.texts (Some n) → after.cells.items ≡ mid.cells.items ++ n ∷ [] → ReadSoFar columns fields first (i + 1) before after
  more_so_far column after n within here so_far is put =
      let cell = raw_cell after.texts (column.kind, n) in record {
        cells = so_far.cells ++ cell ∷ [];
        own = so_far.own ++ n ∷ [];
        spelt = cells_more columns fields first i column so_far.cells cell whole within so_far.spelt (ap (λ (spec : ColumnSpec). cell_of spec.kind (get_or fields (first + i) [])) (sym here) ∙ is.0);
        reads =
            subst (λ (front : List ColumnSpec). Reads front before after (so_far.cells ++ cell ∷ []) (so_far.own ++ n ∷ []))
            (sym (take_more columns i column within ∙ ap (λ (spec : ColumnSpec). take i columns ++ spec ∷ []) (sym here)))
            (reads_push (take i columns) column before mid after so_far.cells so_far.own n so_far.reads is.1 is.2 put);
      }

  pub stopped : (column : ColumnSpec) (after : ReadCells) → i < length columns → column ≡ get_or columns i column → cell_of column.kind (get_or fields (first + i) []) ≡ None → AreRead columns before after false (cells_of columns (drop first fields))
  stopped column after within here none =
      subst (AreRead columns before after false)
      (sym (cells_stop columns fields first i column whole within (ap (λ (spec : ColumnSpec). cell_of spec.kind (get_or fields (first + i) [])) (sym here) ∙ none))) refl

  pub all_read : length columns ≤ i → ReadSoFar columns fields first i before mid → AreRead columns before mid true (cells_of columns (drop first fields))
  all_read all so_far =
      subst (AreRead columns before mid true) (sym (cells_all columns fields first i so_far.cells whole all so_far.spelt))
      (refl, (so_far.own, subst (λ (front : List ColumnSpec). Reads front before mid so_far.cells so_far.own) (take_all i columns all) so_far.reads))

-- a cell in which a text has its number
null_null : is_null null ≡ true
null_null = (Decides-int_eq null null).1 refl

not_null : (n : ℤ) → IsWithin (2 ^ 63) n → is_null n ≡ false
not_null n within =
    false_from_ne_true (is_null n)
    (λ e. let large : unsigned_abs null < 2 ^ 63 = subst (IsWithin (2 ^ 63)) ((Decides-int_eq n null).0 e) within in absurd (omega (arith, large)))

no_number : (count : ℕ) (kind : Kind) → IsNumber count (kind, null)
no_number count LongKind = tt
no_number count TextKind = λ some. let none = null_null in cc

-- a cell without a text
textless : (kind : Kind) (field : List ℕ) (texts : List (List ℕ)) (n : ℤ) (cell : RawCell) → cell_of kind field ≡ Some cell → raw_cell texts (kind, n) ≡ cell → cell_texts cell ≡ [] → IsNumber (length texts) (kind, n) → IsCellOf kind field texts texts (Some n)
textless kind field texts n cell spelt is none number = (
  spelt ∙ ap Some (sym is),
  number,
  subst (Grows texts texts) (sym (ap cell_texts is ∙ none)) (grows_none texts),
)

pub null_cell : (kind : Kind) (field : List ℕ) (texts : List (List ℕ)) → length field ≡ 0 → IsCellOf kind field texts texts (Some null)
null_cell kind [] texts none = textless kind [] texts null Null refl (cond-true (is_null null) Null (told_cell texts kind null) null_null) refl (no_number (length texts) kind)
null_cell kind (x ∷ xs) texts none = absurd (omega (arith, none))

long_told : (field : List ℕ) (texts : List (List ℕ)) (o : Option ℤ) → cell_of LongKind field ≡ option_map Long o → IfSome o (IsWithin (2 ^ 63)) → IsCellOf LongKind field texts texts o
long_told field texts None spelt within = spelt
long_told field texts (Some n) spelt within = textless LongKind field texts n (Long n) spelt (cond-false (is_null n) Null (Long n) (not_null n within)) refl tt

pub long_cell : (field : List ℕ) (texts : List (List ℕ)) → eqb (length field) 0 ≡ false → IsCellOf LongKind field texts texts (long_of field)
long_cell field texts some = long_told field texts (long_of field) (cond-false (is_none field) (Some Null) (option_map Long (long_of field)) (not_none field some)) (signed_fits (2 ^ 63) field)

grows_by : (field : List ℕ) (texts new : List (List ℕ)) → IsNumbering field texts new → Grows texts new (field ∷ [])
grows_by field texts new numbered =
    ⊎_elim (λ same. ([], same ∙ sym (append-nil texts), tt))
    (λ more. (field ∷ [], more, (or_left (bytes_eq field field) false (nat_list_eq_equiv.refl field), tt))) numbered

pub text_cell : (field : List ℕ) (texts new : List (List ℕ)) (number : ℕ) → eqb (length field) 0 ≡ false → slice_get new number ≡ Some field → IsNumbering field texts new → IsCellOf TextKind field texts new (Some (pos number))
text_cell field texts new number some found numbered =
    let known : is_null (pos number) ≡ false = refl in
    let is : raw_cell new (TextKind, pos number) ≡ Text field =
    cond-false (is_null (pos number)) Null (Text (text_at new (pos number))) known ∙ ap Text (get_or_from_slice_get new number field [] found) in (
      cond-false (is_none field) (Some Null) (Some (Text field)) (not_none field some) ∙ ap Some (sym is),
      (λ _. (number, refl, slice_get_within new number field found)),
      subst (Grows texts new) (sym (ap cell_texts is)) (grows_by field texts new numbered),
    )
