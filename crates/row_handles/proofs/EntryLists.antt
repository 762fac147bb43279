-- Lists of rows: the handles under keys, what `with_row` makes of them, and where they begin.
use Rattle.std.proofs.Common.{◌≡◌, ◌≢◌, refl, ap, sym, ◌∙◌, subst, Bool, true, false, cond, ℕ, ◌<◌, ◌≤◌, arith, List, [], ◌∷◌, ◌++◌, inl, inr, ◌==◌, Some, None, filter}
use Rattle.std.{specs.Option.option_or, specs.List.AllByRecursion, proofs.lemmas.Bool.{ne_eqb, eq-eqb, lt-ltb, cases_eq, le-ltb}}
use Rattle.key_lists.{specs.Keys.IsRising, proofs.Every.{every_weaker, every_unmapped, every-map, every-filter, every-append}, proofs.Parts.{every_front, every_back}}
use Rattle.row_handles.{specs.Entries.{Entry, entry_of, keys_of, handle_under, key_with, with_row, Ascend}, specs.Blocks.BeginAt, proofs.Lists.none_some}

-- two lists one after the other
pub handle_under-append : (key : ℕ) (xs ys : List Entry) → handle_under key (xs ++ ys) ≡ option_or (handle_under key xs) (handle_under key ys)
handle_under-append key [] ys = refl
handle_under-append key (x ∷ xs) ys =
    elim (x.key == key) as (λ b. cond b (Some x.handle) (handle_under key (xs ++ ys)) ≡ option_or (cond b (Some x.handle) (handle_under key xs)) (handle_under key ys)) [
      | true ↦ refl
      | false ↦ handle_under-append key xs ys
    ]

-- where no row has the key
pub handle_under-none : (key : ℕ) (xs : List Entry) → AllByRecursion (λ x. x.key ≢ key) xs → handle_under key xs ≡ None
handle_under-none key [] h = refl
handle_under-none key (x ∷ xs) h = ap (λ b. cond b (Some x.handle) (handle_under key xs)) (ne_eqb x.key key h.0) ∙ handle_under-none key xs h.1

pub handle_under-below : (key : ℕ) (xs : List Entry) → AllByRecursion (λ x. x.key < key) xs → handle_under key xs ≡ None
handle_under-below key xs h = handle_under-none key xs (every_weaker (λ x. x.key < key) (λ x. x.key ≢ key) xs (λ x lt e. omega arith) h)

pub handle_under-above : (key : ℕ) (xs : List Entry) → AllByRecursion (λ x. key < x.key) xs → handle_under key xs ≡ None
handle_under-above key xs h = handle_under-none key xs (every_weaker (λ x. key < x.key) (λ x. x.key ≢ key) xs (λ x lt e. omega arith) h)

pub absent_all : (key : ℕ) (xs : List Entry) → handle_under key xs ≡ None → AllByRecursion (λ x. x.key ≢ key) xs
absent_all key [] e = tt
absent_all key (x ∷ xs) e =
    elim (cases_eq x.key key) [
      | inl same ↦ absurd (none_some x.handle (sym e ∙ ap (λ b. cond b (Some x.handle) (handle_under key xs)) (eq-eqb x.key key same)))
      | inr other ↦ (other, absent_all key xs (sym (ap (λ b. cond b (Some x.handle) (handle_under key xs)) (ne_eqb x.key key other)) ∙ e))
    ]

pub none_with : (handle : ℕ) (xs : List Entry) → AllByRecursion (λ x. x.handle ≢ handle) xs → key_with handle xs ≡ None
none_with handle [] h = refl
none_with handle (x ∷ xs) h = ap (λ b. cond b (Some x.key) (key_with handle xs)) (ne_eqb x.handle handle h.0) ∙ none_with handle xs h.1

-- one row more, past those below its key and before those above it
pub with_row-between : (key handle : ℕ) (xs ys : List Entry) → AllByRecursion (λ x. x.key < key) xs → AllByRecursion (λ y. key < y.key) ys → with_row key handle (xs ++ ys) ≡ xs ++ entry_of key handle ∷ ys
with_row-between key handle [] [] h k = refl
with_row-between key handle [] (y ∷ ys) h k = ap (λ b. cond b (y ∷ with_row key handle ys) (entry_of key handle ∷ y ∷ ys)) (le-ltb y.key key (omega arith))
with_row-between key handle (x ∷ xs) ys h k =
    ap (λ b. cond b (x ∷ with_row key handle (xs ++ ys)) (entry_of key handle ∷ x ∷ (xs ++ ys))) (lt-ltb x.key key h.0)
    ∙ ap (λ zs. x ∷ zs) (with_row-between key handle xs ys h.1 k)

pub ascend_between : (entry : Entry) (xs ys : List Entry) → AllByRecursion (λ x. x.key < entry.key) xs → AllByRecursion (λ y. entry.key < y.key) ys → Ascend (xs ++ ys) → Ascend (xs ++ entry ∷ ys)
ascend_between entry [] ys h k a = (k, a)
ascend_between entry (x ∷ xs) ys h k a =
    (every-append (λ y. x.key < y.key) xs (entry ∷ ys) (every_front (λ y. x.key < y.key) xs ys a.0) (h.0, every_back (λ y. x.key < y.key) xs ys a.0), ascend_between entry xs ys h.1 k a.1)

-- rows that ascend have rising keys
pub rising_keys : (xs : List Entry) → Ascend xs → IsRising (keys_of xs)
rising_keys [] h = tt
rising_keys (x ∷ xs) h = (every-map (λ key. x.key < key) (λ y. y.key) xs h.0, rising_keys xs h.1)

pub ascend_by_keys : (xs : List Entry) → IsRising (keys_of xs) → Ascend xs
ascend_by_keys [] h = tt
ascend_by_keys (x ∷ xs) h = (every_unmapped (λ key. x.key < key) (λ y. y.key) xs h.0, ascend_by_keys xs h.1)

pub ascend-filter : (p : Entry → Bool) (xs : List Entry) → Ascend xs → Ascend (filter p xs)
ascend-filter p [] h = tt
ascend-filter p (x ∷ xs) h =
    elim (p x) as (λ b. Ascend (cond b (x ∷ filter p xs) (filter p xs))) [
      | true ↦ (every-filter (λ y. x.key < y.key) p xs h.0, ascend-filter p xs h.1)
      | false ↦ ascend-filter p xs h.1
    ]

pub ascend_front : (xs ys : List Entry) → Ascend (xs ++ ys) → Ascend xs
ascend_front [] ys h = tt
ascend_front (x ∷ xs) ys h = (every_front (λ y. x.key < y.key) xs ys h.0, ascend_front xs ys h.1)

pub ascend_back : (xs ys : List Entry) → Ascend (xs ++ ys) → Ascend ys
ascend_back [] ys h = h
ascend_back (x ∷ xs) ys h = ascend_back xs ys h.1

-- rows that begin at a key
pub begin_has : (P : ℕ → Type 0) (key : ℕ) (xs : List Entry) → BeginAt key xs → AllByRecursion (λ x. P x.key) xs → P key
begin_has P key [] begin h = absurd begin
begin_has P key (x ∷ xs) begin h = subst P begin h.0

pub from_begin : (key : ℕ) (xs : List Entry) → BeginAt key xs → Ascend xs → AllByRecursion (λ x. key ≤ x.key) xs
from_begin key [] begin h = tt
from_begin key (x ∷ xs) begin h = (omega arith, every_weaker (λ y. x.key < y.key) (λ y. key ≤ y.key) xs (λ y lt. omega arith) h.0)

pub begin_below : (key : ℕ) (xs ys : List Entry) → BeginAt key xs → Ascend (xs ++ ys) → AllByRecursion (λ y. key < y.key) ys
begin_below key [] ys begin h = absurd begin
begin_below key (x ∷ xs) ys begin h = every_weaker (λ y. x.key < y.key) (λ y. key < y.key) ys (λ y lt. omega arith) (every_back (λ y. x.key < y.key) xs ys h.0)

pub below_begin : (key : ℕ) (xs ys zs : List Entry) → BeginAt key ys → Ascend (xs ++ (ys ++ zs)) → AllByRecursion (λ x. x.key < key) xs
below_begin key [] ys zs begin h = tt
below_begin key (x ∷ xs) ys zs begin h =
    (begin_has (λ k. x.key < k) key ys begin (every_front (λ y. x.key < y.key) ys zs (every_back (λ y. x.key < y.key) xs (ys ++ zs) h.0)), below_begin key xs ys zs begin h.1)
