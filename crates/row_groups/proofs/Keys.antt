-- Rows by their keys: what handles show of them, and one that comes back.
use Rattle.std.proofs.Common.{◌≡◌, ◌≢◌, refl, ap, sym, ◌∙◌, subst, Bool, true, false, not, cond, ◌&&◌, ◌||◌, ltb, eqb, ℕ, ◌^◌, ◌<◌, arith, List, [], ◌∷◌, ◌++◌, filter, Option, Some, None, is_some, option_map, unwrap_or, if◌then◌else◌}
use Rattle.std.{specs.List.AllByRecursion, proofs.lemmas.Bool.{eq-eqb, ne_eqb, eqb-true, ltb-true, ltb-false, lt-ltb}, proofs.lemmas.Option.{none-some, same_Some}}
use Rattle.key_lists.{specs.Keys.is_among, proofs.Every.{every, every_weaker, every_both, every-filter, every-map, every_unmapped, filter_filter, filter_same, filter_all, map_map}, proofs.Among.among-append, proofs.Booleans.neither}
use Rattle.row_set.specs.Sets.{IsKeySet}
use Rattle.row_handles.{specs.Entries.{AreDistinct, AreHandled, Ascend, Entry, entry_of, handle_under, handles_of, key_with, keys_of, left_rows, moved_row, moved_rows, with_row}, proofs.Moving.{moved_ascend, moved_small}, proofs.EntryLists.{absent_all, ascend_by_keys, ascend-filter, rising_keys, with_row-between}, proofs.Laws.handle_under-with_row}
use Rattle.tick_model.{specs.declared.update.ShiftRange.ShiftRange, specs.Rules.shift_fault}

-- where there is something of it, it is there
pub some_of : {X Y : Type 0} (f : X → Y) (o : Option X) (y : Y) → option_map f o ≡ Some y → is_some o ≡ true
some_of f None y e = absurd (none-some y e)
some_of f (Some x) y e = refl

-- the row of a key, and what holds of it
has_by : (P : Entry → Type 0) (key handle : ℕ) (x : Entry) (found : Option ℕ) → P x → (found ≡ Some handle → P (entry_of key handle)) → (b : Bool) → eqb x.key key ≡ b → (if b then Some x.handle else found) ≡ Some handle → P (entry_of key handle)
has_by P key handle x found p rest true same is =
    subst P (ap (λ k. entry_of k x.handle) (eqb-true x.key key same) ∙ ap (entry_of key) (same_Some x.handle handle is)) p
has_by P key handle x found p rest false same is = rest is

pub under_has : (P : Entry → Type 0) (key handle : ℕ) (xs : List Entry) → AllByRecursion P xs → handle_under key xs ≡ Some handle → P (entry_of key handle)
under_has P key handle [] h e = absurd (none-some handle e)
under_has P key handle (x ∷ xs) h e = has_by P key handle x (handle_under key xs) h.0 (under_has P key handle xs h.1) (eqb x.key key) refl e

-- each handle leads to the key of its row
pub known_all : (xs : List Entry) → AreDistinct (handles_of xs) → AllByRecursion (λ x. key_with x.handle xs ≡ Some x.key) xs
known_all [] d = tt
known_all (x ∷ xs) d = (
  ap (λ b. if b then Some x.key else key_with x.handle xs) (eq-eqb x.handle x.handle refl),
  every_both (λ y. x.handle ≢ y.handle) (λ y. key_with y.handle xs ≡ Some y.key) (λ y. key_with y.handle (x ∷ xs) ≡ Some y.key) xs
      (λ y apart e. ap (λ b. if b then Some x.key else key_with y.handle xs) (ne_eqb x.handle y.handle apart) ∙ e)
      (every_unmapped (λ n. x.handle ≢ n) (λ y. y.handle) xs d.0) (known_all xs d.1),
)

-- the rows without a key whose rows all are above it
apart_from : (key : ℕ) (x : Entry) → key ≢ x.key → not (is_among x.key (key ∷ [])) ≡ true
apart_from key x ne = ap (λ b. not (b || false)) (ne_eqb key x.key ne)

pub left_above : (key : ℕ) (xs : List Entry) → AllByRecursion (λ x. key < x.key) xs → left_rows (key ∷ []) xs ≡ xs
left_above key xs h =
    filter_same (λ x. not (is_among x.key (key ∷ []))) (λ _. true) xs (every_weaker (λ x. key < x.key) (λ x. not (is_among x.key (key ∷ [])) ≡ true) xs (λ x lt. apart_from key x (λ e. omega arith)) h)
    ∙ filter_all xs

-- a row that leaves and comes again
restored_by : (key handle : ℕ) (x : Entry) (xs : List Entry) → Ascend (x ∷ xs) → (handle_under key xs ≡ Some handle → xs ≡ with_row key handle (left_rows (key ∷ []) xs)) → (b : Bool) → eqb x.key key ≡ b → (if b then Some x.handle else handle_under key xs) ≡ Some handle → x ∷ xs ≡ with_row key handle (left_rows (key ∷ []) (x ∷ xs))
restored_by key handle x xs up rest true same is =
    let own = eqb-true x.key key same in
    let above = subst (λ k. AllByRecursion (λ y. k < y.key) xs) own up.0 in
    ap (λ e. e ∷ xs) (ap (λ k. entry_of k x.handle) own ∙ ap (entry_of key) (same_Some x.handle handle is))
    ∙ sym (with_row-between key handle [] xs tt above)
    ∙ ap (with_row key handle) (sym (ap (λ b. cond b (x ∷ left_rows (key ∷ []) xs) (left_rows (key ∷ []) xs)) (ap (λ b. not (b || false)) (eq-eqb key x.key (sym own))) ∙ left_above key xs above))
restored_by key handle x xs up rest false same is =
    let lt : x.key < key = under_has (λ y. x.key < y.key) key handle xs up.0 is in
    ap (λ ys. x ∷ ys) (rest is)
    ∙ sym (ap (λ b. if b then x ∷ with_row key handle (left_rows (key ∷ []) xs) else entry_of key handle ∷ x ∷ left_rows (key ∷ []) xs) (lt-ltb x.key key lt))
    ∙ ap (with_row key handle) (sym (ap (λ b. cond b (x ∷ left_rows (key ∷ []) xs) (left_rows (key ∷ []) xs)) (apart_from key x (λ e. omega arith))))

pub restored : (key handle : ℕ) (xs : List Entry) → Ascend xs → handle_under key xs ≡ Some handle → xs ≡ with_row key handle (left_rows (key ∷ []) xs)
restored key handle [] up e = absurd (none-some handle e)
restored key handle (x ∷ xs) up e = restored_by key handle x xs up (restored key handle xs up.1) (eqb x.key key) refl e

-- a row that comes and leaves again
left_again_by : (key handle : ℕ) (x : Entry) (xs : List Entry) → Ascend (x ∷ xs) → (x.key ≢ key) → left_rows (key ∷ []) (with_row key handle xs) ≡ xs → left_rows (key ∷ []) xs ≡ xs → (b : Bool) → left_rows (key ∷ []) (if b then x ∷ with_row key handle xs else entry_of key handle ∷ x ∷ xs) ≡ x ∷ xs
left_again_by key handle x xs up ne rest own true =
    ap (λ b. cond b (x ∷ left_rows (key ∷ []) (with_row key handle xs)) (left_rows (key ∷ []) (with_row key handle xs))) (apart_from key x (λ e. ne (sym e))) ∙ ap (λ ys. x ∷ ys) rest
left_again_by key handle x xs up ne rest own false =
    ap (λ b. cond b (entry_of key handle ∷ left_rows (key ∷ []) (x ∷ xs)) (left_rows (key ∷ []) (x ∷ xs))) (ap (λ b. not (b || false)) (eq-eqb key key refl))
    ∙ ap (λ b. cond b (x ∷ left_rows (key ∷ []) xs) (left_rows (key ∷ []) xs)) (apart_from key x (λ e. ne (sym e)))
    ∙ ap (λ ys. x ∷ ys) own

left_absent : (key : ℕ) (xs : List Entry) → AllByRecursion (λ x. x.key ≢ key) xs → left_rows (key ∷ []) xs ≡ xs
left_absent key xs h =
    filter_same (λ x. not (is_among x.key (key ∷ []))) (λ _. true) xs (every_weaker (λ x. x.key ≢ key) (λ x. not (is_among x.key (key ∷ [])) ≡ true) xs (λ x ne. apart_from key x (λ e. ne (sym e))) h)
    ∙ filter_all xs

left_with : (key handle : ℕ) (xs : List Entry) → Ascend xs → AllByRecursion (λ x. x.key ≢ key) xs → left_rows (key ∷ []) (with_row key handle xs) ≡ xs
left_with key handle [] up h = ap (λ b. cond b (entry_of key handle ∷ []) []) (ap (λ b. not (b || false)) (eq-eqb key key refl))
left_with key handle (x ∷ xs) up h = left_again_by key handle x xs up h.0 (left_with key handle xs up.1 h.1) (left_absent key xs h.1) (ltb x.key key)

pub left_again : (key handle : ℕ) (xs : List Entry) → Ascend xs → handle_under key xs ≡ None → left_rows (key ∷ []) (with_row key handle xs) ≡ xs
left_again key handle xs up absent = left_with key handle xs up (absent_all key xs absent)

pub under_own : (key handle : ℕ) (xs : List Entry) → handle_under key xs ≡ None → handle_under key (with_row key handle xs) ≡ Some handle
under_own key handle xs absent = handle_under-with_row key key handle xs ∙ ap (λ b. cond b (Some handle) (handle_under key xs)) (eq-eqb key key refl)

-- rows that leave key by key
pub left_more : (gone : List ℕ) (key : ℕ) (xs : List Entry) → left_rows (gone ++ key ∷ []) xs ≡ left_rows (key ∷ []) (left_rows gone xs)
left_more gone key xs =
    filter_same (λ x. not (is_among x.key (gone ++ key ∷ []))) (λ x. not (is_among x.key gone) && not (is_among x.key (key ∷ []))) xs
    (every (λ x. not (is_among x.key (gone ++ key ∷ [])) ≡ (not (is_among x.key gone) && not (is_among x.key (key ∷ [])))) xs (λ x. ap not (among-append x.key gone (key ∷ [])) ∙ sym (neither (is_among x.key gone) (is_among x.key (key ∷ [])))))
    ∙ sym (filter_filter (λ x. not (is_among x.key (key ∷ []))) (λ x. not (is_among x.key gone)) xs)

pub left_none : (xs : List Entry) → left_rows [] xs ≡ xs
left_none xs = filter_all xs

-- a key that no row has does not matter
pub left_missing : (key : ℕ) (xs : List Entry) → handle_under key xs ≡ None → left_rows (key ∷ []) xs ≡ xs
left_missing key xs absent = left_absent key xs (absent_all key xs absent)

-- what handles show after a row came
pub every-with_row : (P : Entry → Type 0) (key handle : ℕ) (xs : List Entry) → P (entry_of key handle) → AllByRecursion P xs → AllByRecursion P (with_row key handle xs)
every-with_row P key handle [] p h = (p, tt)
every-with_row P key handle (x ∷ xs) p h =
    elim (ltb x.key key) as (λ b. AllByRecursion P (if b then x ∷ with_row key handle xs else entry_of key handle ∷ x ∷ xs)) [
      | true ↦ (h.0, every-with_row P key handle xs p h.1)
      | false ↦ (p, h)
    ]

ascend_by : (key handle : ℕ) (x : Entry) (xs : List Entry) → Ascend (x ∷ xs) → x.key ≢ key → Ascend (with_row key handle xs) → (b : Bool) → ltb x.key key ≡ b → Ascend (if b then x ∷ with_row key handle xs else entry_of key handle ∷ x ∷ xs)
ascend_by key handle x xs up ne rest true e = (every-with_row (λ y. x.key < y.key) key handle xs (ltb-true x.key key e) up.0, rest)
ascend_by key handle x xs up ne rest false e =
    let first : key < x.key = omega (arith, ltb-false x.key key e, ne) in
    ((first, every_weaker (λ y. x.key < y.key) (λ y. key < y.key) xs (λ y lt. omega (arith, first, lt)) up.0), up)

ascend_with : (key handle : ℕ) (xs : List Entry) → Ascend xs → AllByRecursion (λ x. x.key ≢ key) xs → Ascend (with_row key handle xs)
ascend_with key handle [] up h = (tt, tt)
ascend_with key handle (x ∷ xs) up h = ascend_by key handle x xs up h.0 (ascend_with key handle xs up.1 h.1) (ltb x.key key) refl

distinct_with : (key handle : ℕ) (xs : List Entry) → AreDistinct (handles_of xs) → AllByRecursion (λ x. x.handle ≢ handle) xs → AreDistinct (handles_of (with_row key handle xs))
distinct_with key handle [] d h = (tt, tt)
distinct_with key handle (x ∷ xs) d h =
    elim (ltb x.key key) as (λ b. AreDistinct (handles_of (if b then x ∷ with_row key handle xs else entry_of key handle ∷ x ∷ xs))) [
      | true ↦ (every-map (λ n. x.handle ≢ n) (λ y. y.handle) (with_row key handle xs) (every-with_row (λ y. x.handle ≢ y.handle) key handle xs h.0 (every_unmapped (λ n. x.handle ≢ n) (λ y. y.handle) xs d.0)), distinct_with key handle xs d.1 h.1)
      | false ↦ ((λ e. h.0 (sym e), every-map (λ n. handle ≢ n) (λ y. y.handle) xs (every_weaker (λ y. y.handle ≢ handle) (λ y. handle ≢ y.handle) xs (λ y ne e. ne (sym e)) h.1)), d)
    ]

unknown_all : (handle : ℕ) (xs : List Entry) → key_with handle xs ≡ None → AllByRecursion (λ x. x.handle ≢ handle) xs
unknown_all handle [] e = tt
unknown_all handle (x ∷ xs) e = (
  λ same. none-some x.key (sym e ∙ ap (λ b. if b then Some x.key else key_with handle xs) (eq-eqb x.handle handle same)),
  unknown_all handle xs (by_test (eqb x.handle handle) e),
)
  where
    by_test : (b : Bool) → (if b then Some x.key else key_with handle xs) ≡ None → key_with handle xs ≡ None
    by_test true is = absurd (none-some x.key (sym is))
    by_test false is = is

small_keys : (xs : List Entry) → IsKeySet (keys_of xs) → AllByRecursion (λ x. x.key < 2 ^ 62) xs
small_keys xs h = every_unmapped (λ key. key < 2 ^ 62) (λ x. x.key) xs h.small

pub small_under : (key handle : ℕ) (xs : List Entry) → AreHandled xs → handle_under key xs ≡ Some handle → key < 2 ^ 62
small_under key handle xs h here = under_has (λ x. x.key < 2 ^ 62) key handle xs (small_keys xs h.keys) here

pub ascending : (xs : List Entry) → AreHandled xs → Ascend xs
ascending xs h = ascend_by_keys xs h.keys.rising

handled_of : (xs : List Entry) → Ascend xs → AllByRecursion (λ x. x.key < 2 ^ 62) xs → AreDistinct (handles_of xs) → AreHandled xs
handled_of xs up small d = record {
  keys = record { rising = rising_keys xs up; small = every-map (λ key. key < 2 ^ 62) (λ x. x.key) xs small };
  handles = d;
}

pub handled_with : (key handle : ℕ) (xs : List Entry) → AreHandled xs → key < 2 ^ 62 → handle_under key xs ≡ None → key_with handle xs ≡ None → AreHandled (with_row key handle xs)
handled_with key handle xs h small absent fresh =
    handled_of (with_row key handle xs) (ascend_with key handle xs (ascending xs h) (absent_all key xs absent))
    (every-with_row (λ x. x.key < 2 ^ 62) key handle xs small (small_keys xs h.keys)) (distinct_with key handle xs h.handles (unknown_all handle xs fresh))

distinct_left : (p : Entry → Bool) (xs : List Entry) → AreDistinct (handles_of xs) → AreDistinct (handles_of (filter p xs))
distinct_left p [] d = tt
distinct_left p (x ∷ xs) d =
    elim (p x) as (λ b. AreDistinct (handles_of (cond b (x ∷ filter p xs) (filter p xs)))) [
      | true ↦ (every-map (λ n. x.handle ≢ n) (λ y. y.handle) (filter p xs) (every-filter (λ y. x.handle ≢ y.handle) p xs (every_unmapped (λ n. x.handle ≢ n) (λ y. y.handle) xs d.0)), distinct_left p xs d.1)
      | false ↦ distinct_left p xs d.1
    ]

pub handled_left : (gone : List ℕ) (xs : List Entry) → AreHandled xs → AreHandled (left_rows gone xs)
handled_left gone xs h =
    let p = λ (x : Entry). not (is_among x.key gone) in
    handled_of (left_rows gone xs) (ascend-filter p xs (ascending xs h)) (every-filter (λ x. x.key < 2 ^ 62) p xs (small_keys xs h.keys)) (distinct_left p xs h.handles)

pub handled_moved : (shifts : List ShiftRange) (xs : List Entry) → AreHandled xs → shift_fault (2 ^ 62) shifts (keys_of xs) ≡ None → AreHandled (moved_rows shifts xs)
handled_moved shifts xs h lawful =
    handled_of (moved_rows shifts xs) (moved_ascend shifts xs lawful) (moved_small shifts xs lawful) (subst AreDistinct (sym (map_map (λ x. x.handle) (moved_row shifts) xs)) h.handles)

-- the key of a handle is a key, or 0
pub small_key : (handle : ℕ) (xs : List Entry) → AreHandled xs → unwrap_or (key_with handle xs) 0 < 2 ^ 62
small_key handle xs h = of_all handle xs (small_keys xs h.keys)
  where
    by_test : (x : Entry) (b : Bool) (found : Option ℕ) → x.key < 2 ^ 62 → unwrap_or found 0 < 2 ^ 62 → unwrap_or (if b then Some x.key else found) 0 < 2 ^ 62
    by_test x true found lt rest = lt
    by_test x false found lt rest = rest

    of_all : (handle : ℕ) (xs : List Entry) → AllByRecursion (λ x. x.key < 2 ^ 62) xs → unwrap_or (key_with handle xs) 0 < 2 ^ 62
    of_all handle [] s = omega arith
    of_all handle (x ∷ xs) s = by_test x (eqb x.handle handle) (key_with handle xs) s.0 (of_all handle xs s.1)
