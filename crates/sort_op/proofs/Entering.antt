-- Rows that get handles, and rows that are put in one by one.
use Rattle.std.proofs.Common.{◌≡◌, ◌≢◌, refl, ap, ap₂, sym, ◌∙◌, subst, Bool, true, false, cond, ◌||◌, ◌==◌, ℕ, ◌+◌, ◌*◌, arith, length, length-append, List, [], ◌∷◌, ◌++◌, map, Some, None, Result, Ok, Err, true≢false, ltb-true, ltb-false, eqb-true, inl, inr, ℤ}
use Rattle.std.{specs.Prelude.{IfOk, OnErr, OnOk, nat_lt}, specs.List.AllByRecursion, proofs.lemmas.Bool.{cases_eq, eq-eqb, ne_eqb, or_parts}, proofs.lemmas.List.map-append, proofs.lemmas.Option.none-some}
use Rattle.key_lists.{specs.Keys.{IsRising, is_among}, proofs.Among.{among-append, each_among}, proofs.Every.{every_both, every_unmapped, every_weaker, every-append, map_map, map_same}}
use Rattle.row_handles.specs.Entries.{Entry as Handled, entry_of, handle_under, key_with, keys_of, with_row}
use Rattle.row_set.{specs.Sets.with_key, proofs.United.{among-with_key, with_key_rises}}
use Rattle.tick_model.{specs.declared.plan.SortBy.SortBy, specs.declared.table.PlainTable.PlainTable}
use Rattle.sort_op.{specs.declared.entry.Entry.Entry, specs.declared.row_order.OrderedRow.OrderedRow, specs.Entries.keys_in, specs.Ranks.{AreArrived, HasArrived, Ranking, arrived, cell_in}, specs.Reading.entries_under, proofs.KeptCells.cells_same, proofs.Members.keys_under}

-- a key that has no handle is none of the keys
pub not_among : (key : ℕ) (xs : List Handled) → handle_under key xs ≡ None → is_among key (keys_of xs) ≡ false
not_among key [] e = refl
not_among key (x ∷ xs) e =
    (elim (x.key == key) as (λ b. (x.key == key) ≡ b → cond b (Some x.handle) (handle_under key xs) ≡ None → (b || is_among key (keys_of xs)) ≡ false) [
      | true ↦ λ same e. absurd (none-some x.handle (sym e))
      | false ↦ λ other e. not_among key xs e
    ]) refl e

pub is_here : (key handle : ℕ) (xs : List Handled) → handle_under key xs ≡ Some handle → is_among key (keys_of xs) ≡ true
is_here key handle [] e = absurd (none-some handle e)
is_here key handle (x ∷ xs) e =
    (elim (x.key == key) as (λ b. cond b (Some x.handle) (handle_under key xs) ≡ Some handle → (b || is_among key (keys_of xs)) ≡ true) [ true ↦ λ e. refl | false ↦ λ e. is_here key handle xs e ]) e

-- the keys with one more
keys_with : (key handle : ℕ) (xs : List Handled) → is_among key (keys_of xs) ≡ false → keys_of (with_row key handle xs) ≡ with_key key (keys_of xs)
keys_with key handle [] h = refl
keys_with key handle (x ∷ xs) h =
    by (nat_lt x.key key) (nat_lt key x.key) (key == x.key) refl refl refl (or_parts _ _ h).0 (keys_with key handle xs (or_parts _ _ h).1)
  where
    same : x.key ≡ key → (x.key == key) ≡ true
    same e = eq-eqb x.key key e

    by : (a b c : Bool) → nat_lt x.key key ≡ a → nat_lt key x.key ≡ b → (key == x.key) ≡ c → (x.key == key) ≡ false → keys_of (with_row key handle xs) ≡ with_key key (keys_of xs)
        → keys_of (cond a (x ∷ with_row key handle xs) (entry_of key handle ∷ x ∷ xs)) ≡ cond b (key ∷ x.key ∷ keys_of xs) (cond c (x.key ∷ keys_of xs) (x.key ∷ with_key key (keys_of xs)))
    by true true c e f g apart rest = absurd (omega (arith, ltb-true x.key key e, ltb-true key x.key f))
    by true false true e f g apart rest = absurd (omega (arith, ltb-true x.key key e, eqb-true key x.key g))
    by true false false e f g apart rest = ap (λ ks. x.key ∷ ks) rest
    by false true c e f g apart rest = refl
    by false false c e f g apart rest = absurd (true≢false (sym (same (omega (arith, ltb-false x.key key e, ltb-false key x.key f))) ∙ apart))

pub rising_with : (key handle : ℕ) (xs : List Handled) → handle_under key xs ≡ None → IsRising (keys_of xs) → IsRising (keys_of (with_row key handle xs))
rising_with key handle xs absent rising = subst IsRising (sym (keys_with key handle xs (not_among key xs absent))) (with_key_rises key (keys_of xs) rising)

pub among_with : (key handle other : ℕ) (xs : List Handled) → handle_under key xs ≡ None → is_among other (keys_of (with_row key handle xs)) ≡ ((key == other) || is_among other (keys_of xs))
among_with key handle other xs absent = ap (is_among other) (keys_with key handle xs (not_among key xs absent)) ∙ among-with_key other key (keys_of xs)

pub among_same : (key handle other : ℕ) (xs : List Handled) → handle_under key xs ≡ Some handle → is_among other (keys_of xs) ≡ ((key == other) || is_among other (keys_of xs))
among_same key handle other xs found =
    elim (cases_eq key other) [
      | inl e ↦ ap (λ k. is_among k (keys_of xs)) (sym e) ∙ is_here key handle xs found ∙ sym (ap (λ b. b || is_among other (keys_of xs)) (eq-eqb key other e))
      | inr ne ↦ sym (ap (λ b. b || is_among other (keys_of xs)) (ne_eqb key other ne))
    ]

-- the key of each handle, where one more has come
swapped : {X : Type 0} (a b : Bool) (x y z : X) → (a ≡ true → b ≡ true → ⊥) → cond a x (cond b y z) ≡ cond b y (cond a x z)
swapped true true x y z apart = absurd (apart refl refl)
swapped true false x y z apart = refl
swapped false b x y z apart = refl

key_with_row : (key handle other : ℕ) (xs : List Handled) → key_with handle xs ≡ None → key_with other (with_row key handle xs) ≡ cond (handle == other) (Some key) (key_with other xs)
key_with_row key handle other [] fresh = refl
key_with_row key handle other (x ∷ xs) fresh =
    elim (nat_lt x.key key) as (λ b. key_with other (cond b (x ∷ with_row key handle xs) (entry_of key handle ∷ x ∷ xs)) ≡ cond (handle == other) (Some key) (cond (x.handle == other) (Some x.key) (key_with other xs))) [
      | true ↦
          ap (λ o. cond (x.handle == other) (Some x.key) o) (key_with_row key handle other xs later)
          ∙ swapped (x.handle == other) (handle == other) (Some x.key) (Some key) (key_with other xs) (λ own also. unequal (eqb-true x.handle other own ∙ sym (eqb-true handle other also)))
      | false ↦ refl
    ]
  where
    split : (b : Bool) → cond b (Some x.key) (key_with handle xs) ≡ None → (b ≡ false) × (key_with handle xs ≡ None)
    split true e = absurd (none-some x.key (sym e))
    split false e = (refl, e)

    later : key_with handle xs ≡ None
    later = (split (x.handle == handle) fresh).1

    unequal : x.handle ≢ handle
    unequal same = true≢false (sym (eq-eqb x.handle handle same) ∙ (split (x.handle == handle) fresh).0)

pub own_with : (key handle : ℕ) (xs : List Handled) → key_with handle xs ≡ None → key_with handle (with_row key handle xs) ≡ Some key
own_with key handle xs fresh = key_with_row key handle handle xs fresh ∙ ap (λ b. cond b (Some key) (key_with handle xs)) (eq-eqb handle handle refl)

pub others_with : (key handle other own : ℕ) (xs : List Handled) → key_with handle xs ≡ None → key_with other xs ≡ Some own → key_with other (with_row key handle xs) ≡ Some own
others_with key handle other own xs fresh known =
    key_with_row key handle other xs fresh
    ∙ ap (λ b. cond b (Some key) (key_with other xs)) (ne_eqb handle other (λ same. none-some own (sym (ap (λ h. key_with h xs) (sym same) ∙ fresh) ∙ known)))
    ∙ known

-- one row more that is entered
pub arrived_more : (old new : Ranking) (rows : List OrderedRow) (entries : List Entry) (row : OrderedRow) (key : ℕ) (entry : Entry) → AllByRecursion (λ (other : OrderedRow). other.key ≢ key) rows → ((other : OrderedRow) (own : Entry) → other.key ≢ key → HasArrived old other own → HasArrived new other own)
    → AreArrived old rows entries → HasArrived new row entry → AreArrived new (rows ++ row ∷ []) (entries ++ entry ∷ [])
arrived_more old new rows entries row key entry apart frame h more = record {
  known = every-append (λ (r : OrderedRow). key_with r.handle new.handles ≡ Some r.key) rows (row ∷ []) (every_weaker (λ r. HasArrived new r (arrived old r)) (λ (r : OrderedRow). key_with r.handle new.handles ≡ Some r.key) rows (λ r a. a.known) all) (more.known, tt);
  same =
      map-append (arrived new) rows (row ∷ [])
      ∙ ap₂ (λ (xs : List Entry) (x : Entry). xs ++ x ∷ []) (map_same (arrived new) (arrived old) rows (every_weaker (λ r. HasArrived new r (arrived old r)) (λ r. arrived new r ≡ arrived old r) rows (λ r a. a.same) all) ∙ h.same) more.same;
}
  where
    all : AllByRecursion (λ r. HasArrived new r (arrived old r)) rows
    all = every_both (λ (r : OrderedRow). r.key ≢ key) (λ (r : OrderedRow). key_with r.handle old.handles ≡ Some r.key) (λ r. HasArrived new r (arrived old r)) rows (λ r ne known. frame r (arrived old r) ne (record { known = known; same = refl })) apart h.known

pub none_arrived : (ranking : Ranking) → AreArrived ranking [] []
none_arrived ranking = record { known = tt; same = refl }

-- the rows that are entered have the keys that were given
pub keys_apart : (by : List SortBy) (table : PlainTable) (ranking : Ranking) (rows : List OrderedRow) (some : List ℕ) (key : ℕ) → AreArrived ranking rows (entries_under by table some) → is_among key some ≡ false → AllByRecursion (λ (row : OrderedRow). row.key ≢ key) rows
keys_apart by table ranking rows some key h out =
    every_weaker (λ (row : OrderedRow). is_among row.key some ≡ true) (λ (row : OrderedRow). row.key ≢ key) rows (λ row own e. true≢false (sym own ∙ ap (λ k. is_among k some) e ∙ out))
    (every_unmapped (λ k. is_among k some ≡ true) (λ (row : OrderedRow). row.key) rows (subst (AllByRecursion (λ k. is_among k some ≡ true)) (sym keys) (each_among some)))
  where
    keys : map (λ (row : OrderedRow). row.key) rows ≡ some
    keys = sym (map_map (λ (entry : Entry). entry.key) (arrived ranking) rows) ∙ ap keys_in h.same ∙ keys_under by table some

-- a handle that is given, or not
module _ {E : Type 0} where
  pub came_own : (result : Result ℕ E) (key : ℕ) (old new : List Handled) → IfOk result (λ handle. new ≡ with_row key handle old) → IfOk result (λ handle. key_with handle old ≡ None) → IfOk result (λ handle. key_with handle new ≡ Some key)
  came_own (Ok handle) key old new is fresh = ap (key_with handle) is ∙ own_with key handle old fresh
  came_own (Err e) key old new is fresh = tt

  pub came_others : (result : Result ℕ E) (key : ℕ) (old new : List Handled) → IfOk result (λ handle. new ≡ with_row key handle old) → IfOk result (λ handle. key_with handle old ≡ None) → OnErr result (new ≡ old)
      → (other own : ℕ) → key_with other old ≡ Some own → key_with other new ≡ Some own
  came_others (Ok handle) key old new is fresh same other own known = ap (key_with other) is ∙ others_with key handle other own old fresh known
  came_others (Err e) key old new is fresh same other own known = ap (key_with other) same ∙ known

  pub came_keys : (result : Result ℕ E) (key : ℕ) (old new : List Handled) → handle_under key old ≡ None → IfOk result (λ handle. new ≡ with_row key handle old) → OnOk result ((other : ℕ) → is_among other (keys_of new) ≡ ((key == other) || is_among other (keys_of old)))
  came_keys (Ok handle) key old new absent is = λ other. ap (λ xs. is_among other (keys_of xs)) is ∙ among_with key handle other old absent
  came_keys (Err e) key old new absent is = tt

  pub came_rising : (result : Result ℕ E) (key : ℕ) (old new : List Handled) → handle_under key old ≡ None → IfOk result (λ handle. new ≡ with_row key handle old) → OnErr result (new ≡ old) → IsRising (keys_of old) → IsRising (keys_of new)
  came_rising (Ok handle) key old new absent is same rising = subst (λ xs. IsRising (keys_of xs)) (sym is) (rising_with key handle old absent rising)
  came_rising (Err e) key old new absent is same rising = subst (λ xs. IsRising (keys_of xs)) (sym same) rising

-- what is known of a row under another key stays
pub still_arrived : (ranking : Ranking) (key : ℕ) (handles : List Handled) (cells : List (List ℤ)) → ((handle other : ℕ) → key_with handle ranking.handles ≡ Some other → other ≢ key → (key_with handle handles ≡ Some other) × ((at : ℕ) → cell_in cells at handle ≡ cell_in ranking.cells at handle))
    → (row : OrderedRow) (entry : Entry) → row.key ≢ key → HasArrived ranking row entry → HasArrived (record { by = ranking.by; handles = handles; cells = cells; rows = ranking.rows }) row entry
still_arrived ranking key handles cells same row entry ne h =
    let kept = same row.handle row.key h.known ne in record {
      known = kept.0;
      same = ap (λ (xs : List ℤ). let own : Entry = record { cells = xs; key = row.key } in own) (cells_same 0 ranking.by cells ranking.cells row.handle kept.1) ∙ h.same;
    }

-- the keys after one more, and the reads of one row more
pub key_more : (other key : ℕ) (some first now : List ℕ) → is_among other now ≡ (is_among other some || is_among other first) → ((key == other) || is_among other now) ≡ (is_among other (some ++ key ∷ []) || is_among other first)
key_more other key some first now so_far =
    ap (λ b. (key == other) || b) so_far
    ∙ turned (key == other) (is_among other some) (is_among other first)
    ∙ sym (ap (λ b. b || is_among other first) (among-append other some (key ∷ [])))
  where
    turned : (a b c : Bool) → (a || (b || c)) ≡ ((b || (a || false)) || c)
    turned true true c = refl
    turned true false c = refl
    turned false true c = refl
    turned false false c = refl

pub reads_one_more : (width first so_far more : ℕ) (some : List ℕ) (key : ℕ) → so_far ≡ first + width * length some → more ≡ so_far + width → more ≡ first + width * length (some ++ key ∷ [])
reads_one_more width first so_far more some key a b = by (length some) (length (some ++ key ∷ [])) (length-append some (key ∷ [])) a
  where
    by : (n m : ℕ) → m ≡ n + 1 → so_far ≡ first + width * n → more ≡ first + width * m
    by n m e a = omega (arith, a, b, e, ap (λ k. width * k) e)
