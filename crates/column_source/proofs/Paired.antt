-- Entries, their keys and their cells, and what edits make of both.
use Rattle.std.proofs.Common.{◌≡◌, refl, ap, ap₂, sym, ◌∙◌, true, false, cond, not, ◌||◌, ℕ, suc, ◌<◌, ◌≤◌, arith, List, [], ◌∷◌, ◌++◌, length, map, ℤ, ◌==◌, inl, inr, true≢false}
use Rattle.std.{specs.Prelude.{slice_get, None, Some}, specs.List.{AllByRecursion, insert, remove}, proofs.lemmas.Bool.{cases_eq, cases_order, eq-eqb, le-ltb, lt-ltb, ne_eqb}}
use Rattle.key_lists.{specs.Keys.{is_among, IsRising, without}, proofs.Among.{among-append, among-filter, among_above, among_below, each_among, of_among}, proofs.Booleans.{and_true, or_false, or_true}, proofs.Every.{every-append, every-filter, every_unmapped, every_weaker, filter-map, filter_same, map_map}, proofs.Rising.rising_same}
use Rattle.row_set.{specs.Sets.{common, count_below, with_key}, proofs.Lookups.count_none, proofs.United.{among-with_key, with_key_rises}}
use Rattle.tick_model.{specs.declared.update.ShiftRange.ShiftRange, specs.Rules.landed, specs.Shifts.{as_key, moved}}
use Rattle.column_source.specs.Entries.{Entry, cell_under, keys_of, left_entries, moved_entries, moved_entry, paired, put}

abbrev pub cells_of : List Entry → List ℤ
cells_of = map (λ entry. entry.cell)

pub keys-paired : (keys : List ℕ) (cells : List ℤ) → length cells ≡ length keys → keys_of (paired keys cells) ≡ keys
keys-paired [] cells e = refl
keys-paired (key ∷ keys) [] e = absurd (omega (arith, e))
keys-paired (key ∷ keys) (cell ∷ cells) e = ap (λ rest. key ∷ rest) (keys-paired keys cells (omega (arith, e)))

pub cells-paired : (keys : List ℕ) (cells : List ℤ) → length cells ≡ length keys → cells_of (paired keys cells) ≡ cells
cells-paired [] [] e = refl
cells-paired [] (cell ∷ cells) e = absurd (omega (arith, e))
cells-paired (key ∷ keys) [] e = absurd (omega (arith, e))
cells-paired (key ∷ keys) (cell ∷ cells) e = ap (λ rest. cell ∷ rest) (cells-paired keys cells (omega (arith, e)))

paired_own : (entries : List Entry) → paired (keys_of entries) (cells_of entries) ≡ entries
paired_own [] = refl
paired_own (x ∷ xs) = ap (λ rest. x ∷ rest) (paired_own xs)

same_length : (entries : List Entry) → length (cells_of entries) ≡ length (keys_of entries)
same_length [] = refl
same_length (x ∷ xs) = ap suc (same_length xs)

-- these are the keys and the cells of the entries
pub record AreOf (keys : List ℕ) (cells : List ℤ) (entries : List Entry) : Type 0 where
  pub keys_are : keys ≡ keys_of entries
  pub cells_are : cells ≡ cells_of entries

module _ {keys : List ℕ} {cells : List ℤ} {entries : List Entry} where
  pub shown : AreOf keys cells entries → paired keys cells ≡ entries
  shown h = ap₂ paired h.keys_are h.cells_are ∙ paired_own entries

  pub counted : AreOf keys cells entries → length cells ≡ length keys
  counted h = ap length h.cells_are ∙ same_length entries ∙ sym (ap length h.keys_are)

  pub are_of : length cells ≡ length keys → paired keys cells ≡ entries → AreOf keys cells entries
  are_of e is = record {
    keys_are = sym (keys-paired keys cells e) ∙ ap keys_of is;
    cells_are = sym (cells-paired keys cells e) ∙ ap cells_of is;
  }

-- past a key that is another
later_among : (key first : ℕ) (keys : List ℕ) → (first ≡ key → ⊥) → is_among key (first ∷ keys) ≡ true → is_among key keys ≡ true
later_among key first keys differs here = sym (ap (λ b. b || is_among key keys) (ne_eqb first key differs)) ∙ here

not_above : (key first : ℕ) (keys : List ℕ) → key < first → IsRising (first ∷ keys) → is_among key (first ∷ keys) ≡ true → ⊥
not_above key first keys above rises here =
    let less = of_among (λ other. first < other) key keys rises.0 (later_among key first keys (λ same. omega (arith, same, above)) here) in
    omega (arith, less, above)

none_below : (key first : ℕ) (keys : List ℕ) → key ≤ first → IsRising (first ∷ keys) → count_below key (first ∷ keys) ≡ 0
none_below key first keys most rises = count_none key (first ∷ keys) (most, every_weaker (λ other. first < other) (λ other. key ≤ other) keys (λ other less. omega (arith, less, most)) rises.0)

-- the cell under a key
pub cell_at : (key : ℕ) (entries : List Entry) → IsRising (keys_of entries) → is_among key (keys_of entries) ≡ true → slice_get (cells_of entries) (count_below key (keys_of entries)) ≡ cell_under key entries
cell_at key [] rises here = absurd (true≢false (sym here))
cell_at key (x ∷ xs) rises here =
    elim (cases_order x.key key) [
      | inl same ↦ rw (none_below key x.key (keys_of xs) (omega (arith, same)) rises, eq-eqb x.key key same)
      | inr differs ↦ elim differs [
        | inl less ↦
            let apart : (x.key ≡ key → ⊥) = λ same. omega (arith, same, less) in
            rw (lt-ltb x.key key less, ne_eqb x.key key apart) (cell_at key xs rises.1 (later_among key x.key (keys_of xs) apart here))
        | inr above ↦ absurd (not_above key x.key (keys_of xs) above rises here)
      ]
    ]

pub no_cell : (key : ℕ) (entries : List Entry) → is_among key (keys_of entries) ≡ false → cell_under key entries ≡ None
no_cell key [] absent = refl
no_cell key (x ∷ xs) absent =
    (elim (x.key == key) as (λ b. (b || is_among key (keys_of xs)) ≡ false → cond b (Some x.cell) (cell_under key xs) ≡ None) [
      | true ↦ λ here. absurd (true≢false here)
      | false ↦ no_cell key xs
    ]) absent

-- a cell that is put under a key
pub keys-put : (key : ℕ) (cell : ℤ) (entries : List Entry) → keys_of (put key cell entries) ≡ with_key key (keys_of entries)
keys-put key cell [] = refl
keys-put key cell (x ∷ xs) =
    elim (cases_order x.key key) [
      | inl same ↦ rw (le-ltb x.key key (omega (arith, same)), eq-eqb x.key key same, le-ltb key x.key (omega (arith, same)), eq-eqb key x.key (sym same)) (ap (λ k. k ∷ keys_of xs) (sym same))
      | inr differs ↦ elim differs [
        | inl less ↦ rw (lt-ltb x.key key less, le-ltb key x.key (omega (arith, less)), ne_eqb key x.key (λ same. omega (arith, same, less))) (ap (λ ks. x.key ∷ ks) (keys-put key cell xs))
        | inr above ↦ rw (le-ltb x.key key (omega (arith, above)), ne_eqb x.key key (λ same. omega (arith, same, above)), lt-ltb key x.key above)
      ]
    ]

pub key_held : (key : ℕ) (keys : List ℕ) → IsRising keys → is_among key keys ≡ true → with_key key keys ≡ keys
key_held key keys rises here = rising_same (with_key key keys) keys (with_key_rises key keys rises) rises (λ k. among-with_key k key keys ∙ same k)
  where
    same : (k : ℕ) → (key == k || is_among k keys) ≡ is_among k keys
    same k =
        elim (cases_eq key k) [
          | inl e ↦ rw (eq-eqb key k e) (sym here ∙ ap (λ k. is_among k keys) e)
          | inr differs ↦ rw (ne_eqb key k differs)
        ]

pub cells-put : (key : ℕ) (cell : ℤ) (entries : List Entry) → IsRising (keys_of entries) → is_among key (keys_of entries) ≡ false → insert (cells_of entries) (count_below key (keys_of entries)) cell ≡ cells_of (put key cell entries)
cells-put key cell [] rises absent = refl
cells-put key cell (x ∷ xs) rises absent =
    elim (cases_order x.key key) [
      | inl same ↦ absurd (true≢false (sym (ap (λ b. b || is_among key (keys_of xs)) (eq-eqb x.key key same)) ∙ absent))
      | inr differs ↦ elim differs [
        | inl less ↦
            rw (lt-ltb x.key key less)
            (ap (λ cells. x.cell ∷ cells) (cells-put key cell xs rises.1 (sym (ap (λ b. b || is_among key (keys_of xs)) (ne_eqb x.key key (λ same. omega (arith, same, less)))) ∙ absent)))
        | inr above ↦ rw (none_below key x.key (keys_of xs) (omega (arith, above)) rises, le-ltb x.key key (omega (arith, above)), ne_eqb x.key key (λ same. omega (arith, same, above)))
      ]
    ]

pub cells-replaced : (key : ℕ) (cell : ℤ) (entries : List Entry) → IsRising (keys_of entries) → is_among key (keys_of entries) ≡ true
    → remove (insert (cells_of entries) (count_below key (keys_of entries)) cell) (suc (count_below key (keys_of entries))) ≡ cells_of (put key cell entries)
cells-replaced key cell [] rises here = absurd (true≢false (sym here))
cells-replaced key cell (x ∷ xs) rises here =
    elim (cases_order x.key key) [
      | inl same ↦ rw (none_below key x.key (keys_of xs) (omega (arith, same)) rises, le-ltb x.key key (omega (arith, same)), eq-eqb x.key key same)
      | inr differs ↦ elim differs [
        | inl less ↦ rw (lt-ltb x.key key less) (ap (λ cells. x.cell ∷ cells) (cells-replaced key cell xs rises.1 (later_among key x.key (keys_of xs) (λ same. omega (arith, same, less)) here)))
        | inr above ↦ absurd (not_above key x.key (keys_of xs) above rises here)
      ]
    ]

-- rows that are taken out: those under keys that are there, one after the other
pub left_common : (dropped : List ℕ) (entries : List Entry) → left_entries (common (keys_of entries) dropped) entries ≡ left_entries dropped entries
left_common dropped entries =
    let keys : List ℕ = keys_of entries in
    filter_same (λ x. not (is_among x.key (common keys dropped))) (λ x. not (is_among x.key dropped)) entries
    (every_unmapped (λ key. not (is_among key (common keys dropped)) ≡ not (is_among key dropped)) (λ x. x.key) entries
    (every_weaker (λ key. is_among key keys ≡ true) (λ key. not (is_among key (common keys dropped)) ≡ not (is_among key dropped)) keys (λ key own. ap not (kept key own)) (each_among keys)))
  where
    kept : (key : ℕ) → is_among key (keys_of entries) ≡ true → is_among key (common (keys_of entries) dropped) ≡ is_among key dropped
    kept key own = among-filter (λ other. is_among other dropped) key (keys_of entries) ∙ rw own (and_true (is_among key dropped))

pub keys-left : (dropped : List ℕ) (entries : List Entry) → keys_of (left_entries dropped entries) ≡ without dropped (keys_of entries)
keys-left dropped entries = sym (filter-map (λ key. not (is_among key dropped)) (λ x. x.key) entries)

among_front : (key : ℕ) (front back : List ℕ) → AllByRecursion (λ other. key < other) back → is_among key (front ++ back) ≡ is_among key front
among_front key front back above = among-append key front back ∙ ap (λ b. is_among key front || b) (among_below key back above) ∙ or_false (is_among key front)

module _ (key : ℕ) (behind others : List ℕ) (below : AllByRecursion (λ other. other < key) behind) (above : AllByRecursion (λ other. key < other) others) where
  abbrev gone : List ℕ
  gone = behind ++ key ∷ others

  now_gone : (k : ℕ) → key < k → is_among k behind ≡ is_among k (behind ++ key ∷ [])
  now_gone k more =
      let lower : AllByRecursion (λ other. other < k) behind = every_weaker (λ other. other < key) (λ other. other < k) behind (λ other less. omega (arith, less, more)) below in
      among_above k behind lower ∙ sym (among_above k (behind ++ key ∷ []) (every-append (λ other. other < k) behind (key ∷ []) lower (more, tt)))

  pub cells-next : (entries : List Entry) → IsRising (keys_of entries) → is_among key (keys_of entries) ≡ true
      → (count_below key (without gone (keys_of entries)) < length (cells_of (left_entries behind entries)))
      × (remove (cells_of (left_entries behind entries)) (count_below key (without gone (keys_of entries))) ≡ cells_of (left_entries (behind ++ key ∷ []) entries))
  cells-next [] rises here = absurd (true≢false (sym here))
  cells-next (x ∷ xs) rises here =
      elim (cases_order x.key key) [
        | inl same ↦
            let past : AllByRecursion (λ k. key < k) (keys_of xs) = every_weaker (λ k. x.key < k) (λ k. key < k) (keys_of xs) (λ k more. omega (arith, more, same)) rises.0 in
            let left : is_among x.key behind ≡ false = among_above x.key behind (every_weaker (λ other. other < key) (λ other. other < x.key) behind (λ other less. omega (arith, less, same)) below) in
            let none : count_below key (without gone (keys_of xs)) ≡ 0 =
            count_none key (without gone (keys_of xs))
            (every-filter (λ k. key ≤ k) (λ k. not (is_among k gone)) (keys_of xs) (every_weaker (λ k. key < k) (λ k. key ≤ k) (keys_of xs) (λ k more. omega (arith, more)) past)) in
            let rest : left_entries behind xs ≡ left_entries (behind ++ key ∷ []) xs =
            filter_same (λ y. not (is_among y.key behind)) (λ y. not (is_among y.key (behind ++ key ∷ []))) xs
            (every_unmapped (λ k. not (is_among k behind) ≡ not (is_among k (behind ++ key ∷ []))) (λ y. y.key) xs
            (every_weaker (λ k. key < k) (λ k. not (is_among k behind) ≡ not (is_among k (behind ++ key ∷ []))) (keys_of xs) (λ k more. ap not (now_gone k more)) past)) in
            rw (left, own x.key others same, own x.key [] same, none) (omega arith, ap cells_of rest)
        | inr differs ↦ elim differs [
          | inl less ↦
              let rest = cells-next xs rises.1 (later_among key x.key (keys_of xs) (λ same. omega (arith, same, less)) here) in
              rw
              (among_front x.key behind (key ∷ others) (less, every_weaker (λ other. key < other) (λ other. x.key < other) others (λ other more. omega (arith, more, less)) above), among_front x.key behind (key ∷ []) (less, tt))
              (elim (is_among x.key behind) as (λ b. (count_below key (cond (not b) (x.key ∷ without gone (keys_of xs)) (without gone (keys_of xs))) < length (cells_of (cond (not b) (x ∷ left_entries behind xs) (left_entries behind xs))))
              × (remove (cells_of (cond (not b) (x ∷ left_entries behind xs) (left_entries behind xs))) (count_below key (cond (not b) (x.key ∷ without gone (keys_of xs)) (without gone (keys_of xs))))
              ≡ cells_of (cond (not b) (x ∷ left_entries (behind ++ key ∷ []) xs) (left_entries (behind ++ key ∷ []) xs)))) [
                | true ↦ rest
                | false ↦ rw (lt-ltb x.key key less) (omega (arith, rest.0), ap (λ cells. x.cell ∷ cells) rest.1)
              ])
          | inr over ↦ absurd (not_above key x.key (keys_of xs) over rises here)
        ]
      ]
    where
      own : (k : ℕ) (rest : List ℕ) → k ≡ key → is_among k (behind ++ key ∷ rest) ≡ true
      own k rest same = among-append k behind (key ∷ rest) ∙ rw (eq-eqb key k (sym same)) (or_true (is_among k behind))

-- rows that move
pub keys-moved : (shifts : List ShiftRange) (entries : List Entry) → landed shifts (keys_of entries) ≡ keys_of (moved_entries shifts entries)
keys-moved shifts entries = map_map (λ key. as_key (moved shifts key)) (λ x. x.key) entries ∙ sym (map_map (λ x. x.key) (moved_entry shifts) entries)

pub cells-moved : (shifts : List ShiftRange) (entries : List Entry) → cells_of entries ≡ cells_of (moved_entries shifts entries)
cells-moved shifts entries = sym (map_map (λ x. x.cell) (moved_entry shifts) entries)
