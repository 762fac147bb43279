-- An order whose keys move as the keys of its rows do.
use Rattle.std.proofs.Common.{◌≡◌, refl, ap, sym, ◌∙◌, subst, Bool, true, false, cond, ℕ, ◌<◌, ◌^◌, arith, List, [], ◌∷◌, ◌==◌, map, true≢false, is_lt, ltb-true, lt-ltb}
use Rattle.std.{specs.Prelude.nat_lt, specs.List.AllByRecursion, specs.Cmp.IsStrictWeakOrder, specs.Ordering.{nat_cmp, ordering_then}, specs.declared.cmp.Ordering.Ordering, specs.declared.cmp.Ordering.TheVariants.{Less, Equal, Greater}, proofs.lemmas.List.Sorted.IsStrictWeakOrder-by_number, proofs.lemmas.Bool.le-ltb}
use Rattle.table_update.proofs.StillKeys.{still_key}
use Rattle.chunk_list.{specs.Chunked.{joined, IsChunk}, proofs.Changing.joined-changed}
use Rattle.key_lists.{specs.Keys.{IsRising, is_among}, proofs.Among.{each_among, of_among}, proofs.Every.{every, every_weaker, every-map, every_unmapped, map_own}}
use Rattle.tick_model.{specs.declared.plan.SortBy.SortBy, specs.declared.update.ShiftRange.ShiftRange, specs.Rules.is_past, specs.Shifts.{as_key, moved}, specs.Sort.{ordered, place}, proofs.Stable.{IsInOrder, ordered_in_order}}
use Rattle.shift_data.{specs.Moves.IsLawful, proofs.Lawful.lawful}
use Rattle.sort_op.{specs.declared.entry.Entry.Entry, specs.Cells.cells_cmp, proofs.Members.any-ordered, specs.Entries.{comes_before, keys_in, rekeyed, rising_keys, IsOrder, IsWhole, Rises}}

-- what holds of all in order holds of all
unplaced : {X : Type 0} (P : X → Type 0) (less : X → X → Bool) (x : X) (xs : List X) → AllByRecursion P (place less x xs) → P x × AllByRecursion P xs
unplaced P less x [] h = h
unplaced P less x (y ∷ ys) h =
    (elim (less y x) as (λ b. AllByRecursion P (cond b (y ∷ place less x ys) (x ∷ y ∷ ys)) → P x × AllByRecursion P (y ∷ ys)) [
      | true ↦ λ h. let rest = unplaced P less x ys h.1 in (rest.0, (h.0, rest.1))
      | false ↦ λ h. h
    ]) h

pub unordered : {X : Type 0} (P : X → Type 0) (less : X → X → Bool) (xs : List X) → AllByRecursion P (ordered less xs) → AllByRecursion P xs
unordered P less [] h = tt
unordered P less (x ∷ xs) h = let parts = unplaced P less x (ordered less xs) h in (parts.0, unordered P less xs parts.1)

numbers_weak : IsStrictWeakOrder (λ (x y : ℕ). nat_lt x y)
numbers_weak = IsStrictWeakOrder-by_number (λ (x : ℕ). x)

-- keys in order whose moved keys rise: a lesser one moves to a lesser one
moves_rise : (f : ℕ → ℕ) (keys : List ℕ) → IsInOrder (λ x y. nat_lt x y) numbers_weak keys → IsRising (map f keys) → AllByRecursion (λ x. AllByRecursion (λ y. x < y → f x < f y) keys) keys
moves_rise f [] o r = tt
moves_rise f (key ∷ keys) o r = (
  (λ h. absurd (omega (arith, h)), every_weaker (λ y. f key < f y) (λ y. key < y → f key < f y) keys (λ y h less. h) (every_unmapped (λ n. f key < n) f keys r.0)),
  pairs keys o.0 (moves_rise f keys o.1 r.1),
)
  where
    pairs : (xs : List ℕ) → AllByRecursion (λ y. nat_lt y key ≡ false) xs → AllByRecursion (λ x. AllByRecursion (λ y. x < y → f x < f y) keys) xs → AllByRecursion (λ x. AllByRecursion (λ y. x < y → f x < f y) (key ∷ keys)) xs
    pairs [] h k = tt
    pairs (x ∷ xs) h k = ((λ less. absurd (true≢false (sym (lt-ltb x key less) ∙ h.0)), k.0), pairs xs h.1 k.1)

module _ (shifts : List ShiftRange) where
  abbrev lands : ℕ → ℕ
  lands key = as_key (moved shifts key)

  pub all_inside : (entries : List Entry) → IsLawful shifts (rising_keys entries) → AllByRecursion (λ entry. is_past (2 ^ 62) (moved shifts entry.key) ≡ false) entries
  all_inside entries law =
      every_unmapped (λ key. is_past (2 ^ 62) (moved shifts key) ≡ false) (λ (entry : Entry). entry.key) entries
      (unordered (λ key. is_past (2 ^ 62) (moved shifts key) ≡ false) (λ x y. nat_lt x y) (keys_in entries) (lawful shifts (rising_keys entries) law).inside)

  keep_among : (keys : List ℕ) (entries : List Entry) → IsInOrder (λ x y. nat_lt x y) numbers_weak keys → IsLawful shifts keys → AllByRecursion (λ (entry : Entry). is_among entry.key keys ≡ true) entries
      → AllByRecursion (λ (a : Entry). AllByRecursion (λ (b : Entry). a.key < b.key → lands a.key < lands b.key) entries) entries
  keep_among keys entries o law own =
      let keep = moves_rise lands keys o (lawful shifts keys law).rising in
      every_weaker (λ (entry : Entry). is_among entry.key keys ≡ true) (λ (a : Entry). AllByRecursion (λ (b : Entry). a.key < b.key → lands a.key < lands b.key) entries) entries
      (λ a here.
      every_weaker (λ (entry : Entry). is_among entry.key keys ≡ true) (λ (b : Entry). a.key < b.key → lands a.key < lands b.key) entries
      (λ b there. of_among (λ y. a.key < y → lands a.key < lands y) b.key keys (of_among (λ x. AllByRecursion (λ y. x < y → lands x < lands y) keys) a.key keys keep here) there) own) own

  all_keep : (entries : List Entry) → IsLawful shifts (rising_keys entries) → AllByRecursion (λ (a : Entry). AllByRecursion (λ (b : Entry). a.key < b.key → lands a.key < lands b.key) entries) entries
  all_keep entries law =
      keep_among (rising_keys entries) entries (ordered_in_order (λ x y. nat_lt x y) numbers_weak (keys_in entries)) law
      (every_unmapped (λ key. is_among key (rising_keys entries) ≡ true) (λ (entry : Entry). entry.key) entries
      (every_weaker (λ key. is_among key (keys_in entries) ≡ true) (λ key. is_among key (rising_keys entries) ≡ true) (keys_in entries) (λ key own. any-ordered (λ other. other == key) (λ x y. nat_lt x y) (keys_in entries) ∙ own) (each_among (keys_in entries))))

  rising_in_order : (keys : List ℕ) → IsRising keys → IsInOrder (λ x y. nat_lt x y) numbers_weak keys
  rising_in_order [] r = tt
  rising_in_order (key ∷ keys) r = (every_weaker (λ y. key < y) (λ y. nat_lt y key ≡ false) keys (λ y less. le-ltb y key (omega (arith, less))) r.0, rising_in_order keys r.1)

  module _ (by : List SortBy) where
    before_rekeyed : (a b : Entry) → (a.key < b.key → lands a.key < lands b.key) → comes_before by a b ≡ true → comes_before by (rekeyed shifts a) (rekeyed shifts b) ≡ true
    before_rekeyed a b keep h = go (cells_cmp by a.cells b.cells) h
      where
        less_from : (x y : ℕ) → is_lt (nat_cmp x y) ≡ true → x < y
        less_from x y e =
            (elim (nat_lt x y) as (λ t. nat_lt x y ≡ t → is_lt (cond t Less (cond (x == y) Equal Greater)) ≡ true → x < y) [
              | true ↦ λ t e. ltb-true x y t
              | false ↦ λ t e. absurd (true≢false (sym e ∙ not_less (x == y)))
            ]) refl e
          where
            not_less : (t : Bool) → is_lt (cond t Equal Greater) ≡ false
            not_less true = refl
            not_less false = refl

        to_less : (x y : ℕ) → x < y → is_lt (nat_cmp x y) ≡ true
        to_less x y less = ap (λ t. is_lt (cond t Less (cond (x == y) Equal Greater))) (lt-ltb x y less)

        go : (o : Ordering) → is_lt (ordering_then o (nat_cmp a.key b.key)) ≡ true → is_lt (ordering_then o (nat_cmp (lands a.key) (lands b.key))) ≡ true
        go Less h = refl
        go Equal h = to_less (lands a.key) (lands b.key) (keep (less_from a.key b.key h))
        go Greater h = absurd (true≢false (sym h))

    rises_rekeyed : (entries : List Entry) → Rises by entries → AllByRecursion (λ (a : Entry). AllByRecursion (λ (b : Entry). a.key < b.key → lands a.key < lands b.key) entries) entries → Rises by (map (rekeyed shifts) entries)
    rises_rekeyed [] r h = tt
    rises_rekeyed (entry ∷ entries) r h = (
      every-map (λ other. comes_before by (rekeyed shifts entry) other ≡ true) (rekeyed shifts) entries (both entries r.0 h.0.1),
      rises_rekeyed entries r.1 (every_weaker (λ (a : Entry). AllByRecursion (λ (b : Entry). a.key < b.key → lands a.key < lands b.key) (entry ∷ entries)) (λ (a : Entry). AllByRecursion (λ (b : Entry). a.key < b.key → lands a.key < lands b.key) entries) entries (λ a k. k.1) h.1),
    )
      where
        both : (others : List Entry) → AllByRecursion (λ other. comes_before by entry other ≡ true) others → AllByRecursion (λ (b : Entry). entry.key < b.key → lands entry.key < lands b.key) others → AllByRecursion (λ other. comes_before by (rekeyed shifts entry) (rekeyed shifts other) ≡ true) others
        both [] p q = tt
        both (other ∷ others) p q = (before_rekeyed entry other q.0 p.0, both others p.1 q.1)

    pub rises_moved : (keys : List ℕ) (entries : List Entry) → IsRising keys → IsLawful shifts keys → AllByRecursion (λ (entry : Entry). is_among entry.key keys ≡ true) entries → Rises by entries → Rises by (map (rekeyed shifts) entries)
    rises_moved keys entries r law own rises = rises_rekeyed entries rises (keep_among keys entries (rising_in_order keys r) law own)

  pub order_rekeyed : (by : List SortBy) (old new : List (List Entry)) → IsLawful shifts (rising_keys (joined old)) → new ≡ map (map (rekeyed shifts)) old → AllByRecursion IsChunk new → IsOrder (record { by = by; chunks = old }) → IsOrder (record { by = by; chunks = new })
  order_rekeyed by old new law so sizes h =
      let are = ap joined so ∙ joined-changed (rekeyed shifts) old in
      record {
        rising = subst (Rises by) (sym are) (rises_rekeyed by (joined old) h.rising (all_keep (joined old) law));
        whole = subst (AllByRecursion (IsWhole by)) (sym are) (every-map (IsWhole by) (rekeyed shifts) (joined old) h.whole);
        chunks = sizes;
      }

pub none_rekeyed : (lists : List (List Entry)) → map (map (rekeyed [])) lists ≡ lists
none_rekeyed lists = map_own (map (rekeyed [])) lists (every (λ list. map (rekeyed []) list ≡ list) lists (λ list. map_own (rekeyed []) list (every (λ entry. rekeyed [] entry ≡ entry) list own)))
  where
    own : (entry : Entry) → rekeyed [] entry ≡ entry
    own entry = ap (λ key. let moved : Entry = record entry { key = key } in moved) (still_key entry.key)
