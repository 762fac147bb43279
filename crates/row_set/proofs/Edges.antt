-- What is left of ranges when the keys of one range are removed.
use Rattle.std.proofs.Common.{◌≡◌, refl, ap, ap₂, sym, ◌∙◌, subst, Bool, true, false, cond, not, ◌&&◌, ◌||◌, ℕ, ◌+◌, ◌-◌, ◌^◌, ◌<◌, ◌≤◌, arith, List, [], ◌∷◌, ◌++◌, length, take, drop, slice_range, get_or, leb, leb-true, le-leb, lt-ltb, le-ltb, append_assoc, take-append-drop, inl, inr}
use Rattle.std.{specs.List.{AllByRecursion, list_any}, proofs.lemmas.Bool.{cases_lt, and_parts, lt-leb, true≢false, not-false}, proofs.lemmas.List.get_or_default, proofs.lemmas.List.Folds.list_any-append}
use Rattle.key_lists.{specs.Keys.{is_among, without}, proofs.Among.among-filter, proofs.Every.every_weaker, proofs.Rising.{rising_same, rising_some}, proofs.Booleans.{or_false, and_false}}
use Rattle.row_set.{specs.declared.ranges.Range.Range, specs.Ranges.{keys_from, keys_of, holds, AreApart, Meets}, proofs.Held.{among-in, among-keys, holds-true, holds_before, holds_after, none_before, none_after}, proofs.Apart.{apart-take, apart_raised, apart-append, keys_rise}, proofs.Counts.blank, proofs.Middles.{span, IsMet, met, any_parts, before_head, after_tail}}
pub use Rattle.row_set.specs.Ranges.{left_edge, right_edge}

abbrev outside : ℕ → ℕ → ℕ → Bool
outside first last key = not (holds key (span first last))

inside_is : (key first last : ℕ) → holds key (span first last) ≡ true → (first ≤ key) × (key ≤ last)
inside_is key first last e = let parts = and_parts (leb first key) (leb key last) e in (leb-true first key parts.0, leb-true key last parts.1)

left_holds : (key first : ℕ) (head : Range) → key < first → list_any (holds key) (left_edge first head) ≡ leb head.first key
left_holds key first head below =
    elim (cases_lt head.first first) [
      | inl edge ↦
          ap (λ b. list_any (holds key) (cond b (span head.first (first - 1) ∷ []) [])) (lt-ltb head.first first edge)
          ∙ or_false (holds key (span head.first (first - 1)))
          ∙ elim (cases_lt key head.first) [
            | inl out ↦ holds_before key (span head.first (first - 1)) out ∙ sym (lt-leb head.first key out)
            | inr in_it ↦ holds-true key (span head.first (first - 1)) in_it (omega arith) ∙ sym (le-leb head.first key in_it)
          ]
      | inr none ↦ ap (λ b. list_any (holds key) (cond b (span head.first (first - 1) ∷ []) [])) (le-ltb head.first first none) ∙ sym (lt-leb head.first key (omega arith))
    ]

left_none : (key first : ℕ) (head : Range) → first ≤ key → list_any (holds key) (left_edge first head) ≡ false
left_none key first head above =
    elim (cases_lt head.first first) [
      | inl edge ↦ ap (λ b. list_any (holds key) (cond b (span head.first (first - 1) ∷ []) [])) (lt-ltb head.first first edge) ∙ or_false (holds key (span head.first (first - 1))) ∙ holds_after key (span head.first (first - 1)) (omega arith)
      | inr none ↦ ap (λ b. list_any (holds key) (cond b (span head.first (first - 1) ∷ []) [])) (le-ltb head.first first none)
    ]

right_holds : (key last : ℕ) (tail : Range) → last < key → list_any (holds key) (right_edge last tail) ≡ leb key tail.last
right_holds key last tail above =
    elim (cases_lt last tail.last) [
      | inl edge ↦
          ap (λ b. list_any (holds key) (cond b (span (last + 1) tail.last ∷ []) [])) (lt-ltb last tail.last edge)
          ∙ or_false (holds key (span (last + 1) tail.last))
          ∙ elim (cases_lt tail.last key) [
            | inl out ↦ holds_after key (span (last + 1) tail.last) out ∙ sym (lt-leb key tail.last out)
            | inr in_it ↦ holds-true key (span (last + 1) tail.last) (omega arith) in_it ∙ sym (le-leb key tail.last in_it)
          ]
      | inr none ↦ ap (λ b. list_any (holds key) (cond b (span (last + 1) tail.last ∷ []) [])) (le-ltb last tail.last none) ∙ sym (lt-leb key tail.last (omega arith))
    ]

right_none : (key last : ℕ) (tail : Range) → key ≤ last → list_any (holds key) (right_edge last tail) ≡ false
right_none key last tail below =
    elim (cases_lt last tail.last) [
      | inl edge ↦ ap (λ b. list_any (holds key) (cond b (span (last + 1) tail.last ∷ []) [])) (lt-ltb last tail.last edge) ∙ or_false (holds key (span (last + 1) tail.last)) ∙ holds_before key (span (last + 1) tail.last) (omega arith)
      | inr none ↦ ap (λ b. list_any (holds key) (cond b (span (last + 1) tail.last ∷ []) [])) (le-ltb last tail.last none)
    ]

-- the edges hold the keys that the ranges hold, but for those that are removed
pub edges_hold : (key first last : ℕ) (ranges : List Range) (head tail : Range) → first ≤ last → IsMet first last ranges head tail → list_any (holds key) (left_edge first head ++ right_edge last tail) ≡ (outside first last key && list_any (holds key) ranges)
edges_hold key first last ranges head tail le is =
    list_any-append (holds key) (left_edge first head) (right_edge last tail)
    ∙ elim (cases_lt key first) [
      | inl before ↦
          ap (λ b. list_any (holds key) (left_edge first head) || b) (right_none key last tail (omega arith))
          ∙ or_false (list_any (holds key) (left_edge first head))
          ∙ left_holds key first head before
          ∙ sym (is.below key (omega arith))
          ∙ sym (ap (λ b. not b && list_any (holds key) ranges) (holds_before key (span first last) before))
      | inr from_first ↦
          elim (cases_lt last key) [
            | inl past ↦
                ap (λ b. b || list_any (holds key) (right_edge last tail)) (left_none key first head from_first)
                ∙ right_holds key last tail past
                ∙ sym (is.above key (omega arith))
                ∙ sym (ap (λ b. not b && list_any (holds key) ranges) (holds_after key (span first last) past))
            | inr to_last ↦
                ap (λ b. b || list_any (holds key) (right_edge last tail)) (left_none key first head from_first)
                ∙ right_none key last tail to_last
                ∙ sym (ap (λ b. not b && list_any (holds key) ranges) (holds-true key (span first last) from_first to_last))
          ]
    ]

pub left_apart : (first : ℕ) (head : Range) → head.first < 2 ^ 62 → first < 2 ^ 62 → AreApart head.first (left_edge first head)
left_apart first head small low =
    elim (cases_lt head.first first) [
      | inl edge ↦ subst (λ b. AreApart head.first (cond b (span head.first (first - 1) ∷ []) [])) (sym (lt-ltb head.first first edge)) (record { above = omega arith; ascends = omega arith; small = omega arith }, tt)
      | inr none ↦ subst (λ b. AreApart head.first (cond b (span head.first (first - 1) ∷ []) [])) (sym (le-ltb head.first first none)) tt
    ]

left_ends : (first bound : ℕ) (head : Range) → first ≤ bound → AllByRecursion (λ range. range.last + 2 ≤ bound + 1) (left_edge first head)
left_ends first bound head le =
    elim (cases_lt head.first first) [
      | inl edge ↦ subst (λ b. AllByRecursion (λ range. range.last + 2 ≤ bound + 1) (cond b (span head.first (first - 1) ∷ []) [])) (sym (lt-ltb head.first first edge)) (omega arith, tt)
      | inr none ↦ subst (λ b. AllByRecursion (λ range. range.last + 2 ≤ bound + 1) (cond b (span head.first (first - 1) ∷ []) [])) (sym (le-ltb head.first first none)) tt
    ]

pub right_apart : (last : ℕ) (tail : Range) (after : List Range) → tail.last < 2 ^ 62 → AllByRecursion (λ range. last < range.first) after → AreApart (tail.last + 2) after → AreApart (last + 1) (right_edge last tail ++ after)
right_apart last tail after small past h =
    elim (cases_lt last tail.last) [
      | inl edge ↦ subst (λ b. AreApart (last + 1) (cond b (span (last + 1) tail.last ∷ []) [] ++ after)) (sym (lt-ltb last tail.last edge)) (record { above = omega arith; ascends = omega arith; small = small }, h)
      | inr none ↦ subst (λ b. AreApart (last + 1) (cond b (span (last + 1) tail.last ∷ []) [] ++ after)) (sym (le-ltb last tail.last none)) (apart_raised (tail.last + 2) (last + 1) after (every_weaker (λ range. last < range.first) (λ range. last + 1 ≤ range.first) after (λ range lt. omega (arith, lt)) past) h)
    ]

pub edges_apart : (first last from to : ℕ) (ranges : List Range) → AreApart 0 ranges → first ≤ last → last < 2 ^ 62 → Meets first last ranges from to → from < to → AreApart 0 (take from ranges ++ ((left_edge first (get_or ranges from blank) ++ right_edge last (get_or ranges (to - 1) blank)) ++ drop to ranges))
edges_apart first last from to ranges h le small is lt =
    let head = get_or ranges from blank in
    let tail = get_or ranges (to - 1) blank in
    let within : to ≤ length ranges = is.within in
    let meet : IsMet first last (slice_range ranges from to) head tail = met first last from to ranges lt h is in
    apart-append 0 head.first (take from ranges) ((left_edge first head ++ right_edge last tail) ++ drop to ranges) (omega arith)
    (before_head from ranges (omega (arith, within)) h)
    (apart-take 0 from ranges h)
    (subst (λ those. AreApart head.first those) (sym (append_assoc (left_edge first head) (right_edge last tail) (drop to ranges)))
    (apart-append head.first (last + 1) (left_edge first head) (right_edge last tail ++ drop to ranges) (omega (arith, meet.to_high))
    (left_ends first last head le)
    (left_apart first head (omega (arith, meet.order, meet.small)) (omega (arith, le, small)))
    (right_apart last tail (drop to ranges) meet.small is.after (after_tail to ranges (omega arith) within h))))

or_kept : (a k m p : Bool) → (k ≡ false → a ≡ false) → (k ≡ false → p ≡ false) → (a || ((k && m) || p)) ≡ (k && (a || (m || p)))
or_kept a true m p h i = refl
or_kept true false m p h i = absurd (true≢false (h refl))
or_kept false false m p h i = i refl

without_by : (first last from to : ℕ) (others ranges new : List Range) → AreApart 0 ranges → AreApart 0 new → Meets first last ranges from to → new ≡ take from ranges ++ (others ++ drop to ranges) → ((key : ℕ) → list_any (holds key) others ≡ (outside first last key && list_any (holds key) (slice_range ranges from to))) → keys_of new ≡ without (keys_from first last) (keys_of ranges)
without_by first last from to others ranges new h k is same hold =
    rising_same (keys_of new) (without (keys_from first last) (keys_of ranges)) (keys_rise 0 new k) (rising_some (λ key. not (is_among key (keys_from first last))) (keys_of ranges) (keys_rise 0 ranges h))
    (λ key.
    among-keys key new
    ∙ ap (list_any (holds key)) same
    ∙ list_any-append (holds key) (take from ranges) (others ++ drop to ranges)
    ∙ ap (λ b. list_any (holds key) (take from ranges) || b) (list_any-append (holds key) others (drop to ranges))
    ∙ ap (λ b. list_any (holds key) (take from ranges) || (b || list_any (holds key) (drop to ranges))) (hold key)
    ∙ or_kept (list_any (holds key) (take from ranges)) (outside first last key) (list_any (holds key) (slice_range ranges from to)) (list_any (holds key) (drop to ranges))
    (λ e. let in_it = inside_is key first last (not-false (holds key (span first last)) e) in none_before key (take from ranges) (every_weaker (λ range. range.last < first) (λ range. range.last < key) (take from ranges) (λ range below. omega (arith, below, in_it.0)) is.before))
    (λ e. let in_it = inside_is key first last (not-false (holds key (span first last)) e) in none_after key (drop to ranges) (every_weaker (λ range. last < range.first) (λ range. key < range.first) (drop to ranges) (λ range above. omega (arith, above, in_it.1)) is.after))
    ∙ ap (λ b. outside first last key && b) (sym (among-keys key ranges ∙ any_parts key from to ranges is.order))
    ∙ ap (λ b. not b && is_among key (keys_of ranges)) (sym (among-in key (span first last)))
    ∙ sym (among-filter (λ key. not (is_among key (keys_from first last))) key (keys_of ranges)))

pub edges_keys : (first last from to : ℕ) (ranges new : List Range) → AreApart 0 ranges → first ≤ last → last < 2 ^ 62 → Meets first last ranges from to → from < to → new ≡ take from ranges ++ ((left_edge first (get_or ranges from blank) ++ right_edge last (get_or ranges (to - 1) blank)) ++ drop to ranges) → keys_of new ≡ without (keys_from first last) (keys_of ranges)
edges_keys first last from to ranges new h le small is lt same =
    let head = get_or ranges from blank in
    let tail = get_or ranges (to - 1) blank in
    without_by first last from to (left_edge first head ++ right_edge last tail) ranges new h (subst (λ those. AreApart 0 those) (sym same) (edges_apart first last from to ranges h le small is lt)) is same
    (λ key. edges_hold key first last (slice_range ranges from to) head tail le (met first last from to ranges lt h is))

-- the edges that are left of the ranges that are met
pub removed : (first last from to : ℕ) (ranges new : List Range) (head tail : Range) (left right : List Range) → AreApart 0 ranges → first ≤ last → last < 2 ^ 62 → Meets first last ranges from to → (from ≡ to → ⊥) → head ≡ get_or ranges from head → tail ≡ get_or ranges (to - 1) tail → left_edge first head ≡ left → right_edge last tail ≡ right → new ≡ take from ranges ++ ((left ++ right) ++ drop to ranges) → AreApart 0 new × (keys_of new ≡ without (keys_from first last) (keys_of ranges))
removed first last from to ranges new head tail left right h le small is some at_head at_tail left_same right_same same =
    let within : to ≤ length ranges = is.within in
    let lt : from < to = omega (arith, is.order, some) in
    let head_is : head ≡ get_or ranges from blank = at_head ∙ get_or_default ranges from head blank (omega (arith, within)) in
    let tail_is : tail ≡ get_or ranges (to - 1) blank = at_tail ∙ get_or_default ranges (to - 1) tail blank (omega (arith, within)) in
    let whole : new ≡ take from ranges ++ ((left_edge first (get_or ranges from blank) ++ right_edge last (get_or ranges (to - 1) blank)) ++ drop to ranges) =
    same ∙ ap₂ (λ xs ys. take from ranges ++ ((xs ++ ys) ++ drop to ranges)) (sym left_same ∙ ap (left_edge first) head_is) (sym right_same ∙ ap (right_edge last) tail_is) in
    (subst (λ those. AreApart 0 those) (sym whole) (edges_apart first last from to ranges h le small is lt), edges_keys first last from to ranges new h le small is lt whole)

-- nothing is met, and nothing is removed
pub none_removed : (first last from to : ℕ) (ranges : List Range) → AreApart 0 ranges → Meets first last ranges from to → from ≡ to → keys_of ranges ≡ without (keys_from first last) (keys_of ranges)
none_removed first last from to ranges h is same =
    let nothing : to - from ≡ 0 = omega arith in
    without_by first last from to [] ranges ranges h h is (sym (take-append-drop from ranges) ∙ ap (λ n. take from ranges ++ drop n ranges) same)
    (λ key. sym (ap (λ n. outside first last key && list_any (holds key) (take n (drop from ranges))) nothing ∙ and_false (outside first last key)))
