-- Keys that move range by range.
use Rattle.std.proofs.Common.{◌≡◌, refl, ap, sym, ◌∙◌, subst, true, false, cond, ◌||◌, ℕ, ◌-◌, ◌^◌, ◌<◌, ◌≤◌, arith, List, [], ◌∷◌, map, length, get_or, take, drop, leb, leb-false, ltb-true, pos, negsuc, ℤ, ◌+ℤ◌, unwrap_or, option_map, Option, true≢false, ◌⊎◌, inl, inr, w64, to_z, of_z}
use Rattle.std.{specs.Prelude.{int_le, int_lt, IfNone, IfSome}, specs.Bool.then_some, specs.List.AllByRecursion, proofs.lemmas.Bool.{cases_eq, cases_lt, ne_eqb, and_from, and_left, and_right, le-leb, le-ltb, leb-true, lt-leb, or_from}, proofs.lemmas.Int.{ints, to_z-of_z}, proofs.lemmas.List.take_all}
use Rattle.key_lists.{specs.Keys.{is_among, IsRising}, proofs.Among.{each_among, of_among}, proofs.Every.{every_both, every_weaker, every-map, every_unmapped, map_map, map_own, map_same}}
use Rattle.row_set.{specs.Moves.{IsKey, moved_key, moved_keys}, specs.Sets.IsKeySet}
use Rattle.tick_model.{specs.declared.update.ShiftRange.ShiftRange, specs.Rules.{is_past, landed}, specs.Shifts.{moved, as_key, holds}}
use Rattle.shift_data.{specs.Parts.IsLastUpTo, specs.ShiftLists.IsShiftList, proofs.Lawful.{not_past, place}, proofs.Searches.{find_here, find_none, find_past, holds_not_after, holds_not_before, holds_within}, proofs.Segments.fits_delta}

pub is_key : (place : ℤ) → is_past (2 ^ 62) place ≡ false → IsKey place
is_key place e =
    let is = not_past (2 ^ 62) place e in
    subst IsKey (sym is.0) (small (as_key place) is.1)
  where
    small : (n : ℕ) → n < 2 ^ 62 → IsKey (pos n)
    small n lt = record { whole = omega (arith, ints); small = omega (arith, ints) }

stays_inside : (n : ℕ) → n < 2 ^ 62 → is_past (2 ^ 62) (pos n) ≡ false
stays_inside n lt = or_from (int_lt (pos n) (pos 0)) (int_le (pos (2 ^ 62)) (pos n)) (le-ltb n 0 (omega arith)) (lt-leb (2 ^ 62) n lt)

-- where rising keys rise again after a move, the move keeps their order
pub moves_up : (f : ℕ → ℕ) (xs : List ℕ) (a b : ℕ) → IsRising xs → IsRising (map f xs) → is_among a xs ≡ true → is_among b xs ≡ true → a < b → f a < f b
moves_up f [] a b r m ha hb below = absurd (true≢false (sym ha))
moves_up f (x ∷ xs) a b r m ha hb below =
    elim (cases_eq x a) [
      | inl same ↦
          subst (λ k. f k < f b) same
          (of_among (λ y. f x < f y) b xs (every_unmapped (λ y. f x < y) f xs m.0) (past b (λ (e : x ≡ b). omega (arith, same, e, below)) hb))
      | inr other ↦
          let there = past a other ha in let above : x < a = of_among (λ y. x < y) a xs r.0 there in
          moves_up f xs a b r.1 m.1 there (past b (λ (e : x ≡ b). omega (arith, above, e, below)) hb) below
    ]
  where
    past : (k : ℕ) → (x ≡ k → ⊥) → is_among k (x ∷ xs) ≡ true → is_among k xs ≡ true
    past k other own = sym (ap (λ b. b || is_among k xs) (ne_eqb x k other)) ∙ own

-- a key has one place up to a key, and another past it
pub record IsJoined (low high place : ℕ → ℕ) (end key : ℕ) : Type 0 where
  pub order : key ≤ end → low key ≤ high key
  pub below : key ≤ end → place key ≡ low key
  pub above : end < key → place key ≡ high key

-- where the first is not above the other, and both rise, the places rise
joined_rise : (low high place : ℕ → ℕ) (end : ℕ) (keys : List ℕ) → IsRising keys → IsRising (map low keys) → IsRising (map high keys) → AllByRecursion (IsJoined low high place end) keys → IsRising (map place keys)
joined_rise low high place end [] up lows highs is = tt
joined_rise low high place end (x ∷ xs) up lows highs is = (past xs up.0 lows.0 highs.0 is.1, joined_rise low high place end xs up.1 lows.1 highs.1 is.1)
  where
    next : (y : ℕ) → x < y → low x < low y → high x < high y → IsJoined low high place end y → place x < place y
    next y lt l h j =
        elim (cases_lt end x) [
          | inl late ↦ omega (arith, h, is.0.above late, j.above (omega arith))
          | inr early ↦
              elim (cases_lt end y) [
                | inl late ↦ omega (arith, h, is.0.below early, is.0.order early, j.above late)
                | inr both ↦ omega (arith, l, is.0.below early, j.below both)
              ]
        ]

    past : (ys : List ℕ) → AllByRecursion (λ y. x < y) ys → AllByRecursion (λ y. low x < y) (map low ys) → AllByRecursion (λ y. high x < y) (map high ys) → AllByRecursion (IsJoined low high place end) ys → AllByRecursion (λ y. place x < y) (map place ys)
    past [] a l h j = tt
    past (y ∷ ys) a l h j = (next y a.0 l.0 h.0 j.0, past ys a.1 l.1 h.1 j.1)

-- what holds of each key of a list holds of all
each : (P : ℕ → Type 0) (keys : List ℕ) → ((key : ℕ) → is_among key keys ≡ true → P key) → AllByRecursion P keys
each P keys h = every_weaker (λ key. is_among key keys ≡ true) P keys h (each_among keys)

-- the keys that a range holds are not past their last
pub none_held : (range : ShiftRange) (keys : List ℕ) → AllByRecursion (λ key. range.end < key) keys → AllByRecursion (λ key. holds range key ≡ false) keys
none_held range keys past = every_weaker (λ key. range.end < key) (λ key. holds range key ≡ false) keys (λ key more. holds_not_after range key more) past

pub record IsLastHeld (range : ShiftRange) (keys : List ℕ) (o : Option ℕ) : Type 0 where
  pub none : IfNone o (AllByRecursion (λ key. holds range key ≡ false) keys)
  pub begin : IfSome o (λ last. range.begin ≤ last)
  pub last : IfSome o (IsLastUpTo keys range.end)

pub last_up_held : (range : ShiftRange) (keys : List ℕ) (last : ℕ) → IsLastUpTo keys range.end last → IsLastHeld range keys (then_some (leb range.begin last) last)
last_up_held range keys last is =
    (elim (leb range.begin last) as (λ b. leb range.begin last ≡ b → IsLastHeld range keys (then_some b last)) [
      | true ↦ λ e. record { none = tt; begin = leb-true range.begin last e; last = is }
      | false ↦ λ e. record {
        none =
            each (λ key. holds range key ≡ false) keys
            (λ key own.
            elim (cases_lt range.end key) [
              | inl past ↦ holds_not_after range key past
              | inr le ↦ holds_not_before range key (omega (arith, is.greatest key own le, leb-false range.begin last e))
            ]);
        begin = tt;
        last = tt;
      }
    ]) refl

-- what one range moves
moved_before : (first last key : ℕ) (delta : ℤ) → key < first → moved_key first last delta key ≡ pos key
moved_before first last key delta lt = ap (λ b. cond b (pos key +ℤ delta) (pos key)) (and_left (leb first key) (leb key last) (lt-leb first key lt))

moved_after : (first last key : ℕ) (delta : ℤ) → last < key → moved_key first last delta key ≡ pos key
moved_after first last key delta lt = ap (λ b. cond b (pos key +ℤ delta) (pos key)) (and_right (leb first key) (leb key last) (lt-leb key last lt))

pub moved_within : (first last key : ℕ) (delta : ℤ) → first ≤ key → key ≤ last → moved_key first last delta key ≡ pos key +ℤ delta
moved_within first last key delta above below = ap (λ b. cond b (pos key +ℤ delta) (pos key)) (and_from (leb first key) (leb key last) (le-leb first key above) (le-leb key last below))

fallen : (place key : ℕ) (delta : ℤ) → int_lt delta (pos 0) ≡ true → (pos place ≡ pos key) ⊎ (pos place ≡ pos key +ℤ delta) → place ≤ key
fallen place key delta falls (inl e) = omega (arith, ints, e)
fallen place key (pos n) falls (inr e) = absurd (omega (arith, ltb-true n 0 falls))
fallen place key (negsuc n) falls (inr e) = omega (arith, ints, e)

climbed : (place key : ℕ) (delta : ℤ) → int_lt delta (pos 0) ≡ false → (pos place ≡ pos key) ⊎ (pos place ≡ pos key +ℤ delta) → key ≤ place
climbed place key delta climbs (inl e) = omega (arith, ints, e)
climbed place key (pos n) climbs (inr e) = omega (arith, ints, e)
climbed place key (negsuc n) climbs (inr e) = absurd (true≢false climbs)

-- a shift that leads keys to keys that rise
pub record IsMovable (shifts : List ShiftRange) (keys : List ℕ) : Type 0 where
  pub list : IsShiftList shifts
  pub inside : AllByRecursion (λ key. is_past (2 ^ 62) (moved shifts key) ≡ false) keys
  pub rising : IsRising (landed shifts keys)

abbrev pub head : List ShiftRange → ShiftRange
head shifts = get_or shifts 0 (record { begin = 0; end = 0; delta = pos 0 })

abbrev pub rest : List ShiftRange → List ShiftRange
rest shifts = take (length shifts - 1) (drop 1 shifts)

pub split : (shifts : List ShiftRange) → 1 ≤ length shifts → shifts ≡ head shifts ∷ rest shifts
split [] some = absurd (omega (arith, some))
split (range ∷ others) some = ap (λ those. range ∷ those) (sym (take_all (length (range ∷ others) - 1) others (omega arith)))

pub shorter : (shifts : List ShiftRange) (bound : ℕ) → 1 ≤ length shifts → length shifts ≤ bound → length (rest shifts) < bound
shorter shifts bound some le = omega (arith, le, ap length (split shifts some))

pub movable : (shifts : List ShiftRange) (keys : List ℕ) → 1 ≤ length shifts → IsShiftList shifts → AllByRecursion (λ key. is_past (2 ^ 62) (moved shifts key) ≡ false) keys → IsRising (landed shifts keys) → IsMovable (head shifts ∷ rest shifts) keys
movable shifts keys some list inside rising = subst (λ those. IsMovable those keys) (split shifts some) (record { list = list; inside = inside; rising = rising })

-- the first range of a shift and the others
module _ (range : ShiftRange) (others : List ShiftRange) (keys : List ℕ) (h : IsMovable (range ∷ others) keys) where
  pub others_list : IsShiftList others
  others_list = record { apart = h.list.apart.3; small = h.list.small.1 }

  pub same_delta : to_z w64 (of_z w64 range.delta) ≡ range.delta
  same_delta = to_z-of_z w64 range.delta (fits_delta range.delta h.list.small.0.up h.list.small.0.down)

  stays : (key : ℕ) → key ≤ range.end → moved others key ≡ pos key
  stays key le =
      ap (λ o. pos key +ℤ unwrap_or (option_map (λ (range : ShiftRange). range.delta) o) (pos 0))
      (find_none key others (every_weaker (λ next. range.end < next.begin) (λ next. key < next.begin) others (λ next past. omega (arith, le, past)) h.list.apart.2))
      ∙ none key
    where
      none : (key : ℕ) → pos key +ℤ pos 0 ≡ pos key
      none key = omega (arith, ints)

  held : (key : ℕ) → holds range key ≡ true → moved (range ∷ others) key ≡ pos key +ℤ range.delta
  held key has = ap (λ o. pos key +ℤ unwrap_or (option_map (λ (range : ShiftRange). range.delta) o) (pos 0)) (find_here range others key has)

  unheld : (key : ℕ) → holds range key ≡ false → moved (range ∷ others) key ≡ moved others key
  unheld key misses = ap (λ o. pos key +ℤ unwrap_or (option_map (λ (range : ShiftRange). range.delta) o) (pos 0)) (find_past range others key misses)

  -- where the range holds no key, the others move them all
  pub others_move : AllByRecursion (λ key. holds range key ≡ false) keys → IsMovable others keys × (landed others keys ≡ landed (range ∷ others) keys)
  others_move none =
      let same : landed others keys ≡ landed (range ∷ others) keys =
      map_same (place others) (place (range ∷ others)) keys (every_weaker (λ key. holds range key ≡ false) (λ key. place others key ≡ place (range ∷ others) key) keys (λ key misses. sym (ap as_key (unheld key misses))) none) in (
        record {
          list = others_list;
          inside =
              every_both (λ key. holds range key ≡ false) (λ key. is_past (2 ^ 62) (moved (range ∷ others) key) ≡ false) (λ key. is_past (2 ^ 62) (moved others key) ≡ false) keys
              (λ key misses inside. ap (is_past (2 ^ 62)) (sym (unheld key misses)) ∙ inside) none h.inside;
          rising = subst IsRising (sym same) h.rising;
        },
        same,
      )

  -- where the last key that it holds is known
  module _ (last : ℕ) (set : IsKeySet keys) (ends : IsLastUpTo keys range.end last) where
    abbrev shift : ℕ → ℤ
    shift key = moved_key range.begin last range.delta key

    inside : (key : ℕ) → is_among key keys ≡ true → is_past (2 ^ 62) (moved (range ∷ others) key) ≡ false
    inside key own = of_among (λ key. is_past (2 ^ 62) (moved (range ∷ others) key) ≡ false) key keys h.inside own

    own_inside : (key : ℕ) → is_among key keys ≡ true → is_past (2 ^ 62) (pos key) ≡ false
    own_inside key own = stays_inside key (of_among (λ key. key < 2 ^ 62) key keys set.small own)

    lands : (key : ℕ) → is_among key keys ≡ true → moved (range ∷ others) key ≡ pos (place (range ∷ others) key)
    lands key own = (not_past (2 ^ 62) (moved (range ∷ others) key) (inside key own)).0

    -- up to its end the range alone moves the keys
    shifted_here : (key : ℕ) → is_among key keys ≡ true → key ≤ range.end → shift key ≡ moved (range ∷ others) key
    shifted_here key own le =
        elim (cases_lt key range.begin) [
          | inl before ↦ moved_before range.begin last key range.delta before ∙ sym (unheld key (holds_not_before range key before) ∙ stays key le)
          | inr from ↦ moved_within range.begin last key range.delta from (ends.greatest key own le) ∙ sym (held key (holds_within range key from le))
        ]

    past_end : (key : ℕ) → range.end < key → moved (range ∷ others) key ≡ moved others key
    past_end key past = unheld key (holds_not_after range key past)

    goes : (key : ℕ) → is_among key keys ≡ true → key ≤ range.end → (pos (place (range ∷ others) key) ≡ pos key) ⊎ (pos (place (range ∷ others) key) ≡ pos key +ℤ range.delta)
    goes key own le =
        elim (cases_lt key range.begin) [
          | inl before ↦ inl (sym (lands key own) ∙ unheld key (holds_not_before range key before) ∙ stays key le)
          | inr from ↦ inr (sym (lands key own) ∙ held key (holds_within range key from le))
        ]

    after_last : (key : ℕ) → range.end < key → shift key ≡ pos key
    after_last key past = moved_after range.begin last key range.delta (omega (arith, past, ends.below))

    own_rise : IsRising (map (λ key. key) keys)
    own_rise = subst IsRising (sym (map_own (λ key. key) keys (each (λ key. key ≡ key) keys (λ key own. refl)))) set.rising

    -- a range that falls moves first
    module _ (falls : int_lt range.delta (pos 0) ≡ true) where
      down : (key : ℕ) → is_among key keys ≡ true → key ≤ range.end → place (range ∷ others) key ≤ key
      down key own le = fallen (place (range ∷ others) key) key range.delta falls (goes key own le)

      first_place : (key : ℕ) → is_among key keys ≡ true → key ≤ range.end → as_key (shift key) ≡ place (range ∷ others) key
      first_place key own le = ap as_key (shifted_here key own le)

      then_moves : (key : ℕ) → is_among key keys ≡ true → moved others (as_key (shift key)) ≡ moved (range ∷ others) key
      then_moves key own =
          elim (cases_lt range.end key) [
            | inl past ↦ ap (λ n. moved others (as_key n)) (after_last key past) ∙ sym (past_end key past)
            | inr le ↦ ap (moved others) (first_place key own le) ∙ stays (place (range ∷ others) key) (omega (arith, le, down key own le)) ∙ sym (lands key own)
          ]

      pub fall_keys : AllByRecursion (λ key. IsKey (shift key)) keys
      fall_keys =
          each (λ key. IsKey (shift key)) keys
          (λ key own.
          elim (cases_lt range.end key) [
            | inl past ↦ is_key (shift key) (ap (is_past (2 ^ 62)) (after_last key past) ∙ own_inside key own)
            | inr le ↦ is_key (shift key) (ap (is_past (2 ^ 62)) (shifted_here key own le) ∙ inside key own)
          ])

      pub fall_rises : IsRising (moved_keys range.begin last range.delta keys)
      fall_rises =
          joined_rise (place (range ∷ others)) (λ key. key) (λ key. as_key (shift key)) range.end keys set.rising h.rising own_rise
          (each (IsJoined (place (range ∷ others)) (λ key. key) (λ key. as_key (shift key)) range.end) keys
          (λ key own. record {
            order = down key own;
            below = first_place key own;
            above = λ past. ap as_key (after_last key past);
          }))

      pub then_land : landed others (moved_keys range.begin last range.delta keys) ≡ landed (range ∷ others) keys
      then_land =
          map_map (place others) (λ key. as_key (shift key)) keys
          ∙ map_same (λ key. place others (as_key (shift key))) (place (range ∷ others)) keys
          (each (λ key. place others (as_key (shift key)) ≡ place (range ∷ others) key) keys (λ key own. ap as_key (then_moves key own)))

      pub then_move : IsMovable others (moved_keys range.begin last range.delta keys)
      then_move = record {
        list = others_list;
        inside =
            every-map (λ key. is_past (2 ^ 62) (moved others key) ≡ false) (λ key. as_key (shift key)) keys
            (each (λ key. is_past (2 ^ 62) (moved others (as_key (shift key))) ≡ false) keys
            (λ key own. ap (is_past (2 ^ 62)) (then_moves key own) ∙ inside key own));
        rising = subst IsRising (sym then_land) h.rising;
      }

    -- a range that rises moves last
    module _ (climbs : int_lt range.delta (pos 0) ≡ false) where
      up : (key : ℕ) → is_among key keys ≡ true → key ≤ range.end → key ≤ place (range ∷ others) key
      up key own le = climbed (place (range ∷ others) key) key range.delta climbs (goes key own le)

      pub before_move : IsMovable others keys
      before_move = record {
        list = others_list;
        inside =
            each (λ key. is_past (2 ^ 62) (moved others key) ≡ false) keys
            (λ key own.
            elim (cases_lt range.end key) [
              | inl past ↦ ap (is_past (2 ^ 62)) (sym (past_end key past)) ∙ inside key own
              | inr le ↦ ap (is_past (2 ^ 62)) (stays key le) ∙ own_inside key own
            ]);
        rising =
            joined_rise (λ key. key) (place (range ∷ others)) (place others) range.end keys set.rising own_rise h.rising
            (each (IsJoined (λ key. key) (place (range ∷ others)) (place others) range.end) keys
            (λ key own. record {
              order = up key own;
              below = λ le. ap as_key (stays key le);
              above = λ past. ap as_key (sym (past_end key past));
            }));
      }

      -- the last key that the range held stays below those that were past it
      last_moves : (key : ℕ) → is_among key keys ≡ true → shift (place others key) ≡ moved (range ∷ others) key
      last_moves key own =
          elim (cases_lt range.end key) [
            | inl past ↦
                let same : place others key ≡ place (range ∷ others) key = ap as_key (sym (past_end key past)) in
                let above : place (range ∷ others) last < place (range ∷ others) key = moves_up (place (range ∷ others)) keys last key set.rising h.rising ends.key own (omega (arith, past, ends.below)) in
                moved_after range.begin last (place others key) range.delta (omega (arith, above, same, up last ends.key ends.below)) ∙ ap (λ n. pos n) same ∙ sym (lands key own)
            | inr le ↦ ap (λ n. shift (as_key n)) (stays key le) ∙ shifted_here key own le
          ]

      pub last_keys : AllByRecursion (λ key. IsKey (shift key)) (landed others keys)
      last_keys =
          every-map (λ key. IsKey (shift key)) (place others) keys
          (each (λ key. IsKey (shift (place others key))) keys
          (λ key own. is_key (shift (place others key)) (ap (is_past (2 ^ 62)) (last_moves key own) ∙ inside key own)))

      pub last_land : moved_keys range.begin last range.delta (landed others keys) ≡ landed (range ∷ others) keys
      last_land =
          map_map (λ key. as_key (shift key)) (place others) keys
          ∙ map_same (λ key. as_key (shift (place others key))) (place (range ∷ others)) keys
          (each (λ key. as_key (shift (place others key)) ≡ place (range ∷ others) key) keys (λ key own. ap as_key (last_moves key own)))

      pub last_rises : IsRising (moved_keys range.begin last range.delta (landed others keys))
      last_rises = subst IsRising (sym last_land) h.rising
