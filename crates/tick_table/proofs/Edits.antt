-- One row more that is taken out, put in or replaced, as a walk along rising keys comes to its key.
use Rattle.std.proofs.Common.{map, ◌≡◌, ap, ap₂, sym, ◌∙◌, subst, true, false, not, ℕ, suc, ◌+◌, ◌^◌, ◌<◌, ◌≤◌, arith, List, [], ◌∷◌, ◌++◌, append_assoc, length, length-append, take, drop, get_or, set, slice_range, ℤ, unwrap_or}
use Rattle.std.{specs.Prelude.{flat_map, option_map}, specs.List.{AllByRecursion, insert, remove, remove_range}, proofs.lemmas.List.{length-set, map-append}, proofs.lemmas.List.Edits.length-insert}
use Rattle.chunk_list.proofs.Runs.{length-left, length-run, more_is, more_out, one_is}
use Rattle.key_lists.{specs.Keys.{is_among, IsRising, without}, proofs.Among.{among_above, among_below}, proofs.Every.{every, every_weaker}, proofs.Parts.{every_back, every_front}, proofs.Rising.{rising_count, rising_some}}
use Rattle.row_set.{specs.Sets.{IsKeySet, count_below}, proofs.Windows.{rising_back, rising_before, rising_front}}
use Rattle.tick_model.{specs.declared.table.PlainRow.PlainRow, specs.Tables.cells_at, specs.Updates.removing, proofs.Among.row_at-filter}
use Rattle.tick_table.{specs.Placed.{paired, put_row}, proofs.Applied.among-without, proofs.Paired.{at_place, count_left, count_without, paired-insert, paired-remove, paired-set, place_below, removing-last, row_of, without-first, without-last, without_shorter}, proofs.TableColumns.length-mapped, proofs.Told.{at_put_row, flat_map-same}}

-- a walk along some keys of rows has come to this one: those are behind it, and those are still to come
pub record IsComeTo (rows behind : List ℕ) (key : ℕ) (others : List ℕ) : Type 0 where
  pub rows_rise : IsRising rows
  pub behind_rise : IsRising behind
  pub behind_own : AllByRecursion (λ other. is_among other rows ≡ true) behind
  pub below : AllByRecursion (λ other. other < key) behind
  pub own : is_among key rows ≡ true
  pub above : AllByRecursion (λ other. key < other) others

-- the rows of the keys behind were taken out
pub record IsTaken (rows behind : List ℕ) (was now left : List (List ℤ)) : Type 0 where
  pub count : length now ≡ length (without behind rows)
  pub stay : paired (without behind rows) now ≡ removing behind (paired rows was)
  pub gone : left ≡ map (λ key. cells_at key (paired rows was)) behind

pub come_to : (rows walked behind : List ℕ) (key : ℕ) (others : List ℕ) → IsRising rows → IsRising walked → AllByRecursion (λ other. is_among other rows ≡ true) walked → walked ≡ behind ++ key ∷ others → IsComeTo rows behind key others
come_to rows walked behind key others rises walked_rise there e =
    let parts_rise : IsRising (behind ++ key ∷ others) = subst IsRising e walked_rise in
    let parts_own : AllByRecursion (λ other. is_among other rows ≡ true) (behind ++ key ∷ others) = subst (AllByRecursion (λ other. is_among other rows ≡ true)) e there in
    record {
      rows_rise = rises;
      behind_rise = rising_front behind (key ∷ others) parts_rise;
      behind_own = every_front (λ other. is_among other rows ≡ true) behind (key ∷ others) parts_own;
      below = rising_before behind key others parts_rise;
      own = (every_back (λ other. is_among other rows ≡ true) behind (key ∷ others) parts_own).0;
      above = (rising_back behind (key ∷ others) parts_rise).0;
    }

-- there are few positions
pub few_below : (key : ℕ) (rows : List ℕ) → IsKeySet rows → is_among key rows ≡ true → count_below key rows < 2 ^ 62
few_below key rows keys here =
    let below = place_below key rows keys.rising here in
    let few = rising_count 0 (2 ^ 62) rows (omega arith) (every (λ (other : ℕ). 0 ≤ other) rows (λ other. omega arith)) keys.small keys.rising in
    omega (arith, below, few)

module _ (rows behind : List ℕ) (key : ℕ) (others : List ℕ) (h : IsComeTo rows behind key others) where
  -- the rows behind it were taken out
  absent : is_among key behind ≡ false
  absent = among_above key behind h.below

  stays : is_among key (without behind rows) ≡ true
  stays = among-without key behind rows absent h.own

  left_rise : IsRising (without behind rows)
  left_rise = rising_some (λ other. not (is_among other behind)) rows h.rows_rise

  taken_place : count_below key rows ≡ length behind + count_below key (without behind rows)
  taken_place = count_left key behind rows h.rows_rise h.behind_rise h.behind_own h.below

  pub held_position : (position : ℕ) (now left : List (List ℤ)) (cells : ℕ → List ℤ) (start count : ℕ) → position ≡ count_below key rows → start + count ≤ length now → left ++ slice_range now start (start + count) ≡ map cells behind
      → position ≡ length left + count + count_below key (without behind rows)
  held_position position now left cells start count at most is =
      let parts = taken_place in
      let many = ap length is ∙ length-mapped cells behind in
      omega (arith, parts, at, many, length-append left (slice_range now start (start + count)), length-run now start count most)

  pub taken_within : count_below key (without behind rows) < length (without behind rows)
  taken_within = place_below key (without behind rows) left_rise stays

  -- the row goes too
  module _ (was now left : List (List ℤ)) (n : ℕ) (taken : IsTaken rows behind was now left) (is : n ≡ count_below key (without behind rows)) where
    within : n < length now
    within = let below = taken_within in omega (arith, below, is, taken.count)

    one : n + 1 ≡ suc n
    one = omega arith

    row_is : slice_range now n (n + 1) ≡ cells_at key (paired rows was) ∷ []
    row_is =
        one_is now n [] within
        ∙ ap (λ cells. cells ∷ [])
        (ap (λ place. get_or now place []) is
        ∙ at_place key (without behind rows) now taken.count left_rise stays
        ∙ ap (cells_at key) taken.stay
        ∙ ap (λ o. unwrap_or (option_map (λ (row : PlainRow). row.cells) o) []) (row_at-filter (λ other. not (is_among other behind)) key (paired rows was) (ap not absent)))

    pub taken_next : IsTaken rows (behind ++ key ∷ []) was (remove_range now n (n + 1)) (left ++ slice_range now n (n + 1))
    taken_next = record {
      count =
          let fewer = length-left now n 1 (omega (arith, within)) in
          let left = without_shorter key (without behind rows) left_rise stays in
          let same = ap length (without-last key behind rows) in
          omega (arith, fewer, left, same, taken.count);
      stay =
          ap₂ (λ (left : List ℕ) (place : ℕ). paired left (take n now ++ drop place now)) (sym (without-last key behind rows)) one
          ∙ ap (λ place. paired (without (key ∷ []) (without behind rows)) (remove now place)) is
          ∙ paired-remove key (without behind rows) now taken.count left_rise stays
          ∙ ap (removing (key ∷ [])) taken.stay
          ∙ removing-last key behind (paired rows was);
      gone = ap₂ (λ (those these : List (List ℤ)). those ++ these) taken.gone row_is ∙ sym (map-append (λ other. cells_at other (paired rows was)) behind (key ∷ []));
    }

  -- rows that go together are still there, and the row lies behind them
  module _ (was now left : List (List ℤ)) (n k : ℕ) (most : n + k ≤ length now) (taken : IsTaken rows behind was (remove_range now n (n + k)) (left ++ slice_range now n (n + k))) (is : n ≡ count_below key (without behind rows)) where
    pub held_within : n + (k + 1) ≤ length now
    held_within = let below = taken_within in let fewer = length-left now n k most in omega (arith, below, is, taken.count, fewer)

    pub held_next : IsTaken rows (behind ++ key ∷ []) was (remove_range now n (n + (k + 1))) (left ++ slice_range now n (n + (k + 1)))
    held_next =
        subst (λ (some : List (List ℤ)). IsTaken rows (behind ++ key ∷ []) was some (left ++ slice_range now n (n + (k + 1)))) (more_out now n k 1 most)
        (subst (IsTaken rows (behind ++ key ∷ []) was (remove_range (remove_range now n (n + k)) n (n + 1)))
        (append_assoc left (slice_range now n (n + k)) (slice_range (remove_range now n (n + k)) n (n + 1)) ∙ ap (λ (those : List (List ℤ)). left ++ those) (more_is now n k 1 most))
        (taken_next was (remove_range now n (n + k)) (left ++ slice_range now n (n + k)) n taken is))

  -- the rows of the keys from it on are still to be put in
  abbrev there : List ℕ
  there = without others rows

  there_own : is_among key there ≡ true
  there_own = among-without key others rows (among_below key others h.above) h.own

  there_rise : IsRising there
  there_rise = rising_some (λ other. not (is_among other others)) rows h.rows_rise

  there_count : count_below key there ≡ count_below key rows
  there_count = count_without key others rows (every_weaker (λ other. key < other) (λ other. key ≤ other) others (λ other more. omega (arith, more)) h.above)

  there_more : length (without (key ∷ others) rows) + 1 ≡ length there
  there_more = let fewer = without_shorter key there there_rise there_own in let same = ap length (without-first key others rows) in omega (arith, fewer, same)

  module _ (row : List ℤ) (now : List (List ℤ)) (n : ℕ) (count : length now ≡ length (without (key ∷ others) rows)) (is : n ≡ count_below key rows) where
    pub put_within : n ≤ length now
    put_within = let within = place_below key there there_rise there_own in let more = there_more in let same = there_count in omega (arith, within, more, same, is, count)

    pub put_count : length (insert now n row) ≡ length there
    put_count = let longer = length-insert now n row put_within in let more = there_more in omega (arith, longer, more, count)

    pub put_now : paired there (insert now n row) ≡ put_row (row_of key row) (paired (without (key ∷ others) rows) now)
    put_now =
        ap (λ place. paired there (insert now place row)) (is ∙ sym there_count)
        ∙ paired-insert key row there now (count ∙ sym (ap length (without-first key others rows))) there_rise there_own
        ∙ ap (λ left. put_row (row_of key row) (paired left now)) (without-first key others rows)

  -- the row is replaced
  module _ (row : List ℤ) (now : List (List ℤ)) (n : ℕ) (count : length now ≡ length rows) (is : n ≡ count_below key rows) where
    pub set_within : n < length now
    set_within = let within = place_below key rows h.rows_rise h.own in omega (arith, within, is, count)

    pub set_count : length (set now n row) ≡ length rows
    set_count = length-set now n row ∙ count

    pub set_now : paired rows (set now n row) ≡ put_row (row_of key row) (paired rows now)
    set_now = ap (λ place. paired rows (set now place row)) is ∙ paired-set key row rows now count h.rows_rise h.own

    pub set_saved : get_or now n [] ++ flat_map (λ other. cells_at other (paired rows (set now n row))) others ≡ flat_map (λ other. cells_at other (paired rows now)) (key ∷ others)
    set_saved =
        ap₂ (λ (cells rest : List ℤ). cells ++ rest)
        (ap (λ place. get_or now place []) is ∙ at_place key rows now count h.rows_rise h.own)
        (flat_map-same (λ other. cells_at other (paired rows (set now n row))) (λ other. cells_at other (paired rows now)) others
        (every_weaker (λ other. key < other) (λ other. cells_at other (paired rows (set now n row)) ≡ cells_at other (paired rows now)) others
        (λ other more. ap (cells_at other) set_now ∙ at_put_row other (row_of key row) (paired rows now) (λ same. omega (arith, more, same))) h.above))
