-- An index that a step brings on has the rows of now.
use Rattle.std.proofs.Common.{◌≡◌, refl, ap, ap₂, sym, ◌∙◌, Bool, true, false, not, cond, ◌||◌, ◌==◌, ℕ, ◌<◌, arith, List, [], ◌∷◌, map, Option, Some, None, true≢false, inl, inr, is_some, pos}
use Rattle.std.{specs.Prelude.{nat_lt, option_map, unwrap_or}, specs.List.AllByRecursion, proofs.lemmas.Bool.{cases_eq, eq-eqb, eqb-true, lt-ltb, ne_eqb, or_parts}}
use Rattle.key_lists.{specs.Keys.{is_among, IsRising}, proofs.Among.of_among, proofs.Every.{every, every_weaker, every-filter, filter-map, filter_same, map_map, map_same}}
use Rattle.row_groups.specs.Members.{Member, keys_of, left_members, member_of, member_under, moved_member, moved_members, with_member}
use Rattle.tick_model.{proofs.Among.{rest_above, row_own, row_past}, specs.declared.table.PlainRow.PlainRow, specs.declared.update.ShiftRange.ShiftRange, specs.Agg.key_cells, specs.Tables.{cells_at, keys}, specs.Updates.{moved_row, removing, shifting}}
use Rattle.agg_by.{specs.Kept.{member_by, place_in}, specs.Steps.key_at}

module _ (by : List ℕ) (column : Option ℕ) where
  abbrev pub members : List PlainRow → List Member
  members = map (member_by by column)

  pub keys-members : (rows : List PlainRow) → keys_of (members rows) ≡ keys rows
  keys-members rows = map_map (λ (member : Member). member.key) (member_by by column) rows

  pub left-members : (gone : List ℕ) (rows : List PlainRow) → left_members gone (members rows) ≡ members (removing gone rows)
  left-members gone rows = filter-map (λ (member : Member). not (is_among member.key gone)) (member_by by column) rows

  pub moved-members : (shifts : List ShiftRange) (rows : List PlainRow) → moved_members shifts (members rows) ≡ members (shifting shifts rows)
  moved-members shifts rows =
      map_map (moved_member shifts) (member_by by column) rows
      ∙ map_same (λ row. moved_member shifts (member_by by column row)) (λ row. member_by by column (moved_row shifts row)) rows (every (λ row. moved_member shifts (member_by by column row) ≡ member_by by column (moved_row shifts row)) rows (λ row. refl))
      ∙ sym (map_map (member_by by column) (moved_row shifts) rows)

  -- the member of the row under a key
  abbrev pub member_at : List PlainRow → ℕ → Member
  member_at rows key = member_of key (key_at by rows key) (place_in column (cells_at key rows))

  none_under : (key : ℕ) (rows : List PlainRow) → is_among key (keys rows) ≡ false → member_under key (members rows) ≡ None
  none_under key [] h = refl
  none_under key (row ∷ rows) h = ap (λ b. cond b (Some (member_by by column row)) (member_under key (members rows))) (or_parts _ _ h).0 ∙ none_under key rows (or_parts _ _ h).1

  absent_next : (key : ℕ) (others : List ℕ) (row : PlainRow) (rows : List PlainRow) → is_among key (keys (removing (key ∷ others) rows)) ≡ false → (b : Bool) → (row.key == key) ≡ b → is_among key (keys (removing (key ∷ others) (row ∷ rows))) ≡ false
  absent_next key others row rows rest true e =
      ap (λ b. is_among key (keys (cond (not (b || is_among row.key others)) (row ∷ removing (key ∷ others) rows) (removing (key ∷ others) rows)))) (eq-eqb key row.key (sym (eqb-true row.key key e))) ∙ rest
  absent_next key others row rows rest false e = by_case (is_among row.key (key ∷ others))
    where
      by_case : (b : Bool) → is_among key (keys (cond (not b) (row ∷ removing (key ∷ others) rows) (removing (key ∷ others) rows))) ≡ false
      by_case true = rest
      by_case false = ap₂ (λ a b. a || b) e rest

  -- of rows without the one under a key, none has the key
  absent_left : (key : ℕ) (others : List ℕ) (rows : List PlainRow) → is_among key (keys (removing (key ∷ others) rows)) ≡ false
  absent_left key others [] = refl
  absent_left key others (row ∷ rows) = absent_next key others row rows (absent_left key others rows) (row.key == key) refl

  pub absent_member : (key : ℕ) (others : List ℕ) (rows : List PlainRow) → member_under key (members (removing (key ∷ others) rows)) ≡ None
  absent_member key others rows = none_under key (removing (key ∷ others) rows) (absent_left key others rows)

  -- a member whose key is below those of all others comes first
  put_first : (member : Member) (rows : List PlainRow) → AllByRecursion (λ row. member.key < row.key) rows → with_member member (members rows) ≡ member ∷ members rows
  put_first member [] h = refl
  put_first member (row ∷ rows) h = ap (λ b. cond b (member_by by column row ∷ with_member member (members rows)) (member ∷ member_by by column row ∷ members rows)) (not_below row.key member.key h.0)
    where
      not_below : (a b : ℕ) → b < a → nat_lt a b ≡ false
      not_below a b below = grind (arith, below)

  put_here : (key : ℕ) (others : List ℕ) (row : PlainRow) (rows : List PlainRow) → IsRising (keys (row ∷ rows)) → row.key ≡ key → is_among key others ≡ false
      → with_member (member_at (row ∷ rows) key) (members (removing (key ∷ others) (row ∷ rows))) ≡ members (removing others (row ∷ rows))
  put_here key others row rows rising same absent =
      ap₂ with_member
      (ap (member_at (row ∷ rows)) (sym same) ∙ ap (λ (o : Option PlainRow). member_of row.key (key_cells by (unwrap_or (option_map (λ (row : PlainRow). row.cells) o) [])) (place_in column (unwrap_or (option_map (λ (row : PlainRow). row.cells) o) []))) (row_own row rows))
      (ap members
      (ap (λ b. cond (not (b || is_among row.key others)) (row ∷ removing (key ∷ others) rows) (removing (key ∷ others) rows)) (eq-eqb key row.key (sym same))
      ∙ filter_same (λ row. not (is_among row.key (key ∷ others))) (λ row. not (is_among row.key others)) rows
      (every_weaker (λ (other : PlainRow). row.key < other.key) (λ other. not (is_among other.key (key ∷ others)) ≡ not (is_among other.key others)) rows
      (λ other above. ap (λ b. not (b || is_among other.key others)) (ne_eqb key other.key (λ (e : key ≡ other.key). omega (arith, same, e, above)))) (rest_above row rows rising))))
      ∙ put_first (member_by by column row) (removing others rows) (every-filter (λ (other : PlainRow). row.key < other.key) (λ row. not (is_among row.key others)) rows (rest_above row rows rising))
      ∙ ap (λ b. members (cond (not b) (row ∷ removing others rows) (removing others rows))) (sym (ap (λ k. is_among k others) same ∙ absent))

  put_there : (key : ℕ) (others : List ℕ) (row : PlainRow) (rows : List PlainRow) → row.key < key
      → with_member (member_at rows key) (members (removing (key ∷ others) rows)) ≡ members (removing others rows)
      → with_member (member_at (row ∷ rows) key) (members (removing (key ∷ others) (row ∷ rows))) ≡ members (removing others (row ∷ rows))
  put_there key others row rows below rest =
      ap₂ with_member
      (ap (λ (o : Option PlainRow). member_of key (key_cells by (unwrap_or (option_map (λ (row : PlainRow). row.cells) o) [])) (place_in column (unwrap_or (option_map (λ (row : PlainRow). row.cells) o) []))) (row_past key row rows below))
      (ap (λ b. members (cond (not (b || is_among row.key others)) (row ∷ removing (key ∷ others) rows) (removing (key ∷ others) rows))) (ne_eqb key row.key (λ (e : key ≡ row.key). omega (arith, e, below))))
      ∙ by_case (is_among row.key others)
    where
      by_case : (b : Bool) → with_member (member_at rows key) (members (cond (not b) (row ∷ removing (key ∷ others) rows) (removing (key ∷ others) rows))) ≡ members (cond (not b) (row ∷ removing others rows) (removing others rows))
      by_case true = rest
      by_case false =
          ap (λ c. cond c (member_by by column row ∷ with_member (member_at rows key) (members (removing (key ∷ others) rows))) (member_at rows key ∷ member_by by column row ∷ members (removing (key ∷ others) rows))) (lt-ltb row.key key below)
          ∙ ap (λ (ms : List Member). member_by by column row ∷ ms) rest

  -- one key less is left out
  pub put_back : (key : ℕ) (others : List ℕ) (rows : List PlainRow) → IsRising (keys rows) → is_among key (keys rows) ≡ true → is_among key others ≡ false
      → with_member (member_at rows key) (members (removing (key ∷ others) rows)) ≡ members (removing others rows)
  put_back key others [] rising own absent = absurd (true≢false (sym own))
  put_back key others (row ∷ rows) rising own absent =
      elim (cases_eq row.key key) [
        | inl same ↦ put_here key others row rows rising same absent
        | inr other ↦
            let there : is_among key (keys rows) ≡ true = sym (ap (λ b. b || is_among key (keys rows)) (ne_eqb row.key key other)) ∙ own in
            put_there key others row rows (of_among (λ k. row.key < k) key (keys rows) rising.0 there) (put_back key others rows rising.1 there absent)
      ]

-- where rows stand in their groups by their keys alone
pub placed_none : (by : List ℕ) (rows : List PlainRow) (key : ℕ) → is_some (member_under key (members by None rows)) ≡ true → option_map (λ (member : Member). member.at) (member_under key (members by None rows)) ≡ Some (pos 0)
placed_none by [] key there = absurd (true≢false (sym there))
placed_none by (row ∷ rows) key there = by_case (row.key == key) (placed_none by rows key) there
  where
    by_case : (b : Bool) → (is_some (member_under key (members by None rows)) ≡ true → option_map (λ (member : Member). member.at) (member_under key (members by None rows)) ≡ Some (pos 0))
        → is_some (cond b (Some (member_by by None row)) (member_under key (members by None rows))) ≡ true → option_map (λ (member : Member). member.at) (cond b (Some (member_by by None row)) (member_under key (members by None rows))) ≡ Some (pos 0)
    by_case true rest there = refl
    by_case false rest there = rest there
