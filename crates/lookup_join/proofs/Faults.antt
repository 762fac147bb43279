-- The left row with two matches that a step's groups tell is the first of all.
use Rattle.std.proofs.Common.{◌≡◌, refl, ap, ap₂, sym, ◌∙◌, subst, Bool, true, false, cond, ◌&&◌, ◌||◌, ℕ, ◌<◌, ◌≤◌, ◌==◌, arith, ◌⊎◌, inl, inr, List, [], ◌∷◌, ◌++◌, map, filter, length, Option, Some, None, ℤ, true≢false}
use Rattle.std.{specs.Prelude.{filter_map, find, nat_lt, option_map, slice_get, unwrap_or}, specs.List.{AllByRecursion, cons_option}, proofs.lemmas.Bool.{and_parts, eqb-true, ltb-false, ltb-true}, proofs.lemmas.List.length-map, proofs.lemmas.Option.none-some}
use Rattle.key_lists.{specs.Keys.{is_among, IsRising}, proofs.Among.{among_own, each_among, of_among}, proofs.Every.{every_both, every_weaker, every-map, every_unmapped, filter-map, none_pass}, proofs.Rising.rising-filter, proofs.Parts.{every_front, every_back}}
use Rattle.lookup_join.{specs.declared.duplicates.Duplicate.Duplicate, specs.declared.keyed.Side.TheVariants.{Left, Right}, specs.Duplicates.{cells_under, earlier, faulty_group, first_with_two, least_fault, least_of}, specs.Keyed.{indexed, key_at, key_cells, keyed}, specs.declared.pick.Pick.Pick, specs.declared.pick.Pick.TheVariants.First as FirstRow, specs.Matched.pick_of, specs.Notes.{Note, NoteList}, specs.Taken.{step_notes, told_notes}, proofs.Brought.{all_keys, brought, came, came_there, kept_key, keys-keyed}, proofs.Gathered.{keys-group, matches_are, with_cells}, proofs.Noting.{quiet, told_all}, proofs.Quiet.cells_stay, proofs.Taking.has_row, proofs.Told.{passing_at, same_is, same_own}, proofs.Walks.member_known}
use Rattle.row_groups.specs.Members.{Grouped, Member, keys_of}
use Rattle.tick_model.{specs.declared.plan.Choice.Choice, specs.declared.plan.Choice.TheVariants.{Error, First, Last}, specs.declared.plan.OnPair.OnPair, specs.declared.table.NodeFault.NodeFault, specs.declared.table.NodeFault.TheVariants.DuplicateRight, specs.declared.table.PlainRow.PlainRow, specs.declared.table.PlainTable.PlainTable, specs.Join.{duplicate, join_fault, matches}, specs.Tables.{IsTable, keys, row_at, same_cells}, proofs.Among.{each_found, rows_among}}
use Rattle.tick_table.{specs.Exact.IsExact, specs.Ticking.Ticking}

abbrev pub node_of : Duplicate → NodeFault
node_of found = DuplicateRight found.left_key found.first found.second

-- a fault that comes no later than another, if there is another
abbrev IsBefore : Option Duplicate → Option Duplicate → Type 0
IsBefore least None = Unit {0}
IsBefore None (Some other) = ⊥
IsBefore (Some least) (Some other) = least.left_key ≤ other.left_key

before_own : (o : Option Duplicate) → IsBefore o o
before_own None = tt
before_own (Some one) = omega arith

before_through : (a b c : Option Duplicate) → IsBefore a b → IsBefore b c → IsBefore a c
before_through a b None h k = tt
before_through None None (Some z) h k = k
before_through None (Some y) (Some z) h k = h
before_through (Some x) None (Some z) h k = absurd k
before_through (Some x) (Some y) (Some z) h k = omega (arith, h, k)

earlier_one : (a b : Option Duplicate) → IsBefore (earlier a b) a
earlier_one None b = tt
earlier_one (Some x) None = omega arith
earlier_one (Some x) (Some y) = by (nat_lt y.left_key x.left_key) refl
  where
    by : (b : Bool) → nat_lt y.left_key x.left_key ≡ b → IsBefore (cond b (Some y) (Some x)) (Some x)
    by true e = omega (arith, ltb-true y.left_key x.left_key e)
    by false e = omega arith

earlier_other : (a b : Option Duplicate) → IsBefore (earlier a b) b
earlier_other None b = before_own b
earlier_other (Some x) None = tt
earlier_other (Some x) (Some y) = by (nat_lt y.left_key x.left_key) refl
  where
    by : (b : Bool) → nat_lt y.left_key x.left_key ≡ b → IsBefore (cond b (Some y) (Some x)) (Some y)
    by true e = omega arith
    by false e = omega (arith, ltb-false y.left_key x.left_key e)

earlier_is : (a b : Option Duplicate) → (earlier a b ≡ a) ⊎ (earlier a b ≡ b)
earlier_is None b = inr refl
earlier_is (Some x) None = inl refl
earlier_is (Some x) (Some y) = elim (nat_lt y.left_key x.left_key) as (λ b. (cond b (Some y) (Some x) ≡ Some x) ⊎ (cond b (Some y) (Some x) ≡ Some y)) [ true ↦ inr refl | false ↦ inl refl ]

module _ (left right : List Member) where
  least_start : (found : Option Duplicate) (groups : List (List ℤ)) → IsBefore (least_fault left right found groups) found
  least_start found [] = before_own found
  least_start found (cells ∷ groups) =
      before_through (least_fault left right (earlier found (faulty_group left right cells)) groups) (earlier found (faulty_group left right cells)) found
      (least_start (earlier found (faulty_group left right cells)) groups) (earlier_one found (faulty_group left right cells))

  least_all : (found : Option Duplicate) (groups : List (List ℤ)) → AllByRecursion (λ cells. IsBefore (least_fault left right found groups) (faulty_group left right cells)) groups
  least_all found [] = tt
  least_all found (cells ∷ groups) = (
    before_through (least_fault left right (earlier found (faulty_group left right cells)) groups) (earlier found (faulty_group left right cells)) (faulty_group left right cells)
        (least_start (earlier found (faulty_group left right cells)) groups) (earlier_other found (faulty_group left right cells)),
    least_all (earlier found (faulty_group left right cells)) groups,
  )

  least_from : (found : Option Duplicate) (groups : List (List ℤ)) → (least_fault left right found groups ≡ found) ⊎ ((cells : List ℤ) × (faulty_group left right cells ≡ least_fault left right found groups))
  least_from found [] = inl refl
  least_from found (cells ∷ groups) =
      elim (least_from (earlier found (faulty_group left right cells)) groups) [
        | inl same ↦
            elim (earlier_is found (faulty_group left right cells)) [
              | inl own ↦ inl (same ∙ own)
              | inr other ↦ inr (cells, sym (same ∙ other))
            ]
        | inr from ↦ inr from
      ]

-- the fault of a left row, by the keys of its matches
abbrev two_of : ℕ → List ℕ → Option NodeFault
two_of key [] = None
two_of key (only ∷ []) = None
two_of key (first ∷ second ∷ others) = Some (DuplicateRight key first second)

duplicate_is : (row : PlainRow) (found : List PlainRow) → duplicate row found ≡ two_of row.key (keys found)
duplicate_is row [] = refl
duplicate_is row (only ∷ []) = refl
duplicate_is row (first ∷ second ∷ others) = refl

few_none : (key : ℕ) (found : List ℕ) → length found ≤ 1 → two_of key found ≡ None
few_none key [] h = refl
few_none key (only ∷ []) h = refl
few_none key (first ∷ second ∷ others) h = absurd (omega arith)

none_few : (key : ℕ) (found : List ℕ) → two_of key found ≡ None → length found ≤ 1
none_few key [] h = omega arith
none_few key (only ∷ []) h = omega arith
none_few key (first ∷ second ∷ others) h = absurd (none-some (DuplicateRight key first second) (sym h))

-- the first of some faults
no_faults : (fault : PlainRow → Option NodeFault) (rows : List PlainRow) → AllByRecursion (λ row. fault row ≡ None) rows → slice_get (filter_map fault rows) 0 ≡ None
no_faults fault [] h = refl
no_faults fault (row ∷ rows) h = ap (λ o. slice_get (cons_option o (filter_map fault rows)) 0) h.0 ∙ no_faults fault rows h.1

none_faults : (fault : PlainRow → Option NodeFault) (rows : List PlainRow) → slice_get (filter_map fault rows) 0 ≡ None → AllByRecursion (λ row. fault row ≡ None) rows
none_faults fault [] h = tt
none_faults fault (row ∷ rows) h = by (fault row) refl h (λ k. none_faults fault rows k)
  where
    by : (o : Option NodeFault) → fault row ≡ o → slice_get (cons_option o (filter_map fault rows)) 0 ≡ None → (slice_get (filter_map fault rows) 0 ≡ None → AllByRecursion (λ row. fault row ≡ None) rows) → AllByRecursion (λ row. fault row ≡ None) (row ∷ rows)
    by None e k rest = (e, rest k)
    by (Some x) e k rest = absurd (none-some x (sym k))

first_fault : (fault : PlainRow → Option NodeFault) (key : ℕ) (found : NodeFault) (rows : List PlainRow) → IsRising (keys rows) → AllByRecursion (λ row. (fault row ≡ None) ⊎ (key ≤ row.key)) rows → AllByRecursion (λ row. row.key ≡ key → fault row ≡ Some found) rows
    → is_among key (keys rows) ≡ true → slice_get (filter_map fault rows) 0 ≡ Some found
first_fault fault key found [] r bound own here = absurd (true≢false (sym here))
first_fault fault key found (row ∷ rows) r bound own here = by (row.key == key) refl (λ k. first_fault fault key found rows r.1 bound.1 own.1 k)
  where
    by : (b : Bool) → (row.key == key) ≡ b → (is_among key (keys rows) ≡ true → slice_get (filter_map fault rows) 0 ≡ Some found) → slice_get (cons_option (fault row) (filter_map fault rows)) 0 ≡ Some found
    by true e rest = ap (λ o. slice_get (cons_option o (filter_map fault rows)) 0) (own.0 (eqb-true row.key key e))
    by false e rest =
        let later : is_among key (keys rows) ≡ true = sym (ap (λ b. b || is_among key (keys rows)) e) ∙ here in
        elim bound.0 [
          | inl none ↦ ap (λ o. slice_get (cons_option o (filter_map fault rows)) 0) none ∙ rest later
          | inr below ↦ absurd (past below (of_among (λ other. row.key < other) key (keys rows) r.0 later))
        ]
      where
        past : key ≤ row.key → row.key < key → ⊥
        past below above = omega (arith, below, above)

-- what a group tells of one of its left rows
quiet_group : (rows found : List ℕ) (key : ℕ) → is_among key rows ≡ true → IsBefore None (first_with_two rows found) → two_of key found ≡ None
quiet_group [] found key here h = absurd (true≢false (sym here))
quiet_group (row ∷ rows) [] key here h = refl
quiet_group (row ∷ rows) (only ∷ []) key here h = refl
quiet_group (row ∷ rows) (first ∷ second ∷ others) key here h = absurd h

first_of_rising : (row key : ℕ) (rows : List ℕ) → AllByRecursion (λ other. row < other) rows → is_among key (row ∷ rows) ≡ true → row ≤ key
first_of_rising row key rows above here = by (row == key) refl
  where
    by : (b : Bool) → (row == key) ≡ b → row ≤ key
    by true e = omega (arith, eqb-true row key e)
    by false e = omega (arith, of_among (λ other. row < other) key rows above (sym (ap (λ b. b || is_among key rows) e) ∙ here))

group_bound : (rows found : List ℕ) (key : ℕ) (least : Duplicate) → IsRising rows → is_among key rows ≡ true → IsBefore (Some least) (first_with_two rows found) → (two_of key found ≡ None) ⊎ (least.left_key ≤ key)
group_bound [] found key least r here h = absurd (true≢false (sym here))
group_bound (row ∷ rows) [] key least r here h = inl refl
group_bound (row ∷ rows) (only ∷ []) key least r here h = inl refl
group_bound (row ∷ rows) (first ∷ second ∷ others) key least r here h = inr (omega (arith, h, first_of_rising row key rows r.0 here))

group_own : (rows found : List ℕ) (least : Duplicate) → first_with_two rows found ≡ Some least → (is_among least.left_key rows ≡ true) × (two_of least.left_key found ≡ Some (node_of least))
group_own [] found least h = absurd (none-some least h)
group_own (row ∷ rows) [] least h = absurd (none-some least h)
group_own (row ∷ rows) (only ∷ []) least h = absurd (none-some least h)
group_own (row ∷ rows) (first ∷ second ∷ others) least h =
    subst (λ (found : Duplicate). (is_among found.left_key (row ∷ rows) ≡ true) × (two_of found.left_key (first ∷ second ∷ others) ≡ Some (node_of found))) (same h) (among_own row rows, refl)
  where
    same : {x : Duplicate} → Some x ≡ Some least → x ≡ least
    same {x = x} e = cc

module _ (on : List OnPair) (left right : PlainTable) (left_table : IsTable left) (right_table : IsTable right) where
  abbrev own_key : ℕ → List ℤ
  own_key = key_at Left on left.rows

  abbrev pub matched : List ℤ → List ℕ
  matched cells = keys (with_cells Right on right.rows cells)

  abbrev fault : PlainRow → Option NodeFault
  fault row = duplicate row (matches on right.rows row)

  found_key : (row : PlainRow) → row_at row.key left.rows ≡ Some row → key_cells Left on row.cells ≡ own_key row.key
  found_key row found = ap (λ (o : Option PlainRow). key_cells Left on (unwrap_or (option_map (λ (row : PlainRow). row.cells) o) [])) (sym found)

  fault_of_row : (row : PlainRow) → row_at row.key left.rows ≡ Some row → fault row ≡ two_of row.key (matched (own_key row.key))
  fault_of_row row found = duplicate_is row (matches on right.rows row) ∙ ap (λ rows. two_of row.key (keys rows)) (matches_are on right.rows row) ∙ ap (λ cells. two_of row.key (matched cells)) (found_key row found)

  -- where there is no fault, each left row has one match at most
  pub sound_counts : slice_get (filter_map fault left.rows) 0 ≡ None → AllByRecursion (λ key. length (matched (own_key key)) ≤ 1) (keys left.rows)
  sound_counts sound =
      every-map (λ key. length (matched (own_key key)) ≤ 1) (λ (row : PlainRow). row.key) left.rows
      (every_both (λ row. fault row ≡ None) (λ row. row_at row.key left.rows ≡ Some row) (λ (row : PlainRow). length (matched (own_key row.key)) ≤ 1) left.rows
      (λ row none found. none_few row.key (matched (own_key row.key)) (sym (fault_of_row row found) ∙ none)) (none_faults fault left.rows sound) (each_found left.rows left_table.rising))

  abbrev lefts : List Member
  lefts = keyed Left on FirstRow left.rows

  abbrev rights : List Member
  rights = keyed Right on FirstRow right.rows

  group_is : (cells : List ℤ) → faulty_group lefts rights cells ≡ first_with_two (keys (with_cells Left on left.rows cells)) (matched cells)
  group_is cells = ap₂ first_with_two (keys-group Left on left.rows cells) (keys-group Right on right.rows cells)

  own_group : (key : ℕ) → is_among key (keys left.rows) ≡ true → is_among key (keys (with_cells Left on left.rows (own_key key))) ≡ true
  own_group key there = passing_at (λ row. same_cells (own_key key) (key_cells Left on row)) left key left_table ∙ ap₂ (λ a b. a && b) (same_own (own_key key)) there

  abbrev pub IsCovered : Option Duplicate → ℕ → Type 0
  IsCovered least key = IsBefore least (faulty_group lefts rights (own_key key)) ⊎ (length (matched (own_key key)) ≤ 1)

  pub least_is_first : (groups : List (List ℤ)) → AllByRecursion (IsCovered (least_fault lefts rights None groups)) (keys left.rows) → option_map node_of (least_fault lefts rights None groups) ≡ slice_get (filter_map fault left.rows) 0
  least_is_first groups covered = by (least_fault lefts rights None groups) refl
    where
      none_row : least_fault lefts rights None groups ≡ None → (row : PlainRow) → IsCovered (least_fault lefts rights None groups) row.key → (is_among row.key (keys left.rows) ≡ true) × (row_at row.key left.rows ≡ Some row) → fault row ≡ None
      none_row is row cover row_is =
          fault_of_row row row_is.1
          ∙ elim cover [
            | inl before ↦
                quiet_group (keys (with_cells Left on left.rows (own_key row.key))) (matched (own_key row.key)) row.key (own_group row.key row_is.0)
                (subst (IsBefore None) (group_is (own_key row.key)) (subst (λ o. IsBefore o (faulty_group lefts rights (own_key row.key))) is before))
            | inr few ↦ few_none row.key (matched (own_key row.key)) few
          ]

      bound_row : (least : Duplicate) → least_fault lefts rights None groups ≡ Some least → (row : PlainRow) → IsCovered (least_fault lefts rights None groups) row.key → (is_among row.key (keys left.rows) ≡ true) × (row_at row.key left.rows ≡ Some row) → (fault row ≡ None) ⊎ (least.left_key ≤ row.key)
      bound_row least is row cover row_is =
          elim cover [
            | inl before ↦
                elim (group_bound (keys (with_cells Left on left.rows (own_key row.key))) (matched (own_key row.key)) row.key least (rising-filter (λ (row : PlainRow). row.key) (λ other. same_cells (own_key row.key) (key_cells Left on other.cells)) left.rows left_table.rising) (own_group row.key row_is.0)
                (subst (IsBefore (Some least)) (group_is (own_key row.key)) (subst (λ o. IsBefore o (faulty_group lefts rights (own_key row.key))) is before))) [
                  | inl none ↦ inl (fault_of_row row row_is.1 ∙ none)
                  | inr below ↦ inr below
                ]
            | inr few ↦ inl (fault_of_row row row_is.1 ∙ few_none row.key (matched (own_key row.key)) few)
          ]

      own_row : (least : Duplicate) (cells : List ℤ) → is_among least.left_key (keys (with_cells Left on left.rows cells)) ≡ true → two_of least.left_key (matched cells) ≡ Some (node_of least) → (row : PlainRow) → row_at row.key left.rows ≡ Some row → row.key ≡ least.left_key → fault row ≡ Some (node_of least)
      own_row least cells here two row found same =
          fault_of_row row found
          ∙ ap₂ two_of same (ap matched (ap own_key same ∙ sym (same_is cells (own_key least.left_key) (and_parts _ _ (sym (passing_at (λ row. same_cells cells (key_cells Left on row)) left least.left_key left_table) ∙ here)).0)))
          ∙ two

      rows_are : AllByRecursion (λ (row : PlainRow). (is_among row.key (keys left.rows) ≡ true) × (row_at row.key left.rows ≡ Some row)) left.rows
      rows_are = every_both (λ (row : PlainRow). is_among row.key (keys left.rows) ≡ true) (λ row. row_at row.key left.rows ≡ Some row) (λ (row : PlainRow). (is_among row.key (keys left.rows) ≡ true) × (row_at row.key left.rows ≡ Some row)) left.rows (λ row a b. (a, b)) (rows_among left.rows) (each_found left.rows left_table.rising)

      covers : AllByRecursion (λ (row : PlainRow). IsCovered (least_fault lefts rights None groups) row.key) left.rows
      covers = every_unmapped (IsCovered (least_fault lefts rights None groups)) (λ (row : PlainRow). row.key) left.rows covered

      by : (o : Option Duplicate) → least_fault lefts rights None groups ≡ o → option_map node_of o ≡ slice_get (filter_map fault left.rows) 0
      by None is =
          sym (no_faults fault left.rows
          (every_both (λ (row : PlainRow). IsCovered (least_fault lefts rights None groups) row.key) (λ (row : PlainRow). (is_among row.key (keys left.rows) ≡ true) × (row_at row.key left.rows ≡ Some row)) (λ row. fault row ≡ None) left.rows (none_row is) covers rows_are))
      by (Some least) is =
          elim (least_from lefts rights None groups) [
            | inl none ↦ absurd (none-some least (sym none ∙ is))
            | inr from ↦
                let own = group_own (keys (with_cells Left on left.rows from.0)) (matched from.0) least (sym (group_is from.0) ∙ from.1 ∙ is) in
                sym (first_fault fault least.left_key (node_of least) left.rows left_table.rising
                (every_both (λ (row : PlainRow). IsCovered (least_fault lefts rights None groups) row.key) (λ (row : PlainRow). (is_among row.key (keys left.rows) ≡ true) × (row_at row.key left.rows ≡ Some row)) (λ row. (fault row ≡ None) ⊎ (least.left_key ≤ row.key)) left.rows (bound_row least is) covers rows_are)
                (every_weaker (λ row. row_at row.key left.rows ≡ Some row) (λ row. row.key ≡ least.left_key → fault row ≡ Some (node_of least)) left.rows (own_row least from.0 own.0 own.1) (each_found left.rows left_table.rising))
                (and_parts _ _ (sym (passing_at (λ row. same_cells from.0 (key_cells Left on row)) left least.left_key left_table) ∙ own.0)).1)
          ]

-- the one that is found passes, and has what all have
found_has : {X : Type 0} (P : X → Type 0) (p : X → Bool) (xs : List X) (x : X) → AllByRecursion P xs → find p xs ≡ Some x → P x × (p x ≡ true)
found_has P p [] x h e = absurd (none-some x e)
found_has {X = X} P p (y ∷ xs) x h e = at_first (p y) refl e (λ found. found_has P p xs x h.1 found)
  where
    same : Some y ≡ Some x → y ≡ x
    same e = cc

    at_first : (b : Bool) → p y ≡ b → cond b (Some y) (find p xs) ≡ Some x → (find p xs ≡ Some x → P x × (p x ≡ true)) → P x × (p x ≡ true)
    at_first true is found rest = subst (λ z. P z × (p z ≡ true)) (same found) (h.0, is)
    at_first false is found rest = rest found

module _ (on : List OnPair) (l : Ticking) (left_exact : IsExact l) (r : Ticking) (right_exact : IsExact r) where
  abbrev notes : List Note
  notes = told_notes on FirstRow l r

  abbrev left_rows : List Member
  left_rows = keyed Left on FirstRow l.new.rows

  abbrev right_rows : List Member
  right_rows = keyed Right on FirstRow r.new.rows

  abbrev fresh : List ℕ
  fresh = came Left on FirstRow l left_exact

  abbrev groups : List (List ℤ)
  groups = map (λ (note : Note). note.cells) notes ++ map (cells_under left_rows) fresh

  abbrev least : Option Duplicate
  least = least_fault left_rows right_rows None groups

  abbrev IsTold : List ℤ → Type 0
  IsTold cells = IsBefore least (faulty_group left_rows right_rows cells)

  all_told : AllByRecursion IsTold groups
  all_told = least_all left_rows right_rows None groups

  notes_told : AllByRecursion (λ (note : Note). IsTold note.cells) notes
  notes_told = every_unmapped IsTold (λ (note : Note). note.cells) notes (every_front IsTold (map (λ (note : Note). note.cells) notes) (map (cells_under left_rows) fresh) all_told)

  came_told : AllByRecursion (λ key. IsTold (cells_under left_rows key)) fresh
  came_told = every_unmapped IsTold (cells_under left_rows) fresh (every_back IsTold (map (λ (note : Note). note.cells) notes) (map (cells_under left_rows) fresh) all_told)

  -- a group of no note has as many right rows as before
  module _ (cells : List ℤ) (none : AllByRecursion (λ (note : Note). same_cells cells note.cells ≡ false) (step_notes on FirstRow r)) where
    abbrev has : List ℤ → Bool
    has row = same_cells cells (key_cells Right on row)

    counted : (rows : List PlainRow) → length (keys (with_cells Right on rows cells)) ≡ length (filter has (map (λ (row : PlainRow). row.cells) rows))
    counted rows =
        length-map (with_cells Right on rows cells) (λ (row : PlainRow). row.key)
        ∙ sym (length-map (with_cells Right on rows cells) (λ (row : PlainRow). row.cells)) ∙ ap length (sym (filter-map has (λ (row : PlainRow). row.cells) rows))

    unnoted_count : length (keys (with_cells Right on r.old.rows cells)) ≡ length (keys (with_cells Right on r.new.rows cells))
    unnoted_count =
        let calm = quiet on FirstRow r right_exact [] cells (λ group moment. same_cells cells group) has (λ row. refl) none in
        counted r.old.rows ∙ ap length (cells_stay r right_exact has calm.gone calm.came calm.changed) ∙ sym (counted r.new.rows)

  -- each left row is in a group that is told, or has one match at most as before
  module _ (sound : join_fault on Error l.old r.old ≡ None) where
    abbrev IsFound : ℕ → Type 0
    IsFound = IsCovered on l.new r.new left_exact.tick.new_table right_exact.tick.new_table least

    covered_one : (key : ℕ) → is_among key (keys l.new.rows) ≡ true → IsFound key
    covered_one key there = by_note (find (λ (note : Note). same_cells (key_at Left on l.new.rows key) note.cells) notes) refl
      where
        under : cells_under left_rows key ≡ key_at Left on l.new.rows key
        under = ap (λ (o : Option Member). unwrap_or (option_map (λ (member : Member). member.cells) o) []) (member_known Left on FirstRow l.new.rows key there)

        by_came : AllByRecursion (λ (note : Note). same_cells (key_at Left on l.new.rows key) note.cells ≡ false) notes → (b : Bool) → is_among key fresh ≡ b → IsFound key
        by_came none true is = inl (subst IsTold under (of_among (λ key. IsTold (cells_under left_rows key)) key fresh came_told is))
        by_came none false is =
            let stays = kept_key Left on FirstRow l left_exact key (sym (ap (λ b. b || is_among key (keys_of (brought Left on FirstRow l left_exact))) is) ∙ all_keys Left on FirstRow l left_exact key ∙ there) in
            inr (subst (λ n. n ≤ 1)
            (ap (λ cells. length (keys (with_cells Right on r.old.rows cells))) stays.1.1 ∙ unnoted_count (key_at Left on l.new.rows key) (subst (AllByRecursion (λ (note : Note). same_cells (key_at Left on l.new.rows key) note.cells ≡ false)) (told_all on FirstRow r right_exact l (has_row (keys l.old.rows) _ stays.1.0)) none))
            (of_among (λ key. length (matched on l.old r.old left_exact.tick.old_table right_exact.tick.old_table (key_at Left on l.old.rows key)) ≤ 1) stays.0 (keys l.old.rows) (sound_counts on l.old r.old left_exact.tick.old_table right_exact.tick.old_table sound) stays.1.0))

        by_note : (o : Option Note) → find (λ (note : Note). same_cells (key_at Left on l.new.rows key) note.cells) notes ≡ o → IsFound key
        by_note (Some note) is =
            let told = found_has (λ (note : Note). IsTold note.cells) (λ (note : Note). same_cells (key_at Left on l.new.rows key) note.cells) notes note notes_told is in
            inl (subst IsTold (sym (same_is (key_at Left on l.new.rows key) note.cells told.1)) told.0)
        by_note None is = by_came (none_pass (λ (note : Note). same_cells (key_at Left on l.new.rows key) note.cells) notes is) (is_among key fresh) refl

    covered : AllByRecursion IsFound (keys l.new.rows)
    covered = every_weaker (λ key. is_among key (keys l.new.rows) ≡ true) IsFound (keys l.new.rows) covered_one (each_among (keys l.new.rows))

  -- what a step tells is the fault of the tables of now
  fault_is : (choice : Choice) → join_fault on choice l.old r.old ≡ None
      → option_map node_of (least_of choice (keyed Left on (pick_of choice) l.new.rows) (keyed Right on (pick_of choice) r.new.rows) (map (λ (note : Note). note.cells) (told_notes on (pick_of choice) l r) ++ map (cells_under (keyed Left on (pick_of choice) l.new.rows)) (came Left on (pick_of choice) l left_exact)))
      ≡ join_fault on choice l.new r.new
  fault_is Error sound = least_is_first on l.new r.new left_exact.tick.new_table right_exact.tick.new_table groups (covered sound)
  fault_is First sound = refl
  fault_is Last sound = refl

  pub told_is : (choice : Choice) (pick : Pick) → pick ≡ pick_of choice → (left right : Grouped) (noted : NoteList) (new : List ℕ) → left ≡ indexed Left on pick l.new.rows → right ≡ indexed Right on pick r.new.rows → noted ≡ (record { width = length on; notes = told_notes on pick l r }) → new ≡ came Left on pick l left_exact
      → join_fault on choice l.old r.old ≡ None → option_map node_of (least_of choice left.members right.members (map (λ (note : Note). note.cells) noted.notes ++ map (cells_under left.members) new)) ≡ join_fault on choice l.new r.new
  told_is choice pick is left right noted new a b n c sound =
      ap₂ (λ (left : Grouped) (right : Grouped). option_map node_of (least_of choice left.members right.members (map (λ (note : Note). note.cells) noted.notes ++ map (cells_under left.members) new))) a b
      ∙ ap₂ (λ (noted : NoteList) (new : List ℕ). option_map node_of (least_of choice (keyed Left on pick l.new.rows) (keyed Right on pick r.new.rows) (map (λ (note : Note). note.cells) noted.notes ++ map (cells_under (keyed Left on pick l.new.rows)) new))) n c
      ∙ ap (λ (pick : Pick). option_map node_of (least_of choice (keyed Left on pick l.new.rows) (keyed Right on pick r.new.rows) (map (λ (note : Note). note.cells) (told_notes on pick l r) ++ map (cells_under (keyed Left on pick l.new.rows)) (came Left on pick l left_exact)))) is
      ∙ fault_is choice sound

  pub came_members : (pick : Pick) (left : Grouped) (new : List ℕ) → left ≡ indexed Left on pick l.new.rows → new ≡ came Left on pick l left_exact → AllByRecursion (λ key. is_among key (keys_of left.members) ≡ true) new
  came_members pick left new a c =
      subst (λ (left : Grouped). AllByRecursion (λ key. is_among key (keys_of left.members) ≡ true) new) (sym a)
      (subst (λ (new : List ℕ). AllByRecursion (λ key. is_among key (keys_of (keyed Left on pick l.new.rows)) ≡ true) new) (sym c)
      (subst (λ (ks : List ℕ). AllByRecursion (λ key. is_among key ks ≡ true) (came Left on pick l left_exact)) (sym (keys-keyed Left on pick l.new.rows)) (came_there Left on pick l left_exact)))
