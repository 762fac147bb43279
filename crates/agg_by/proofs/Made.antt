-- What is made of the cells of each group, where a row comes or goes, and where groups keep their numbers.
use Rattle.std.proofs.Common.{◌≡◌, ◌≢◌, refl, ap, ap₂, sym, ◌∙◌, subst, Bool, true, false, cond, not, ℕ, suc, List, [], ◌∷◌, map, filter, length, Option, Some, None, inl, inr, ℤ, pos, ◌+ℤ◌, ◌-ℤ◌, neg_ℤ, arith, w64, if◌then◌else◌}
use Rattle.std.{specs.Prelude.nat_lt, specs.Cmp.Rules.signed_items, proofs.lemmas.Bool.cases_eq, proofs.lemmas.Int.{int_wrap-add_left, ints}, proofs.lemmas.Option.none-some}
use Rattle.key_lists.{specs.Keys.{is_among, IsRising}, proofs.Every.{filter-map, map_map}}
use Rattle.row_changes.specs.Sums.{added_up}
use Rattle.row_groups.specs.Members.{IsNumberOf, IsPart, Member, Names, Numbered, group_of, name_at, with_member}
use Rattle.tick_model.{specs.declared.table.PlainRow.PlainRow, specs.Agg.{column_of, present}, specs.Formulas.wrap, specs.Tables.{cell, cells_at, is_null, keys, same_cells}, specs.Updates.removing}
use Rattle.agg_by.{specs.declared.sums.Total.Total, specs.ByNumber.{IsHeld, at_number, changed_at, changed_by}, specs.Kept.{AreMade, cells_in, group_rows, member_by}, specs.Steps.key_at, specs.Sums.{minus, no_total, plus, total_of}, specs.Values.{in_order, opposite, opposites, placed, unplaced}, proofs.Bringing.{members, member_at, put_back}, proofs.Answering.{group_is, small_wraps}, proofs.ByNumber.{changed_other, changed_own}, proofs.Ordered.{either_first, unplaced-placed}}

-- what is made of cells, whichever order they have, gains one and loses it again
pub record IsMadeOf {X : Type 0} (none : X) (make : List ℤ → X) (gain lose : ℤ → X → X) : Type 0 where
  pub nothing : make [] ≡ none
  pub gains : (x : ℤ) (xs : List ℤ) → make (x ∷ xs) ≡ gain x (make xs)
  pub either : (x y : ℤ) (xs : List ℤ) → make (x ∷ y ∷ xs) ≡ make (y ∷ x ∷ xs)
  pub loses : (x : ℤ) (xs : List ℤ) → lose x (make (x ∷ xs)) ≡ make xs

wrap_more : (x s : ℤ) → wrap (x +ℤ s) ≡ wrap (wrap s +ℤ x)
wrap_more x s = ap wrap (turned x s) ∙ sym (int_wrap-add_left w64 s x)
  where
    turned : (x s : ℤ) → x +ℤ s ≡ s +ℤ x
    turned x s = omega (arith, ints)

wrap_less : (x s : ℤ) → wrap (wrap (x +ℤ s) -ℤ x) ≡ wrap s
wrap_less x s = ap wrap (as_less (wrap (x +ℤ s)) x) ∙ int_wrap-add_left w64 (x +ℤ s) (neg_ℤ x) ∙ ap wrap (back x s)
  where
    back : (x s : ℤ) → (x +ℤ s) +ℤ neg_ℤ x ≡ s
    back x s = omega (arith, ints)

    as_less : (a b : ℤ) → a -ℤ b ≡ a +ℤ neg_ℤ b
    as_less a b = omega (arith, ints)

one_more : (n : ℕ) → pos (suc n) ≡ pos 1 +ℤ pos n
one_more n = omega (arith, ints)

total_with : (sum sum' count count' : ℤ) → sum ≡ sum' → count ≡ count' → (let total : Total = record { sum = sum; count = count } in total) ≡ (let total : Total = record { sum = sum'; count = count' } in total)
total_with sum sum' count count' e f = ap₂ (λ s c. let total : Total = record { sum = s; count = c } in total) e f

pub sums : IsMadeOf no_total total_of plus minus
sums = record {
  nothing = total_with _ _ _ _ zero_wraps zero_wraps;
  gains = λ x xs. total_with _ _ _ _ (wrap_more x (added_up (λ x. x) xs)) (ap wrap (one_more (length xs)) ∙ wrap_more (pos 1) (pos (length xs)));
  either = λ x y xs. total_with _ _ _ _ (ap wrap (turned x y (added_up (λ x. x) xs))) refl;
  loses = λ x xs. total_with _ _ _ _ (wrap_less x (added_up (λ x. x) xs)) (ap (λ n. wrap (wrap n -ℤ pos 1)) (one_more (length xs)) ∙ wrap_less (pos 1) (pos (length xs)));
}
  where
    zero_wraps : wrap (pos 0) ≡ pos 0
    zero_wraps = small_wraps 0 (omega arith)

    turned : (x y s : ℤ) → x +ℤ (y +ℤ s) ≡ y +ℤ (x +ℤ s)
    turned x y s = omega (arith, ints)

pub values : IsMadeOf [] in_order placed unplaced
values = record {
  nothing = refl;
  gains = λ x xs. refl;
  either = λ x y xs. either_first x y (in_order xs);
  loses = λ x xs. unplaced-placed x (in_order xs);
}

pub mirrored : IsMadeOf [] opposites (λ x. placed (opposite x)) (λ x. unplaced (opposite x))
mirrored = record {
  nothing = refl;
  gains = λ x xs. refl;
  either = λ x y xs. values.either (opposite x) (opposite y) (map opposite xs);
  loses = λ x xs. values.loses (opposite x) (map opposite xs);
}

-- the cells of a column that hold something of the rows with these key cells
abbrev held : List ℕ → ℕ → List PlainRow → List ℤ → List ℤ
held by column rows cells = present (column_of (group_rows by cells rows) column)

-- the same among members that stand by the column
abbrev places : List ℤ → List Member → List ℤ
places cells ms = present (map (λ (member : Member). member.at) (filter (λ (member : Member). same_cells cells member.cells) ms))

places-members : (by : List ℕ) (column : ℕ) (cells : List ℤ) (rows : List PlainRow) → places cells (members by (Some column) rows) ≡ held by column rows cells
places-members by column cells rows =
    ap present
    (ap (map (λ (member : Member). member.at)) (filter-map (λ (member : Member). same_cells cells member.cells) (member_by by (Some column)) rows)
    ∙ map_map (λ (member : Member). member.at) (member_by by (Some column)) (group_rows by cells rows))

module _ {X : Type 0} (none : X) (make : List ℤ → X) (gain lose : ℤ → X → X) (m : IsMadeOf none make gain lose) where
  -- what is made of a group's cells, where a row is changed by `change` whose cell is a value
  abbrev by_row : (ℤ → X → X) → Bool → ℤ → X → X
  by_row change own value made = if own then (if is_null value then made else change value made) else made

  row_back : (own : Bool) (value : ℤ) (xs : List ℤ) → by_row lose own value (by_row gain own value (make xs)) ≡ make xs
  row_back own value xs = by own (is_null value)
    where
      by : (own null : Bool) → (let step : (ℤ → X → X) → X → X = λ change made. if own then (if null then made else change value made) else made in step lose (step gain (make xs))) ≡ make xs
      by true true = refl
      by true false = ap (lose value) (sym (m.gains value xs)) ∙ m.loses value xs
      by false null = refl

  either_row : (own other : Bool) (x y : ℤ) (xs : List ℤ) → by_row gain other y (by_row gain own x (make xs)) ≡ by_row gain own x (by_row gain other y (make xs))
  either_row own other x y xs = by own (is_null x) other (is_null y)
    where
      by : (a b c d : Bool) → (if c then (if d then (if a then (if b then make xs else gain x (make xs)) else make xs) else gain y (if a then (if b then make xs else gain x (make xs)) else make xs)) else (if a then (if b then make xs else gain x (make xs)) else make xs))
          ≡ (if a then (if b then (if c then (if d then make xs else gain y (make xs)) else make xs) else gain x (if c then (if d then make xs else gain y (make xs)) else make xs)) else (if c then (if d then make xs else gain y (make xs)) else make xs))
      by true false true false = ap (gain y) (sym (m.gains x xs)) ∙ sym (m.gains y (x ∷ xs)) ∙ m.either y x xs ∙ m.gains x (y ∷ xs) ∙ ap (gain x) (m.gains y xs)
      by true false true true = refl
      by true true true d = refl
      by true true false d = refl
      by true false false d = refl
      by false b true d = refl
      by false b false d = refl

  module _ (cells : List ℤ) where
    abbrev of_group : List Member → X
    of_group ms = make (places cells ms)

    abbrev with_one : Member → X → X
    with_one member = by_row gain (same_cells cells member.cells) member.at

    made_first : (member : Member) (ms : List Member) → of_group (member ∷ ms) ≡ with_one member (of_group ms)
    made_first member ms = by (same_cells cells member.cells) (is_null member.at)
      where
        by : (own null : Bool) → make (present (map (λ (member : Member). member.at) (cond own (member ∷ filter (λ (member : Member). same_cells cells member.cells) ms) (filter (λ (member : Member). same_cells cells member.cells) ms))))
            ≡ (if own then (if is_null member.at then of_group ms else gain member.at (of_group ms)) else of_group ms)
        by true null = by_null (is_null member.at)
          where
            by_null : (null : Bool) → make (cond (not null) (member.at ∷ places cells ms) (places cells ms)) ≡ (if null then of_group ms else gain member.at (of_group ms))
            by_null true = refl
            by_null false = m.gains member.at (places cells ms)
        by false null = refl

    -- one member more, wherever it stands
    made_more : (member : Member) (ms : List Member) → of_group (with_member member ms) ≡ with_one member (of_group ms)
    made_more member [] = made_first member []
    made_more member (other ∷ others) = by (nat_lt other.key member.key) (made_more member others)
      where
        by : (b : Bool) → of_group (with_member member others) ≡ with_one member (of_group others) → of_group (if b then other ∷ with_member member others else member ∷ other ∷ others) ≡ with_one member (of_group (other ∷ others))
        by true rest =
            made_first other (with_member member others) ∙ ap (with_one other) rest
            ∙ either_row (same_cells cells member.cells) (same_cells cells other.cells) member.at other.at (places cells others)
            ∙ ap (with_one member) (sym (made_first other others))
        by false rest = made_first member (other ∷ others)

  module _ (by : List ℕ) (column : ℕ) (names : Names) where
    abbrev Are : List PlainRow → List X → Type 0
    Are = AreMade none make by names column

    abbrev made : List PlainRow → List ℤ → X
    made rows cells = make (held by column rows cells)

    -- where what is made of one group becomes another, so does what is kept for its number
    made_step : (change : ℤ → X → X) (value : ℤ) (number : ℕ) (own : List ℤ) → IsNumberOf number own names → (before after : List PlainRow)
        → ((cells : List ℤ) → made after cells ≡ by_row change (same_cells cells own) value (made before cells)) → (entries : List X) → Are before entries → Are after (changed_by none change number value entries)
    made_step change value number own is before after step entries are n = by_null (is_null value) step
      where
        named : (name : Option (List ℤ)) → ((cells : List ℤ) → name ≡ Some cells → made after cells ≡ made before cells) → make (cells_in by column before name) ≡ make (cells_in by column after name)
        named None same = refl
        named (Some cells) same = sym (same cells refl)

        unchanged : (own : Bool) (made : X) → (if own then made else made) ≡ made
        unchanged true made = refl
        unchanged false made = refl

        apart : n ≢ number → (cells : List ℤ) → name_at n names ≡ Some cells → (b : Bool) → same_cells cells own ≡ b → b ≡ false
        apart differ cells name true e = absurd (differ (is.alone n (name ∙ ap Some ((signed_items cells own).0 e))))
        apart differ cells name false e = refl

        by_null : (null : Bool) → ((cells : List ℤ) → made after cells ≡ (if same_cells cells own then (if null then made before cells else change value (made before cells)) else made before cells))
            → at_number none n (if null then entries else changed_at none number (change value) entries) ≡ make (cells_in by column after (name_at n names))
        by_null true step = are n ∙ named (name_at n names) (λ cells name. step cells ∙ unchanged (same_cells cells own) (made before cells))
        by_null false step =
            elim (cases_eq n number) [
              | inl same ↦
                  ap (λ m. at_number none m (changed_at none number (change value) entries)) same
                  ∙ changed_own none number (change value) entries
                  ∙ ap (change value) (are number ∙ ap (λ (name : Option (List ℤ)). make (cells_in by column before name)) is.own)
                  ∙ sym (step own ∙ ap (λ b. if b then change value (made before own) else made before own) ((signed_items own own).1 refl))
                  ∙ sym (ap (λ (name : Option (List ℤ)). make (cells_in by column after name)) (ap (λ m. name_at m names) same ∙ is.own))
              | inr differ ↦
                  changed_other none number n (change value) entries differ ∙ are n
                  ∙ named (name_at n names) (λ cells name. step cells ∙ ap (λ b. if b then change value (made before cells) else made before cells) (apart differ cells name (same_cells cells own) refl))
            ]

    module _ (rows : List PlainRow) (rising : IsRising (keys rows)) (key : ℕ) (others : List ℕ) (there : is_among key (keys rows) ≡ true) (absent : is_among key others ≡ false) where
      abbrev value : ℤ
      value = cell (cells_at key rows) column

      abbrev without : List PlainRow
      without = removing (key ∷ others) rows

      group_gains : (cells : List ℤ) → made (removing others rows) cells ≡ by_row gain (same_cells cells (key_at by rows key)) value (made without cells)
      group_gains cells =
          ap make (sym (places-members by column cells (removing others rows)))
          ∙ ap (of_group cells) (sym (put_back by (Some column) key others rows rising there absent))
          ∙ made_more cells (member_at by (Some column) rows key) (members by (Some column) without)
          ∙ ap (λ (xs : List ℤ). by_row gain (same_cells cells (key_at by rows key)) value (make xs)) (places-members by column cells without)

      group_loses : (cells : List ℤ) → made without cells ≡ by_row lose (same_cells cells (key_at by rows key)) value (made (removing others rows) cells)
      group_loses cells =
          sym (row_back (same_cells cells (key_at by rows key)) value (held by column without cells))
          ∙ ap (by_row lose (same_cells cells (key_at by rows key)) value) (sym (group_gains cells))

      module _ (number : ℕ) (is : IsNumberOf number (key_at by rows key) names) (entries : List X) where
        -- one row more
        pub made_gains : Are without entries → Are (removing others rows) (changed_by none gain number value entries)
        made_gains = made_step gain value number (key_at by rows key) is without (removing others rows) group_gains entries

        -- the cell of the row is among those of its group
        pub made_has : (has : ℤ → X → Type 0) → ((x : ℤ) (made : X) → has x (gain x made)) → Are (removing others rows) entries → IsHeld none has number value entries
        made_has has own_held are holds =
            let own = key_at by rows key in
            subst (has value)
            (sym (are number ∙ ap (λ (name : Option (List ℤ)). make (cells_in by column (removing others rows) name)) is.own ∙ group_gains own
            ∙ ap₂ (λ own null. if own then (if null then made without (key_at by rows key) else gain value (made without (key_at by rows key))) else made without (key_at by rows key)) ((signed_items own own).1 refl) holds))
            (own_held value (made without own))

        -- one row less
        pub made_loses : Are (removing others rows) entries → Are without (changed_by none lose number value entries)
        made_loses = made_step lose value number (key_at by rows key) is (removing others rows) without group_loses entries

    -- of no rows nothing is made
    pub none_made : Are [] []
    none_made n = by_name (name_at n names)
      where
        by_name : (name : Option (List ℤ)) → none ≡ make (cells_in by column [] name)
        by_name None = sym m.nothing
        by_name (Some cells) = sym m.nothing

pub no_rows : (by : List ℕ) (some : List PlainRow) → members by None some ≡ [] → some ≡ []
no_rows by [] e = refl
no_rows by (row ∷ some) e = absurd (cc)

-- groups that keep their numbers have the same cells
module _ (by : List ℕ) (column : ℕ) (rows : List PlainRow) (part whole : Numbered) (is : IsPart part whole) (are : part.members ≡ members by None rows) where
  -- cells that have a number in the whole alone are those of no row
  unnamed : (n : ℕ) (cells : List ℤ) → name_at n part.names ≡ None → name_at n whole.names ≡ Some cells → held by column rows cells ≡ []
  unnamed n cells none named =
      ap (λ (some : List PlainRow). present (column_of some column))
      (no_rows by (group_rows by cells rows)
      (sym (group_is by rows cells) ∙ ap (group_of cells) (sym are)
      ∙ is.named cells (λ m there. none-some cells (sym none ∙ ap (λ k. name_at k part.names) (sym (is.alone m n cells (is.kept m cells there) named)) ∙ there))))

  pub same_named : (n : ℕ) → cells_in by column rows (name_at n part.names) ≡ cells_in by column rows (name_at n whole.names)
  same_named n = by_part (name_at n part.names) refl
    where
      by_whole : name_at n part.names ≡ None → (named : Option (List ℤ)) → name_at n whole.names ≡ named → [] ≡ cells_in by column rows named
      by_whole none None e = refl
      by_whole none (Some cells) e = sym (unnamed n cells none e)

      by_part : (named : Option (List ℤ)) → name_at n part.names ≡ named → cells_in by column rows named ≡ cells_in by column rows (name_at n whole.names)
      by_part None e = by_whole e (name_at n whole.names) refl
      by_part (Some cells) e = ap (cells_in by column rows) (sym (is.kept n cells e))
