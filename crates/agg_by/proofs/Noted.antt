-- The numbers of touched groups, as they are noted, and the groups that have them before and after a step.
use Rattle.std.proofs.Common.{◌≡◌, ◌≢◌, is_some, refl, ap, ap₂, sym, ◌∙◌, subst, Bool, true, false, ◌&&◌, ◌||◌, ◌==◌, ℕ, zero, suc, ◌+◌, ◌<◌, arith, List, [], ◌∷◌, ◌++◌, map, get_or, length, set, take, Option, Some, None, ℤ, true≢false, inl, inr, ◌⊎◌, if◌then◌else◌}
use Rattle.std.{specs.Prelude.{slice_get, not}, specs.Cmp.Rules.signed_items, specs.List.{AllByRecursion, AllZip, list_any}, specs.Option.option_map_or, proofs.lemmas.Bool.{cases_eq, eq-eqb, eqb-true, ne_eqb, or_cases, or_right, and_parts}, proofs.lemmas.List.{get_or-set_other, get_or-set_same}, proofs.lemmas.Option.{none-some, same_Some}, proofs.lemmas.List.Folds.list_any-append}
use Rattle.key_lists.{specs.Keys.{is_among, without}, proofs.Among.{among-append, among-filter, of_among}, proofs.Every.{every_both, every-append, every_unmapped, every_weaker, filter-map, any-map}, proofs.Parts.{every_back, every_front}, proofs.Booleans.{or_assoc, or_false, same_truth}}
use Rattle.row_groups.specs.Members.{IsNumberOf, IsNumberUnder, IsPart, Member, Names, Numbered, group_of, keys_of, member_under, name_at}
use Rattle.shown_rows.proofs.Walks.{take_next}
use Rattle.tick_model.{specs.declared.table.PlainRow.PlainRow, specs.declared.table.PlainTable.PlainTable, specs.declared.update.ShiftRange.ShiftRange, specs.Agg.key_cells, specs.Tables.{IsTable, keys, same_cells}, specs.Updates.{moved_row, shifting}}
use Rattle.agg_by.{specs.Kept.group_rows, specs.Steps.{kept_cells, key_at, starts}, specs.Touched.{AreNoted, HaveNoted, is_named, starts_numbered, with_number}, proofs.Answering.group_is, proofs.Bringing.members, proofs.FirstKeys.{kept_own, starts_when}, proofs.GroupRows.first_at, proofs.Made.no_rows}

-- marks of numbers
pub marked_within : (marks : List Bool) (number : ℕ) → get_or marks number false ≡ true → number < length marks
marked_within [] number e = absurd (true≢false (sym e))
marked_within (mark ∷ marks) zero e = omega arith
marked_within (mark ∷ marks) (suc number) e = let rest = marked_within marks number e in omega (arith, rest)

set_mark : (marks : List Bool) (number other : ℕ) (mark : Bool) → number < length marks → get_or (set marks number mark) other false ≡ (if number == other then mark else get_or marks other false)
set_mark marks number other mark lt =
    elim (cases_eq number other) [
      | inl same ↦
          ap (λ n. get_or (set marks number mark) n false) (sym same) ∙ get_or-set_same marks number mark false lt ∙ ap (λ b. if b then mark else get_or marks other false) (sym (eq-eqb number other same))
      | inr differ ↦ get_or-set_other marks number other mark false (λ same. differ (sym same)) ∙ ap (λ b. if b then mark else get_or marks other false) (sym (ne_eqb number other differ))
    ]

-- the marks of the first so many numbers are taken away
pub unmarked : (numbers : List ℕ) (marks : List Bool) (place number : ℕ) → number < length marks → slice_get numbers place ≡ Some number → ((other : ℕ) → get_or marks other false ≡ (if is_among other (take place numbers) then false else is_among other numbers))
    → (other : ℕ) → get_or (set marks number false) other false ≡ (if is_among other (take (place + 1) numbers) then false else is_among other numbers)
unmarked numbers marks place number within here so_far other =
    set_mark marks number other false within
    ∙ ap (λ b. if number == other then false else b) (so_far other)
    ∙ either (number == other) (is_among other (take place numbers)) (is_among other numbers)
    ∙ ap (λ b. if b then false else is_among other numbers) (sym (ap (is_among other) (take_next numbers place number here) ∙ among-append other (take place numbers) (number ∷ [])))
  where
    either : (a b c : Bool) → (if a then false else (if b then false else c)) ≡ (if b || (a || false) then false else c)
    either true true c = refl
    either true false c = refl
    either false true c = refl
    either false false c = refl

-- a number that is noted
pub any_of : (p : ℕ → Bool) (number : ℕ) (numbers : List ℕ) → is_among number numbers ≡ true → p number ≡ true → list_any p numbers ≡ true
any_of p number [] own e = own
any_of p number (other ∷ numbers) own e =
    elim (or_cases (other == number) (is_among number numbers) own) [
      | inl same ↦ ap (λ b. b || list_any p numbers) (ap p (eqb-true other number same) ∙ e)
      | inr rest ↦ or_right (p other) (list_any p numbers) (any_of p number numbers rest e)
    ]

pub any_with : (p : ℕ → Bool) (number : ℕ) (numbers : List ℕ) → list_any p (with_number number numbers) ≡ (list_any p numbers || p number)
any_with p number numbers = by_case (is_among number numbers) refl (p number) refl
  where
    by_case : (b : Bool) → is_among number numbers ≡ b → (c : Bool) → p number ≡ c → list_any p (if b then numbers else numbers ++ number ∷ []) ≡ (list_any p numbers || c)
    by_case true e true f = ap (λ b. b) (any_of p number numbers e f) ∙ sym (or_right (list_any p numbers) true refl)
    by_case true e false f = sym (or_false (list_any p numbers))
    by_case false e c f = list_any-append p numbers (number ∷ []) ∙ ap (λ b. list_any p numbers || b) (or_false (p number) ∙ f)

-- the group of a number
pub starts_own : (rows : Numbered) (first number : ℕ) (cells : List ℤ) → name_at number rows.names ≡ Some cells → starts_numbered rows first number ≡ starts rows.members first cells
starts_own rows first number cells own = ap (λ named. option_map_or (starts rows.members first) named false) own

pub named_one : (number other : ℕ) (cells : List ℤ) (names : Names) → IsNumberOf number cells names → is_named (cells ∷ []) names other ≡ (number == other)
named_one number other cells names is = by_name (name_at other names) refl
  where
    by_cells : (own : List ℤ) (b : Bool) → same_cells own cells ≡ b → name_at other names ≡ Some own → (b || false) ≡ (number == other)
    by_cells own true e named = sym (eq-eqb number other (sym (is.alone other (named ∙ ap Some ((signed_items own cells).0 e)))))
    by_cells own false e named =
        sym (ne_eqb number other (λ same. true≢false (sym ((signed_items own cells).1 (same_Some own cells (sym named ∙ ap (λ n. name_at n names) (sym same) ∙ is.own))) ∙ e)))

    by_name : (named : Option (List ℤ)) → name_at other names ≡ named → option_map_or (λ own. list_any (same_cells own) (cells ∷ [])) named false ≡ (number == other)
    by_name None e = sym (ne_eqb number other (λ same. none-some cells (sym e ∙ ap (λ n. name_at n names) (sym same) ∙ is.own)))
    by_name (Some own) e = by_cells own (same_cells own cells) refl e

pub named_none : (cells : List ℤ) (names : Names) → ((number : ℕ) → name_at number names ≢ Some cells) → (other : ℕ) → is_named (cells ∷ []) names other ≡ false
named_none cells names none other = by_name (name_at other names) refl
  where
    by_cells : (own : List ℤ) (b : Bool) → same_cells own cells ≡ b → name_at other names ≡ Some own → (b || false) ≡ false
    by_cells own true e named = absurd (none other (named ∙ ap Some ((signed_items own cells).0 e)))
    by_cells own false e named = refl

    by_name : (named : Option (List ℤ)) → name_at other names ≡ named → option_map_or (λ own. list_any (same_cells own) (cells ∷ [])) named false ≡ false
    by_name None e = refl
    by_name (Some own) e = by_cells own (same_cells own cells) refl e

pub named-append : (xs ys : List (List ℤ)) (names : Names) (number : ℕ) → is_named (xs ++ ys) names number ≡ (is_named xs names number || is_named ys names number)
named-append xs ys names number =
    elim (name_at number names) as (λ named. option_map_or (λ own. list_any (same_cells own) (xs ++ ys)) named false ≡ (option_map_or (λ own. list_any (same_cells own) xs) named false || option_map_or (λ own. list_any (same_cells own) ys) named false)) [
      | None ↦ refl
      | Some own ↦ list_any-append (same_cells own) xs ys
    ]

pub named_nothing : (names : Names) (number : ℕ) → is_named [] names number ≡ false
named_nothing names number =
    elim (name_at number names) as (λ named. option_map_or (λ own. list_any (same_cells own) []) named false ≡ false) [
      | None ↦ refl
      | Some own ↦ refl
    ]

pub starts_none : (cells : List ℤ) (ms : List Member) (first : ℕ) → group_of cells ms ≡ [] → starts ms first cells ≡ false
starts_none cells ms first none = ap (λ (group : List Member). option_map_or (λ (key : ℕ). key == first) (slice_get (keys_of group) 0) false) none

-- cells of which all is told that is told of others name the same groups
pub named_same : (xs ys : List (List ℤ)) → ((test : List ℤ → Bool) → list_any test xs ≡ list_any test ys) → (names : Names) (number : ℕ) → is_named xs names number ≡ is_named ys names number
named_same xs ys same names number =
    elim (name_at number names) as (λ named. option_map_or (λ own. list_any (same_cells own) xs) named false ≡ option_map_or (λ own. list_any (same_cells own) ys) named false) [
      | None ↦ refl
      | Some own ↦ same (same_cells own)
    ]

module _ (rows : Numbered) (before : List ℕ) where
  pub noted_first : HaveNoted rows before before []
  noted_first = record {
    named = λ number. sym (ap (λ b. is_among number before || b) (named_nothing rows.names number) ∙ or_false (is_among number before));
    firsts = λ first. sym (or_false (list_any (starts_numbered rows first) before));
  }

  -- where there is no group
  pub noted_nothing : ((number : ℕ) → name_at number rows.names ≡ None) → ((cells : List ℤ) → group_of cells rows.members ≡ []) → (some : List (List ℤ)) → HaveNoted rows before before some
  noted_nothing unnamed empty some = record {
    named = λ number.
        sym (ap (λ named. is_among number before || option_map_or (λ own. list_any (same_cells own) some) named false) (unnamed number) ∙ or_false (is_among number before));
    firsts = λ first. sym (ap (λ b. list_any (starts_numbered rows first) before || b) (none_start first some) ∙ or_false (list_any (starts_numbered rows first) before));
  }
    where
      none_start : (first : ℕ) (some : List (List ℤ)) → list_any (starts rows.members first) some ≡ false
      none_start first [] = refl
      none_start first (cells ∷ some) = ap (λ b. b || list_any (starts rows.members first) some) (starts_none cells rows.members first (empty cells)) ∙ none_start first some

  -- the cells of one row, which a group has
  pub noted_own : (number : ℕ) (cells : List ℤ) → IsNumberOf number cells rows.names → HaveNoted rows before (with_number number before) (cells ∷ [])
  noted_own number cells is = record {
    named = λ other. any_with (λ n. n == other) number before ∙ ap (λ b. is_among other before || b) (sym (named_one number other cells rows.names is));
    firsts = λ first.
        any_with (starts_numbered rows first) number before
        ∙ ap (λ b. list_any (starts_numbered rows first) before || b) (starts_own rows first number cells is.own ∙ sym (or_false (starts rows.members first cells)));
  }

  -- or none has
  pub noted_alien : (cells : List ℤ) → ((number : ℕ) → name_at number rows.names ≢ Some cells) → group_of cells rows.members ≡ [] → HaveNoted rows before before (cells ∷ [])
  noted_alien cells unnamed empty = record {
    named = λ other. sym (ap (λ b. is_among other before || b) (named_none cells rows.names unnamed other) ∙ or_false (is_among other before));
    firsts = λ first.
        sym (ap (λ b. list_any (starts_numbered rows first) before || (b || false)) (starts_none cells rows.members first empty) ∙ or_false (list_any (starts_numbered rows first) before));
  }

  module _ (numbers : List ℕ) (cells : List (List ℤ)) (noted : HaveNoted rows before numbers cells) where
    -- more cells
    pub noted_next : (more : List ℕ) (others : List (List ℤ)) → HaveNoted rows numbers more others → HaveNoted rows before more (cells ++ others)
    noted_next more others next = record {
      named = λ number.
          next.named number ∙ ap (λ b. b || is_named others rows.names number) (noted.named number)
          ∙ sym (or_assoc (is_among number before) (is_named cells rows.names number) (is_named others rows.names number)) ∙ ap (λ b. is_among number before || b) (sym (named-append cells others rows.names number));
      firsts = λ first.
          next.firsts first ∙ ap (λ b. b || list_any (starts rows.members first) others) (noted.firsts first)
          ∙ sym (or_assoc (list_any (starts_numbered rows first) before) (list_any (starts rows.members first) cells) (list_any (starts rows.members first) others))
          ∙ ap (λ b. list_any (starts_numbered rows first) before || b) (sym (list_any-append (starts rows.members first) cells others));
    }

    -- other cells of which the same is told
    pub noted_same : (others : List (List ℤ)) → ((test : List ℤ → Bool) → list_any test cells ≡ list_any test others) → HaveNoted rows before numbers others
    noted_same others same = record {
      named = λ number. noted.named number ∙ ap (λ b. is_among number before || b) (named_same cells others same rows.names number);
      firsts = λ first. noted.firsts first ∙ ap (λ b. list_any (starts_numbered rows first) before || b) (same (starts rows.members first));
    }

-- what is told of the numbers of the groups of some rows is told of their key cells
pub told_of : (rows : Numbered) (p : ℕ → Bool) (g : List (List ℤ) → Bool) → g [] ≡ false → ((xs ys : List (List ℤ)) → g (xs ++ ys) ≡ (g xs || g ys)) → ((number : ℕ) (cells : List ℤ) → IsNumberOf number cells rows.names → p number ≡ g (cells ∷ []))
    → (keys numbers : List ℕ) → AllByRecursion (λ key. is_some (member_under key rows.members) ≡ true) keys → AllZip (IsNumberUnder rows) keys numbers → list_any p numbers ≡ g (map (kept_cells rows.members) keys)
told_of rows p g none append one [] [] there are = sym none
told_of rows p g none append one [] (number ∷ numbers) there are = absurd are
told_of rows p g none append one (key ∷ keys) [] there are = absurd are
told_of rows p g none append one (key ∷ keys) (number ∷ numbers) there are =
    let cells = kept_cells rows.members key in
    ap₂ (λ a b. a || b) (one number cells (are.0 cells (kept_own rows.members key there.0))) (told_of rows p g none append one keys numbers there.1 are.1) ∙ sym (append (cells ∷ []) (map (kept_cells rows.members) keys))

-- the groups of rows that are kept, by their numbers
pub noted_rows : (rows : Numbered) (before numbers keys some : List ℕ) → ((test : ℕ → Bool) → list_any test numbers ≡ (list_any test before || list_any test some)) → AllByRecursion (λ key. is_some (member_under key rows.members) ≡ true) keys
    → AllZip (IsNumberUnder rows) keys some → HaveNoted rows before numbers (map (kept_cells rows.members) keys)
noted_rows rows before numbers keys some all there are = record {
  named = λ number.
      all (λ other. other == number)
      ∙ ap (λ b. is_among number before || b)
      (told_of rows (λ other. other == number) (λ cells. is_named cells rows.names number) (named_nothing rows.names number) (λ xs ys. named-append xs ys rows.names number) (λ other cells is. sym (named_one other number cells rows.names is)) keys some there are);
  firsts = λ first.
      all (starts_numbered rows first)
      ∙ ap (λ b. list_any (starts_numbered rows first) before || b)
      (told_of rows (starts_numbered rows first) (list_any (starts rows.members first)) refl (list_any-append (starts rows.members first)) (λ number cells is. starts_own rows first number cells is.own ∙ sym (or_false (starts rows.members first cells))) keys some there are);
}

-- a step: from the part that stays, the groups of before and of now
record IsFound {X : Type 0} (p : X → Bool) (xs : List X) : Type 0 where
  one : X
  passes : p one ≡ true
  there : (q : X → Bool) → q one ≡ true → list_any q xs ≡ true

any_found : {X : Type 0} (p : X → Bool) (xs : List X) → list_any p xs ≡ true → IsFound p xs
any_found p [] e = absurd (true≢false (sym e))
any_found p (x ∷ xs) e =
    elim (or_cases (p x) (list_any p xs) e) [
      | inl own ↦ record { one = x; passes = own; there = λ q f. ap (λ b. b || list_any q xs) f }
      | inr later ↦
          let rest = any_found p xs later in
          record { one = rest.one; passes = rest.passes; there = λ q f. or_right (q x) (list_any q xs) (rest.there q f) }
    ]

found_with : {X : Type 0} (p : X → Bool) (P : X → Type 0) (Q : Type 0) (xs : List X) → list_any p xs ≡ true → AllByRecursion P xs → ((x : X) → p x ≡ true → P x → Q) → Q
found_with p P Q [] e all found = absurd (true≢false (sym e))
found_with p P Q (x ∷ xs) e all found =
    elim (or_cases (p x) (list_any p xs) e) [
      | inl own ↦ found x own all.0
      | inr later ↦ found_with p P Q xs later all.1 found
    ]

-- the number of the group with some key cells, if one is
abbrev pub MayName : List ℤ → Names → Type 0
MayName cells names = ((number : ℕ) × (name_at number names ≡ Some cells)) ⊎ ((number : ℕ) → name_at number names ≢ Some cells)

not_first : (cells : List ℤ) (name : Option (List ℤ)) (names : Names) → name ≢ Some cells → MayName cells names → MayName cells (name ∷ names)
not_first cells name names differ (inl found) = inl (suc found.0, found.1)
not_first cells name names differ (inr none) = inr none_here
  where
    none_here : (number : ℕ) → name_at number (name ∷ names) ≢ Some cells
    none_here zero e = differ e
    none_here (suc number) e = none number e

pub find_name : (cells : List ℤ) (names : Names) → MayName cells names
find_name cells [] = inr (λ number e. none-some cells e)
find_name cells (None ∷ names) = not_first cells None names (none-some cells) (find_name cells names)
find_name cells (Some own ∷ names) = by_cells (same_cells own cells) refl (find_name cells names)
  where
    by_cells : (b : Bool) → same_cells own cells ≡ b → MayName cells names → MayName cells (Some own ∷ names)
    by_cells true e rest = inl (0, ap Some ((signed_items own cells).0 e))
    by_cells false e rest = not_first cells (Some own) names (λ same. true≢false (sym ((signed_items own cells).1 (same_Some own cells same)) ∙ e)) rest

-- cells of one group among others
alike : (ms : List Member) (first : ℕ) (cells : List ℤ) (touched : List (List ℤ)) → list_any (same_cells cells) touched ≡ true → starts ms first cells ≡ true → list_any (starts ms first) touched ≡ true
alike ms first cells touched own led =
    let found = any_found (same_cells cells) touched own in
    found.there (starts ms first) (ap (starts ms first) (sym ((signed_items cells found.one).0 found.passes)) ∙ led)

pub named_is : (cells : List (List ℤ)) (own : List ℤ) (names : Names) (number : ℕ) → name_at number names ≡ Some own → is_named cells names number ≡ list_any (same_cells own) cells
named_is cells own names number e = ap (λ named. option_map_or (λ own. list_any (same_cells own) cells) named false) e

led_by : (rows : Numbered) (first number : ℕ) → starts_numbered rows first number ≡ true → (cells : List ℤ) × ((name_at number rows.names ≡ Some cells) × (starts rows.members first cells ≡ true))
led_by rows first number led = by_name (name_at number rows.names) refl led
  where
    by_name : (named : Option (List ℤ)) → name_at number rows.names ≡ named → option_map_or (starts rows.members first) named false ≡ true → (cells : List ℤ) × ((name_at number rows.names ≡ Some cells) × (starts rows.members first cells ≡ true))
    by_name None e h = absurd (true≢false (sym h))
    by_name (Some cells) e h = (cells, (e, h))

module _ (by : List ℕ) (table : PlainTable) (t : IsTable table) (come : List ℕ) where
  abbrev came : List (List ℤ)
  came = map (key_at by table.rows) come

  abbrev stays : List (List ℤ)
  stays = map (key_at by table.rows) (without come (keys table.rows))

  -- the first row of a group
  first_own : (first : ℕ) (cells : List ℤ) → starts (members by None table.rows) first cells ≡ true → (key_at by table.rows first ≡ cells) × (is_among first (keys table.rows) ≡ true)
  first_own first cells led =
      let parts = and_parts _ _ (sym (starts_when by table t first cells) ∙ led) in
      ((signed_items (key_at by table.rows first) cells).0 parts.0, (and_parts _ _ (sym (first_at by table first t) ∙ parts.1)).1)

  module _ (went : List (List ℤ)) (old new : Numbered) (before numbers : List ℕ) (news : new.members ≡ members by None table.rows)
      (was : (number : ℕ) → is_among number before ≡ is_named (went ++ came) old.names number) (noted : AreNoted old.names new.names before numbers stays came) where
    lead : (first : ℕ) (cells : List ℤ) → starts new.members first cells ≡ true → (key_at by table.rows first ≡ cells) × (is_among first (keys table.rows) ≡ true)
    lead first cells led = first_own first cells (ap (λ ms. starts ms first cells) (sym news) ∙ led)

    -- a group whose first row stays keeps its number
    kept_number : (first : ℕ) (cells : List ℤ) → is_among first come ≡ false → starts new.members first cells ≡ true → (number : ℕ) × ((name_at number old.names ≡ Some cells) × (name_at number new.names ≡ Some cells))
    kept_number first cells absent led =
        let own = lead first cells led in
        subst (λ cells. (number : ℕ) × ((name_at number old.names ≡ Some cells) × (name_at number new.names ≡ Some cells))) own.0
        (of_among (λ key. (number : ℕ) × ((name_at number old.names ≡ Some (key_at by table.rows key)) × (name_at number new.names ≡ Some (key_at by table.rows key)))) first (without come (keys table.rows))
        (every_unmapped (λ own. (number : ℕ) × ((name_at number old.names ≡ Some own) × (name_at number new.names ≡ Some own))) (key_at by table.rows) (without come (keys table.rows)) noted.same)
        (among-filter (λ key. not (is_among key come)) first (keys table.rows) ∙ ap₂ (λ a b. not a && b) absent own.1))

    came_there : (first : ℕ) (cells : List ℤ) → is_among first come ≡ true → starts new.members first cells ≡ true → list_any (same_cells cells) came ≡ true
    came_there first cells own led =
        any-map (same_cells cells) (key_at by table.rows) come
        ∙ any_of (λ key. same_cells cells (key_at by table.rows key)) first come own ((signed_items cells (key_at by table.rows first)).1 (sym (lead first cells led).0))

    in_both : (cells : List ℤ) → list_any (same_cells cells) came ≡ true → list_any (same_cells cells) (went ++ came) ≡ true
    in_both cells own = list_any-append (same_cells cells) went came ∙ or_right (list_any (same_cells cells) went) (list_any (same_cells cells) came) own

    touched_when : (number first : ℕ) (cells : List ℤ) → is_among number numbers ≡ true → name_at number new.names ≡ Some cells → starts new.members first cells ≡ true → list_any (same_cells cells) (went ++ came) ≡ true
    touched_when number first cells own named led =
        elim (or_cases (is_among number before) (is_named came new.names number) (noted.own number own)) [
          | inl earlier ↦ by_case (is_among first come) refl earlier
          | inr later ↦ in_both cells (sym (named_is came cells new.names number named) ∙ later)
        ]
      where
        by_case : (b : Bool) → is_among first come ≡ b → is_among number before ≡ true → list_any (same_cells cells) (went ++ came) ≡ true
        by_case true e earlier = in_both cells (came_there first cells e led)
        by_case false e earlier =
            let same = kept_number first cells e led in
            sym (named_is (went ++ came) cells old.names number (ap (λ n. name_at n old.names) (noted.alone number same.0 cells named same.1.1) ∙ same.1.0)) ∙ sym (was number) ∙ earlier

    noted_when : (first : ℕ) (cells : List ℤ) → list_any (same_cells cells) (went ++ came) ≡ true → starts new.members first cells ≡ true → (number : ℕ) × ((is_among number numbers ≡ true) × (name_at number new.names ≡ Some cells))
    noted_when first cells own led = by_case (is_among first come) refl
      where
        by_case : (b : Bool) → is_among first come ≡ b → (number : ℕ) × ((is_among number numbers ≡ true) × (name_at number new.names ≡ Some cells))
        by_case true e =
            subst (λ cells. (number : ℕ) × ((is_among number numbers ≡ true) × (name_at number new.names ≡ Some cells))) (lead first cells led).0
            (of_among (λ key. (number : ℕ) × ((is_among number numbers ≡ true) × (name_at number new.names ≡ Some (key_at by table.rows key)))) first come
            (every_unmapped (λ own. (number : ℕ) × ((is_among number numbers ≡ true) × (name_at number new.names ≡ Some own))) (key_at by table.rows) come noted.found) e)
        by_case false e =
            let same = kept_number first cells e led in
            (same.0, (noted.kept same.0 (was same.0 ∙ named_is (went ++ came) cells old.names same.0 same.1.0 ∙ own), same.1.1))

    -- the numbers that are noted lead to the first rows of the touched groups
    pub touched_now : (first : ℕ) → list_any (starts_numbered new first) numbers ≡ list_any (starts new.members first) (went ++ came)
    touched_now first =
        same_truth (list_any (starts_numbered new first) numbers) (list_any (starts new.members first) (went ++ came))
        (λ some.
        let found = any_found (starts_numbered new first) numbers some in
        let led = led_by new first found.one found.passes in
        alike new.members first led.0 (went ++ came) (touched_when found.one first led.0 (found.there (λ other. other == found.one) (eq-eqb found.one found.one refl)) led.1.0 led.1.1) led.1.1)
        (λ some.
        let found = any_found (starts new.members first) (went ++ came) some in
        let own = noted_when first found.one (found.there (same_cells found.one) ((signed_items found.one found.one).1 refl)) found.passes in
        any_of (starts_numbered new first) own.0 numbers own.1.0 (starts_own new first own.0 found.one own.1.1 ∙ found.passes))

-- groups that have rows before and now keep their numbers
pub alone_in : (part whole : Numbered) → IsPart part whole → (number other : ℕ) (cells : List ℤ) → name_at number part.names ≡ Some cells → name_at other part.names ≡ Some cells → number ≡ other
alone_in part whole is number other cells e f = is.alone number other cells (is.kept number cells e) (is.kept other cells f)

module _ (old between new : Numbered) (fewer : IsPart between old) (more : IsPart between new) (cells : List ℤ) (some : group_of cells between.members ≢ []) where
  pub numbered_both : (number : ℕ) × ((name_at number old.names ≡ Some cells) × (name_at number new.names ≡ Some cells))
  numbered_both =
      elim (find_name cells between.names) [
        | inl found ↦ (found.0, (fewer.kept found.0 cells found.1, more.kept found.0 cells found.1))
        | inr none ↦ absurd (some (fewer.named cells none))
      ]

  pub number_carried : (number : ℕ) → IsNumberOf number cells old.names → IsNumberOf number cells new.names
  number_carried number is =
      let both = numbered_both in
      let same : both.0 ≡ number = is.alone both.0 both.1.0 in
      record { own = subst (λ n. name_at n new.names ≡ Some cells) same both.1.1; alone = λ other e. more.alone other number cells e (subst (λ n. name_at n new.names ≡ Some cells) same both.1.1) }

-- no row yet
pub noted_none : (old new : Names) (before : List ℕ) (stays : List (List ℤ)) → AllByRecursion (λ own. (number : ℕ) × ((name_at number old ≡ Some own) × (name_at number new ≡ Some own))) stays
    → ((number other : ℕ) (cells : List ℤ) → name_at number new ≡ Some cells → name_at other new ≡ Some cells → number ≡ other) → AreNoted old new before before stays []
noted_none old new before still same alone = record { kept = λ number own. own; own = λ number own. ap (λ b. b || is_named [] new number) own; found = tt; same = same; alone = alone }

-- one row
pub noted_one : (old new : Names) (before : List ℕ) (stays : List (List ℤ)) (own : List ℤ) (number : ℕ) → AllByRecursion (λ own. (number : ℕ) × ((name_at number old ≡ Some own) × (name_at number new ≡ Some own))) stays
    → ((number other : ℕ) (cells : List ℤ) → name_at number new ≡ Some cells → name_at other new ≡ Some cells → number ≡ other) → IsNumberOf number own new → AreNoted old new before (with_number number before) stays (own ∷ [])
noted_one old new before still own number same alone is = record {
  kept = λ other here. any_with (λ n. n == other) number before ∙ ap (λ b. b || (number == other)) here;
  own = λ other here. ap (λ b. is_among other before || b) (named_one number other own new is) ∙ sym (any_with (λ n. n == other) number before) ∙ here;
  found = ((number, (any_with (λ n. n == number) number before ∙ or_right (is_among number before) (number == number) (eq-eqb number number refl), is.own)), tt);
  same = same;
  alone = alone;
}

-- more rows
module _ (old mid new : Names) (before numbers more : List ℕ) (stays came others : List (List ℤ)) (noted : AreNoted old mid before numbers stays came) (next : AreNoted mid new numbers more (stays ++ came) others) where
  abbrev Both : Names → Names → List ℤ → Type 0
  Both old new own = (number : ℕ) × ((name_at number old ≡ Some own) × (name_at number new ≡ Some own))

  parts : AllByRecursion (Both mid new) stays × AllByRecursion (Both mid new) came
  parts = (every_front (Both mid new) stays came next.same, every_back (Both mid new) stays came next.same)

  -- a group of rows that came keeps its number
  still : (number : ℕ) (own : List ℤ) → Both mid new own → name_at number mid ≡ Some own → name_at number new ≡ Some own
  still number own both named = ap (λ n. name_at n new) (noted.alone number both.0 own named both.1.0) ∙ both.1.1

  still_named : (number : ℕ) → is_named came mid number ≡ true → is_named (came ++ others) new number ≡ true
  still_named number named = by_name (name_at number mid) refl named
    where
      by_name : (name : Option (List ℤ)) → name_at number mid ≡ name → option_map_or (λ own. list_any (same_cells own) came) name false ≡ true → is_named (came ++ others) new number ≡ true
      by_name None e h = absurd (true≢false (sym h))
      by_name (Some own) e h =
          named_is (came ++ others) own new number (still number own (found_with (same_cells own) (Both mid new) (Both mid new own) came h parts.1 (λ other same both. subst (Both mid new) (sym ((signed_items own other).0 same)) both)) e)
          ∙ list_any-append (same_cells own) came others ∙ ap (λ b. b || list_any (same_cells own) others) h

  pub noted_again : AreNoted old new before more stays (came ++ others)
  noted_again = record {
    kept = λ number here. next.kept number (noted.kept number here);
    own = λ number here.
        elim (or_cases (is_among number numbers) (is_named others new number) (next.own number here)) [
          | inl earlier ↦
              elim (or_cases (is_among number before) (is_named came mid number) (noted.own number earlier)) [
                | inl first ↦ ap (λ b. b || is_named (came ++ others) new number) first
                | inr named ↦ or_right (is_among number before) (is_named (came ++ others) new number) (still_named number named)
              ]
          | inr named ↦ or_right (is_among number before) (is_named (came ++ others) new number) (named-append came others new number ∙ or_right (is_named came new number) (is_named others new number) named)
        ];
    found = every-append (λ own. (number : ℕ) × ((is_among number more ≡ true) × (name_at number new ≡ Some own))) came others
        (every_both (λ own. (number : ℕ) × ((is_among number numbers ≡ true) × (name_at number mid ≡ Some own))) (Both mid new) (λ own. (number : ℕ) × ((is_among number more ≡ true) × (name_at number new ≡ Some own))) came
        (λ own found both. (found.0, (next.kept found.0 found.1.0, still found.0 own both found.1.1))) noted.found parts.1)
        next.found;
    same = every_both (Both old mid) (Both mid new) (Both old new) stays (λ own first both. (first.0, (first.1.0, still first.0 own both first.1.1))) noted.same parts.0;
    alone = next.alone;
  }

-- the others keep their numbers where groups come to those that are there
pub noted_part : (old : Names) (mid new : Numbered) (before numbers more : List ℕ) (stays came others : List (List ℤ)) → IsPart mid new → AreNoted old mid.names before numbers stays came → AreNoted mid.names new.names numbers more [] others → AreNoted old new.names before more stays (came ++ others)
noted_part old mid new before numbers more stays came others part noted next =
    noted_again old mid.names new.names before numbers more stays came others noted
    (record {
      kept = next.kept;
      own = next.own;
      found = next.found;
      same = every-append (Both mid.names new.names) stays came
          (every_weaker (Both old mid.names) (Both mid.names new.names) stays (λ own both. (both.0, (both.1.1, part.kept both.0 own both.1.1))) noted.same)
          (every_weaker (λ own. (number : ℕ) × ((is_among number numbers ≡ true) × (name_at number mid.names ≡ Some own))) (Both mid.names new.names) came (λ own found. (found.0, (found.1.1, part.kept found.0 own found.1.1))) noted.found);
      alone = next.alone;
    })
  where
    Both : Names → Names → List ℤ → Type 0
    Both old new own = (number : ℕ) × ((name_at number old ≡ Some own) × (name_at number new ≡ Some own))

-- groups that keep their numbers twice
pub part_again : (first second third : Numbered) → IsPart first second → IsPart second third → IsPart first third
part_again first second third is more = record { kept = λ number cells e. more.kept number cells (is.kept number cells e); named = is.named; alone = more.alone }

-- a group without rows has none wherever they move
pub moved_none : (by : List ℕ) (shifts : List ShiftRange) (rows : List PlainRow) (cells : List ℤ) → group_of cells (members by None rows) ≡ [] → group_of cells (members by None (shifting shifts rows)) ≡ []
moved_none by shifts rows cells none =
    group_is by (shifting shifts rows) cells
    ∙ ap (members by None) (filter-map (λ row. same_cells cells (key_cells by row.cells)) (moved_row shifts) rows ∙ ap (shifting shifts) (no_rows by (group_rows by cells rows) (sym (group_is by rows cells) ∙ none)))

-- a part of what has no group twice has none either
pub part_own : (part whole : Numbered) → IsPart part whole → IsPart part part
part_own part whole is = record { kept = λ number cells e. e; named = is.named; alone = alone_in part whole is }
