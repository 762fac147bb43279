-- The first rows of touched groups, found by the key cells of touched rows.
use Rattle.std.proofs.Common.{◌≡◌, refl, ap, ap₂, sym, ◌∙◌, subst, Bool, true, false, ◌&&◌, ◌||◌, ◌==◌, ℕ, ◌+◌, ◌^◌, ◌<◌, ◌≤◌, arith, List, [], ◌∷◌, filter, length, Option, Some, None, option_map, unwrap_or, is_some, ℤ, true≢false}
use Rattle.std.{specs.Cmp.Rules.signed_items, specs.List.{AllByRecursion, list_any}, specs.Option.option_map_or, specs.Prelude.slice_get, proofs.lemmas.Bool.{and_parts, eqb-true}, proofs.lemmas.Option.{none-some, same_Some}}
use Rattle.key_lists.{specs.Keys.{is_among, IsRising}, proofs.Among.among-filter, proofs.Every.{every_both, every-filter, every-map, every_unmapped, filter_passes}, proofs.Rising.{rising-filter, rising_same, rising_some}}
use Rattle.row_groups.{specs.Members.{AreGrouped, Grouped, Member, Names, group_of, keys_of, member_under, name_at}, proofs.Placed.every-by_at}
use Rattle.row_set.{specs.Sets.with_key, proofs.United.{among-with_key, length-united, with_key_rises}}
use Rattle.tick_model.{proofs.Among.rows_among, specs.Agg.{is_first, key_cells}, specs.declared.table.PlainRow.PlainRow, specs.declared.table.PlainTable.PlainTable, specs.Tables.{keys, same_cells, IsTable}}
use Rattle.agg_by.{specs.Kept.{group_rows, indexed}, specs.Steps.{first_keys, kept_cells, key_at, starts}, proofs.Answering.{keys_group, known_at, led_cells, led_row}, proofs.Bringing.members, proofs.GroupRows.{first_at, leads, leads_own}, proofs.Untouched.own_cells}

group_small : (grouped : Grouped) (cells : List ℤ) → AreGrouped grouped → AllByRecursion (λ key. key < 2 ^ 62) (keys_of (group_of cells grouped.members))
group_small grouped cells are =
    every-map (λ key. key < 2 ^ 62) (λ (member : Member). member.key) (group_of cells grouped.members)
    (every-by_at (λ member. member.key < 2 ^ 62) (filter (λ (member : Member). same_cells cells member.cells) grouped.members)
    (every-filter (λ member. member.key < 2 ^ 62) (λ (member : Member). same_cells cells member.cells) grouped.members
    (every_unmapped (λ key. key < 2 ^ 62) (λ (member : Member). member.key) grouped.members are.keys.small)))

pub some_small : (grouped : Grouped) (named : Option (List ℤ)) (group : List Member) → AreGrouped grouped → option_map (λ cells. group_of cells grouped.members) named ≡ Some group → AllByRecursion (λ key. key < 2 ^ 62) (keys_of group)
some_small grouped None group are e = absurd (none-some group e)
some_small grouped (Some cells) group are e = subst (λ (group : List Member). AllByRecursion (λ key. key < 2 ^ 62) (keys_of group)) (same_Some (group_of cells grouped.members) group e) (group_small grouped cells are)

-- the cells of a row that is kept
pub kept_own : (ms : List Member) (key : ℕ) → is_some (member_under key ms) ≡ true → option_map (λ (member : Member). member.cells) (member_under key ms) ≡ Some (kept_cells ms key)
kept_own ms key there = by (member_under key ms) there
  where
    by : (o : Option Member) → is_some o ≡ true → option_map (λ (member : Member). member.cells) o ≡ Some (unwrap_or (option_map (λ (member : Member). member.cells) o) [])
    by None e = absurd (true≢false (sym e))
    by (Some member) e = refl

-- the first row of a group that has the key
head_has : (P : PlainRow → Type 0) (key : ℕ) (some : List PlainRow) → AllByRecursion P some → option_map_or (λ (first : PlainRow). first.key == key) (slice_get some 0) false ≡ true → (row : PlainRow) × (P row × (row.key ≡ key))
head_has P key [] h e = absurd (true≢false (sym e))
head_has P key (row ∷ some) h e = (row, (h.0, eqb-true row.key key e))

record IsOf (by : List ℕ) (rows : List PlainRow) (cells : List ℤ) (row : PlainRow) : Type 0 where
  there : is_among row.key (keys rows) ≡ true
  own : key_at by rows row.key ≡ key_cells by row.cells
  same : same_cells cells (key_cells by row.cells) ≡ true

module _ (by : List ℕ) (table : PlainTable) (t : IsTable table) where
  abbrev rows : List PlainRow
  rows = table.rows

  group_of_rows : (cells : List ℤ) → AllByRecursion (IsOf by rows cells) (group_rows by cells rows)
  group_of_rows cells =
      every_both (λ row. (is_among row.key (keys rows) ≡ true) × (key_at by rows row.key ≡ key_cells by row.cells)) (λ row. same_cells cells (key_cells by row.cells) ≡ true) (IsOf by rows cells) (group_rows by cells rows)
      (λ row is same. record { there = is.0; own = is.1; same = same })
      (every-filter (λ row. (is_among row.key (keys rows) ≡ true) × (key_at by rows row.key ≡ key_cells by row.cells)) (λ row. same_cells cells (key_cells by row.cells)) rows
      (every_both (λ row. is_among row.key (keys rows) ≡ true) (λ row. key_at by rows row.key ≡ key_cells by row.cells) (λ row. (is_among row.key (keys rows) ≡ true) × (key_at by rows row.key ≡ key_cells by row.cells)) rows (λ row a b. (a, b)) (rows_among rows) (own_cells by rows t.rising)))
      (filter_passes (λ row. same_cells cells (key_cells by row.cells)) rows)

  -- the key of the first row of a group is that of a row, which has the key cells of the group
  leads_there : (cells : List ℤ) (key : ℕ) → leads by rows cells key ≡ true → (is_among key (keys rows) ≡ true) × (key_at by rows key ≡ cells)
  leads_there cells key e =
      let found = head_has (IsOf by rows cells) key (group_rows by cells rows) (group_of_rows cells) e in
      (subst (λ k. is_among k (keys rows) ≡ true) found.1.1 found.1.0.there, ap (key_at by rows) (sym found.1.1) ∙ found.1.0.own ∙ sym ((signed_items cells (key_cells by found.0.cells)).0 found.1.0.same))

  leads_when : (cells : List ℤ) (key : ℕ) → leads by rows cells key ≡ (same_cells (key_at by rows key) cells && is_among key (first_keys by rows))
  leads_when cells key = cases (leads by rows cells key) (same_cells (key_at by rows key) cells) refl refl
    where
      own : (b : Bool) → leads_own by rows key ≡ b → b ≡ (b && is_among key (keys rows))
      own true e = sym (leads_there (key_at by rows key) key e).0
      own false e = refl

      cases : (l s : Bool) → leads by rows cells key ≡ l → same_cells (key_at by rows key) cells ≡ s → l ≡ (s && is_among key (first_keys by rows))
      cases l true e f =
          sym e ∙ ap (λ cs. leads by rows cs key) (sym ((signed_items (key_at by rows key) cells).0 f)) ∙ own (leads_own by rows key) refl
          ∙ sym (first_at by table key t)
      cases true false e f = absurd (true≢false (sym ((signed_items (key_at by rows key) cells).1 (leads_there cells key e).1) ∙ f))
      cases false false e f = refl

  first_key_of : (key : ℕ) (some : List PlainRow) → option_map_or (λ k. k == key) (slice_get (keys some) 0) false ≡ option_map_or (λ (first : PlainRow). first.key == key) (slice_get some 0) false
  first_key_of key [] = refl
  first_key_of key (row ∷ some) = refl

  pub starts_when : (key : ℕ) (cells : List ℤ) → starts (members by None rows) key cells ≡ (same_cells (key_at by rows key) cells && is_among key (first_keys by rows))
  starts_when key cells =
      ap (λ ks. option_map_or (λ k. k == key) (slice_get ks 0) false) (keys_group by rows cells) ∙ first_key_of key (group_rows by cells rows) ∙ leads_when cells key

  module _ (kept : Grouped) (are : kept ≡ indexed by None rows) (first : ℕ) where
    -- a first row leads the group with its key cells
    pub led_own : is_among first (first_keys by rows) ≡ true → starts kept.members first (kept_cells kept.members first) ≡ true
    led_own own =
        ap₂ (λ (ms : List Member) (cells : List ℤ). starts ms first cells) (ap (λ (kept : Grouped). kept.members) are) (ap (λ (cells : Option (List ℤ)). unwrap_or cells []) (known_at by table t kept are first (led_row by table t kept are first own)))
        ∙ starts_when first (key_at by rows first) ∙ ap₂ (λ a b. a && b) ((signed_items (key_at by rows first) (key_at by rows first)).1 refl) own

    -- the group that it leads has these, and is found by its number
    pub led_name : (named : Option (List ℤ)) → option_map_or (starts kept.members first) named false ≡ true → named ≡ Some (key_at by rows first)
    led_name None e = absurd (true≢false (sym e))
    led_name (Some cells) e =
        ap Some (sym ((signed_items (key_at by rows first) cells).0 (and_parts _ _ (sym (starts_when first cells) ∙ sym (ap (λ (kept : Grouped). starts kept.members first cells) are) ∙ e)).0))

    pub led_at : (number : ℕ) (names : Names) (found : Option (List Member)) → option_map_or (starts kept.members first) (name_at number names) false ≡ true
        → found ≡ option_map (λ cells. group_of cells kept.members) (name_at number names) → found ≡ Some (group_of (key_at by rows first) kept.members)
    led_at number names found e is = is ∙ ap (option_map (λ cells. group_of cells kept.members)) (led_name (name_at number names) e)

    pub led_found : (number : ℕ) (names : Names) (found : Option (List Member)) (group : List Member) (cells : List ℤ) → is_among first (first_keys by rows) ≡ true → option_map_or (starts kept.members first) (name_at number names) false ≡ true
        → found ≡ option_map (λ cells. group_of cells kept.members) (name_at number names) → found ≡ Some group → AllByRecursion (λ member. member.cells ≡ cells) group → cells ≡ key_at by rows first
    led_found number names found group cells own e is here all = led_cells by table t kept are first group cells own (same_Some _ _ (sym here ∙ led_at number names found e is)) all

  starts_any : (key : ℕ) (touched : List (List ℤ)) → list_any (starts (members by None rows) key) touched ≡ (list_any (same_cells (key_at by rows key)) touched && is_among key (first_keys by rows))
  starts_any key [] = refl
  starts_any key (cells ∷ touched) =
      ap₂ (λ a b. a || b) (starts_when key cells) (starts_any key touched)
      ∙ together (same_cells (key_at by rows key) cells) (list_any (same_cells (key_at by rows key)) touched) (is_among key (first_keys by rows))
    where
      together : (a b c : Bool) → ((a && c) || (b && c)) ≡ ((a || b) && c)
      together true b true = refl
      together true true false = refl
      together true false false = refl
      together false b c = refl

  pub first_keys_rise : IsRising (first_keys by rows)
  first_keys_rise = rising-filter (λ (row : PlainRow). row.key) (is_first by rows) rows t.rising

  -- keys that are found so are those of the first rows of touched groups
  pub firsts_are : (touched : List (List ℤ)) (firsts : List ℕ) → IsRising firsts → ((first : ℕ) → is_among first firsts ≡ list_any (starts (members by None rows) first) touched)
      → firsts ≡ filter (λ key. list_any (same_cells (key_at by rows key)) touched) (first_keys by rows)
  firsts_are touched firsts rising found =
      rising_same firsts (filter (λ key. list_any (same_cells (key_at by rows key)) touched) (first_keys by rows)) rising
      (rising_some (λ key. list_any (same_cells (key_at by rows key)) touched) (first_keys by rows) first_keys_rise)
      (λ key. found key ∙ starts_any key touched ∙ sym (among-filter (λ key. list_any (same_cells (key_at by rows key)) touched) key (first_keys by rows)))

-- the keys of the first rows of some groups
abbrev led_keys : List Member → List (List ℤ) → List ℕ
led_keys ms [] = []
led_keys ms (cells ∷ touched) = option_map_or (λ key. with_key key (led_keys ms touched)) (slice_get (keys_of (group_of cells ms)) 0) (led_keys ms touched)

led_rise : (ms : List Member) (touched : List (List ℤ)) → IsRising (led_keys ms touched)
led_rise ms [] = tt
led_rise ms (cells ∷ touched) =
    elim (slice_get (keys_of (group_of cells ms)) 0) as (λ first. IsRising (option_map_or (λ key. with_key key (led_keys ms touched)) first (led_keys ms touched))) [
      | None ↦ led_rise ms touched
      | Some key ↦ with_key_rises key (led_keys ms touched) (led_rise ms touched)
    ]

few_led : (ms : List Member) (touched : List (List ℤ)) → length (led_keys ms touched) ≤ length touched
few_led ms [] = omega arith
few_led ms (cells ∷ touched) = by (slice_get (keys_of (group_of cells ms)) 0) (few_led ms touched)
  where
    by : (first : Option ℕ) → length (led_keys ms touched) ≤ length touched → length (option_map_or (λ key. with_key key (led_keys ms touched)) first (led_keys ms touched)) ≤ length (cells ∷ touched)
    by None h = omega (arith, h)
    by (Some key) h =
        let most : length (with_key key (led_keys ms touched)) ≤ 1 + length (led_keys ms touched) = length-united (key ∷ []) (led_keys ms touched) in
        omega (arith, h, most)

among-led : (first : ℕ) (ms : List Member) (touched : List (List ℤ)) → is_among first (led_keys ms touched) ≡ list_any (starts ms first) touched
among-led first ms [] = refl
among-led first ms (cells ∷ touched) = by (slice_get (keys_of (group_of cells ms)) 0) (among-led first ms touched)
  where
    by : (found : Option ℕ) → is_among first (led_keys ms touched) ≡ list_any (starts ms first) touched → is_among first (option_map_or (λ key. with_key key (led_keys ms touched)) found (led_keys ms touched)) ≡ (option_map_or (λ key. key == first) found false || list_any (starts ms first) touched)
    by None h = h
    by (Some key) h = among-with_key first key (led_keys ms touched) ∙ ap (λ b. (key == first) || b) h

-- they are no more than the groups
pub few_firsts : (ms : List Member) (touched : List (List ℤ)) (firsts : List ℕ) → IsRising firsts → ((first : ℕ) → is_among first firsts ≡ list_any (starts ms first) touched) → length firsts ≤ length touched
few_firsts ms touched firsts rising found =
    subst (λ (keys : List ℕ). length keys ≤ length touched) (sym (rising_same firsts (led_keys ms touched) rising (led_rise ms touched) (λ first. found first ∙ sym (among-led first ms touched)))) (few_led ms touched)
