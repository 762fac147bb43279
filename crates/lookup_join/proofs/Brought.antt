-- An index that is brought on by a step has the rows of now.
use Rattle.std.proofs.Common.{◌≡◌, refl, ap, ap₂, sym, ◌∙◌, subst, Bool, true, false, not, cond, ◌&&◌, ◌||◌, ◌==◌, ℕ, arith, List, [], ◌∷◌, map, filter, length, Option, Some, true≢false}
use Rattle.std.{specs.Prelude.{nat_lt, option_map, unwrap_or, None}, specs.Cmp.signed_Decides, specs.Cmp.Rules.signed_items, specs.Ordering.int_eq, specs.List.AllByRecursion, proofs.lemmas.Bool.{and_parts, eqb-true, ltb-false, ltb-true, not-false, or_parts}}
use Rattle.key_lists.{specs.Keys.{is_among, IsRising, without}, proofs.Among.{among-filter, each_among, of_among}, proofs.Every.{every_both, every_weaker, every-filter, every-map, every_unmapped, filter-map, filter_filter, filter_passes, filter_same, map_map, map_own, map_same}, proofs.Rising.{rising-filter, rising_same}, proofs.Booleans.{or_assoc, or_swap}}
use Rattle.lookup_join.{specs.declared.keyed.Side.Side, specs.declared.pick.Pick.Pick, specs.Keyed.{IsRowOf, indexed, key_at, key_cells, keyed, member_at, rekeys, time_at, time_of}, specs.Taken.rekeyed_pairs}
use Rattle.row_groups.specs.Members.{Grouped, Member, keys_of, left_members, member_of, member_under, moved_member, moved_members, with_member}
use Rattle.row_set.{proofs.United.among-united, specs.Sets.{united, with_key}}
use Rattle.shift_data.specs.Moves.{IsLawful}
use Rattle.shown_rows.{proofs.Named.{named_by, of_named}, proofs.Restricted.{exact_shift, is_modified, kept, modified_by}}
use Rattle.table_update.proofs.LawfulParts.{lawful_some}
use Rattle.tick_model.{specs.declared.plan.OnPair.OnPair, specs.declared.table.PlainRow.PlainRow, specs.declared.update.KeyPair.KeyPair, specs.Shifts.{as_key, moved}, specs.Tables.{cells_at, keys, row_at, same_cells}, specs.Updates.{Update, differs, kept_pair, new_keys, old_keys}, proofs.Among.{each_found, rows_among}}
use Rattle.tick_table.{specs.Exact.IsExact, specs.Ticking.Ticking}

-- the keys of an index
pub keys-keyed : (side : Side) (on : List OnPair) (pick : Pick) (rows : List PlainRow) → keys_of (keyed side on pick rows) ≡ keys rows
keys-keyed side on pick rows = map_map (λ (member : Member). member.key) (λ (row : PlainRow). member_of row.key (key_cells side on row.cells) (time_of side pick row.cells)) rows

pub keys-left : (gone : List ℕ) (members : List Member) → keys_of (left_members gone members) ≡ without gone (keys_of members)
keys-left gone members = sym (filter-map (λ key. not (is_among key gone)) (λ (member : Member). member.key) members)

-- one member more
pub with_member_keys : (member : Member) (members : List Member) → is_among member.key (keys_of members) ≡ false → keys_of (with_member member members) ≡ with_key member.key (keys_of members)
with_member_keys member [] h = refl
with_member_keys member (other ∷ others) h =
    by (nat_lt other.key member.key) (nat_lt member.key other.key) (member.key == other.key) refl refl refl (or_parts _ _ h).0 (with_member_keys member others (or_parts _ _ h).1)
  where
    same : other.key ≡ member.key → (other.key == member.key) ≡ true
    same e = grind (arith, e)

    by : (a b c : Bool) → nat_lt other.key member.key ≡ a → nat_lt member.key other.key ≡ b → (member.key == other.key) ≡ c → (other.key == member.key) ≡ false → keys_of (with_member member others) ≡ with_key member.key (keys_of others)
        → keys_of (cond a (other ∷ with_member member others) (member ∷ other ∷ others)) ≡ cond b (member.key ∷ other.key ∷ keys_of others) (cond c (other.key ∷ keys_of others) (other.key ∷ with_key member.key (keys_of others)))
    by true true c e f g apart rest = absurd (omega (arith, ltb-true other.key member.key e, ltb-true member.key other.key f))
    by true false true e f g apart rest = absurd (omega (arith, ltb-true other.key member.key e, eqb-true member.key other.key g))
    by true false false e f g apart rest = ap (λ ks. other.key ∷ ks) rest
    by false true c e f g apart rest = refl
    by false false c e f g apart rest = absurd (true≢false (sym (same (omega (arith, ltb-false other.key member.key e, ltb-false member.key other.key f))) ∙ apart))

pub every-with_member : (P : Member → Type 0) (member : Member) (members : List Member) → P member → AllByRecursion P members → AllByRecursion P (with_member member members)
every-with_member P member [] p h = (p, tt)
every-with_member P member (other ∷ others) p h =
    elim (nat_lt other.key member.key) as (λ b. AllByRecursion P (cond b (other ∷ with_member member others) (member ∷ other ∷ others))) [
      | true ↦ (h.0, every-with_member P member others p h.1)
      | false ↦ (p, h)
    ]

-- a key that no member has is that of none
pub none_under : (key : ℕ) (members : List Member) → is_among key (keys_of members) ≡ false → member_under key members ≡ None
none_under key [] h = refl
none_under key (member ∷ members) h = ap (λ b. cond b (Some member) (member_under key members)) (or_parts _ _ h).0 ∙ none_under key members (or_parts _ _ h).1

-- members that are the rows under their keys are the index of these rows
pub index_is : (side : Side) (on : List OnPair) (pick : Pick) (rows : List PlainRow) (members : List Member) → IsRising (keys rows) → AllByRecursion (IsRowOf side on pick rows) members → keys_of members ≡ keys rows → members ≡ keyed side on pick rows
index_is side on pick rows members rising are same =
    sym (map_map (member_at side on pick rows) (λ (member : Member). member.key) members ∙ map_own (λ (member : Member). member_at side on pick rows member.key) members (every_weaker (IsRowOf side on pick rows) (λ (member : Member). member_at side on pick rows member.key ≡ member) members (λ member e. sym e) are))
    ∙ ap (map (member_at side on pick rows)) same
    ∙ map_map (member_at side on pick rows) (λ (row : PlainRow). row.key) rows
    ∙ map_same (λ (row : PlainRow). member_at side on pick rows row.key) (λ (row : PlainRow). member_of row.key (key_cells side on row.cells) (time_of side pick row.cells)) rows
    (every_weaker (λ row. row_at row.key rows ≡ Some row) (λ (row : PlainRow). member_at side on pick rows row.key ≡ member_of row.key (key_cells side on row.cells) (time_of side pick row.cells)) rows
    (λ row found. ap (λ (o : Option PlainRow). let cells = unwrap_or (option_map (λ (row : PlainRow). row.cells) o) [] in member_of row.key (key_cells side on cells) (time_of side pick cells)) found) (each_found rows rising))

-- the keys of some pairs and those of the others are those of all
parted : (p : KeyPair → Bool) (key : ℕ) (pairs : List KeyPair) → is_among key (new_keys pairs) ≡ (is_among key (new_keys (filter p pairs)) || is_among key (new_keys (filter (λ pair. not (p pair)) pairs)))
parted p key [] = refl
parted p key (pair ∷ pairs) =
    ap (λ b. (pair.new == key) || b) (parted p key pairs)
    ∙ by (p pair)
  where
    by : (b : Bool) → ((pair.new == key) || (is_among key (new_keys (filter p pairs)) || is_among key (new_keys (filter (λ pair. not (p pair)) pairs)))) ≡ (is_among key (new_keys (cond b (pair ∷ filter p pairs) (filter p pairs))) || is_among key (new_keys (cond (not b) (pair ∷ filter (λ pair. not (p pair)) pairs) (filter (λ pair. not (p pair)) pairs))))
    by true = or_assoc (pair.new == key) (is_among key (new_keys (filter p pairs))) (is_among key (new_keys (filter (λ pair. not (p pair)) pairs)))
    by false = or_swap (pair.new == key) (is_among key (new_keys (filter p pairs))) (is_among key (new_keys (filter (λ pair. not (p pair)) pairs)))

-- and under rising keys no key is of both
not_both : (p : KeyPair → Bool) (key : ℕ) (pairs : List KeyPair) → IsRising (new_keys pairs) → is_among key (new_keys (filter p pairs)) ≡ true → is_among key (new_keys (filter (λ pair. not (p pair)) pairs)) ≡ false
not_both p key pairs rising own =
    let one = of_named (λ (pair : KeyPair). pair.new) (λ pair. (p pair ≡ true) × (is_among pair.new (new_keys (filter (λ pair. not (p pair)) pairs)) ≡ not (p pair))) key (filter p pairs)
    (every_both (λ pair. p pair ≡ true) (λ (pair : KeyPair). is_among pair.new (new_keys (filter (λ pair. not (p pair)) pairs)) ≡ not (p pair)) (λ (pair : KeyPair). (p pair ≡ true) × (is_among pair.new (new_keys (filter (λ pair. not (p pair)) pairs)) ≡ not (p pair))) (filter p pairs) (λ pair a b. (a, b)) (filter_passes p pairs)
    (every-filter (λ (pair : KeyPair). is_among pair.new (new_keys (filter (λ pair. not (p pair)) pairs)) ≡ not (p pair)) p pairs (named_by (λ (pair : KeyPair). pair.new) (λ pair. not (p pair)) pairs rising))) own in
    ap (λ k. is_among k (new_keys (filter (λ pair. not (p pair)) pairs))) (sym one.1.1) ∙ one.1.0.1 ∙ ap not one.1.0.0

module _ (side : Side) (on : List OnPair) (pick : Pick) (t : Ticking) (e : IsExact t) where
  abbrev from : List ℕ
  from = old_keys (rekeyed_pairs side on pick t)

  -- whether a pair's row changes its key cells
  abbrev changes : KeyPair → Bool
  changes pair = is_modified t e pair && rekeys side on pick t.old t.new pair

  rekeyed_is : rekeyed_pairs side on pick t ≡ filter changes (kept t e)
  rekeyed_is = filter_filter (rekeys side on pick t.old t.new) (is_modified t e) (kept t e)

  abbrev pub brought : List Member
  brought = moved_members t.update.shifted (left_members from (left_members t.update.removed (keyed side on pick t.old.rows)))

  pub left_keys : keys_of (left_members from (left_members t.update.removed (keyed side on pick t.old.rows))) ≡ without from (without t.update.removed (keys t.old.rows))
  left_keys = keys-left from (left_members t.update.removed (keyed side on pick t.old.rows)) ∙ ap (without from) (keys-left t.update.removed (keyed side on pick t.old.rows) ∙ ap (without t.update.removed) (keys-keyed side on pick t.old.rows))

  pub lawful_left : IsLawful t.update.shifted (keys_of (left_members from (left_members t.update.removed (keyed side on pick t.old.rows))))
  lawful_left = subst (IsLawful t.update.shifted) (sym left_keys) (lawful_some t.update.shifted (λ key. not (is_among key from)) (without t.update.removed (keys t.old.rows)) (exact_shift t e))

  -- whether a pair's row stays in its group
  abbrev remains : KeyPair → Bool
  remains pair = not (is_among pair.old from)

  -- the keys of the rows that stay in their groups
  brought_keys : keys_of brought ≡ new_keys (filter remains (kept t e))
  brought_keys =
      map_map (λ (member : Member). member.key) (moved_member t.update.shifted) (left_members from (left_members t.update.removed (keyed side on pick t.old.rows)))
      ∙ sym (map_map (λ key. as_key (moved t.update.shifted key)) (λ (member : Member). member.key) (left_members from (left_members t.update.removed (keyed side on pick t.old.rows))))
      ∙ ap (map (λ key. as_key (moved t.update.shifted key))) left_keys
      ∙ sym (map_map (λ (pair : KeyPair). pair.new) (kept_pair t.update) (without from (without t.update.removed (keys t.old.rows))))
      ∙ ap new_keys (sym (filter-map remains (kept_pair t.update) (without t.update.removed (keys t.old.rows))))

  -- what is known of a pair of rows that stay
  abbrev IsPair : KeyPair → Type 0
  IsPair pair = (is_among pair.old from ≡ changes pair) × (is_modified t e pair ≡ differs t.old t.new pair)

  are_pairs : AllByRecursion IsPair (kept t e)
  are_pairs =
      every_both (λ pair. is_among pair.old from ≡ changes pair) (λ pair. is_modified t e pair ≡ differs t.old t.new pair) IsPair (kept t e) (λ pair a b. (a, b))
      (subst (λ pairs. AllByRecursion (λ (pair : KeyPair). is_among pair.old (old_keys pairs) ≡ changes pair) (kept t e)) (sym rekeyed_is) (named_by (λ (pair : KeyPair). pair.old) changes (kept t e) e.tick.rising_old))
      (modified_by t e)

  -- a row that stays in its place has the key cells and the time that it had
  same_place : (pair : KeyPair) → IsPair pair → remains pair ≡ true → (key_at side on t.old.rows pair.old ≡ key_at side on t.new.rows pair.new) × (time_at side pick t.old.rows pair.old ≡ time_at side pick t.new.rows pair.new)
  same_place pair p stays = by (is_modified t e pair) (rekeys side on pick t.old t.new pair) refl refl
    where
      cells_same : is_modified t e pair ≡ false → cells_at pair.old t.old.rows ≡ cells_at pair.new t.new.rows
      cells_same m = (signed_items (cells_at pair.old t.old.rows) (cells_at pair.new t.new.rows)).0 (not-false _ (sym p.1 ∙ m))

      by : (a b : Bool) → is_modified t e pair ≡ a → rekeys side on pick t.old t.new pair ≡ b → (key_at side on t.old.rows pair.old ≡ key_at side on t.new.rows pair.new) × (time_at side pick t.old.rows pair.old ≡ time_at side pick t.new.rows pair.new)
      by false b m r = (ap (key_cells side on) (cells_same m), ap (time_of side pick) (cells_same m))
      by true false m r =
          let parts = and_parts (same_cells (key_at side on t.old.rows pair.old) (key_at side on t.new.rows pair.new)) (int_eq (time_at side pick t.old.rows pair.old) (time_at side pick t.new.rows pair.new)) (not-false _ r) in
          ((signed_items (key_at side on t.old.rows pair.old) (key_at side on t.new.rows pair.new)).0 parts.0, (signed_Decides (time_at side pick t.old.rows pair.old) (time_at side pick t.new.rows pair.new)).0 parts.1)
      by true true m r = absurd (true≢false (sym stays ∙ ap not (p.0 ∙ ap₂ (λ a b. a && b) m r)))

  abbrev Moves : Member → Type 0
  Moves member = not (is_among member.key t.update.removed) ≡ true → not (is_among member.key from) ≡ true → IsRowOf side on pick t.new.rows (moved_member t.update.shifted member)

  moves : AllByRecursion Moves (keyed side on pick t.old.rows)
  moves =
      every-map Moves (λ (row : PlainRow). member_of row.key (key_cells side on row.cells) (time_of side pick row.cells)) t.old.rows
      (every_both (λ (row : PlainRow). is_among row.key (keys t.old.rows) ≡ true) (λ (row : PlainRow). row_at row.key t.old.rows ≡ Some row) (λ (row : PlainRow). Moves (member_of row.key (key_cells side on row.cells) (time_of side pick row.cells))) t.old.rows one
      (rows_among t.old.rows) (each_found t.old.rows e.tick.old_table.rising))
    where
      one : (row : PlainRow) → is_among row.key (keys t.old.rows) ≡ true → row_at row.key t.old.rows ≡ Some row → Moves (member_of row.key (key_cells side on row.cells) (time_of side pick row.cells))
      one row there found unremoved stays =
          ap₂ (λ cells time. member_of (as_key (moved t.update.shifted row.key)) cells time)
          (sym (ap (λ (o : Option PlainRow). key_cells side on (unwrap_or (option_map (λ (row : PlainRow). row.cells) o) [])) found)
          ∙ (same_place (kept_pair t.update row.key) (of_staying unremoved) stays).0)
          (sym (ap (λ (o : Option PlainRow). time_of side pick (unwrap_or (option_map (λ (row : PlainRow). row.cells) o) [])) found)
          ∙ (same_place (kept_pair t.update row.key) (of_staying unremoved) stays).1)
        where
          of_staying : not (is_among row.key t.update.removed) ≡ true → IsPair (kept_pair t.update row.key)
          of_staying unremoved =
              of_among (λ key. IsPair (kept_pair t.update key)) row.key (without t.update.removed (keys t.old.rows)) (every_unmapped IsPair (kept_pair t.update) (without t.update.removed (keys t.old.rows)) are_pairs)
              (among-filter (λ key. not (is_among key t.update.removed)) row.key (keys t.old.rows) ∙ ap₂ (λ a b. a && b) unremoved there)

  abbrev unremoved : List Member
  unremoved = left_members t.update.removed (keyed side on pick t.old.rows)

  pub brought_rows : AllByRecursion (IsRowOf side on pick t.new.rows) brought
  brought_rows =
      every-map (IsRowOf side on pick t.new.rows) (moved_member t.update.shifted) (left_members from unremoved)
      (every_both (λ (member : Member). not (is_among member.key from) ≡ true) (λ (member : Member). not (is_among member.key from) ≡ true → IsRowOf side on pick t.new.rows (moved_member t.update.shifted member)) (λ member. IsRowOf side on pick t.new.rows (moved_member t.update.shifted member)) (left_members from unremoved)
      (λ member passes f. f passes) (filter_passes (λ (member : Member). not (is_among member.key from)) unremoved)
      (every-filter (λ (member : Member). not (is_among member.key from) ≡ true → IsRowOf side on pick t.new.rows (moved_member t.update.shifted member)) (λ (member : Member). not (is_among member.key from)) unremoved
      (every_both (λ (member : Member). not (is_among member.key t.update.removed) ≡ true) Moves (λ (member : Member). not (is_among member.key from) ≡ true → IsRowOf side on pick t.new.rows (moved_member t.update.shifted member)) unremoved
      (λ member passes f. f passes) (filter_passes (λ (member : Member). not (is_among member.key t.update.removed)) (keyed side on pick t.old.rows))
      (every-filter Moves (λ (member : Member). not (is_among member.key t.update.removed)) (keyed side on pick t.old.rows) moves))))

  pub brought_rising : IsRising (keys_of brought)
  brought_rising = subst IsRising (sym brought_keys) (rising-filter (λ (pair : KeyPair). pair.new) remains (kept t e) e.tick.rising_new)

  abbrev pub came : List ℕ
  came = united (new_keys (rekeyed_pairs side on pick t)) t.update.added

  added_at : (key : ℕ) → is_among key t.update.added ≡ (not (is_among key (new_keys (kept t e))) && is_among key (keys t.new.rows))
  added_at key = ap (λ (update : Update). is_among key update.added) e.update ∙ among-filter (λ key. not (is_among key (new_keys (kept t e)))) key (keys t.new.rows)

  came_at : (key : ℕ) → is_among key came ≡ (is_among key (new_keys (filter changes (kept t e))) || (not (is_among key (new_keys (kept t e))) && is_among key (keys t.new.rows)))
  came_at key = among-united key (new_keys (rekeyed_pairs side on pick t)) t.update.added ∙ ap₂ (λ a b. a || b) (ap (λ pairs. is_among key (new_keys pairs)) rekeyed_is) (added_at key)

  -- the pairs apart: those that change their key cells, and those that do not
  remains_is : filter remains (kept t e) ≡ filter (λ pair. not (changes pair)) (kept t e)
  remains_is = filter_same remains (λ pair. not (changes pair)) (kept t e) (every_weaker IsPair (λ pair. remains pair ≡ not (changes pair)) (kept t e) (λ pair p. ap not p.0) are_pairs)

  new_there : (key : ℕ) → is_among key (new_keys (kept t e)) ≡ true → is_among key (keys t.new.rows) ≡ true
  new_there key own = of_among (λ key. is_among key (keys t.new.rows) ≡ true) key (new_keys (kept t e)) e.tick.of_new own

  pub all_keys : (key : ℕ) → (is_among key came || is_among key (keys_of brought)) ≡ is_among key (keys t.new.rows)
  all_keys key =
      ap₂ (λ a b. a || b) (came_at key) (ap (is_among key) (brought_keys ∙ ap new_keys remains_is))
      ∙ both (is_among key (new_keys (filter changes (kept t e)))) (is_among key (new_keys (filter (λ pair. not (changes pair)) (kept t e)))) (is_among key (new_keys (kept t e))) (is_among key (keys t.new.rows)) (parted changes key (kept t e)) (new_there key)
    where
      both : (a b k n : Bool) → k ≡ (a || b) → (k ≡ true → n ≡ true) → ((a || (not k && n)) || b) ≡ n
      both true b k n e f = sym (f e)
      both false true k n e f = ap (λ c. (not c && n) || true) e ∙ sym (f e)
      both false false k n e f = ap (λ c. (not c && n) || false) e ∙ or_false n
        where
          or_false : (n : Bool) → (n || false) ≡ n
          or_false true = refl
          or_false false = refl

  pub came_there : AllByRecursion (λ key. is_among key (keys t.new.rows) ≡ true) came
  came_there =
      every_weaker (λ key. is_among key came ≡ true) (λ key. is_among key (keys t.new.rows) ≡ true) came
      (λ key own. sym (all_keys key) ∙ ap (λ b. b || is_among key (keys_of brought)) own) (each_among came)

  pub came_absent : AllByRecursion (λ key. is_among key (keys_of brought) ≡ false) came
  came_absent =
      every_weaker (λ key. is_among key came ≡ true) (λ key. is_among key (keys_of brought) ≡ false) came
      (λ key own. ap (is_among key) (brought_keys ∙ ap new_keys remains_is) ∙ apart (is_among key (new_keys (filter changes (kept t e)))) (is_among key (new_keys (filter (λ pair. not (changes pair)) (kept t e)))) (is_among key (new_keys (kept t e))) (is_among key (keys t.new.rows))
      (parted changes key (kept t e)) (not_both changes key (kept t e) e.tick.rising_new) (sym (came_at key) ∙ own))
      (each_among came)
    where
      apart : (a b k n : Bool) → k ≡ (a || b) → (a ≡ true → b ≡ false) → (a || (not k && n)) ≡ true → b ≡ false
      apart true b k n e f own = f refl
      apart false true k n e f own = absurd (true≢false (sym own ∙ ap (λ c. not c && n) e))
      apart false false k n e f own = refl

  -- a row that stays in its place was there before, with the same key cells
  pub kept_key : (key : ℕ) → is_among key (keys_of brought) ≡ true → (old : ℕ) × ((is_among old (keys t.old.rows) ≡ true) × (key_at side on t.old.rows old ≡ key_at side on t.new.rows key))
  kept_key key own =
      let one = of_named (λ (pair : KeyPair). pair.new) (λ (pair : KeyPair). (is_among pair.old (keys t.old.rows) ≡ true) × (key_at side on t.old.rows pair.old ≡ key_at side on t.new.rows pair.new)) key (filter remains (kept t e)) (every_both (λ pair. remains pair ≡ true) (λ (pair : KeyPair). (is_among pair.old (keys t.old.rows) ≡ true) × IsPair pair) (λ (pair : KeyPair). (is_among pair.old (keys t.old.rows) ≡ true) × (key_at side on t.old.rows pair.old ≡ key_at side on t.new.rows pair.new)) (filter remains (kept t e)) of_pair (filter_passes remains (kept t e))
      (every-filter (λ (pair : KeyPair). (is_among pair.old (keys t.old.rows) ≡ true) × IsPair pair) remains (kept t e)
      (every_both (λ (pair : KeyPair). is_among pair.old (keys t.old.rows) ≡ true) IsPair (λ (pair : KeyPair). (is_among pair.old (keys t.old.rows) ≡ true) × IsPair pair) (kept t e) (λ pair a b. (a, b)) (every_unmapped (λ key. is_among key (keys t.old.rows) ≡ true) (λ (pair : KeyPair). pair.old) (kept t e) e.tick.of_old) are_pairs))) (sym (ap (is_among key) brought_keys) ∙ own) in
      (one.0.old, (one.1.0.0, one.1.0.1 ∙ ap (key_at side on t.new.rows) one.1.1))
    where
      of_pair : (pair : KeyPair) → remains pair ≡ true → (is_among pair.old (keys t.old.rows) ≡ true) × IsPair pair → (is_among pair.old (keys t.old.rows) ≡ true) × (key_at side on t.old.rows pair.old ≡ key_at side on t.new.rows pair.new)
      of_pair pair stays p = (p.0, (same_place pair p.1 stays).0)

  -- an index that has the rows that stay in their groups and those that came
  pub grouped_is : (after : Grouped) → after.width ≡ length on → AllByRecursion (IsRowOf side on pick t.new.rows) after.members → IsRising (keys_of after.members) → ((key : ℕ) → is_among key (keys_of after.members) ≡ (is_among key came || is_among key (keys_of brought))) → after ≡ indexed side on pick t.new.rows
  grouped_is after width rows rising here =
      ap₂ (λ width members. let grouped : Grouped = record { width = width; members = members } in grouped) width
      (index_is side on pick t.new.rows after.members e.tick.new_table.rising rows (rising_same (keys_of after.members) (keys t.new.rows) rising e.tick.new_table.rising (λ key. here key ∙ all_keys key)))
