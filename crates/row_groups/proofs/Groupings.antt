-- Rows and their members, and the lists of slots that stand for groups.
use Rattle.std.proofs.Common.{◌≡◌, ◌≢◌, refl, ap, sym, ◌∙◌, subst, Bool, true, false, not, cond, ltb, eqb, ℕ, suc, ◌+◌, ◌-◌, ◌^◌, ◌<◌, ◌≤◌, zero, arith, zero-add, List, [], ◌∷◌, map, filter, length, take, drop, Option, Some, None, option_map, unwrap_or, IsSome, ℤ, int_lt, int_le, count_by, if◌then◌else◌}
use Rattle.std.{specs.List.AllByRecursion, specs.Prelude.slice_get, proofs.lemmas.List.drop_all, proofs.lemmas.List.Sums.sum_by-cons, proofs.lemmas.Bool.false_from_ne_true, specs.Cmp.Rules.signed_items}
use Rattle.key_lists.{specs.Keys.is_among, proofs.Every.{every_both, every_weaker, every-map, filter-map, filter_passes}}
use Rattle.row_set.specs.Sets.{IsKeySet}
use Rattle.tick_model.{specs.Tables.same_cells, specs.declared.update.ShiftRange.ShiftRange}
use Rattle.row_handles.specs.Entries.{AreHandled, Ascend, Entry, entry_of, handle_under, key_with, keys_of as entry_keys, left_rows, moved_rows, with_row as entries_with}
use Rattle.row_groups.{specs.declared.place.GroupRow.GroupRow, specs.declared.lists.Lists.Lists, specs.declared.table.Table.Table, specs.Members.{AreGrouped, Member, by_at, group_of, keys_of, left_members, member_of, member_under, moved_member, moved_members, placed, with_member}, specs.Slots.{AreKnown, AreRanked, IsGroup, IsParted, handle_from, is_before, key_in, member_at, slots_with, slots_without}, specs.Kept.at_in, specs.Rows.{AreListed, Becomes, ByNumber, IsKept, IsSame, Row, cells_in, group_rows, members_of, row_of, row_placed, rows_by_at, rows_of, slot_of, slots_under}, proofs.Order.{at_most, less, less_above, less_below, less_itself, less_through}, proofs.Ranks.{Ascends, Ranked, before, every-by_at, every-group, group_ranked, group_with, group_without, put_in, with_row}, proofs.Ends.{failed_all, passed_all}, proofs.Keys.{known_all, small_key}, proofs.Parts.unlike}

-- a group of rows has the members of the group
placed_members : (row : Row) (rows : List Row) → members_of (row_placed row rows) ≡ placed row.member (members_of rows)
placed_members row [] = refl
placed_members row (other ∷ others) =
    elim (int_lt other.member.at row.member.at) as (λ b. members_of (if b then other ∷ row_placed row others else row ∷ other ∷ others) ≡ (if b then other.member ∷ placed row.member (members_of others) else row.member ∷ other.member ∷ members_of others)) [
      | true ↦ ap (λ ms. other.member ∷ ms) (placed_members row others)
      | false ↦ refl
    ]

by_at_members : (rows : List Row) → members_of (rows_by_at rows) ≡ by_at (members_of rows)
by_at_members [] = refl
by_at_members (row ∷ rows) = placed_members row (rows_by_at rows) ∙ ap (placed row.member) (by_at_members rows)

pub group_members : (cells : List ℤ) (rows : List Row) → members_of (group_rows cells rows) ≡ group_of cells (members_of rows)
group_members cells rows =
    by_at_members (filter (λ row. same_cells cells row.member.cells) rows)
    ∙ ap by_at (sym (filter-map (λ member. same_cells cells member.cells) (λ row. row.member) rows))

-- rows that come, leave and move
pub rows_with : (table : Table) (groups : ByNumber) (key handle : ℕ) (xs : List Entry) → rows_of table groups (entries_with key handle xs) ≡ with_row (row_of table groups (entry_of key handle)) (rows_of table groups xs)
rows_with table groups key handle [] = refl
rows_with table groups key handle (x ∷ xs) =
    elim (ltb x.key key) as (λ b. rows_of table groups (if b then x ∷ entries_with key handle xs else entry_of key handle ∷ x ∷ xs) ≡ (if b then row_of table groups x ∷ with_row (row_of table groups (entry_of key handle)) (rows_of table groups xs) else row_of table groups (entry_of key handle) ∷ row_of table groups x ∷ rows_of table groups xs)) [
      | true ↦ ap (λ rs. row_of table groups x ∷ rs) (rows_with table groups key handle xs)
      | false ↦ refl
    ]

pub members_with : (row : Row) (rows : List Row) → members_of (with_row row rows) ≡ with_member row.member (members_of rows)
members_with row [] = refl
members_with row (other ∷ others) =
    elim (ltb other.member.key row.member.key) as (λ b. members_of (if b then other ∷ with_row row others else row ∷ other ∷ others) ≡ (if b then other.member ∷ with_member row.member (members_of others) else row.member ∷ other.member ∷ members_of others)) [
      | true ↦ ap (λ ms. other.member ∷ ms) (members_with row others)
      | false ↦ refl
    ]

pub members_left : (table : Table) (groups : ByNumber) (gone : List ℕ) (xs : List Entry) → members_of (rows_of table groups (left_rows gone xs)) ≡ left_members gone (members_of (rows_of table groups xs))
members_left table groups gone xs =
    sym (ap members_of (filter-map (λ row. not (is_among row.member.key gone)) (row_of table groups) xs))
    ∙ sym (filter-map (λ member. not (is_among member.key gone)) (λ row. row.member) (rows_of table groups xs))

pub members_moved : (table : Table) (groups : ByNumber) (shifts : List ShiftRange) (xs : List Entry) → members_of (rows_of table groups (moved_rows shifts xs)) ≡ moved_members shifts (members_of (rows_of table groups xs))
members_moved table groups shifts [] = refl
members_moved table groups shifts (x ∷ xs) = ap (λ ms. moved_member shifts (row_of table groups x).member ∷ ms) (members_moved table groups shifts xs)

-- the rows of two tables that keep the same
pub rows_same : (old : Table) (groups : ByNumber) (new : Table) (others : ByNumber) (xs : List Entry) → AllByRecursion (λ x. IsSame old groups new others x.handle) xs → rows_of new others xs ≡ rows_of old groups xs
rows_same old groups new others [] h = refl
rows_same old groups new others (x ∷ xs) h =
    ap (λ rs. row_of new others x ∷ rs) (rows_same old groups new others xs h.1)
    ∙ ap (λ (cells : Option (List ℤ)). record { member = member_of x.key (unwrap_or cells []) (at_in new x.handle); handle = x.handle } ∷ rows_of old groups xs) h.0.cells
    ∙ ap (λ at. record { member = member_of x.key (cells_in old groups x.handle) at; handle = x.handle } ∷ rows_of old groups xs) h.0.at

-- the rows ascend with their keys
pub rows_ascend : (table : Table) (groups : ByNumber) (xs : List Entry) → Ascend xs → Ascends (rows_of table groups xs)
rows_ascend table groups [] up = tt
rows_ascend table groups (x ∷ xs) up = (every-map (λ row. x.key < row.member.key) (row_of table groups) xs up.0, rows_ascend table groups xs up.1)

-- each row's handle leads to its key and its `at`
abbrev pub Knows : List Entry → Table → Row → Type 0
Knows entries table row = (key_with row.handle entries ≡ Some row.member.key) × (at_in table row.handle ≡ row.member.at)

pub rows_known : (entries : List Entry) (table : Table) (groups : ByNumber) (xs : List Entry) → AllByRecursion (λ x. key_with x.handle entries ≡ Some x.key) xs → AllByRecursion (Knows entries table) (rows_of table groups xs)
rows_known entries table groups xs h = every-map (Knows entries table) (row_of table groups) xs (every_weaker (λ x. key_with x.handle entries ≡ Some x.key) (λ x. Knows entries table (row_of table groups x)) xs (λ x e. (e, refl)) h)

own_key : (entries : List Entry) (table : Table) (row : Row) → Knows entries table row → key_in entries row.handle ≡ row.member.key
own_key entries table row h = ap (λ (o : Option ℕ). unwrap_or o 0) h.0

pub before_same : (entries : List Entry) (table : Table) (other : Row) (at : ℤ) (key : ℕ) → Knows entries table other → is_before entries table at key (slot_of other) ≡ less other.member.at other.member.key at key
before_same entries table other at key h = ap (λ k. less (at_in table other.handle) k at key) (own_key entries table other h) ∙ ap (λ a. less a other.member.key at key) h.1

-- a row put into a group and its list
put_by : (entries : List Entry) (table : Table) (row other : Row) (others : List Row) → map slot_of (put_in row others) ≡ slots_with entries table row.member.at row.member.key (slot_of row) (map slot_of others) → (b : Bool) → map slot_of (if b then other ∷ put_in row others else row ∷ other ∷ others) ≡ (if b then slot_of other ∷ slots_with entries table row.member.at row.member.key (slot_of row) (map slot_of others) else slot_of row ∷ slot_of other ∷ map slot_of others)
put_by entries table row other others rest true = ap (λ ss. slot_of other ∷ ss) rest
put_by entries table row other others rest false = refl

pub slots_put : (entries : List Entry) (table : Table) (row : Row) (rows : List Row) → AllByRecursion (Knows entries table) rows → map slot_of (put_in row rows) ≡ slots_with entries table row.member.at row.member.key (slot_of row) (map slot_of rows)
slots_put entries table row [] h = refl
slots_put entries table row (other ∷ others) h =
    put_by entries table row other others (slots_put entries table row others h.1) (before other row)
    ∙ ap (λ b. if b then slot_of other ∷ slots_with entries table row.member.at row.member.key (slot_of row) (map slot_of others) else slot_of row ∷ slot_of other ∷ map slot_of others) (sym (before_same entries table other row.member.at row.member.key h.0))

-- a row taken out at its own place
again_by : (entries : List Entry) (table : Table) (at : ℤ) (key : ℕ) (slot s : GroupRow) (slots : List GroupRow) → is_before entries table at key slot ≡ false → slots_without entries table at key (slots_with entries table at key slot slots) ≡ slots → (b : Bool) → is_before entries table at key s ≡ b → slots_without entries table at key (if b then s ∷ slots_with entries table at key slot slots else slot ∷ s ∷ slots) ≡ s ∷ slots
again_by entries table at key slot s slots own rest true e = ap (λ b. if b then s ∷ slots_without entries table at key (slots_with entries table at key slot slots) else slots_with entries table at key slot slots) e ∙ ap (λ ss. s ∷ ss) rest
again_by entries table at key slot s slots own rest false e = ap (λ b. if b then slot ∷ slots_without entries table at key (s ∷ slots) else s ∷ slots) own

pub taken_again : (entries : List Entry) (table : Table) (at : ℤ) (key : ℕ) (slot : GroupRow) (slots : List GroupRow) → is_before entries table at key slot ≡ false → slots_without entries table at key (slots_with entries table at key slot slots) ≡ slots
taken_again entries table at key slot [] own = ap (λ b. if b then slot ∷ [] else []) own
taken_again entries table at key slot (s ∷ slots) own = again_by entries table at key slot s slots own (taken_again entries table at key slot slots own) (is_before entries table at key s) refl

found_by : (entries : List Entry) (table : Table) (at : ℤ) (key : ℕ) (slot s : GroupRow) (slots : List GroupRow) → is_before entries table at key slot ≡ false → handle_from entries table at key (slots_with entries table at key slot slots) ≡ Some slot.handle → (b : Bool) → is_before entries table at key s ≡ b → handle_from entries table at key (if b then s ∷ slots_with entries table at key slot slots else slot ∷ s ∷ slots) ≡ Some slot.handle
found_by entries table at key slot s slots own rest true e = ap (λ b. if b then handle_from entries table at key (slots_with entries table at key slot slots) else Some s.handle) e ∙ rest
found_by entries table at key slot s slots own rest false e = ap (λ b. if b then handle_from entries table at key (s ∷ slots) else Some slot.handle) own

found_again : (entries : List Entry) (table : Table) (at : ℤ) (key : ℕ) (slot : GroupRow) (slots : List GroupRow) → is_before entries table at key slot ≡ false → handle_from entries table at key (slots_with entries table at key slot slots) ≡ Some slot.handle
found_again entries table at key slot [] own = ap (λ b. if b then None else Some slot.handle) own
found_again entries table at key slot (s ∷ slots) own = found_by entries table at key slot s slots own (found_again entries table at key slot slots own) (is_before entries table at key s) refl

-- the list of a group is known, and in order
pub slots_known : (entries : List Entry) (table : Table) (rows : List Row) → AllByRecursion (Knows entries table) rows → AreKnown entries (map slot_of rows)
slots_known entries table rows h =
    every-map (λ slot. IsSome (key_with slot.handle entries)) slot_of rows
    (every_weaker (Knows entries table) (λ row. IsSome (key_with row.handle entries)) rows (λ row e. subst (λ (o : Option ℕ). IsSome o) (sym e.0) refl) h)

pub slots_ranked : (entries : List Entry) (table : Table) (rows : List Row) → AllByRecursion (Knows entries table) rows → Ranked rows → AreRanked entries table (map slot_of rows)
slots_ranked entries table [] h k = tt
slots_ranked entries table (row ∷ rows) h k = (
  every-map (λ other. is_before entries table (at_in table other.handle) (key_in entries other.handle) (slot_of row) ≡ true) slot_of rows
      (every_both (Knows entries table) (λ other. before row other ≡ true) (λ other. is_before entries table (at_in table other.handle) (key_in entries other.handle) (slot_of row) ≡ true) rows (λ other own e.
      before_same entries table row (at_in table other.handle) (key_in entries other.handle) h.0 ∙ ap (λ a. less row.member.at row.member.key a (key_in entries other.handle)) own.1 ∙ ap (less row.member.at row.member.key other.member.at) (own_key entries table other own) ∙ e) h.1 k.0),
  slots_ranked entries table rows h.1 k.1,
)

-- a place parts a list in order
pub ranked_parted : (entries : List Entry) (table : Table) (at : ℤ) (key : ℕ) (slots : List GroupRow) → AreRanked entries table slots → IsParted (is_before entries table at key) slots
ranked_parted entries table at key [] h = tt
ranked_parted entries table at key (s ∷ slots) h = (
  λ not_own. every_weaker (λ o. is_before entries table (at_in table o.handle) (key_in entries o.handle) s ≡ true) (λ o. is_before entries table at key o ≡ false) slots
      (λ o e. false_from_ne_true (is_before entries table at key o) (λ f. unlike (is_before entries table at key s) (less_through (at_in table s.handle) (key_in entries s.handle) (at_in table o.handle) (key_in entries o.handle) at key e f) not_own)) h.0,
  ranked_parted entries table at key slots h.1,
)

-- a list as its members
pub slots_members : (entries : List Entry) (table : Table) (cells : List ℤ) (rows : List Row) → AllByRecursion (Knows entries table) rows → AllByRecursion (λ row. same_cells cells row.member.cells ≡ true) rows → map (member_at entries table cells) (map slot_of rows) ≡ members_of rows
slots_members entries table cells [] h k = refl
slots_members entries table cells (row ∷ rows) h k =
    ap (λ ms. member_at entries table cells (slot_of row) ∷ ms) (slots_members entries table cells rows h.1 k.1)
    ∙ ap (λ key. member_of key cells (at_in table row.handle) ∷ members_of rows) (own_key entries table row h.0)
    ∙ ap (λ at. member_of row.member.key cells at ∷ members_of rows) h.0.1
    ∙ ap (λ cs. member_of row.member.key cs row.member.at ∷ members_of rows) ((signed_items cells row.member.cells).0 k.0)

pub group_cells : (cells : List ℤ) (rows : List Row) → AllByRecursion (λ row. same_cells cells row.member.cells ≡ true) (group_rows cells rows)
group_cells cells rows = every-by_at (λ row. same_cells cells row.member.cells ≡ true) (filter (λ row. same_cells cells row.member.cells) rows) (filter_passes (λ row. same_cells cells row.member.cells) rows)

-- the lists after a row came
listed_at : (entries : List Entry) (table : Table) (row : Row) (rows : List Row) (old new : Lists) → AllByRecursion (Knows entries table) rows → Ascends rows → AllByRecursion (λ other. other.member.key ≢ row.member.key) rows → AreListed rows old
    → Becomes row.member.cells (slots_with entries table row.member.at row.member.key (slot_of row) (slots_under row.member.cells old)) old new → (cells : List ℤ) (b : Bool) → same_cells row.member.cells cells ≡ b → slots_under cells new ≡ map slot_of (group_rows cells (with_row row rows))
listed_at entries table row rows old new known up apart listed becomes cells true e =
    let own : row.member.cells ≡ cells = (signed_items row.member.cells cells).0 e in
    let same : same_cells cells row.member.cells ≡ true = (signed_items cells row.member.cells).1 (sym own) in
    becomes cells
    ∙ ap (λ b. if b then slots_with entries table row.member.at row.member.key (slot_of row) (slots_under row.member.cells old) else slots_under cells old) e
    ∙ ap (λ cs. slots_with entries table row.member.at row.member.key (slot_of row) (slots_under cs old)) own
    ∙ ap (slots_with entries table row.member.at row.member.key (slot_of row)) (listed cells)
    ∙ sym (slots_put entries table row (group_rows cells rows) (every-group (Knows entries table) cells rows known))
    ∙ ap (map slot_of) (sym (group_with cells row rows up apart same))
listed_at entries table row rows old new known up apart listed becomes cells false e =
    let other : same_cells cells row.member.cells ≡ false = false_from_ne_true (same_cells cells row.member.cells) (λ f. unlike (same_cells row.member.cells cells) ((signed_items row.member.cells cells).1 (sym ((signed_items cells row.member.cells).0 f))) e) in
    becomes cells
    ∙ ap (λ b. if b then slots_with entries table row.member.at row.member.key (slot_of row) (slots_under row.member.cells old) else slots_under cells old) e
    ∙ listed cells
    ∙ ap (map slot_of) (sym (group_without cells row rows other))

pub listed_with : (entries : List Entry) (table : Table) (row : Row) (rows : List Row) (old new : Lists) → AllByRecursion (Knows entries table) rows → Ascends rows → AllByRecursion (λ other. other.member.key ≢ row.member.key) rows → AreListed rows old
    → Becomes row.member.cells (slots_with entries table row.member.at row.member.key (slot_of row) (slots_under row.member.cells old)) old new → AreListed (with_row row rows) new
listed_with entries table row rows old new known up apart listed becomes cells = listed_at entries table row rows old new known up apart listed becomes cells (same_cells row.member.cells cells) refl

-- the lists after a row left
left_at : (entries : List Entry) (table : Table) (row : Row) (rows : List Row) (old new : Lists) → Knows entries table row → AllByRecursion (Knows entries table) rows → Ascends rows → AllByRecursion (λ other. other.member.key ≢ row.member.key) rows → AreListed (with_row row rows) old
    → Becomes row.member.cells (slots_without entries table row.member.at row.member.key (slots_under row.member.cells old)) old new → (cells : List ℤ) (b : Bool) → same_cells row.member.cells cells ≡ b → slots_under cells new ≡ map slot_of (group_rows cells rows)
left_at entries table row rows old new own known up apart listed becomes cells true e =
    let here : row.member.cells ≡ cells = (signed_items row.member.cells cells).0 e in
    let same : same_cells cells row.member.cells ≡ true = (signed_items cells row.member.cells).1 (sym here) in
    becomes cells
    ∙ ap (λ b. if b then slots_without entries table row.member.at row.member.key (slots_under row.member.cells old) else slots_under cells old) e
    ∙ ap (λ cs. slots_without entries table row.member.at row.member.key (slots_under cs old)) here
    ∙ ap (slots_without entries table row.member.at row.member.key) (listed cells ∙ ap (map slot_of) (group_with cells row rows up apart same) ∙ slots_put entries table row (group_rows cells rows) (every-group (Knows entries table) cells rows known))
    ∙ taken_again entries table row.member.at row.member.key (slot_of row) (map slot_of (group_rows cells rows)) (before_same entries table row row.member.at row.member.key own ∙ less_itself row.member.at row.member.key)
left_at entries table row rows old new own known up apart listed becomes cells false e =
    let other : same_cells cells row.member.cells ≡ false = false_from_ne_true (same_cells cells row.member.cells) (λ f. unlike (same_cells row.member.cells cells) ((signed_items row.member.cells cells).1 (sym ((signed_items cells row.member.cells).0 f))) e) in
    becomes cells
    ∙ ap (λ b. if b then slots_without entries table row.member.at row.member.key (slots_under row.member.cells old) else slots_under cells old) e
    ∙ listed cells
    ∙ ap (map slot_of) (group_without cells row rows other)

pub listed_without : (entries : List Entry) (table : Table) (row : Row) (rows : List Row) (old new : Lists) → Knows entries table row → AllByRecursion (Knows entries table) rows → Ascends rows → AllByRecursion (λ other. other.member.key ≢ row.member.key) rows → AreListed (with_row row rows) old
    → Becomes row.member.cells (slots_without entries table row.member.at row.member.key (slots_under row.member.cells old)) old new → AreListed rows new
listed_without entries table row rows old new own known up apart listed becomes cells = left_at entries table row rows old new own known up apart listed becomes cells (same_cells row.member.cells cells) refl

-- the row at its place
pub listed_from : (entries : List Entry) (table : Table) (row : Row) (rows : List Row) (lists : Lists) → Knows entries table row → AllByRecursion (Knows entries table) rows → Ascends rows → AllByRecursion (λ other. other.member.key ≢ row.member.key) rows → AreListed (with_row row rows) lists
    → handle_from entries table row.member.at row.member.key (slots_under row.member.cells lists) ≡ Some row.handle
listed_from entries table row rows lists own known up apart listed =
    let cells = row.member.cells in
    ap (handle_from entries table row.member.at row.member.key) (listed cells ∙ ap (map slot_of) (group_with cells row rows up apart ((signed_items cells cells).1 refl)) ∙ slots_put entries table row (group_rows cells rows) (every-group (Knows entries table) cells rows known))
    ∙ found_again entries table row.member.at row.member.key (slot_of row) (map slot_of (group_rows cells rows)) (before_same entries table row row.member.at row.member.key own ∙ less_itself row.member.at row.member.key)

-- the list of a group, for a search in it
pub listed_group : (entries : List Entry) (table : Table) (groups : ByNumber) (xs : List Entry) (lists : Lists) (cells : List ℤ) → AreListed (rows_of table groups xs) lists → AllByRecursion (λ x. key_with x.handle entries ≡ Some x.key) xs → Ascend xs → AreHandled entries → IsGroup entries table (slots_under cells lists)
listed_group entries table groups xs lists cells listed known up handled =
    let rows = group_rows cells (rows_of table groups xs) in
    let all = every-group (Knows entries table) cells (rows_of table groups xs) (rows_known entries table groups xs known) in
    record {
      handled = handled;
      known = subst (AreKnown entries) (sym (listed cells)) (slots_known entries table rows all);
      ranked = subst (AreRanked entries table) (sym (listed cells)) (slots_ranked entries table rows all (group_ranked cells (rows_of table groups xs) (rows_ascend table groups xs up)));
    }

pub listed_members : (table : Table) (groups : ByNumber) (xs : List Entry) (lists : Lists) (cells : List ℤ) → AreListed (rows_of table groups xs) lists → AreHandled xs → map (member_at xs table cells) (slots_under cells lists) ≡ group_of cells (members_of (rows_of table groups xs))
listed_members table groups xs lists cells listed handled =
    let rows = group_rows cells (rows_of table groups xs) in
    ap (map (member_at xs table cells)) (listed cells)
    ∙ slots_members xs table cells rows (every-group (Knows xs table) cells (rows_of table groups xs) (rows_known xs table groups xs (known_all xs handled.handles))) (group_cells cells (rows_of table groups xs))
    ∙ group_members cells (rows_of table groups xs)

-- the members as a whole
member_keys : (table : Table) (groups : ByNumber) (xs : List Entry) → keys_of (members_of (rows_of table groups xs)) ≡ entry_keys xs
member_keys table groups [] = refl
member_keys table groups (x ∷ xs) = ap (λ keys. x.key ∷ keys) (member_keys table groups xs)

pub are_grouped : (width : ℕ) (table : Table) (groups : ByNumber) (xs : List Entry) → AreHandled xs → AllByRecursion (λ x. IsKept width table groups x.handle) xs → AreGrouped (record { width = width; members = members_of (rows_of table groups xs) })
are_grouped width table groups xs handled kept = record {
  keys = subst IsKeySet (sym (member_keys table groups xs)) handled.keys;
  cells = every-map (λ member. length member.cells ≡ width) (λ row. row.member) (rows_of table groups xs)
      (every-map (λ row. length row.member.cells ≡ width) (row_of table groups) xs
      (every_weaker (λ x. IsKept width table groups x.handle) (λ x. length (cells_in table groups x.handle) ≡ width) xs (λ x is. is.width) kept));
}

pub keys_same : (table : Table) (groups : ByNumber) (xs : List Entry) → keys_of (members_of (rows_of table groups xs)) ≡ entry_keys xs
keys_same table groups xs = member_keys table groups xs

-- what is known of the member under a key
pub under_same : {X : Type 0} (f : Member → X) (g : ℕ → X) (key : ℕ) (table : Table) (groups : ByNumber) (xs : List Entry) → ((x : Entry) → f (row_of table groups x).member ≡ g x.handle) → option_map f (member_under key (members_of (rows_of table groups xs))) ≡ option_map g (handle_under key xs)
under_same f g key table groups [] same = refl
under_same f g key table groups (x ∷ xs) same =
    elim (eqb x.key key) as (λ b. option_map f (cond b (Some (row_of table groups x).member) (member_under key (members_of (rows_of table groups xs)))) ≡ option_map g (if b then Some x.handle else handle_under key xs)) [
      | true ↦ ap Some (same x)
      | false ↦ under_same f g key table groups xs same
    ]

none_of_map : {X Y : Type 0} (f : X → Y) (o : Option X) → ◌≡◌ {A = Option Y} None (option_map f o) → o ≡ None
none_of_map f None e = refl
none_of_map f (Some x) e = absurd (cc)

pub absent_under : (key : ℕ) (table : Table) (groups : ByNumber) (xs : List Entry) → member_under key (members_of (rows_of table groups xs)) ≡ None → handle_under key xs ≡ None
absent_under key table groups xs e =
    none_of_map (cells_in table groups) (handle_under key xs) (sym (ap (option_map (λ member. member.cells)) e) ∙ under_same (λ member. member.cells) (cells_in table groups) key table groups xs (λ x. refl))

-- a key with a member has a handle
pub there_under : (key : ℕ) (table : Table) (groups : ByNumber) (xs : List Entry) → IsSome (member_under key (members_of (rows_of table groups xs))) → IsSome (handle_under key xs)
there_under key table groups xs there = by_handle (handle_under key xs) refl
  where
    by_handle : (found : Option ℕ) → handle_under key xs ≡ found → IsSome found
    by_handle None e =
        subst (λ (member : Option Member). IsSome member)
        (none_of_map (λ (member : Member). member.cells) (member_under key (members_of (rows_of table groups xs))) (sym (under_same (λ member. member.cells) (cells_in table groups) key table groups xs (λ x. refl) ∙ ap (option_map (cells_in table groups)) e)))
        there
    by_handle (Some handle) e = refl

-- how many rows stand before a place
pub counted : (f : Member → Bool) (entries : List Entry) (table : Table) (cells : List ℤ) (slots : List GroupRow) (n : ℕ) → n ≤ length slots → AllByRecursion (λ s. f (member_at entries table cells s) ≡ true) (take n slots) → AllByRecursion (λ s. f (member_at entries table cells s) ≡ false) (drop n slots) → n ≡ count_by f (map (member_at entries table cells) slots)
counted f entries table cells [] zero le h k = refl
counted f entries table cells [] (suc n) le h k = absurd (omega arith)
counted f entries table cells (s ∷ slots) zero le h k =
    let rest = map (member_at entries table cells) slots in
    sym (
    sum_by-cons (λ m. cond (f m) 1 0) (member_at entries table cells s) rest
    ∙ ap (λ b. cond b 1 0 + count_by f rest) k.0
    ∙ zero-add (count_by f rest)
    ∙ sym (counted f entries table cells slots zero (omega arith) tt k.1)
    )
counted f entries table cells (s ∷ slots) (suc n) le h k =
    let rest = map (member_at entries table cells) slots in
    let one : 1 + count_by f rest ≡ suc (count_by f rest) = omega arith in
    sym (
    sum_by-cons (λ m. cond (f m) 1 0) (member_at entries table cells s) rest
    ∙ ap (λ b. cond b 1 0 + count_by f rest) h.0
    ∙ one
    ∙ sym (ap suc (counted f entries table cells slots n (omega arith) h.1 k))
    )

-- a place behind all keys, and one before them
pub counted_at_most : (entries : List Entry) (table : Table) (cells : List ℤ) (at : ℤ) (slots : List GroupRow) (n : ℕ) → AreHandled entries → n ≤ length slots → AllByRecursion (λ s. is_before entries table at (2 ^ 62) s ≡ true) (take n slots) → AllByRecursion (λ s. is_before entries table at (2 ^ 62) s ≡ false) (drop n slots) → n ≡ count_by (λ member. int_le member.at at) (map (member_at entries table cells) slots)
counted_at_most entries table cells at slots n handled le h k =
    let same = λ (s : GroupRow). less_below (at_in table s.handle) (key_in entries s.handle) at (2 ^ 62) (small_key s.handle entries handled) ∙ at_most (at_in table s.handle) at in
    counted (λ member. int_le member.at at) entries table cells slots n le
    (every_weaker (λ s. is_before entries table at (2 ^ 62) s ≡ true) (λ s. int_le (at_in table s.handle) at ≡ true) (take n slots) (λ s e. sym (same s) ∙ e) h)
    (every_weaker (λ s. is_before entries table at (2 ^ 62) s ≡ false) (λ s. int_le (at_in table s.handle) at ≡ false) (drop n slots) (λ s e. sym (same s) ∙ e) k)

pub counted_below : (entries : List Entry) (table : Table) (cells : List ℤ) (at : ℤ) (slots : List GroupRow) (n : ℕ) → n ≤ length slots → AllByRecursion (λ s. is_before entries table at 0 s ≡ true) (take n slots) → AllByRecursion (λ s. is_before entries table at 0 s ≡ false) (drop n slots) → n ≡ count_by (λ member. int_lt member.at at) (map (member_at entries table cells) slots)
counted_below entries table cells at slots n le h k =
    let same = λ (s : GroupRow). less_above (at_in table s.handle) (key_in entries s.handle) at 0 (omega arith) in
    counted (λ member. int_lt member.at at) entries table cells slots n le
    (every_weaker (λ s. is_before entries table at 0 s ≡ true) (λ s. int_lt (at_in table s.handle) at ≡ true) (take n slots) (λ s e. sym (same s) ∙ e) h)
    (every_weaker (λ s. is_before entries table at 0 s ≡ false) (λ s. int_lt (at_in table s.handle) at ≡ false) (drop n slots) (λ s e. sym (same s) ∙ e) k)

-- where the last row is not later than a time, none is, and where the first is not earlier, none is
pub all_at_most : (entries : List Entry) (table : Table) (cells : List ℤ) (at : ℤ) (slots : List GroupRow) (last : GroupRow) → AreHandled entries → AreRanked entries table slots → slice_get slots (length slots - 1) ≡ Some last → int_le (at_in table last.handle) at ≡ true → length slots ≡ count_by (λ member. int_le member.at at) (map (member_at entries table cells) slots)
all_at_most entries table cells at slots last handled ranked is le =
    counted_at_most entries table cells at slots (length slots) handled (omega arith)
    (passed_all (is_before entries table at (2 ^ 62)) slots (length slots) last refl is (ranked_parted entries table at (2 ^ 62) slots ranked) (less_below (at_in table last.handle) (key_in entries last.handle) at (2 ^ 62) (small_key last.handle entries handled) ∙ at_most (at_in table last.handle) at ∙ le))
    (subst (AllByRecursion (λ s. is_before entries table at (2 ^ 62) s ≡ false)) (sym (drop_all (length slots) slots (omega arith))) tt)

pub none_below : (entries : List Entry) (table : Table) (cells : List ℤ) (at : ℤ) (slots : List GroupRow) (first : GroupRow) → AreRanked entries table slots → slice_get slots 0 ≡ Some first → int_lt (at_in table first.handle) at ≡ false → 0 ≡ count_by (λ member. int_lt member.at at) (map (member_at entries table cells) slots)
none_below entries table cells at slots first ranked is not_lt =
    counted_below entries table cells at slots 0 (omega arith) tt
    (failed_all (is_before entries table at 0) slots first is (ranked_parted entries table at 0 slots ranked) (less_above (at_in table first.handle) (key_in entries first.handle) at 0 (omega arith) ∙ not_lt))

-- the row at a position, in its list and in its group
pub slot_of_member : {X : Type 0} (f : Member → X) (entries : List Entry) (table : Table) (cells : List ℤ) (slots : List GroupRow) (i : ℕ) → slice_get (map f (map (member_at entries table cells) slots)) i ≡ option_map (λ s. f (member_at entries table cells s)) (slice_get slots i)
slot_of_member f entries table cells [] i = refl
slot_of_member f entries table cells (s ∷ slots) zero = refl
slot_of_member f entries table cells (s ∷ slots) (suc i) = slot_of_member f entries table cells slots i
