-- The index as a whole: rows that move, come and leave.
use Rattle.std.proofs.Common.{◌≡◌, ◌≢◌, refl, ap, sym, ◌∙◌, subst, Bool, true, false, not, cond, ◌||◌, ℕ, ◌^◌, ◌<◌, List, [], ◌∷◌, ◌++◌, map, filter, length, Option, Some, None, Result, Ok, Err, OnOk, OnErr, IsSome, unwrap_or, inl, inr, ℤ, int_lt, if◌then◌else◌}
use Rattle.std.{specs.List.AllByRecursion, proofs.lemmas.Bool.{cases_eq, eq-eqb}, proofs.lemmas.Option.same_Some, specs.Cmp.Rules.signed_items}
use Rattle.key_lists.{specs.Keys.is_among, proofs.Every.{every, every_both, every_weaker, every_unmapped, every-filter, every-map, filter-map, filter_passes}}
use Rattle.tick_model.{specs.Tables.same_cells, specs.declared.update.ShiftRange.ShiftRange, specs.Shifts.{moved, as_key}, specs.Rules.shift_fault}
use Rattle.row_handles.{specs.Entries.{AreHandled, Entry, entry_of, handle_under, key_with, keys_of, left_rows, moved_row, moved_rows, with_row}, proofs.EntryLists.ascend-filter, proofs.Laws.{handle_under-left, key_under_handle}}
use Rattle.row_groups.{specs.declared.table.Table.Table, specs.declared.index.GroupIndex.GroupIndex, specs.declared.lists.Lists.Lists, specs.declared.place.GroupRow.GroupRow, specs.Members.{Grouped, Member, left_members, member_of, moved_members, with_member}, specs.Slots.{IsGroup, handle_from, slots_with, slots_without}, specs.Kept.{at_in, kept_in}, specs.Rows.{AreListed, AreNumbered, Becomes, ByNumber, IsKept, IsSame, Row, cells_in, group_rows, members_of, row_of, row_placed, rows_by_at, rows_of, slot_of, slots_numbered, slots_under, cells_with}, specs.Indexes.{Holds, IsIndex}, proofs.Ranks.with_row as row_among, proofs.Keys.{ascending, every-with_row, handled_left, handled_moved, handled_with, known_all, left_again, left_missing, left_more, left_none, restored, under_has}, proofs.Listed.under_number, proofs.Groupings.{listed_from, listed_group, listed_with, listed_without, members_left, members_moved, members_with, rows_ascend, rows_known, rows_same, rows_with}}

-- rows under other keys
abbrev move : (ℕ → ℕ) → Row → Row
move f row = record { member = member_of (f row.member.key) row.member.cells row.member.at; handle = row.handle }

placed_move : (f : ℕ → ℕ) (row : Row) (rows : List Row) → map (move f) (row_placed row rows) ≡ row_placed (move f row) (map (move f) rows)
placed_move f row [] = refl
placed_move f row (other ∷ others) =
    elim (int_lt other.member.at row.member.at) as (λ b. map (move f) (if b then other ∷ row_placed row others else row ∷ other ∷ others) ≡ (if b then move f other ∷ row_placed (move f row) (map (move f) others) else move f row ∷ move f other ∷ map (move f) others)) [
      | true ↦ ap (λ rs. move f other ∷ rs) (placed_move f row others)
      | false ↦ refl
    ]

by_at_move : (f : ℕ → ℕ) (rows : List Row) → map (move f) (rows_by_at rows) ≡ rows_by_at (map (move f) rows)
by_at_move f [] = refl
by_at_move f (row ∷ rows) = placed_move f row (rows_by_at rows) ∙ ap (row_placed (move f row)) (by_at_move f rows)

group_move : (f : ℕ → ℕ) (cells : List ℤ) (rows : List Row) → map (move f) (group_rows cells rows) ≡ group_rows cells (map (move f) rows)
group_move f cells rows =
    by_at_move f (filter (λ row. same_cells cells row.member.cells) rows)
    ∙ ap rows_by_at (sym (filter-map (λ row. same_cells cells row.member.cells) (move f) rows))

slots_move : (f : ℕ → ℕ) (rows : List Row) → map slot_of (map (move f) rows) ≡ map slot_of rows
slots_move f [] = refl
slots_move f (row ∷ rows) = ap (λ ss. slot_of row ∷ ss) (slots_move f rows)

rows_move : (table : Table) (groups : ByNumber) (shifts : List ShiftRange) (xs : List Entry) → rows_of table groups (moved_rows shifts xs) ≡ map (move (λ key. as_key (moved shifts key))) (rows_of table groups xs)
rows_move table groups shifts [] = refl
rows_move table groups shifts (x ∷ xs) = ap (λ rs. row_of table groups (moved_row shifts x) ∷ rs) (rows_move table groups shifts xs)

listed_move : (table : Table) (shifts : List ShiftRange) (xs : List Entry) (lists : Lists) → AreListed (rows_of table lists.groups xs) lists → AreListed (rows_of table lists.groups (moved_rows shifts xs)) lists
listed_move table shifts xs lists listed cells =
    let f = λ (key : ℕ). as_key (moved shifts key) in
    listed cells
    ∙ sym (slots_move f (group_rows cells (rows_of table lists.groups xs)))
    ∙ ap (map slot_of) (group_move f cells (rows_of table lists.groups xs) ∙ ap (group_rows cells) (sym (rows_move table lists.groups shifts xs)))

-- an index with other handles
abbrev handled : GroupIndex → List Entry → GroupIndex
handled index entries = record index { handles = entries }

moved_index : (shifts : List ShiftRange) (index : GroupIndex) → IsIndex index → shift_fault (2 ^ 62) shifts (keys_of index.handles) ≡ None → IsIndex (handled index (moved_rows shifts index.handles))
moved_index shifts index is lawful = record {
  handled = handled_moved shifts index.handles is.handled lawful;
  kept = every-map (λ x. IsKept index.width index.table index.lists.groups x.handle) (moved_row shifts) index.handles is.kept;
  listed = listed_move index.table shifts index.handles index.lists is.listed;
  numbered = is.numbered;
}

pub index_moved : {T E : Type 0} (result : Result T E) (shifts : List ShiftRange) (index : GroupIndex) (entries : List Entry) → IsIndex index → shift_fault (2 ^ 62) shifts (keys_of index.handles) ≡ None → OnOk result (entries ≡ moved_rows shifts index.handles) → OnErr result (entries ≡ index.handles) → IsIndex (handled index entries)
index_moved (Ok x) shifts index entries is lawful ok err = subst (λ xs. IsIndex (handled index xs)) (sym ok) (moved_index shifts index is lawful)
index_moved (Err e) shifts index entries is lawful ok err = subst (λ xs. IsIndex (handled index xs)) (sym err) is

pub members_shifted : (shifts : List ShiftRange) (table : Table) (groups : ByNumber) (xs new : List Entry) → new ≡ moved_rows shifts xs → members_of (rows_of table groups new) ≡ moved_members shifts (members_of (rows_of table groups xs))
members_shifted shifts table groups xs new e = ap (λ es. members_of (rows_of table groups es)) e ∙ members_moved table groups shifts xs

true_not_false : ◌≡◌ {A = Bool} true false → ⊥
true_not_false e = cc

-- the others of a row have other handles
gone_itself : (key other : ℕ) → key ≡ other → not (is_among other (key ∷ [])) ≡ true → ⊥
gone_itself key other same e = true_not_false (sym e ∙ ap (λ b. not (b || false)) (eq-eqb key other same))

pub apart_handles : (key handle : ℕ) (xs : List Entry) → AreHandled xs → handle_under key xs ≡ Some handle → AllByRecursion (λ x. x.handle ≢ handle) (left_rows (key ∷ []) xs)
apart_handles key handle xs handled here =
    let p = λ (x : Entry). not (is_among x.key (key ∷ [])) in
    every_both (λ x. p x ≡ true) (λ x. key_with x.handle xs ≡ Some x.key) (λ x. x.handle ≢ handle) (filter p xs)
    (λ x stays known same. gone_itself key x.key (same_Some key x.key (sym (key_under_handle key handle xs handled here) ∙ ap (λ h. key_with h xs) (sym same) ∙ known)) stays)
    (filter_passes p xs) (every-filter (λ x. key_with x.handle xs ≡ Some x.key) p xs (known_all xs handled.handles))

-- the others keep what is kept of them
module _ (old : Table) (groups : ByNumber) (new : Table) (others : ByNumber) where
  pub others_same : (width key handle : ℕ) (xs : List Entry) → AreHandled xs → handle_under key xs ≡ Some handle → AllByRecursion (λ x. IsKept width old groups x.handle) (left_rows (key ∷ []) xs) → ((other : ℕ) → other ≢ handle → IsKept width old groups other → IsSame old groups new others other) → AllByRecursion (λ x. IsSame old groups new others x.handle) (left_rows (key ∷ []) xs)
  others_same width key handle xs handled here kept same =
      every_both (λ x. x.handle ≢ handle) (λ x. IsKept width old groups x.handle) (λ x. IsSame old groups new others x.handle) (left_rows (key ∷ []) xs)
      (λ x apart is. same x.handle apart is) (apart_handles key handle xs handled here) kept

  pub kept_same : (width : ℕ) (xs : List Entry) → AllByRecursion (λ x. IsKept width old groups x.handle) xs → AllByRecursion (λ x. IsSame old groups new others x.handle) xs → AllByRecursion (λ x. IsKept width new others x.handle) xs
  kept_same width xs kept same =
      every_both (λ x. IsKept width old groups x.handle) (λ x. IsSame old groups new others x.handle) (λ x. IsKept width new others x.handle) xs
      (λ x is stays. record {
        within = stays.within;
        there = subst (λ (cells : Option (List ℤ)). IsSome cells) (sym stays.cells) is.there;
        width = ap (λ (cells : Option (List ℤ)). length (unwrap_or cells [])) stays.cells ∙ is.width;
      }) kept same

-- what is kept of the others of a handle stays where that under it changes
pub kept_on : (width handle : ℕ) (old new : Table) (groups others : ByNumber) → ((other : ℕ) → other ≢ handle → other < length old.numbers.items → (other < length new.numbers.items) × (kept_in new other ≡ kept_in old other)) → ((n : ℕ) → IsSome (cells_with n groups) → cells_with n others ≡ cells_with n groups) → (other : ℕ) → other ≢ handle → IsKept width old groups other → IsSame old groups new others other
kept_on width handle old new groups others stays cells other apart is =
    let kept = stays other apart is.within in
    record {
      within = kept.0;
      cells = ap (λ k. cells_with k.number others) kept.1 ∙ cells (kept_in old other).number is.there;
      at = ap (λ k. k.at) kept.1;
    }

-- what is known in an index of some of the rows
pub holds_group : (gone : List ℕ) (index : GroupIndex) (cells : List ℤ) → Holds (left_rows gone index.handles) index → IsGroup index.handles index.table (slots_under cells index.lists)
holds_group gone index cells is =
    let p = λ (x : Entry). not (is_among x.key gone) in
    listed_group index.handles index.table index.lists.groups (left_rows gone index.handles) index.lists cells is.listed
    (every-filter (λ x. key_with x.handle index.handles ≡ Some x.key) p index.handles (known_all index.handles is.handled.handles))
    (ascend-filter p index.handles (ascending index.handles is.handled)) is.handled

-- lists that stay as they are
pub becomes_same : (cells : List ℤ) (rows : List Row) (old new : Lists) → Becomes cells (slots_under cells old) old new → AreListed rows old → AreListed rows new
becomes_same cells rows old new becomes listed other = by_test (same_cells cells other) refl
  where
    by_test : (b : Bool) → same_cells cells other ≡ b → slots_under other new ≡ map slot_of (group_rows other rows)
    by_test true e =
        becomes other ∙ ap (λ b. if b then slots_under cells old else slots_under other old) e
        ∙ ap (λ cs. slots_under cs old) ((signed_items cells other).0 e) ∙ listed other
    by_test false e = becomes other ∙ ap (λ b. if b then slots_under cells old else slots_under other old) e ∙ listed other

-- an index of some rows, of which it keeps the same
pub holds_as : (xs : List Entry) (index : GroupIndex) (table : Table) (lists : Lists) → Holds xs index → AllByRecursion (λ x. IsSame index.table index.lists.groups table lists.groups x.handle) xs → AreListed (rows_of index.table index.lists.groups xs) lists → AreNumbered lists → Holds xs (record index { table = table; lists = lists })
holds_as xs index table lists is same listed numbered = record {
  handled = is.handled;
  kept = kept_same index.table index.lists.groups table lists.groups index.width xs is.kept same;
  listed = subst (λ rs. AreListed rs lists) (sym (rows_same index.table index.lists.groups table lists.groups xs same)) listed;
  numbered = numbered;
}

-- a row that comes into an index of the others
pub record Enters (key handle : ℕ) (cells : List ℤ) (at : ℤ) (index : GroupIndex) (table : Table) (lists : Lists) : Type 0 where
  pub others : Holds (left_rows (key ∷ []) index.handles) index
  pub here : handle_under key index.handles ≡ Some handle
  pub within : handle < length table.numbers.items
  pub cells_is : cells_with (kept_in table handle).number lists.groups ≡ Some cells
  pub at_is : at_in table handle ≡ at
  pub width : length cells ≡ index.width
  pub same : AllByRecursion (λ x. IsSame index.table index.lists.groups table lists.groups x.handle) (left_rows (key ∷ []) index.handles)
  pub numbered : AreNumbered lists

abbrev entered : ℕ → ℕ → List ℤ → ℤ → Row
entered key handle cells at = record { member = member_of key cells at; handle = handle }

pub rows_entered : (key handle : ℕ) (cells : List ℤ) (at : ℤ) (index : GroupIndex) (table : Table) (lists : Lists) → Enters key handle cells at index table lists → rows_of table lists.groups index.handles ≡ row_among (entered key handle cells at) (rows_of index.table index.lists.groups (left_rows (key ∷ []) index.handles))
rows_entered key handle cells at index table lists e =
    let rest = left_rows (key ∷ []) index.handles in
    let rows = rows_of index.table index.lists.groups rest in
    ap (rows_of table lists.groups) (restored key handle index.handles (ascending index.handles e.others.handled) e.here)
    ∙ rows_with table lists.groups key handle rest
    ∙ ap (row_among (row_of table lists.groups (entry_of key handle))) (rows_same index.table index.lists.groups table lists.groups rest e.same)
    ∙ ap (λ (cs : Option (List ℤ)). row_among (entered key handle (unwrap_or cs []) (at_in table handle)) rows) e.cells_is
    ∙ ap (λ a. row_among (entered key handle cells a) rows) e.at_is

pub index_entered : (key handle : ℕ) (cells : List ℤ) (at : ℤ) (index : GroupIndex) (table : Table) (lists : Lists) → Enters key handle cells at index table lists → Becomes cells (slots_with index.handles index.table at key (slot_of (entered key handle cells at)) (slots_under cells index.lists)) index.lists lists → IsIndex (record index { table = table; lists = lists })
index_entered key handle cells at index table lists e becomes =
    let rest = left_rows (key ∷ []) index.handles in
    let p = λ (x : Entry). not (is_among x.key (key ∷ [])) in
    let kept = λ (x : Entry). IsKept index.width table lists.groups x.handle in
    record {
      handled = e.others.handled;
      kept = subst (AllByRecursion kept) (sym (restored key handle index.handles (ascending index.handles e.others.handled) e.here)) (every-with_row kept key handle rest (record {
        within = e.within;
        there = subst (λ (cs : Option (List ℤ)). IsSome cs) (sym e.cells_is) refl;
        width = ap (λ (cs : Option (List ℤ)). length (unwrap_or cs [])) e.cells_is ∙ e.width;
      }) (kept_same index.table index.lists.groups table lists.groups index.width rest e.others.kept e.same));
      listed = subst (λ rs. AreListed rs lists) (sym (rows_entered key handle cells at index table lists e))
          (listed_with index.handles index.table (entered key handle cells at) (rows_of index.table index.lists.groups rest) index.lists lists
          (rows_known index.handles index.table index.lists.groups rest (every-filter (λ x. key_with x.handle index.handles ≡ Some x.key) p index.handles (known_all index.handles e.others.handled.handles)))
          (rows_ascend index.table index.lists.groups rest (ascend-filter p index.handles (ascending index.handles e.others.handled)))
          (every-map (λ other. other.member.key ≢ key) (row_of index.table index.lists.groups) rest (every_weaker (λ x. p x ≡ true) (λ x. x.key ≢ key) rest (λ x stays eq. gone_itself key x.key (sym eq) stays) (filter_passes p index.handles)))
          e.others.listed becomes);
      numbered = e.numbered;
    }

pub members_entered : (key handle : ℕ) (cells : List ℤ) (at : ℤ) (index : GroupIndex) (table : Table) (lists : Lists) → Enters key handle cells at index table lists → members_of (rows_of table lists.groups index.handles) ≡ with_member (member_of key cells at) (members_of (rows_of index.table index.lists.groups (left_rows (key ∷ []) index.handles)))
members_entered key handle cells at index table lists e =
    ap members_of (rows_entered key handle cells at index table lists e) ∙ members_with (entered key handle cells at) (rows_of index.table index.lists.groups (left_rows (key ∷ []) index.handles))

-- before a row is entered: its handle is there
pub holds_before : (key handle : ℕ) (index : GroupIndex) (entries : List Entry) → IsIndex index → key < 2 ^ 62 → handle_under key index.handles ≡ None → key_with handle index.handles ≡ None → entries ≡ with_row key handle index.handles → Holds (left_rows (key ∷ []) entries) (handled index entries)
holds_before key handle index entries is small absent fresh handles =
    let back : left_rows (key ∷ []) entries ≡ index.handles = ap (left_rows (key ∷ [])) handles ∙ left_again key handle index.handles (ascending index.handles is.handled) absent in
    subst (λ xs. Holds xs (handled index entries)) (sym back) (record {
      handled = subst AreHandled (sym handles) (handled_with key handle index.handles is.handled small absent fresh);
      kept = is.kept;
      listed = is.listed;
      numbered = is.numbered;
    })

-- rows that left the groups leave the handles
pub index_left : (gone : List ℕ) (index : GroupIndex) (entries : List Entry) → Holds (left_rows gone index.handles) index → entries ≡ left_rows gone index.handles → IsIndex (handled index entries)
index_left gone index entries is left =
    subst (λ xs. IsIndex (handled index xs)) (sym left) (record { handled = handled_left gone index.handles is.handled; kept = is.kept; listed = is.listed; numbered = is.numbered })

pub still_under : (gone : List ℕ) (key : ℕ) (xs : List Entry) → is_among key gone ≡ false → handle_under key (left_rows gone xs) ≡ handle_under key xs
still_under gone key xs e = handle_under-left key gone xs ∙ ap (λ b. cond b None (handle_under key xs)) e

-- none of the rows has the cells of a group without rows
placed_some : (row : Row) (rows : List Row) → row_placed row rows ≡ [] → ⊥
placed_some row [] e = cc
placed_some row (other ∷ others) e = by_test (int_lt other.member.at row.member.at) e
  where
    by_test : (b : Bool) → ◌≡◌ {A = List Row} (if b then other ∷ row_placed row others else row ∷ other ∷ others) [] → ⊥
    by_test true f = cc
    by_test false f = cc

none_ordered : (rows : List Row) → rows_by_at rows ≡ [] → rows ≡ []
none_ordered [] e = refl
none_ordered (row ∷ rows) e = absurd (placed_some row (rows_by_at rows) e)

none_alike : (cells : List ℤ) (rows : List Row) → filter (λ row. same_cells cells row.member.cells) rows ≡ [] → AllByRecursion (λ row. same_cells cells row.member.cells ≡ false) rows
none_alike cells [] e = tt
none_alike cells (row ∷ rows) e =
    let both = by_test row (filter (λ row. same_cells cells row.member.cells) rows) (same_cells cells row.member.cells) e in
    (both.0, none_alike cells rows both.1)
  where
    by_test : (row : Row) (rest : List Row) (b : Bool) → cond b (row ∷ rest) rest ≡ [] → (b ≡ false) × (rest ≡ [])
    by_test row rest true f = absurd (cc)
    by_test row rest false f = (refl, f)

pub no_slots : (rows : List Row) → map slot_of rows ≡ [] → rows ≡ []
no_slots [] e = refl
no_slots (row ∷ rows) e = absurd (cc)

-- what a group that loses a row leaves of the others
module _ (table : Table) (old new : Lists) (number : ℕ) (cells : List ℤ) (own : cells_with number old.groups ≡ Some cells) where
  own_rows : (x : Entry) → (kept_in table x.handle).number ≡ number → same_cells cells (row_of table old.groups x).member.cells ≡ true
  own_rows x e =
      (signed_items cells (row_of table old.groups x).member.cells).1 (sym (ap (λ n. unwrap_or (cells_with n old.groups) []) e ∙ ap (λ (cs : Option (List ℤ)). unwrap_or cs []) own))

  stays_with : (xs : List Entry) (slots : List GroupRow) → slots ≡ map slot_of (group_rows cells (rows_of table old.groups xs)) → (slots ≢ [] → cells_with number new.groups ≡ cells_with number old.groups) → AllByRecursion (λ x. (kept_in table x.handle).number ≡ number → cells_with number new.groups ≡ cells_with number old.groups) xs
  stays_with xs [] is stays =
      every_weaker (λ x. same_cells cells (row_of table old.groups x).member.cells ≡ false) (λ x. (kept_in table x.handle).number ≡ number → cells_with number new.groups ≡ cells_with number old.groups) xs
      (λ x differ e. absurd (true_not_false (sym (own_rows x e) ∙ differ)))
      (every_unmapped (λ row. same_cells cells row.member.cells ≡ false) (row_of table old.groups) xs
      (none_alike cells (rows_of table old.groups xs) (none_ordered (filter (λ row. same_cells cells row.member.cells) (rows_of table old.groups xs)) (no_slots (group_rows cells (rows_of table old.groups xs)) (sym is)))))
  stays_with xs (slot ∷ slots) is stays = every (λ x. (kept_in table x.handle).number ≡ number → cells_with number new.groups ≡ cells_with number old.groups) xs (λ x e. stays (λ f. no_slot f))
    where
      no_slot : ◌≡◌ {A = List GroupRow} (slot ∷ slots) [] → ⊥
      no_slot f = cc

  pub rest_same : (width : ℕ) (xs : List Entry) (slots : List GroupRow) → slots ≡ map slot_of (group_rows cells (rows_of table old.groups xs)) → (slots ≢ [] → cells_with number new.groups ≡ cells_with number old.groups) → ((other : ℕ) → other ≢ number → cells_with other new.groups ≡ cells_with other old.groups)
      → AllByRecursion (λ x. IsKept width table old.groups x.handle) xs → AllByRecursion (λ x. IsSame table old.groups table new.groups x.handle) xs
  rest_same width xs slots is stays others kept =
      every_both (λ x. IsKept width table old.groups x.handle) (λ x. (kept_in table x.handle).number ≡ number → cells_with number new.groups ≡ cells_with number old.groups) (λ x. IsSame table old.groups table new.groups x.handle) xs
      (λ x k mine. record {
        within = k.within;
        at = refl;
        cells = elim (cases_eq (kept_in table x.handle).number number) [
          | inl same ↦ ap (λ n. cells_with n new.groups) same ∙ mine same ∙ ap (λ n. cells_with n old.groups) (sym same)
          | inr differ ↦ others (kept_in table x.handle).number differ
        ];
      }) kept (stays_with xs slots is stays)

-- a row that leaves its group
pub record Leaves (key handle : ℕ) (index : GroupIndex) (lists : Lists) : Type 0 where
  pub here : handle_under key index.handles ≡ Some handle
  pub becomes : Becomes (cells_in index.table index.lists.groups handle) (slots_without index.handles index.table (at_in index.table handle) key (slots_under (cells_in index.table index.lists.groups handle) index.lists)) index.lists lists
  pub stays : slots_without index.handles index.table (at_in index.table handle) key (slots_numbered (kept_in index.table handle).number index.lists.groups) ≢ [] → cells_with (kept_in index.table handle).number lists.groups ≡ cells_with (kept_in index.table handle).number index.lists.groups
  pub others : (other : ℕ) → other ≢ (kept_in index.table handle).number → cells_with other lists.groups ≡ cells_with other index.lists.groups
  pub fewer : (other : ℕ) (cells : List ℤ) → cells_with other lists.groups ≡ Some cells → cells_with other index.lists.groups ≡ Some cells
  pub numbered : AreNumbered lists

pub some_cells : (cells : Option (List ℤ)) → IsSome cells → cells ≡ Some (unwrap_or cells [])
some_cells None there = absurd (cc)
some_cells (Some cells) there = refl

pub left_same : (gone : List ℕ) (key handle : ℕ) (index : GroupIndex) (lists : Lists) → Holds (left_rows gone index.handles) index → is_among key gone ≡ false → Leaves key handle index lists
    → AreListed (rows_of index.table index.lists.groups (left_rows (gone ++ key ∷ []) index.handles)) lists × AllByRecursion (λ x. IsSame index.table index.lists.groups index.table lists.groups x.handle) (left_rows (gone ++ key ∷ []) index.handles)
left_same gone key handle index lists is fresh leaves =
    let table = index.table in
    let groups = index.lists.groups in
    let number = (kept_in table handle).number in
    let cells = cells_in table groups handle in
    let all = left_rows gone index.handles in
    let rest = left_rows (key ∷ []) all in
    let p = λ (x : Entry). not (is_among x.key (key ∷ [])) in
    let q = λ (x : Entry). not (is_among x.key gone) in
    let row = row_of table groups (entry_of key handle) in
    let without = slots_without index.handles index.table (at_in table handle) key in
    let here : handle_under key all ≡ Some handle = still_under gone key index.handles fresh ∙ leaves.here in
    let up = ascend-filter q index.handles (ascending index.handles is.handled) in
    let known = every-filter (λ x. key_with x.handle index.handles ≡ Some x.key) q index.handles (known_all index.handles is.handled.handles) in
    let back : rows_of table groups all ≡ row_among row (rows_of table groups rest) = ap (rows_of table groups) (restored key handle all up here) ∙ rows_with table groups key handle rest in
    let own : cells_with number groups ≡ Some cells = some_cells (cells_with number groups) (under_has (λ x. IsKept index.width table groups x.handle) key handle all is.kept here).there in
    let listed : AreListed (rows_of table groups rest) lists =
    listed_without index.handles index.table row (rows_of table groups rest) index.lists lists
    (key_under_handle key handle index.handles is.handled leaves.here, refl)
    (rows_known index.handles table groups rest (every-filter (λ x. key_with x.handle index.handles ≡ Some x.key) p all known))
    (rows_ascend table groups rest (ascend-filter p all up))
    (every-map (λ other. other.member.key ≢ key) (row_of table groups) rest (every_weaker (λ x. p x ≡ true) (λ x. x.key ≢ key) rest (λ x stays eq. gone_itself key x.key (sym eq) stays) (filter_passes p all)))
    (subst (λ rs. AreListed rs index.lists) back is.listed) leaves.becomes in
    let numbered : slots_under cells index.lists ≡ slots_numbered number groups = under_number cells number index.lists (is.numbered.cells cells number own) in
    let slots : without (slots_numbered number groups) ≡ map slot_of (group_rows cells (rows_of table groups rest)) =
    ap without (sym numbered)
    ∙ sym (ap (λ b. if b then without (slots_under cells index.lists) else slots_under cells index.lists) ((signed_items cells cells).1 refl))
    ∙ sym (leaves.becomes cells) ∙ listed cells in
    subst (λ xs. AreListed (rows_of table groups xs) lists × AllByRecursion (λ x. IsSame table groups table lists.groups x.handle) xs) (sym (left_more gone key index.handles))
    (listed, rest_same table index.lists lists number cells own index.width rest (without (slots_numbered number groups)) slots leaves.stays leaves.others (every-filter (λ x. IsKept index.width table groups x.handle) p all is.kept))

-- an index from which the rows under some of the keys are gone
pub record AreGone (keys : List ℕ) (old new : GroupIndex) : Type 0 where
  pub holds : Holds (left_rows keys new.handles) new
  pub handles : new.handles ≡ old.handles
  pub table : new.table ≡ old.table
  pub width : new.width ≡ old.width
  pub same : AllByRecursion (λ x. IsSame old.table old.lists.groups new.table new.lists.groups x.handle) (left_rows keys new.handles)
  pub fewer : (other : ℕ) (cells : List ℤ) → cells_with other new.lists.groups ≡ Some cells → cells_with other old.lists.groups ≡ Some cells

pub none_gone : (index : GroupIndex) → IsIndex index → AreGone [] index index
none_gone index is = record {
  holds = subst (λ xs. Holds xs index) (sym (left_none index.handles)) is;
  handles = refl;
  table = refl;
  width = refl;
  same = every-filter (λ x. IsSame index.table index.lists.groups index.table index.lists.groups x.handle) (λ x. not (is_among x.key [])) index.handles
      (every_weaker (λ x. IsKept index.width index.table index.lists.groups x.handle) (λ x. IsSame index.table index.lists.groups index.table index.lists.groups x.handle) index.handles (λ x k. record { within = k.within; cells = refl; at = refl }) is.kept);
  fewer = λ other cells e. e;
}

pub step_missing : (gone : List ℕ) (key : ℕ) (old index : GroupIndex) → AreGone gone old index → is_among key gone ≡ false → handle_under key index.handles ≡ None → AreGone (gone ++ key ∷ []) old index
step_missing gone key old index is new none =
    let same : left_rows gone index.handles ≡ left_rows (gone ++ key ∷ []) index.handles =
    sym (left_more gone key index.handles ∙ left_missing key (left_rows gone index.handles) (still_under gone key index.handles new ∙ none)) in
    record {
      holds = subst (λ xs. Holds xs index) same is.holds;
      handles = is.handles;
      table = is.table;
      width = is.width;
      same = subst (AllByRecursion (λ x. IsSame old.table old.lists.groups index.table index.lists.groups x.handle)) same is.same;
      fewer = is.fewer;
    }

pub step_less : (gone : List ℕ) (key handle : ℕ) (old index : GroupIndex) (lists : Lists) → AreGone gone old index → is_among key gone ≡ false → Leaves key handle index lists → AreGone (gone ++ key ∷ []) old (record index { lists = lists })
step_less gone key handle old index lists is new leaves =
    let all = left_rows gone index.handles in
    let p = λ (x : Entry). not (is_among x.key (key ∷ [])) in
    let left = left_same gone key handle index lists is.holds new leaves in
    let before : left_rows (gone ++ key ∷ []) index.handles ≡ filter p all = left_more gone key index.handles in
    let kept = subst (AllByRecursion (λ x. IsKept index.width index.table index.lists.groups x.handle)) (sym before) (every-filter (λ x. IsKept index.width index.table index.lists.groups x.handle) p all is.holds.kept) in
    record {
      holds = record {
        handled = is.holds.handled;
        kept = kept_same index.table index.lists.groups index.table lists.groups index.width (left_rows (gone ++ key ∷ []) index.handles) kept left.1;
        listed = subst (λ rs. AreListed rs lists) (sym (rows_same index.table index.lists.groups index.table lists.groups (left_rows (gone ++ key ∷ []) index.handles) left.1)) left.0;
        numbered = leaves.numbered;
      };
      handles = is.handles;
      table = is.table;
      width = is.width;
      same =
          every_both (λ x. IsSame old.table old.lists.groups index.table index.lists.groups x.handle) (λ x. IsSame index.table index.lists.groups index.table lists.groups x.handle) (λ x. IsSame old.table old.lists.groups index.table lists.groups x.handle) (left_rows (gone ++ key ∷ []) index.handles)
          (λ x a b. record { within = b.within; cells = b.cells ∙ a.cells; at = b.at ∙ a.at })
          (subst (AllByRecursion (λ x. IsSame old.table old.lists.groups index.table index.lists.groups x.handle)) (sym before) (every-filter (λ x. IsSame old.table old.lists.groups index.table index.lists.groups x.handle) p all is.same)) left.1;
      fewer = λ other cells e. is.fewer other cells (leaves.fewer other cells e);
    }

-- what is kept of the row of a key
pub kept_of : (gone : List ℕ) (key handle : ℕ) (index : GroupIndex) → Holds (left_rows gone index.handles) index → is_among key gone ≡ false → handle_under key index.handles ≡ Some handle → IsKept index.width index.table index.lists.groups handle
kept_of gone key handle index is new here =
    under_has (λ x. IsKept index.width index.table index.lists.groups x.handle) key handle (left_rows gone index.handles) is.kept (still_under gone key index.handles new ∙ here)

-- the group of the row of a key
pub group_there : (gone : List ℕ) (key handle : ℕ) (index : GroupIndex) → Holds (left_rows gone index.handles) index → is_among key gone ≡ false → handle_under key index.handles ≡ Some handle → IsGroup index.handles index.table (slots_numbered (kept_in index.table handle).number index.lists.groups)
group_there gone key handle index is new here =
    let number = (kept_in index.table handle).number in
    let cells = cells_in index.table index.lists.groups handle in
    let own = some_cells (cells_with number index.lists.groups) (kept_of gone key handle index is new here).there in
    subst (IsGroup index.handles index.table) (under_number cells number index.lists (is.numbered.cells cells number own)) (holds_group gone index cells is)

-- the row of a key at its place in its group
pub row_there : (gone : List ℕ) (key handle : ℕ) (index : GroupIndex) → Holds (left_rows gone index.handles) index → is_among key gone ≡ false → handle_under key index.handles ≡ Some handle
    → handle_from index.handles index.table (at_in index.table handle) key (slots_numbered (kept_in index.table handle).number index.lists.groups) ≡ Some handle
row_there gone key handle index is new is_here =
    let table = index.table in
    let groups = index.lists.groups in
    let number = (kept_in table handle).number in
    let cells = cells_in table groups handle in
    let all = left_rows gone index.handles in
    let rest = left_rows (key ∷ []) all in
    let p = λ (x : Entry). not (is_among x.key (key ∷ [])) in
    let q = λ (x : Entry). not (is_among x.key gone) in
    let row = row_of table groups (entry_of key handle) in
    let up = ascend-filter q index.handles (ascending index.handles is.handled) in
    let known = every-filter (λ x. key_with x.handle index.handles ≡ Some x.key) q index.handles (known_all index.handles is.handled.handles) in
    let back : rows_of table groups all ≡ row_among row (rows_of table groups rest) = ap (rows_of table groups) (restored key handle all up (still_under gone key index.handles new ∙ is_here)) ∙ rows_with table groups key handle rest in
    let own : cells_with number groups ≡ Some cells = some_cells (cells_with number groups) (kept_of gone key handle index is new is_here).there in
    ap (handle_from index.handles index.table (at_in table handle) key) (sym (under_number cells number index.lists (is.numbered.cells cells number own)))
    ∙ listed_from index.handles index.table row (rows_of table groups rest) index.lists
    (key_under_handle key handle index.handles is.handled is_here, refl)
    (rows_known index.handles table groups rest (every-filter (λ x. key_with x.handle index.handles ≡ Some x.key) p all known))
    (rows_ascend table groups rest (ascend-filter p all up))
    (every-map (λ other. other.member.key ≢ key) (row_of table groups) rest (every_weaker (λ x. p x ≡ true) (λ x. x.key ≢ key) rest (λ x stays eq. gone_itself key x.key (sym eq) stays) (filter_passes p all)))
    (subst (λ rs. AreListed rs index.lists) back is.listed)

pub members_removed : (keys : List ℕ) (old index : GroupIndex) (entries : List Entry) → AreGone keys old index → entries ≡ left_rows keys index.handles → members_of (rows_of index.table index.lists.groups entries) ≡ left_members keys (members_of (rows_of old.table old.lists.groups old.handles))
members_removed keys old index entries gone left =
    ap (λ xs. members_of (rows_of index.table index.lists.groups xs)) left
    ∙ ap members_of (rows_same old.table old.lists.groups index.table index.lists.groups (left_rows keys index.handles) gone.same)
    ∙ members_left old.table old.lists.groups keys index.handles
    ∙ ap (λ xs. left_members keys (members_of (rows_of old.table old.lists.groups xs))) gone.handles

pub grouped_same : (w v : ℕ) (ms ns : List Member) → w ≡ v → ms ≡ ns → ◌≡◌ {A = Grouped} (record { width = w; members = ms }) (record { width = v; members = ns })
grouped_same w v ms ns e f = ap (λ x. record { width = x; members = ms }) e ∙ ap (λ xs. record { width = v; members = xs }) f
