use Rattle.std.proofs.Common.{◌≡◌, ◌<◌, ◌≤◌, ℕ, ◌∷◌, [], ◌∙◌, ap, arith, length, subst, refl, w64, Some, IsSome}
use Rattle.std.{specs.List.AllByRecursion, proofs.lemmas.Int.to_z-of_z}
use Rattle.row_handles.{specs.Entries.{Entry, handle_under, left_rows}, proofs.Inserting.on_err}
use Rattle.row_groups.{specs.declared.index.GroupIndex.GroupIndex, specs.declared.table.GroupMember.GroupMember, specs.declared.table.Table.Table, specs.Slots.slots_with, specs.Kept.kept_in, specs.Rows.{Becomes, ByNumber, IsSame, cells_with, members_of, rows_of, slots_under}, specs.Members.{member_of, with_member}, specs.Indexes.Holds, proofs.Groupings.{ranked_parted, rows_same}, proofs.Indexed.{Enters, becomes_same, grouped_same, holds_as, holds_group, index_entered, kept_on, members_entered, others_same}}
use Rattle.row_groups.proofs.index.GroupIndex.enter.Goals as goal

-- the index with more room in its table
abbrev roomy : GroupIndex → Table → GroupIndex
roomy old mid = record old { table = mid }

-- other lists keep the cells of the groups that are there
same_there : (old : GroupIndex) (mid : Table) (groups : ByNumber) (key handle : ℕ) → Holds (left_rows (key ∷ []) old.handles) old → handle_under key old.handles ≡ Some handle → length old.table.numbers.items ≤ length mid.numbers.items → ((other : ℕ) → kept_in mid other ≡ kept_in old.table other)
    → ((n : ℕ) → IsSome (cells_with n old.lists.groups) → cells_with n groups ≡ cells_with n old.lists.groups) → AllByRecursion (λ (x : Entry). IsSame old.table old.lists.groups mid groups x.handle) (left_rows (key ∷ []) old.handles)
same_there old mid groups key handle is here le stays cells =
    others_same old.table old.lists.groups mid groups old.width key handle old.handles is.handled here is.kept
    (kept_on old.width handle old.table mid old.lists.groups groups
    (λ other apart lt. let more : other < length mid.numbers.items = omega (arith, lt, le) in (more, stays other)) cells)

roomy_holds : (old : GroupIndex) (mid : Table) (key handle : ℕ) → Holds (left_rows (key ∷ []) old.handles) old → handle_under key old.handles ≡ Some handle → length old.table.numbers.items ≤ length mid.numbers.items → ((other : ℕ) → kept_in mid other ≡ kept_in old.table other) → Holds (left_rows (key ∷ []) old.handles) (roomy old mid)
roomy_holds old mid key handle is here le stays =
    holds_as (left_rows (key ∷ []) old.handles) old mid old.lists is (same_there old mid old.lists.groups key handle is here le stays (λ n there. refl)) is.listed is.numbered

pub returns-in_err-make_room-clause-err : goal.returns-in_err-make_room-clause-err
returns-in_err-make_room-clause-err c =
    let old = c.args.self.now in
    on_err c.from_residual-in_err-make_room.result _
    (holds_as (left_rows (c.args.key ∷ []) old.handles) old c.make_room.new.self old.lists c.requires.others (same_there c.args.self.now c.make_room.new.self old.lists.groups c.args.key c.args.handle c.requires.others c.requires.handle c.make_room.ensures.grown c.make_room.ensures.others (λ n there. refl)) c.requires.others.listed c.requires.others.numbered)

pub returns-in_err-make_room-clause-others : goal.returns-in_err-make_room-clause-others
returns-in_err-make_room-clause-others c =
    let old = c.args.self.now in
    rows_same old.table old.lists.groups c.make_room.new.self old.lists.groups (left_rows (c.args.key ∷ []) old.handles) (same_there c.args.self.now c.make_room.new.self old.lists.groups c.args.key c.args.handle c.requires.others c.requires.handle c.make_room.ensures.grown c.make_room.ensures.others (λ n there. refl))

pub put-requires-clause-known : goal.put-requires-clause-known
put-requires-clause-known c = (holds_group (c.args.key ∷ []) (roomy c.args.self.now c.make_room.new.self) c.args.cells.now (roomy_holds c.args.self.now c.make_room.new.self c.args.key c.args.handle c.requires.others c.requires.handle c.make_room.ensures.grown c.make_room.ensures.others)).known

pub put-requires-clause-parted : goal.put-requires-clause-parted
put-requires-clause-parted c =
    ranked_parted c.args.self.now.handles c.make_room.new.self _ c.args.key (slots_under c.args.cells.now c.args.self.now.lists) (holds_group (c.args.key ∷ []) (roomy c.args.self.now c.make_room.new.self) c.args.cells.now (roomy_holds c.args.self.now c.make_room.new.self c.args.key c.args.handle c.requires.others c.requires.handle c.make_room.ensures.grown c.make_room.ensures.others)).ranked

pub returns-in_err-number-clause-err : goal.returns-in_err-number-clause-err
returns-in_err-number-clause-err c =
    let old = c.args.self.now in
    let rest = left_rows (c.args.key ∷ []) old.handles in
    on_err c.from_residual-in_err-number.result _
    (holds_as rest old c.make_room.new.self c.put.new.self c.requires.others (same_there c.args.self.now c.make_room.new.self c.put.new.self.groups c.args.key c.args.handle c.requires.others c.requires.handle c.make_room.ensures.grown c.make_room.ensures.others c.put.ensures.others)
    (becomes_same c.args.cells.now (rows_of old.table old.lists.groups rest) old.lists c.put.new.self c.in_err-number.ensures.err c.requires.others.listed) c.put.ensures.sound)

pub returns-in_err-number-clause-others : goal.returns-in_err-number-clause-others
returns-in_err-number-clause-others c =
    let old = c.args.self.now in
    rows_same old.table old.lists.groups c.make_room.new.self c.put.new.self.groups (left_rows (c.args.key ∷ []) old.handles) (same_there c.args.self.now c.make_room.new.self c.put.new.self.groups c.args.key c.args.handle c.requires.others c.requires.handle c.make_room.ensures.grown c.make_room.ensures.others c.put.ensures.others)

pub keep-requires : goal.keep-requires
keep-requires c = c.in_ok-make_room.ensures.room

enters : (c : goal.After-keep) → Enters c.args.key c.args.handle c.args.cells.now c.args.at (roomy c.args.self.now c.make_room.new.self) c.keep.new.self c.put.new.self
enters c =
    let old = c.args.self.now in
    let mid = c.make_room.new.self in
    let new = c.keep.new.self in
    let len = c.keep.ensures.same in
    let before = (roomy_holds c.args.self.now c.make_room.new.self c.args.key c.args.handle c.requires.others c.requires.handle c.make_room.ensures.grown c.make_room.ensures.others) in
    record {
      others = before;
      here = c.requires.handle;
      within = omega (arith, len, c.in_ok-make_room.ensures.room.within);
      cells_is = ap (λ (k : GroupMember). cells_with k.number c.put.new.self.groups) c.keep.ensures.own ∙ c.in_ok-number.ensures.number;
      at_is = ap (λ (k : GroupMember). k.at) c.keep.ensures.own ∙ to_z-of_z w64 c.args.at c.ranges.at;
      width = c.requires.width;
      same = others_same mid old.lists.groups new c.put.new.self.groups old.width c.args.key c.args.handle old.handles before.handled c.requires.handle before.kept
          (kept_on old.width c.args.handle mid new old.lists.groups c.put.new.self.groups
          (λ other apart lt. let more : other < length new.numbers.items = omega (arith, lt, len) in (more, c.keep.ensures.others other apart)) c.put.ensures.others);
      numbered = c.put.ensures.sound;
    }

-- the other rows, before their table had more room
rows_before : (c : goal.After-keep) → rows_of c.make_room.new.self c.args.self.now.lists.groups (left_rows (c.args.key ∷ []) c.args.self.now.handles) ≡ rows_of c.args.self.now.table c.args.self.now.lists.groups (left_rows (c.args.key ∷ []) c.args.self.now.handles)
rows_before c =
    let old = c.args.self.now in
    rows_same old.table old.lists.groups c.make_room.new.self old.lists.groups (left_rows (c.args.key ∷ []) old.handles) (same_there old c.make_room.new.self old.lists.groups c.args.key c.args.handle c.requires.others c.requires.handle c.make_room.ensures.grown c.make_room.ensures.others (λ n there. refl))

pub returns-clause-ok : goal.returns-clause-ok
returns-clause-ok c =
    let old = c.args.self.now in
    let cells = c.args.cells.now in
    let row_is : c.in_ok-row.row ≡ c.args.handle = c.in_ok-row.ensures in
    index_entered c.args.key c.args.handle cells c.args.at (roomy old c.make_room.new.self) c.keep.new.self c.put.new.self (enters c)
    (subst (λ (h : ℕ). Becomes cells (slots_with old.handles c.make_room.new.self c.args.at c.args.key (record { handle = h }) (slots_under cells old.lists)) old.lists c.put.new.self) row_is
    (subst (λ a. Becomes cells (slots_with old.handles c.make_room.new.self a c.args.key (record { handle = c.in_ok-row.row }) (slots_under cells old.lists)) old.lists c.put.new.self) (to_z-of_z w64 c.args.at c.ranges.at) c.in_ok-number.ensures.ok))

pub returns-clause-row : goal.returns-clause-row
returns-clause-row c =
    grouped_same _ _ _ _ refl (members_entered c.args.key c.args.handle c.args.cells.now c.args.at (roomy c.args.self.now c.make_room.new.self) c.keep.new.self c.put.new.self (enters c) ∙ ap (λ rows. with_member (member_of c.args.key c.args.cells.now c.args.at) (members_of rows)) (rows_before c))

pub returns-clause-others : goal.returns-clause-others
returns-clause-others c =
    let old = c.args.self.now in
    rows_same c.make_room.new.self old.lists.groups c.keep.new.self c.put.new.self.groups (left_rows (c.args.key ∷ []) old.handles) (enters c).same ∙ rows_before c
