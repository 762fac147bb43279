use Rattle.std.proofs.Common.{◌∷◌, [], ◌∙◌, ap, refl, subst, Option, IsSome, sym, w64, ℕ}
use Rattle.std.proofs.lemmas.Int.{to_z-of_z}
use Rattle.row_handles.specs.Entries.{left_rows}
use Rattle.row_groups.{specs.Members.{member_of, with_member}, specs.Rows.{members_of, rows_of}, proofs.Keys.small_under, proofs.Groupings.ranked_parted, proofs.Indexed.{grouped_same, index_left, members_removed}, proofs.Departing.{came_again, departed, departs_alone, departs_group, departs_handle, departs_there}}
use Rattle.row_groups.proofs.index.GroupIndex.regroup.Goals as goal

pub take-requires-clause-there : goal.take-requires-clause-there
take-requires-clause-there c =
    departs_there _ _ _ _ _ (departs_alone c.args.key c.args.number c.args.at c.args.self.now c.requires.sound c.requires.number c.requires.at)

pub take-requires-clause-known : goal.take-requires-clause-known
take-requires-clause-known c =
    (departs_group _ _ _ _ _ (departs_alone c.args.key c.args.number c.args.at c.args.self.now c.requires.sound c.requires.number c.requires.at)).known

pub take-requires-clause-parted : goal.take-requires-clause-parted
take-requires-clause-parted c =
    ranked_parted c.args.self.now.handles c.args.self.now.table _ c.args.key _
    (departs_group _ _ _ _ _ (departs_alone c.args.key c.args.number c.args.at c.args.self.now c.requires.sound c.requires.number c.requires.at)).ranked

pub enter-requires-clause-others : goal.enter-requires-clause-others
enter-requires-clause-others c =
    (departed _ _ _ _ _ (departs_alone c.args.key c.args.number c.args.at c.args.self.now c.requires.sound c.requires.number c.requires.at)
    c.take.new.self _ (to_z-of_z w64 c.args.at c.ranges.at) c.take.ensures.rows c.take.ensures.own c.take.ensures.others c.take.ensures.fewer c.take.ensures.sound).holds

pub unwrap-handle-requires : goal.unwrap-handle-requires
unwrap-handle-requires c =
    subst (λ (found : Option ℕ). IsSome found)
    (sym (c.take.ensures.handle ∙ departs_handle _ _ _ _ _ (departs_alone c.args.key c.args.number c.args.at c.args.self.now c.requires.sound c.requires.number c.requires.at) _ (to_z-of_z w64 c.args.at c.ranges.at))) refl

pub enter-requires-clause-handle : goal.enter-requires-clause-handle
enter-requires-clause-handle c =
    let departs = departs_alone c.args.key c.args.number c.args.at c.args.self.now c.requires.sound c.requires.number c.requires.at in
    departs.here ∙ sym (c.take.ensures.handle ∙ departs_handle _ _ _ _ _ departs _ (to_z-of_z w64 c.args.at c.ranges.at)) ∙ c.unwrap-handle.ensures

pub remove_one-requires : goal.remove_one-requires
remove_one-requires c =
    let departs = departs_alone c.args.key c.args.number c.args.at c.args.self.now c.requires.sound c.requires.number c.requires.at in
    record { small = small_under c.args.key departs.handle c.args.self.now.handles c.requires.sound.handled departs.here }

pub returns-in-Ok-clause-regrouped : goal.returns-in-Ok-clause-regrouped
returns-in-Ok-clause-regrouped c =
    let mid = record c.args.self.now { lists = c.take.new.self } in
    let gone = departed _ _ _ _ _ (departs_alone c.args.key c.args.number c.args.at c.args.self.now c.requires.sound c.requires.number c.requires.at)
    c.take.new.self _ (to_z-of_z w64 c.args.at c.ranges.at) c.take.ensures.rows c.take.ensures.own c.take.ensures.others c.take.ensures.fewer c.take.ensures.sound in
    came_again (member_of c.args.key c.args.cells.now c.args.at) c.args.self.now mid c.enter.new.self c.requires.sound gone c.in-Ok.ensures.ok
    (c.in-Ok.ensures.row
    ∙ ap (λ at. record { width = mid.width; members = with_member (member_of c.args.key c.args.cells.now at) (members_of (rows_of mid.table mid.lists.groups (left_rows (c.args.key ∷ []) mid.handles))) }) (to_z-of_z w64 c.args.at c.ranges.at))
    c.enter.ensures.numbers

pub returns-in-Err-clause-sound : goal.returns-in-Err-clause-sound
returns-in-Err-clause-sound c = index_left (c.args.key ∷ []) c.enter.new.self c.remove_one.new.self c.in-Err.ensures.err c.remove_one.ensures

pub returns-in-Err-clause-refused : goal.returns-in-Err-clause-refused
returns-in-Err-clause-refused c =
    let old = c.args.self.now in
    let mid = record old { lists = c.take.new.self } in
    let gone = departed _ _ _ _ _ (departs_alone c.args.key c.args.number c.args.at c.args.self.now c.requires.sound c.requires.number c.requires.at)
    c.take.new.self _ (to_z-of_z w64 c.args.at c.ranges.at) c.take.ensures.rows c.take.ensures.own c.take.ensures.others c.take.ensures.fewer c.take.ensures.sound in
    grouped_same _ _ _ _ c.enter.ensures.width
    (ap members_of (ap (rows_of c.enter.new.self.table c.enter.new.self.lists.groups) c.remove_one.ensures ∙ c.enter.ensures.others)
    ∙ members_removed (c.args.key ∷ []) old mid (left_rows (c.args.key ∷ []) old.handles) gone refl)
