use Rattle.std.proofs.Common.{◌≡◌, ◌≤◌, ap, sym, ◌∙◌, subst, refl, length, arith, ℕ, List, [], Some, inl, inr}
use Rattle.std.{proofs.lemmas.Bool.cases_eq, proofs.lemmas.Option.none-some}
use Rattle.key_lists.proofs.Parts.{no_items}
use Rattle.row_groups.{specs.declared.lists.KeyedRows.KeyedRows, specs.declared.lists.Lists.Lists, specs.declared.place.GroupRow.GroupRow, specs.Slots.slots_without, specs.Rows.{AreNumbered, Becomes, cells_with}, proofs.Listed.{becomes_after, changed, changes_cells, changes_numbered, changes_rows, own_short, same_items, shorter, under_number, with_rows}}
use Rattle.slab.specs.Slab.{get, with_value}
use Rattle.row_groups.proofs.lists.Lists.take.Goals as goal

pub returns-then-is_empty-clause-rows : goal.returns-then-is_empty-clause-rows
returns-then-is_empty-clause-rows c = λ cells own.
    let old = c.args.self.now in
    let number = c.args.number in
    let group = c.index_mut.result.now in
    let left = c.take-handle.new.self in
    let mid : Lists = record old { groups = with_value old.groups number (record group { rows = left }) } in
    let without = slots_without c.args.place.now.handles.now c.args.place.now.table.now c.args.place.now.at c.args.place.now.key in
    let was = c.index_mut.ensures.value in
    let rows = group.rows in
    let rest = c.take-handle.ensures.rest in
    let changes = changed number group left old mid c.requires.sound was refl refl in
    let same = same_items cells number group old.groups was own in
    let held = under_number cells number old (c.requires.sound.cells cells number own) ∙ with_rows number old.groups group was in
    let none = no_items left c.if-is_empty.ensures in
    subst (λ slots. Becomes cells slots old c.give_up.new.self) (sym none ∙ rest ∙ ap without (sym held))
    (becomes_after cells [] left old mid c.give_up.new.self (subst (λ cs. Becomes cs left old mid) same (changes_rows number group left old mid changes)) (c.give_up.ensures.rows cells (changes_cells number group left old mid changes number ∙ own)))

pub returns-else-is_empty-clause-rows : goal.returns-else-is_empty-clause-rows
returns-else-is_empty-clause-rows c = λ cells own.
    let old = c.args.self.now in
    let number = c.args.number in
    let group = c.index_mut.result.now in
    let left = c.take-handle.new.self in
    let mid : Lists = record old { groups = with_value old.groups number (record group { rows = left }) } in
    let without = slots_without c.args.place.now.handles.now c.args.place.now.table.now c.args.place.now.at c.args.place.now.key in
    let was = c.index_mut.ensures.value in
    let rows = group.rows in
    let rest = c.take-handle.ensures.rest in
    let same = same_items cells number group old.groups was own in
    let held = under_number cells number old (c.requires.sound.cells cells number own) ∙ with_rows number old.groups group was in
    subst (λ slots. Becomes cells slots old mid) (rest ∙ ap without (sym held))
    (subst (λ cs. Becomes cs left old mid) same (changes_rows number group left old mid (changed number group left old mid c.requires.sound was refl refl)))

pub returns-then-is_empty-clause-fewer : goal.returns-then-is_empty-clause-fewer
returns-then-is_empty-clause-fewer c = λ other cells e.
    let old = c.args.self.now in
    let number = c.args.number in
    let group = c.index_mut.result.now in
    let left = c.take-handle.new.self in
    let mid : Lists = record old { groups = with_value old.groups number (record group { rows = left }) } in
    let new = c.give_up.new.self in
    elim (cases_eq other number) [
      | inl same ↦ absurd (none-some cells (sym c.give_up.ensures.gone ∙ ap (λ n. cells_with n new.groups) (sym same) ∙ e))
      | inr differ ↦ sym (changes_cells number group left old mid (changed number group left old mid c.requires.sound c.index_mut.ensures.value refl refl) other) ∙ sym (c.give_up.ensures.others other differ) ∙ e
    ]

pub returns-else-is_empty-clause-fewer : goal.returns-else-is_empty-clause-fewer
returns-else-is_empty-clause-fewer c = λ other cells e.
    let old = c.args.self.now in
    let number = c.args.number in
    let group = c.index_mut.result.now in
    let left = c.take-handle.new.self in
    let mid : Lists = record old { groups = with_value old.groups number (record group { rows = left }) } in
    sym (changes_cells number group left old mid (changed number group left old mid c.requires.sound c.index_mut.ensures.value refl refl) other) ∙ e

-- the lists where a group has lost a row
kept : (old : Lists) (number : ℕ) (group : KeyedRows) (left : List GroupRow) → AreNumbered old → get old.groups number ≡ Some group → length left ≤ length group.rows → AreNumbered (record old { groups = with_value old.groups number (record group { rows = left }) })
kept old number group left sound was fewer =
    changes_numbered number group left old _ (changed number group left old _ sound was refl refl) (λ calm. (calm, omega (arith, fewer, own_short number group old sound was calm)))

pub give_up-requires : goal.give_up-requires
give_up-requires c =
    let rows = c.index_mut.result.now.rows in
    let left = c.take-handle.new.self in
    let place = c.args.place.now in
    let fewer : length left ≤ length rows = subst (λ (slots : List GroupRow). length slots ≤ length rows) (sym c.take-handle.ensures.rest) (shorter place.handles.now place.table.now place.at place.key rows) in
    let is = kept c.args.self.now c.args.number c.index_mut.result.now left c.requires.sound c.index_mut.ensures.value fewer in
    record { numbers = is.numbers; cells = is.cells; alone = is.alone }

pub returns-else-is_empty-clause-sound : goal.returns-else-is_empty-clause-sound
returns-else-is_empty-clause-sound c =
    let rows = c.index_mut.result.now.rows in
    let left = c.take-handle.new.self in
    let place = c.args.place.now in
    let fewer : length left ≤ length rows = subst (λ (slots : List GroupRow). length slots ≤ length rows) (sym c.take-handle.ensures.rest) (shorter place.handles.now place.table.now place.at place.key rows) in
    let is = kept c.args.self.now c.args.number c.index_mut.result.now left c.requires.sound c.index_mut.ensures.value fewer in
    record { numbers = is.numbers; cells = is.cells; alone = is.alone }
