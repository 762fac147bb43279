use Rattle.std.proofs.Common.{ap, sym, ◌∙◌, subst, refl, true, true≢false, Some}
use Rattle.row_handles.proofs.Inserting.{on_err}
use Rattle.slab.specs.Slab.{with_value}
use Rattle.row_groups.{specs.declared.lists.Lists.Lists, specs.Slots.slots_with, specs.Rows.Becomes, proofs.Listed.{changed, changes_cells, changes_numbered, changes_rows, there_is_group, under_number, with_group, with_rows, with_same_cells}}
use Rattle.row_groups.proofs.lists.Lists.put.Goals as goal

pub index_mut-requires : goal.index_mut-requires
index_mut-requires c = there_is_group c.args.cells.now c.in-Some.number c.args.self.now c.requires.sound (sym c.number_near.ensures ∙ c.in-Some.is)

pub returns-in_err-put-clause-err : goal.returns-in_err-put-clause-err
returns-in_err-put-clause-err c =
    let old = c.args.self.now in
    let cells = c.args.cells.now in
    let number = c.in-Some.number in
    let group = c.index_mut.result.now in
    let new : Lists = record old { crowded = true; groups = with_value old.groups number (record group { rows = c.put.new.self }) } in
    let was = c.index_mut.ensures.value in
    let under = sym c.number_near.ensures ∙ c.in-Some.is in
    let own = with_same_cells cells number group old c.requires.sound under was in
    let rows = under_number cells number old under ∙ with_rows number old.groups group was in
    on_err c.from_residual.result _
    (subst (λ slots. Becomes cells slots old new) (c.in_err-put.ensures.err ∙ sym rows) (subst (λ cs. Becomes cs c.put.new.self old new) own (changes_rows number group c.put.new.self old new (changed number group c.put.new.self old new c.requires.sound was refl refl))))

pub returns-clause-ok : goal.returns-clause-ok
returns-clause-ok c =
    let old = c.args.self.now in
    let cells = c.args.cells.now in
    let number = c.in-Some.number in
    let group = c.index_mut.result.now in
    let new : Lists = record old { crowded = true; groups = with_value old.groups number (record group { rows = c.put.new.self }) } in
    let with = slots_with c.args.place.now.handles.now c.args.place.now.table.now c.args.place.now.at c.args.place.now.key c.args.slot in
    let was = c.index_mut.ensures.value in
    let under = sym c.number_near.ensures ∙ c.in-Some.is in
    let own = with_same_cells cells number group old c.requires.sound under was in
    let rows = under_number cells number old under ∙ with_rows number old.groups group was in
    let is = c.in_ok-put.ensures.ok ∙ ap with (sym rows) in
    subst (λ slots. Becomes cells slots old new) is (subst (λ cs. Becomes cs c.put.new.self old new) own (changes_rows number group c.put.new.self old new (changed number group c.put.new.self old new c.requires.sound was refl refl)))

pub returns-clause-number : goal.returns-clause-number
returns-clause-number c =
    let old = c.args.self.now in
    let number = c.in-Some.number in
    let group = c.index_mut.result.now in
    let new : Lists = record old { crowded = true; groups = with_value old.groups number (record group { rows = c.put.new.self }) } in
    let was = c.index_mut.ensures.value in
    let own = with_same_cells c.args.cells.now number group old c.requires.sound (sym c.number_near.ensures ∙ c.in-Some.is) was in
    changes_cells number group c.put.new.self old new (changed number group c.put.new.self old new c.requires.sound was refl refl) number ∙ with_group number old.groups group was ∙ ap Some own

pub returns-clause-sound : goal.returns-clause-sound
returns-clause-sound c =
    let old = c.args.self.now in
    let number = c.in-Some.number in
    let group = c.index_mut.result.now in
    changes_numbered number group c.put.new.self old _ (changed number group c.put.new.self old _ c.requires.sound c.index_mut.ensures.value refl refl) (λ calm. absurd (true≢false calm))

pub returns-in_err-put-clause-sound : goal.returns-in_err-put-clause-sound
returns-in_err-put-clause-sound c =
    let old = c.args.self.now in
    let number = c.in-Some.number in
    let group = c.index_mut.result.now in
    changes_numbered number group c.put.new.self old _ (changed number group c.put.new.self old _ c.requires.sound c.index_mut.ensures.value refl refl) (λ calm. absurd (true≢false calm))
