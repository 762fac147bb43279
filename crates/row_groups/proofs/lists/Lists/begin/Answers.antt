use Rattle.std.proofs.Common.{◌∷◌, [], ◌++◌, ap, sym, ◌∙◌, subst, refl, length, arith, List, ◌≤◌, Some}
use Rattle.std.specs.Option.{option_map_or}
use Rattle.slab.specs.Slab.{get}
use Rattle.row_handles.proofs.Inserting.{on_err}
use Rattle.row_groups.{specs.declared.lists.KeyedRows.KeyedRows, specs.declared.lists.Lists.Lists, specs.declared.place.GroupRow.GroupRow, specs.Rows.{Becomes, ByNumber, Leads, number_under, slots_numbered}, proofs.Listed.{Begins, begins_numbered, begins_rows, unbegun}}
use Rattle.row_groups.proofs.lists.Lists.begin.Goals as goal

pub returns-in_err-push-clause-err : goal.returns-in_err-push-clause-err
returns-in_err-push-clause-err c = on_err c.from_residual.result _ (unbegun c.args.cells.now c.args.self.now c.args.self.now c.requires.absent (λ other. refl))

pub returns-in_err-kept-clause-err : goal.returns-in_err-kept-clause-err
returns-in_err-kept-clause-err c = on_err c.from_residual-in_err-kept.result _ (unbegun c.args.cells.now c.args.self.now c.args.self.now c.requires.absent (λ other. refl))

pub returns-in_err-reserve-clause-err : goal.returns-in_err-reserve-clause-err
returns-in_err-reserve-clause-err c =
    let old = c.args.self.now in
    on_err c.from_residual-in_err-reserve.result _
    (unbegun c.args.cells.now old (record old { groups = c.reserve.new.self }) c.requires.absent
    (λ other. ap (λ (groups : ByNumber). option_map_or (λ n. slots_numbered n groups) (number_under other old.numbers) []) c.reserve.ensures.rest_kept))

pub returns-in_err-insert-clause-err : goal.returns-in_err-insert-clause-err
returns-in_err-insert-clause-err c =
    let old = c.args.self.now in
    on_err c.from_residual-in_err-insert.result _
    (unbegun c.args.cells.now old (record old { numbers = c.insert.new.self; groups = c.reserve.new.self }) c.requires.absent
    (λ other.
    ap (λ n. option_map_or (λ m. slots_numbered m c.reserve.new.self) n []) (c.in_err-insert.ensures.err other)
    ∙ ap (λ (groups : ByNumber). option_map_or (λ n. slots_numbered n groups) (number_under other old.numbers) []) c.reserve.ensures.rest_kept))

abbrev group : goal.After-self-2-1 → KeyedRows
group c = record { cells = c.in_ok-kept.kept; rows = c.push.new.self }

abbrev new : goal.After-self-2-1 → Lists
new c = record c.args.self.now { numbers = c.insert.new.self; groups = c.insert_reserved.new.self }

begins : (c : goal.After-self-2-1) → Begins c.args.cells.now c.insert_reserved.result (group c) c.args.self.now (new c)
begins c =
    let old = c.args.self.now in
    let kept = c.reserve.ensures.rest_kept in
    record {
      sound = c.requires.sound;
      absent = c.requires.absent;
      leads = subst (λ n. Leads c.args.cells.now (Some n) old.numbers c.insert.new.self) (c.vacant_key.ensures.value ∙ sym c.insert_reserved.ensures.key) c.in_ok-insert.ensures.ok;
      vacant = sym (ap (λ (groups : ByNumber). get groups c.insert_reserved.result) kept) ∙ c.insert_reserved.ensures.was_vacant;
      put = c.insert_reserved.ensures.updates.changed;
      others = λ n ne. c.insert_reserved.ensures.updates.others n ne ∙ ap (λ (groups : ByNumber). get groups n) kept;
      same = c.in_ok-kept.ensures.items;
      crowded = refl;
      only = subst (λ (rows : List GroupRow). length rows ≤ 1) (sym (c.in_ok-push.ensures.ok ∙ ap (λ rows. rows ++ c.args.slot ∷ []) c.new-rows.ensures)) (omega arith);
    }

pub returns-clause-ok : goal.returns-clause-ok
returns-clause-ok c =
    let old = c.args.self.now in
    subst (λ rows. Becomes c.args.cells.now rows old (new c)) (c.in_ok-push.ensures.ok ∙ ap (λ rows. rows ++ c.args.slot ∷ []) c.new-rows.ensures)
    (begins_rows c.args.cells.now c.insert_reserved.result (group c) old (new c) (begins c))

pub returns-clause-sound : goal.returns-clause-sound
returns-clause-sound c =
    let is = begins_numbered c.args.cells.now c.insert_reserved.result (group c) c.args.self.now (new c) (begins c) in
    record { numbers = is.numbers; cells = is.cells; alone = is.alone }
