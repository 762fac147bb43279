use Rattle.std.proofs.Common.{◌∙◌, sym, subst, rules, w64, List, ℕ}
use Rattle.std.proofs.lemmas.Int.{to_z-of_z}
use Rattle.row_set.proofs.Yielded.{next_new, yielded_all}
use Rattle.row_groups.{specs.Rows.slots_numbered, proofs.Groupings.ranked_parted, proofs.Indexed.{AreGone, grouped_same, index_left, kept_of, members_removed, none_gone, step_missing}, proofs.Departing.{departed, departs_group, departs_there}}
use Rattle.row_groups.proofs.index.GroupIndex.remove.Goals as goal

pub loop-key-init : goal.loop-key-init
loop-key-init c = none_gone c.args.self.now c.requires.sound

pub loop-key-preserved-in_default : goal.loop-key-preserved-in_default
loop-key-preserved-in_default c =
    let all = c.into_iter-key-iterator.ensures.into_iter_gives in
    step_missing c.loop-key.yielded c.in-Some.key c.args.self.now c.loop-key.self c.loop-key.invariant (next_new c.loop-key.yielded all c.loop-key.yielded_by c.in-Some.ensures.steps) (sym c.handle_of.ensures.handle ∙ c.in_default.is)

pub returns-clause-sound : goal.returns-clause-sound
returns-clause-sound c =
    index_left c.args.keys.now c.loop-key.self c.remove.new.self
    (subst (λ (gone : List ℕ). AreGone gone c.args.self.now c.loop-key.self) (yielded_all c.loop-key.yielded c.into_iter-key-iterator.ensures.into_iter_gives c.loop-key.yielded_by c.in-None.ensures.steps.0) c.loop-key.invariant).holds c.remove.ensures

pub returns-clause-members : goal.returns-clause-members
returns-clause-members c =
    grouped_same _ _ _ _ c.loop-key.invariant.width
    (members_removed c.args.keys.now c.args.self.now c.loop-key.self c.remove.new.self
    (subst (λ (gone : List ℕ). AreGone gone c.args.self.now c.loop-key.self) (yielded_all c.loop-key.yielded c.into_iter-key-iterator.ensures.into_iter_gives c.loop-key.yielded_by c.in-None.ensures.steps.0) c.loop-key.invariant) c.remove.ensures)

pub returns-clause-fewer : goal.returns-clause-fewer
returns-clause-fewer c = c.loop-key.invariant.fewer

pub get-kept-requires : goal.get-kept-requires
get-kept-requires c = (kept_of c.loop-key.yielded c.in-Some.key c.in-Some-handle_of.handle c.loop-key.self c.loop-key.invariant.holds (next_new c.loop-key.yielded c.into_iter-key-iterator.ensures.into_iter_gives c.loop-key.yielded_by c.in-Some.ensures.steps) (sym c.handle_of.ensures.handle ∙ c.in-Some-handle_of.is)).within

pub take-requires-clause-there : goal.take-requires-clause-there
take-requires-clause-there c =
    departs_there c.loop-key.yielded c.in-Some.key c.get-kept.result c.args.self.now c.loop-key.self
    (record { handle = c.in-Some-handle_of.handle; so_far = c.loop-key.invariant; new = next_new c.loop-key.yielded c.into_iter-key-iterator.ensures.into_iter_gives c.loop-key.yielded_by c.in-Some.ensures.steps; here = sym c.handle_of.ensures.handle ∙ c.in-Some-handle_of.is; kept_is = sym c.get-kept.ensures })

pub take-requires-clause-known : goal.take-requires-clause-known
take-requires-clause-known c =
    (departs_group c.loop-key.yielded c.in-Some.key c.get-kept.result c.args.self.now c.loop-key.self
    (record { handle = c.in-Some-handle_of.handle; so_far = c.loop-key.invariant; new = next_new c.loop-key.yielded c.into_iter-key-iterator.ensures.into_iter_gives c.loop-key.yielded_by c.in-Some.ensures.steps; here = sym c.handle_of.ensures.handle ∙ c.in-Some-handle_of.is; kept_is = sym c.get-kept.ensures })).known

pub take-requires-clause-parted : goal.take-requires-clause-parted
take-requires-clause-parted c =
    ranked_parted c.loop-key.self.handles c.loop-key.self.table _ c.in-Some.key (slots_numbered c.get-kept.result.number c.loop-key.self.lists.groups)
    (departs_group c.loop-key.yielded c.in-Some.key c.get-kept.result c.args.self.now c.loop-key.self
    (record { handle = c.in-Some-handle_of.handle; so_far = c.loop-key.invariant; new = next_new c.loop-key.yielded c.into_iter-key-iterator.ensures.into_iter_gives c.loop-key.yielded_by c.in-Some.ensures.steps; here = sym c.handle_of.ensures.handle ∙ c.in-Some-handle_of.is; kept_is = sym c.get-kept.ensures })).ranked

pub loop-key-preserved : goal.loop-key-preserved
loop-key-preserved c =
    departed c.loop-key.yielded c.in-Some.key c.get-kept.result c.args.self.now c.loop-key.self
    (record { handle = c.in-Some-handle_of.handle; so_far = c.loop-key.invariant; new = next_new c.loop-key.yielded c.into_iter-key-iterator.ensures.into_iter_gives c.loop-key.yielded_by c.in-Some.ensures.steps; here = sym c.handle_of.ensures.handle ∙ c.in-Some-handle_of.is; kept_is = sym c.get-kept.ensures })
    c.take.new.self _ (to_z-of_z w64 c.get-kept.result.at (search rules)) c.take.ensures.rows c.take.ensures.own c.take.ensures.others c.take.ensures.fewer c.take.ensures.sound
