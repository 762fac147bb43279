use Rattle.std.proofs.Common.{refl, subst, arith, rules, w64, ℕ, ◌<◌, ◌∷◌, [], List, length, length-append}
use Rattle.std.proofs.lemmas.Int.{to_z-of_z}
use Rattle.row_set.proofs.Yielded.{next_has, next_new, yielded_all, yielded_next}
use Rattle.row_groups.{specs.Members.IsNumberUnder, specs.Indexes.numbered_of, proofs.Groupings.ranked_parted, proofs.Indexed.{AreGone, grouped_same, index_left, members_removed, none_gone}, proofs.Departing.{departed, departs_group, departs_there, numbered_departs, zipped_within}}
use Rattle.row_groups.proofs.index.GroupIndex.remove_numbered.Goals as goal

pub loop-key-init : goal.loop-key-init
loop-key-init c = record { gone = none_gone c.args.self.now c.requires.sound; position = refl }

pub bounds-numbers-position : goal.bounds-numbers-position
bounds-numbers-position c =
    zipped_within (IsNumberUnder (numbered_of c.args.self.now)) c.args.keys.now c.loop-key.yielded c.next.new.self c.args.numbers.now c.in-Some.key c.loop-key.position
    (yielded_next c.loop-key.yielded c.into_iter-key-iterator.ensures.into_iter_gives c.loop-key.yielded_by c.in-Some.ensures.steps) c.loop-key.invariant.position c.requires.numbers

pub offset_bounds-numbers-position : goal.offset_bounds-numbers-position
offset_bounds-numbers-position c =
    let within : c.loop-key.position < length c.args.numbers.now =
    zipped_within (IsNumberUnder (numbered_of c.args.self.now)) c.args.keys.now c.loop-key.yielded c.next.new.self c.args.numbers.now c.in-Some.key c.loop-key.position
    (yielded_next c.loop-key.yielded c.into_iter-key-iterator.ensures.into_iter_gives c.loop-key.yielded_by c.in-Some.ensures.steps) c.loop-key.invariant.position c.requires.numbers in
    search rules

pub take-requires-clause-there : goal.take-requires-clause-there
take-requires-clause-there c =
    departs_there _ _ _ _ _
    (numbered_departs c.args.keys.now c.loop-key.yielded c.next.new.self c.args.numbers.now c.in-Some.key c.loop-key.position c.args.at c.args.self.now c.loop-key.self c.requires.sound c.loop-key.invariant.gone
    (yielded_next c.loop-key.yielded c.into_iter-key-iterator.ensures.into_iter_gives c.loop-key.yielded_by c.in-Some.ensures.steps) (next_new c.loop-key.yielded c.into_iter-key-iterator.ensures.into_iter_gives c.loop-key.yielded_by c.in-Some.ensures.steps)
    c.loop-key.invariant.position c.requires.numbers (next_has c.loop-key.yielded c.into_iter-key-iterator.ensures.into_iter_gives c.loop-key.yielded_by c.in-Some.ensures.steps _ c.requires.at))

pub take-requires-clause-known : goal.take-requires-clause-known
take-requires-clause-known c =
    (departs_group _ _ _ _ _
    (numbered_departs c.args.keys.now c.loop-key.yielded c.next.new.self c.args.numbers.now c.in-Some.key c.loop-key.position c.args.at c.args.self.now c.loop-key.self c.requires.sound c.loop-key.invariant.gone
    (yielded_next c.loop-key.yielded c.into_iter-key-iterator.ensures.into_iter_gives c.loop-key.yielded_by c.in-Some.ensures.steps) (next_new c.loop-key.yielded c.into_iter-key-iterator.ensures.into_iter_gives c.loop-key.yielded_by c.in-Some.ensures.steps)
    c.loop-key.invariant.position c.requires.numbers (next_has c.loop-key.yielded c.into_iter-key-iterator.ensures.into_iter_gives c.loop-key.yielded_by c.in-Some.ensures.steps _ c.requires.at))).known

pub take-requires-clause-parted : goal.take-requires-clause-parted
take-requires-clause-parted c =
    ranked_parted c.loop-key.self.handles c.loop-key.self.table _ c.in-Some.key _ (departs_group _ _ _ _ _
    (numbered_departs c.args.keys.now c.loop-key.yielded c.next.new.self c.args.numbers.now c.in-Some.key c.loop-key.position c.args.at c.args.self.now c.loop-key.self c.requires.sound c.loop-key.invariant.gone
    (yielded_next c.loop-key.yielded c.into_iter-key-iterator.ensures.into_iter_gives c.loop-key.yielded_by c.in-Some.ensures.steps) (next_new c.loop-key.yielded c.into_iter-key-iterator.ensures.into_iter_gives c.loop-key.yielded_by c.in-Some.ensures.steps)
    c.loop-key.invariant.position c.requires.numbers (next_has c.loop-key.yielded c.into_iter-key-iterator.ensures.into_iter_gives c.loop-key.yielded_by c.in-Some.ensures.steps _ c.requires.at))).ranked

pub overflow_add-position : goal.overflow_add-position
overflow_add-position c =
    let within : c.loop-key.position < length c.args.numbers.now =
    zipped_within (IsNumberUnder (numbered_of c.args.self.now)) c.args.keys.now c.loop-key.yielded c.next.new.self c.args.numbers.now c.in-Some.key c.loop-key.position
    (yielded_next c.loop-key.yielded c.into_iter-key-iterator.ensures.into_iter_gives c.loop-key.yielded_by c.in-Some.ensures.steps) c.loop-key.invariant.position c.requires.numbers in
    omega (arith, within)

pub loop-key-preserved : goal.loop-key-preserved
loop-key-preserved c = record {
  gone =
      departed _ _ _ _ _
      (numbered_departs c.args.keys.now c.loop-key.yielded c.next.new.self c.args.numbers.now c.in-Some.key c.loop-key.position c.args.at c.args.self.now c.loop-key.self c.requires.sound c.loop-key.invariant.gone
      (yielded_next c.loop-key.yielded c.into_iter-key-iterator.ensures.into_iter_gives c.loop-key.yielded_by c.in-Some.ensures.steps) (next_new c.loop-key.yielded c.into_iter-key-iterator.ensures.into_iter_gives c.loop-key.yielded_by c.in-Some.ensures.steps)
      c.loop-key.invariant.position c.requires.numbers (next_has c.loop-key.yielded c.into_iter-key-iterator.ensures.into_iter_gives c.loop-key.yielded_by c.in-Some.ensures.steps _ c.requires.at))
      c.take.new.self _ (to_z-of_z w64 c.args.at c.ranges.at) c.take.ensures.rows c.take.ensures.own c.take.ensures.others c.take.ensures.fewer c.take.ensures.sound;
  position = omega (arith, c.loop-key.invariant.position, length-append c.loop-key.yielded (c.in-Some.key ∷ []));
}

pub returns-clause-sound : goal.returns-clause-sound
returns-clause-sound c =
    index_left c.args.keys.now c.loop-key.self c.remove.new.self
    (subst (λ (gone : List ℕ). AreGone gone c.args.self.now c.loop-key.self) (yielded_all c.loop-key.yielded c.into_iter-key-iterator.ensures.into_iter_gives c.loop-key.yielded_by c.in-None.ensures.steps.0) c.loop-key.invariant.gone).holds c.remove.ensures

pub returns-clause-members : goal.returns-clause-members
returns-clause-members c =
    grouped_same _ _ _ _ c.loop-key.invariant.gone.width
    (members_removed c.args.keys.now c.args.self.now c.loop-key.self c.remove.new.self
    (subst (λ (gone : List ℕ). AreGone gone c.args.self.now c.loop-key.self) (yielded_all c.loop-key.yielded c.into_iter-key-iterator.ensures.into_iter_gives c.loop-key.yielded_by c.in-None.ensures.steps.0) c.loop-key.invariant.gone) c.remove.ensures)

pub returns-clause-fewer : goal.returns-clause-fewer
returns-clause-fewer c = c.loop-key.invariant.gone.fewer
