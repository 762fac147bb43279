use Rattle.std.proofs.Common.{◌≡◌, refl, ap, sym, ◌∙◌, subst, true, arith, ◌+◌, ◌-◌, ◌++◌, [], length, map, List, ℕ, ℤ}
use Rattle.std.specs.List.{remove_range}
use Rattle.key_lists.{specs.Keys.{is_among, without}, proofs.Every.filter_all}
use Rattle.row_set.{specs.Sets.count_below, proofs.Yielded.{next_has, yielded_all, yielded_next}}
use Rattle.tick_model.{specs.Tables.cells_at, specs.Updates.removing}
use Rattle.tick_table.{specs.Placed.paired, proofs.Edits.{IsTaken, come_to, held_next, held_position, held_within, few_below, taken_next, taken_within}}
use Rattle.tick_table.proofs.stepping.remove_rows.Goals as goal

pub loop-key-init : goal.loop-key-init
loop-key-init c =
    let rows = c.args.rows.now in
    let was = c.args.placed.now.rows in record {
      width = refl;
      places = c.of-places.ensures;
      within = omega arith;
      taken = record {
        count = c.requires.count ∙ sym (ap length (filter_all rows));
        stay = ap (λ (ks : List ℕ). paired ks was) (filter_all rows) ∙ sym (filter_all (paired rows was));
        gone = ap (λ (left : List (List ℤ)). left ++ []) c.requires.none_left;
      };
      saved = refl;
    }

pub position_of-requires : goal.position_of-requires
position_of-requires c =
    subst (λ (ks : List ℕ). is_among c.in-Some.key ks ≡ true) (sym c.loop-key.invariant.places)
    (next_has c.loop-key.yielded c.into_iter-key-iterator.ensures.into_iter_gives c.loop-key.yielded_by c.in-Some.ensures.steps (λ key. is_among key c.args.rows.now ≡ true) c.requires.own)

pub overflow_add-position : goal.overflow_add-position
overflow_add-position c =
    let rows = c.args.rows.now in
    let key = c.in-Some.key in
    let yielded = c.loop-key.yielded in
    let now = c.loop-key.placed.rows in
    let left = c.loop-key.placed.left in
    let start = c.loop-key.start in
    let count = c.loop-key.count in
    let gives = c.into_iter-key-iterator.ensures.into_iter_gives in
    let come = come_to rows c.args.removed.now yielded key c.next.new.self c.ranges-2.ensures.keys.rising gives.1.rising c.requires.own (yielded_next yielded gives c.loop-key.yielded_by c.in-Some.ensures.steps) in
    let at =
    held_position rows yielded key c.next.new.self come c.position_of.result now left (λ key. cells_at key (paired rows c.args.placed.now.rows)) start count
    (c.position_of.ensures.position ∙ ap (count_below key) c.loop-key.invariant.places) c.loop-key.invariant.within c.loop-key.invariant.taken.gone in
    let few = few_below key rows c.ranges-2.ensures.keys come.own in
    omega (arith, at, few, c.position_of.ensures.position ∙ ap (count_below key) c.loop-key.invariant.places, c.count_left.ensures)

pub overflow_sub-position : goal.overflow_sub-position
overflow_sub-position c =
    let rows = c.args.rows.now in
    let key = c.in-Some.key in
    let yielded = c.loop-key.yielded in
    let now = c.loop-key.placed.rows in
    let left = c.loop-key.placed.left in
    let start = c.loop-key.start in
    let count = c.loop-key.count in
    let gives = c.into_iter-key-iterator.ensures.into_iter_gives in
    let come = come_to rows c.args.removed.now yielded key c.next.new.self c.ranges-2.ensures.keys.rising gives.1.rising c.requires.own (yielded_next yielded gives c.loop-key.yielded_by c.in-Some.ensures.steps) in
    let at =
    held_position rows yielded key c.next.new.self come c.position_of.result now left (λ key. cells_at key (paired rows c.args.placed.now.rows)) start count
    (c.position_of.ensures.position ∙ ap (count_below key) c.loop-key.invariant.places) c.loop-key.invariant.within c.loop-key.invariant.taken.gone in
    omega (arith, at, c.count_left.ensures)

pub take_out-requires : goal.take_out-requires
take_out-requires c = c.loop-key.invariant.within

pub overflow_add-count : goal.overflow_add-count
overflow_add-count c =
    let rows = c.args.rows.now in
    let key = c.in-Some.key in
    let yielded = c.loop-key.yielded in
    let now = c.loop-key.placed.rows in
    let left = c.loop-key.placed.left in
    let start = c.loop-key.start in
    let count = c.loop-key.count in
    let gives = c.into_iter-key-iterator.ensures.into_iter_gives in
    let come = come_to rows c.args.removed.now yielded key c.next.new.self c.ranges-2.ensures.keys.rising gives.1.rising c.requires.own (yielded_next yielded gives c.loop-key.yielded_by c.in-Some.ensures.steps) in
    let at =
    held_position rows yielded key c.next.new.self come c.position_of.result now left (λ key. cells_at key (paired rows c.args.placed.now.rows)) start count
    (c.position_of.ensures.position ∙ ap (count_below key) c.loop-key.invariant.places) c.loop-key.invariant.within c.loop-key.invariant.taken.gone in
    let few = few_below key rows c.ranges-2.ensures.keys come.own in
    omega (arith, at, few, c.position_of.ensures.position ∙ ap (count_below key) c.loop-key.invariant.places, c.count_left.ensures)

pub loop-key-preserved-then-position-start : goal.loop-key-preserved-then-position-start
loop-key-preserved-then-position-start c =
    let rows = c.args.rows.now in
    let key = c.in-Some.key in
    let yielded = c.loop-key.yielded in
    let others = c.next.new.self in
    let was = c.args.placed.now.rows in
    let now = c.loop-key.placed.rows in
    let left = c.loop-key.placed.left in
    let start = c.loop-key.start in
    let count = c.loop-key.count in
    let gives = c.into_iter-key-iterator.ensures.into_iter_gives in
    let come = come_to rows c.args.removed.now yielded key others c.ranges-2.ensures.keys.rising gives.1.rising c.requires.own (yielded_next yielded gives c.loop-key.yielded_by c.in-Some.ensures.steps) in
    let at =
    held_position rows yielded key others come c.position_of.result now left (λ key. cells_at key (paired rows was)) start count
    (c.position_of.ensures.position ∙ ap (count_below key) c.loop-key.invariant.places) c.loop-key.invariant.within c.loop-key.invariant.taken.gone in
    let is : start ≡ count_below key (without yielded rows) = omega (arith, at, c.count_left.ensures, c.if-position-start.true) in record {
      width = c.loop-key.invariant.width;
      places = c.position_of.ensures.same ∙ c.loop-key.invariant.places;
      within = held_within rows yielded key others come was now left start count c.loop-key.invariant.within c.loop-key.invariant.taken is;
      taken = held_next rows yielded key others come was now left start count c.loop-key.invariant.within c.loop-key.invariant.taken is;
      saved = c.loop-key.invariant.saved;
    }

pub loop-key-preserved : goal.loop-key-preserved
loop-key-preserved c =
    let rows = c.args.rows.now in
    let key = c.in-Some.key in
    let yielded = c.loop-key.yielded in
    let others = c.next.new.self in
    let was = c.args.placed.now.rows in
    let now = c.loop-key.placed.rows in
    let left = c.loop-key.placed.left in
    let start = c.loop-key.start in
    let count = c.loop-key.count in
    let gives = c.into_iter-key-iterator.ensures.into_iter_gives in
    let come = come_to rows c.args.removed.now yielded key others c.ranges-2.ensures.keys.rising gives.1.rising c.requires.own (yielded_next yielded gives c.loop-key.yielded_by c.in-Some.ensures.steps) in
    let at =
    held_position rows yielded key others come c.position_of.result now left (λ key. cells_at key (paired rows was)) start count
    (c.position_of.ensures.position ∙ ap (count_below key) c.loop-key.invariant.places) c.loop-key.invariant.within c.loop-key.invariant.taken.gone in
    let position : ℕ = c.position_of.result - (c.count_left.result + count) in
    let is : position ≡ count_below key (without yielded rows) = omega (arith, at, c.count_left.ensures) in
    let taken =
    subst (λ (some : List (List ℤ)). IsTaken rows yielded was some c.take_out.new.self.left) (sym c.in_ok-take_out.ensures.rows)
    (subst (IsTaken rows yielded was (remove_range now start (start + count))) (sym c.in_ok-take_out.ensures.left) c.loop-key.invariant.taken) in record {
      width = c.take_out.ensures.width ∙ c.loop-key.invariant.width;
      places = c.position_of.ensures.same ∙ c.loop-key.invariant.places;
      within = let below = taken_within rows yielded key others come in omega (arith, below, is, taken.count);
      taken = taken_next rows yielded key others come was c.take_out.new.self.rows c.take_out.new.self.left position taken is;
      saved = c.in_ok-take_out.ensures.saved ∙ c.loop-key.invariant.saved;
    }

pub take_out-requires-2 : goal.take_out-requires-2
take_out-requires-2 c = c.loop-key.invariant.within

pub returns-clause-count : goal.returns-clause-count
returns-clause-count c =
    ap length c.in_ok-take_out-2.ensures.rows
    ∙ c.loop-key.invariant.taken.count
    ∙ ap (λ (ks : List ℕ). length (without ks c.args.rows.now)) (yielded_all c.loop-key.yielded c.into_iter-key-iterator.ensures.into_iter_gives c.loop-key.yielded_by c.in-None.ensures.steps.0)

pub returns-clause-now : goal.returns-clause-now
returns-clause-now c =
    let rows = c.args.rows.now in
    subst (λ (ks : List ℕ). paired (without ks rows) c.take_out-2.new.self.rows ≡ removing ks (paired rows c.args.placed.now.rows))
    (yielded_all c.loop-key.yielded c.into_iter-key-iterator.ensures.into_iter_gives c.loop-key.yielded_by c.in-None.ensures.steps.0)
    (ap (paired (without c.loop-key.yielded rows)) c.in_ok-take_out-2.ensures.rows ∙ c.loop-key.invariant.taken.stay)

pub returns-clause-left : goal.returns-clause-left
returns-clause-left c =
    c.in_ok-take_out-2.ensures.left
    ∙ c.loop-key.invariant.taken.gone
    ∙ ap (map (λ key. cells_at key (paired c.args.rows.now c.args.placed.now.rows))) (yielded_all c.loop-key.yielded c.into_iter-key-iterator.ensures.into_iter_gives c.loop-key.yielded_by c.in-None.ensures.steps.0)
