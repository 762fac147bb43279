use Rattle.std.proofs.Common.{◌≡◌, ap, ap₂, sym, ◌∙◌, subst, ◌+◌, ◌<◌, ◌≤◌, ◌*◌, ◌^◌, ◌++◌, ◌∷◌, [], arith, true, not, ◌&&◌, List, ℕ, Some, length, length-append, map, filter}
use Rattle.std.{specs.List.AllByRecursion, specs.Prelude.slice_get, proofs.lemmas.Bool.and_parts, proofs.lemmas.Option.slice_get_within}
use Rattle.key_lists.{specs.Keys.{is_among, without}, proofs.Every.every, proofs.Parts.get-append, proofs.Rising.rising_count}
use Rattle.row_set.proofs.Yielded.{next_has, yielded_all, yielded_next}
use Rattle.tick_model.{specs.Agg.agg_table, specs.declared.update.KeyPair.KeyPair, specs.Updates.{kept_pair, new_keys, old_keys}}
use Rattle.agg_by.{specs.Steps.{first_keys, stays}, proofs.Noting.{noted_at, noted_room, room_at}, proofs.StayingRows.{chosen_is, first_there, firsts_there, is_false, lands_small, lesser_new, lesser_old, none_chosen, small_row, staying_none, staying_one, stays_on}}
use Rattle.agg_by.proofs.staying.staying_firsts.Goals as goal

-- the next key is the one at the place that is counted
at_next : (keys yielded others : List ℕ) (old place : ℕ) → place ≡ length yielded → keys ≡ yielded ++ old ∷ others → slice_get keys place ≡ Some old
at_next keys yielded others old place count next =
    let end : place ≡ length yielded + 0 = omega (arith, count) in
    ap₂ slice_get next end ∙ get-append yielded (old ∷ others) 0

pub row_at-row-requires : goal.row_at-row-requires
row_at-row-requires c =
    let notes = c.args.notes.now in
    let place = c.loop-old.position in
    let next = yielded_next c.loop-old.yielded c.into_iter-old-iterator.ensures.into_iter_gives c.loop-old.yielded_by c.in-Some.ensures.steps in
    let here = at_next notes.keys c.loop-old.yielded c.next.new.self c.in-Some.old place c.loop-old.invariant.position next in
    let room = noted_room notes (agg_table c.args.kept.now.by c.args.kept.now.aggs c.args.input.now.old) c.requires.noted in
    let enough : length notes.keys * notes.width ≤ notes.cells.len = omega (arith, room, notes.cells.ok.0) in
    room_at place notes.width (length notes.keys) notes.cells.len (slice_get_within notes.keys place c.in-Some.old here) enough

pub overflow_add-position : goal.overflow_add-position
overflow_add-position c =
    let keys = c.args.notes.now.keys in
    let place = c.loop-old.position in
    let gives = c.into_iter-old-iterator.ensures.into_iter_gives in
    let next = yielded_next c.loop-old.yielded gives c.loop-old.yielded_by c.in-Some.ensures.steps in
    let here = at_next keys c.loop-old.yielded c.next.new.self c.in-Some.old place c.loop-old.invariant.position next in
    let within = slice_get_within keys place c.in-Some.old here in
    let few = rising_count 0 (2 ^ 62) keys (omega arith) (every (λ key. 0 ≤ key) keys (λ key. omega arith)) gives.1.small gives.1.rising in
    omega (arith, within, few)

pub staying_pair-requires-clause-first : goal.staying_pair-requires-clause-first
staying_pair-requires-clause-first c =
    let t = c.args.input.now in
    let by = c.args.kept.now.by in
    let IsFirst = λ (key : ℕ). is_among key (first_keys by t.old.rows) ≡ true in
    next_has c.loop-old.yielded c.into_iter-old-iterator.ensures.into_iter_gives c.loop-old.yielded_by c.in-Some.ensures.steps IsFirst (subst (AllByRecursion IsFirst) (sym c.requires.keys) (firsts_there by t c.requires.exact))

pub staying_pair-requires-clause-noted : goal.staying_pair-requires-clause-noted
staying_pair-requires-clause-noted c =
    let notes = c.args.notes.now in
    let old = c.in-Some.old in
    let next = yielded_next c.loop-old.yielded c.into_iter-old-iterator.ensures.into_iter_gives c.loop-old.yielded_by c.in-Some.ensures.steps in
    let here = at_next notes.keys c.loop-old.yielded c.next.new.self old c.loop-old.position c.loop-old.invariant.position next in
    c.row_at-row.ensures ∙ noted_at notes (agg_table c.args.kept.now.by c.args.kept.now.aggs c.args.input.now.old) c.loop-old.position old c.requires.noted here

pub loop-old-preserved-in_default : goal.loop-old-preserved-in_default
loop-old-preserved-in_default c =
    let t = c.args.input.now in
    let by = c.args.kept.now.by in
    let yielded = c.loop-old.yielded in
    let old = c.in-Some.old in record {
      position = omega (arith, c.loop-old.invariant.position, length-append yielded (old ∷ []));
      staying =
          staying_none (stays by t) (kept_pair t.update) (λ key. not (is_among key t.update.removed)) yielded old c.loop-old.staying
          (none_chosen (not (is_among old t.update.removed) && stays by t (kept_pair t.update old)) (kept_pair t.update old) (sym c.in_default.is ∙ c.staying_pair.ensures)) c.loop-old.invariant.staying;
    }

pub with_last-requires : goal.with_last-requires
with_last-requires c =
    let t = c.args.input.now in
    let e = c.requires.exact in
    let by = c.args.kept.now.by in
    let yielded = c.loop-old.yielded in
    let gives = c.into_iter-old-iterator.ensures.into_iter_gives in
    let others = c.next.new.self in
    let old = c.in-Some.old in
    let made = c.loop-old.staying in
    let chosen = chosen_is (not (is_among old t.update.removed) && stays by t (kept_pair t.update old)) (kept_pair t.update old) c.in-Some-staying_pair.pair (sym c.in-Some-staying_pair.is ∙ c.staying_pair.ensures) in
    let next = sym c.requires.keys ∙ yielded_next yielded gives c.loop-old.yielded_by c.in-Some.ensures.steps in
    let IsFirst = λ (key : ℕ). is_among key (first_keys by t.old.rows) ≡ true in
    let there = first_there by t e old (next_has yielded gives c.loop-old.yielded_by c.in-Some.ensures.steps IsFirst (subst (AllByRecursion IsFirst) (sym c.requires.keys) (firsts_there by t e))) in
    let left = stays_on by t e old there (is_false (and_parts _ _ chosen.0).0) in record {
      old_small = subst (λ (pair : KeyPair). pair.old < 2 ^ 62) chosen.1 (small_row by t e old there);
      new_small = subst (λ (pair : KeyPair). pair.new < 2 ^ 62) chosen.1 (lands_small by t e old left);
      old = subst (λ (pair : KeyPair). AllByRecursion (λ other. other < pair.old) (old_keys made)) chosen.1 (lesser_old by t e yielded others old made next c.loop-old.invariant.staying);
      new = subst (λ (pair : KeyPair). AllByRecursion (λ other. other < pair.new) (new_keys made)) chosen.1 (lesser_new by t e yielded others old made next c.loop-old.invariant.staying left);
    }

pub loop-old-preserved : goal.loop-old-preserved
loop-old-preserved c =
    let t = c.args.input.now in
    let by = c.args.kept.now.by in
    let yielded = c.loop-old.yielded in
    let old = c.in-Some.old in
    let made = c.loop-old.staying in
    let chosen = chosen_is (not (is_among old t.update.removed) && stays by t (kept_pair t.update old)) (kept_pair t.update old) c.in-Some-staying_pair.pair (sym c.in-Some-staying_pair.is ∙ c.staying_pair.ensures) in record {
      position = omega (arith, c.loop-old.invariant.position, length-append yielded (old ∷ []));
      staying =
          c.in_ok-staying.ensures ∙ ap (λ (pair : KeyPair). made ++ pair ∷ []) (sym chosen.1)
          ∙ staying_one (stays by t) (kept_pair t.update) (λ key. not (is_among key t.update.removed)) yielded old made chosen.0 c.loop-old.invariant.staying;
    }

pub returns : goal.returns
returns c =
    let t = c.args.input.now in
    let by = c.args.kept.now.by in
    c.loop-old.invariant.staying
    ∙ ap (λ (ks : List ℕ). filter (stays by t) (map (kept_pair t.update) (without t.update.removed ks)))
    (yielded_all c.loop-old.yielded c.into_iter-old-iterator.ensures.into_iter_gives c.loop-old.yielded_by c.in-None.ensures.steps.0 ∙ c.requires.keys)
