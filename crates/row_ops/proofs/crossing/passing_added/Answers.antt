use Rattle.std.proofs.Common.{◌≡◌, arith, ap, sym, ◌∙◌, filter, subst, ℕ, List, [], ◌∷◌, length, length-append, ◌<◌, ◌≤◌, ◌+◌, ◌*◌}
use Rattle.std.specs.Prelude.{slice_index}
use Rattle.row_set.proofs.Yielded.{next_above, next_small, yielded_all, yielded_next}
use Rattle.shown_rows.proofs.Walks.{chosen_below, chosen_more}
use Rattle.tick_model.{specs.Formulas.truth, specs.Tables.cells_at, specs.Updates.Update}
use Rattle.row_changes.proofs.Comparing.{reads_next, reads_within}
use Rattle.row_ops.proofs.Walked.{key_at_place, place_within}
use Rattle.row_ops.proofs.crossing.passing_added.Goals as goal

pub added_row-requires : goal.added_row-requires
added_row-requires g c =
    let gives = rw (c.added-keys.ensures.keys, c.update.ensures) at c.into_iter-key-iterator.ensures.into_iter_gives in
    subst (λ n. n < length c.args.input.now.update.added) (sym c.loop-key.invariant.place) (place_within c.args.input.now.update.added c.loop-key.yielded c.in-Some.key _ (yielded_next c.loop-key.yielded gives c.loop-key.yielded_by c.in-Some.ensures.steps))

pub put_last_if-requires-clause-small : goal.put_last_if-requires-clause-small
put_last_if-requires-clause-small g c = next_small c.loop-key.yielded c.into_iter-key-iterator.ensures.into_iter_gives c.loop-key.yielded_by c.in-Some.ensures.steps

pub put_last_if-requires-clause-last : goal.put_last_if-requires-clause-last
put_last_if-requires-clause-last g c =
    let yielded = c.loop-key.yielded in
    chosen_below (λ key. truth c.args.test.now (cells_at key c.args.input.now.new.rows)) yielded c.loop-key.found c.in-Some.key (next_above yielded c.into_iter-key-iterator.ensures.into_iter_gives c.loop-key.yielded_by c.in-Some.ensures.steps) c.loop-key.invariant.found

pub overflow_add-place : goal.overflow_add-place
overflow_add-place g c =
    let within = place_within c.added-keys.result.now c.loop-key.yielded c.in-Some.key _ (yielded_next c.loop-key.yielded c.into_iter-key-iterator.ensures.into_iter_gives c.loop-key.yielded_by c.in-Some.ensures.steps) in
    omega (arith, within, c.loop-key.invariant.place, c.len.ensures.count, c.len.type_inv)

pub loop-key-preserved : goal.loop-key-preserved
loop-key-preserved g c =
    let t = c.args.input.now in
    let yielded = c.loop-key.yielded in
    let key = c.in-Some.key in
    let gives = rw (c.added-keys.ensures.keys, c.update.ensures) at c.into_iter-key-iterator.ensures.into_iter_gives in
    let at : slice_index t.update.added c.loop-key.place ≡ key = ap (slice_index t.update.added) c.loop-key.invariant.place ∙ key_at_place t.update.added yielded key _ (yielded_next yielded gives c.loop-key.yielded_by c.in-Some.ensures.steps) in record {
      place = ap (λ n. n + 1) c.loop-key.invariant.place ∙ sym (length-append yielded (key ∷ []));
      found =
          chosen_more (λ key. truth c.args.test.now (cells_at key t.new.rows)) yielded key c.loop-key.found c.put_last_if.new.keys c.passes-passing.result
          c.loop-key.invariant.found (c.passes-passing.ensures ∙ ap (truth c.args.test.now) (c.added_row.ensures.cells ∙ ap (λ key. cells_at key t.new.rows) at)) c.in_ok-put_last_if.ensures.keys;
      reads = reads_next t.new.width c.args.reads.now c.loop-key.reads c.added_row.new.reads yielded key c.loop-key.invariant.reads (omega (arith, c.added_row.ensures.reads));
    }

pub returns-in_err-put_last_if-clause-reads : goal.returns-in_err-put_last_if-clause-reads
returns-in_err-put_last_if-clause-reads g c =
    let gives = rw (c.added-keys.ensures.keys, c.update.ensures) at c.into_iter-key-iterator.ensures.into_iter_gives in
    reads_within c.args.input.now.new.width c.args.reads.now c.loop-key.reads c.added_row.new.reads c.loop-key.yielded c.in-Some.key _ _
    (yielded_next c.loop-key.yielded gives c.loop-key.yielded_by c.in-Some.ensures.steps) c.loop-key.invariant.reads (omega (arith, c.added_row.ensures.reads))

pub returns-clause-keys : goal.returns-clause-keys
returns-clause-keys g c =
    let all = yielded_all c.loop-key.yielded c.into_iter-key-iterator.ensures.into_iter_gives c.loop-key.yielded_by c.in-None.ensures.steps.0 ∙ c.added-keys.ensures.keys ∙ ap (λ (update : Update). update.added) c.update.ensures in
    c.loop-key.invariant.found ∙ ap (filter (λ key. truth c.args.test.now (cells_at key c.args.input.now.new.rows))) all

pub returns-clause-reads : goal.returns-clause-reads
returns-clause-reads g c =
    let all = yielded_all c.loop-key.yielded c.into_iter-key-iterator.ensures.into_iter_gives c.loop-key.yielded_by c.in-None.ensures.steps.0 ∙ c.added-keys.ensures.keys ∙ ap (λ (update : Update). update.added) c.update.ensures in
    subst (λ (keys : List ℕ). c.loop-key.reads ≤ c.args.reads.now + c.args.input.now.new.width * length keys) all c.loop-key.invariant.reads
