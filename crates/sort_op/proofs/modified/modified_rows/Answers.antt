use Rattle.std.proofs.Common.{◌≡◌, ◌∙◌, ◌+◌, ◌*◌, ◌≤◌, ap, arith, filter, length, not, subst, sym, true, List, ℕ}
use Rattle.row_changes.proofs.Comparing.{reads_next, reads_within}
use Rattle.key_lists.specs.Keys.{is_among}
use Rattle.shown_rows.proofs.Walks.{chosen_more, new_above, new_small, old_above, old_small, pair_has, pairs_all, pairs_next}
use Rattle.tick_model.{specs.declared.table.PlainTable.PlainTable, specs.declared.update.KeyPair.KeyPair, specs.Sort.same_place, specs.Tables.{cells_at, keys}}
use Rattle.tick_table.specs.Exact.{tick_of}
use Rattle.sort_op.{specs.Ranks.listed, specs.Reading.modified_pairs, proofs.ModifiedRows.{modified_count, new_there, old_there, stays_by}, proofs.StepParts.here_at}
use Rattle.sort_op.proofs.modified.modified_rows.Goals as goal

pub loop-pair-init : goal.loop-pair-init
loop-pair-init g c = record { moving = c.new-moving.ensures; staying = c.new-staying.ensures; table = c.of-rows.ensures; reads = omega arith }

pub row-requires : goal.row-requires
row-requires g c =
    let t = c.args.input.now in
    let pair = c.in-Some.pair in
    let all = rw c.in_ok-pairs.ensures at c.into_iter-pair-iterator.ensures.into_iter_gives in
    record { here = ap (λ (table : PlainTable). is_among pair.new (keys table.rows)) c.loop-pair.invariant.table ∙ pair_has c.loop-pair.yielded all c.loop-pair.yielded_by c.in-Some.ensures.steps (λ pair. is_among pair.new (keys t.new.rows) ≡ true) (new_there t c.requires.exact) }

pub has_cells-stays-requires : goal.has_cells-stays-requires
has_cells-stays-requires g c =
    let t = c.args.input.now in
    let all = rw c.in_ok-pairs.ensures at c.into_iter-pair-iterator.ensures.into_iter_gives in
    here_at c.args.order.now.by t.old (listed c.args.order.now) c.in-Some.pair.old c.requires.stands (pair_has c.loop-pair.yielded all c.loop-pair.yielded_by c.in-Some.ensures.steps (λ pair. is_among pair.old (keys t.old.rows) ≡ true) (old_there t c.requires.exact))

pub with_last_if-requires-clause-old_small : goal.with_last_if-requires-clause-old_small
with_last_if-requires-clause-old_small g c = old_small c.loop-pair.yielded c.into_iter-pair-iterator.ensures.into_iter_gives c.loop-pair.yielded_by c.in-Some.ensures.steps

pub with_last_if-requires-clause-old : goal.with_last_if-requires-clause-old
with_last_if-requires-clause-old g c = old_above c.loop-pair.yielded c.into_iter-pair-iterator.ensures.into_iter_gives c.loop-pair.yielded_by c.in-Some.ensures.steps (same_place c.args.order.now.by (tick_of c.args.input.now)) c.loop-pair.staying c.loop-pair.invariant.staying

pub with_last_if-requires-clause-new_small : goal.with_last_if-requires-clause-new_small
with_last_if-requires-clause-new_small g c = new_small c.loop-pair.yielded c.into_iter-pair-iterator.ensures.into_iter_gives c.loop-pair.yielded_by c.in-Some.ensures.steps

pub with_last_if-requires-clause-new : goal.with_last_if-requires-clause-new
with_last_if-requires-clause-new g c = new_above c.loop-pair.yielded c.into_iter-pair-iterator.ensures.into_iter_gives c.loop-pair.yielded_by c.in-Some.ensures.steps (same_place c.args.order.now.by (tick_of c.args.input.now)) c.loop-pair.staying c.loop-pair.invariant.staying

pub with_last_if-requires-in-loop-pair-clause-old_small : goal.with_last_if-requires-in-loop-pair-clause-old_small
with_last_if-requires-in-loop-pair-clause-old_small g c = old_small c.loop-pair.yielded c.into_iter-pair-iterator.ensures.into_iter_gives c.loop-pair.yielded_by c.in-Some.ensures.steps

pub with_last_if-requires-in-loop-pair-clause-old : goal.with_last_if-requires-in-loop-pair-clause-old
with_last_if-requires-in-loop-pair-clause-old g c = old_above c.loop-pair.yielded c.into_iter-pair-iterator.ensures.into_iter_gives c.loop-pair.yielded_by c.in-Some.ensures.steps (λ pair. not (same_place c.args.order.now.by (tick_of c.args.input.now) pair)) c.loop-pair.moving c.loop-pair.invariant.moving

pub with_last_if-requires-in-loop-pair-clause-new_small : goal.with_last_if-requires-in-loop-pair-clause-new_small
with_last_if-requires-in-loop-pair-clause-new_small g c = new_small c.loop-pair.yielded c.into_iter-pair-iterator.ensures.into_iter_gives c.loop-pair.yielded_by c.in-Some.ensures.steps

pub with_last_if-requires-in-loop-pair-clause-new : goal.with_last_if-requires-in-loop-pair-clause-new
with_last_if-requires-in-loop-pair-clause-new g c = new_above c.loop-pair.yielded c.into_iter-pair-iterator.ensures.into_iter_gives c.loop-pair.yielded_by c.in-Some.ensures.steps (λ pair. not (same_place c.args.order.now.by (tick_of c.args.input.now) pair)) c.loop-pair.moving c.loop-pair.invariant.moving

pub loop-pair-preserved : goal.loop-pair-preserved
loop-pair-preserved g c =
    let t = c.args.input.now in
    let some = c.loop-pair.yielded in
    let pair = c.in-Some.pair in
    let all = rw c.in_ok-pairs.ensures at c.into_iter-pair-iterator.ensures.into_iter_gives in
    let stays = same_place c.args.order.now.by (tick_of t) in
    let own : c.has_cells-stays.result ≡ stays pair =
    stays_by t c.requires.exact c.args.order.now.by (listed c.args.order.now) pair c.row.result.now c.has_cells-stays.result c.requires.stands
    (pair_has some all c.loop-pair.yielded_by c.in-Some.ensures.steps (λ pair. is_among pair.old (keys t.old.rows) ≡ true) (old_there t c.requires.exact))
    (c.row.ensures.cells ∙ ap (λ (table : PlainTable). cells_at pair.new table.rows) c.loop-pair.invariant.table) c.has_cells-stays.ensures in
    let read = c.row.ensures.reads ∙ ap (λ (table : PlainTable). c.loop-pair.reads + table.width) c.loop-pair.invariant.table in record {
      moving = chosen_more (λ pair. not (stays pair)) some pair c.loop-pair.moving c.in_ok-moving.moving (not c.has_cells-stays.result) c.loop-pair.invariant.moving (ap not own) c.in_ok-moving.ensures;
      staying = chosen_more stays some pair c.loop-pair.staying c.in_ok-staying.staying c.has_cells-stays.result c.loop-pair.invariant.staying own c.in_ok-staying.ensures;
      table = c.row.ensures.same ∙ c.loop-pair.invariant.table;
      reads = reads_next t.new.width c.args.reads.now c.loop-pair.reads c.row.new.reads some pair c.loop-pair.invariant.reads (omega (arith, read));
    }

pub returns-clause-moving : goal.returns-clause-moving
returns-clause-moving g c = rw (pairs_all c.loop-pair.yielded (rw c.in_ok-pairs.ensures at c.into_iter-pair-iterator.ensures.into_iter_gives) c.loop-pair.yielded_by c.in-None.ensures.steps.0) at c.loop-pair.invariant.moving

pub returns-clause-staying : goal.returns-clause-staying
returns-clause-staying g c = rw (pairs_all c.loop-pair.yielded (rw c.in_ok-pairs.ensures at c.into_iter-pair-iterator.ensures.into_iter_gives) c.loop-pair.yielded_by c.in-None.ensures.steps.0) at c.loop-pair.invariant.staying

pub returns-in_err-staying-clause-reads : goal.returns-in_err-staying-clause-reads
returns-in_err-staying-clause-reads g c =
    let t = c.args.input.now in
    let all = rw c.in_ok-pairs.ensures at c.into_iter-pair-iterator.ensures.into_iter_gives in
    let read = c.row.ensures.reads ∙ ap (λ (table : PlainTable). c.loop-pair.reads + table.width) c.loop-pair.invariant.table in
    subst (λ n. c.row.new.reads ≤ c.args.reads.now + t.new.width * n) (modified_count t c.requires.exact)
    (reads_within t.new.width c.args.reads.now c.loop-pair.reads c.row.new.reads c.loop-pair.yielded c.in-Some.pair _ (modified_pairs t) (pairs_next c.loop-pair.yielded all c.loop-pair.yielded_by c.in-Some.ensures.steps) c.loop-pair.invariant.reads (omega (arith, read)))

pub returns-in_err-moving-clause-reads : goal.returns-in_err-moving-clause-reads
returns-in_err-moving-clause-reads g c =
    let t = c.args.input.now in
    let all = rw c.in_ok-pairs.ensures at c.into_iter-pair-iterator.ensures.into_iter_gives in
    let read = c.row.ensures.reads ∙ ap (λ (table : PlainTable). c.loop-pair.reads + table.width) c.loop-pair.invariant.table in
    subst (λ n. c.row.new.reads ≤ c.args.reads.now + t.new.width * n) (modified_count t c.requires.exact)
    (reads_within t.new.width c.args.reads.now c.loop-pair.reads c.row.new.reads c.loop-pair.yielded c.in-Some.pair _ (modified_pairs t) (pairs_next c.loop-pair.yielded all c.loop-pair.yielded_by c.in-Some.ensures.steps) c.loop-pair.invariant.reads (omega (arith, read)))

pub returns-clause-reads : goal.returns-clause-reads
returns-clause-reads g c =
    let t = c.args.input.now in
    subst (λ n. c.loop-pair.reads ≤ c.args.reads.now + t.new.width * n) (ap length (pairs_all c.loop-pair.yielded (rw c.in_ok-pairs.ensures at c.into_iter-pair-iterator.ensures.into_iter_gives) c.loop-pair.yielded_by c.in-None.ensures.steps.0) ∙ modified_count t c.requires.exact) c.loop-pair.invariant.reads
