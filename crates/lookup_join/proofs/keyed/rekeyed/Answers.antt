use Rattle.std.proofs.Common.{◌≡◌, sym, ◌∙◌, ap, ap₂, true, false, not, rules, w64, SFits}
use Rattle.std.{proofs.lemmas.Int.to_z-of_z, specs.Option.option_map_or}
use Rattle.key_lists.specs.Keys.{is_among}
use Rattle.lookup_join.{specs.Keyed.{key_cells, member_at, rekeys, same_spot, time_of}, proofs.Walks.{member_known, reader_has, row_given, row_read}}
use Rattle.row_changes.proofs.Comparing.{reads_next, reads_within}
use Rattle.row_groups.specs.Members.{Grouped, Member, member_of, member_under}
use Rattle.shown_rows.proofs.Walks.{chosen_more, new_above, new_small, old_above, old_small, pair_has, pairs_all, pairs_next}
use Rattle.tick_model.{specs.declared.update.KeyPair.KeyPair, specs.Tables.keys}
use Rattle.lookup_join.proofs.keyed.rekeyed.Goals as goal

pub row-row-requires : goal.row-row-requires
row-row-requires g c = record {
  here = reader_has c.args.input.now.new c.loop-pair.rows c.in-Some.pair.new c.loop-pair.invariant.rows (pair_has c.loop-pair.yielded c.into_iter-pair-iterator.ensures.into_iter_gives c.loop-pair.yielded_by c.in-Some.ensures.steps (λ pair. is_among pair.new (keys c.args.input.now.new.rows) ≡ true) c.requires.now);
}

pub with_last_if-requires-clause-old_small : goal.with_last_if-requires-clause-old_small
with_last_if-requires-clause-old_small g c = old_small c.loop-pair.yielded c.into_iter-pair-iterator.ensures.into_iter_gives c.loop-pair.yielded_by c.in-Some.ensures.steps

pub with_last_if-requires-clause-old : goal.with_last_if-requires-clause-old
with_last_if-requires-clause-old g c = old_above c.loop-pair.yielded c.into_iter-pair-iterator.ensures.into_iter_gives c.loop-pair.yielded_by c.in-Some.ensures.steps (rekeys c.args.side c.args.on.now c.args.pick c.args.input.now.old c.args.input.now.new) c.loop-pair.changed c.loop-pair.invariant.changed

pub with_last_if-requires-clause-new_small : goal.with_last_if-requires-clause-new_small
with_last_if-requires-clause-new_small g c = new_small c.loop-pair.yielded c.into_iter-pair-iterator.ensures.into_iter_gives c.loop-pair.yielded_by c.in-Some.ensures.steps

pub with_last_if-requires-clause-new : goal.with_last_if-requires-clause-new
with_last_if-requires-clause-new g c = new_above c.loop-pair.yielded c.into_iter-pair-iterator.ensures.into_iter_gives c.loop-pair.yielded_by c.in-Some.ensures.steps (rekeys c.args.side c.args.on.now c.args.pick c.args.input.now.old c.args.input.now.new) c.loop-pair.changed c.loop-pair.invariant.changed

pub loop-pair-preserved : goal.loop-pair-preserved
loop-pair-preserved g c =
    let pair = c.in-Some.pair in
    let test = rekeys c.args.side c.args.on.now c.args.pick c.args.input.now.old c.args.input.now.new in
    let there : is_among pair.old (keys c.args.input.now.old.rows) ≡ true = pair_has c.loop-pair.yielded c.into_iter-pair-iterator.ensures.into_iter_gives c.loop-pair.yielded_by c.in-Some.ensures.steps (λ pair. is_among pair.old (keys c.args.input.now.old.rows) ≡ true) c.requires.before in
    let row = row_given c.args.input.now.new c.loop-pair.rows pair.new c.loop-pair.invariant.rows c.row-row.ensures.cells in
    let fits : SFits w64 c.in_ok-time.time = search rules in
    let own : c.stands_at-stands.result ≡ same_spot (member_at c.args.side c.args.on.now c.args.pick c.args.input.now.old.rows pair.old) (member_at c.args.side c.args.on.now c.args.pick c.args.input.now.new.rows pair.new) =
    c.stands_at-stands.ensures
    ∙ ap (λ time. option_map_or (λ (member : Member). same_spot member (member_of pair.old c.deref.result.now time)) (member_under pair.old c.args.index.now.members) false) (to_z-of_z w64 c.in_ok-time.time fits)
    ∙ ap (λ (index : Grouped). option_map_or (λ (member : Member). same_spot member (member_of pair.old c.deref.result.now c.in_ok-time.time)) (member_under pair.old index.members) false) c.requires.index
    ∙ ap (λ o. option_map_or (λ (member : Member). same_spot member (member_of pair.old c.deref.result.now c.in_ok-time.time)) o false) (member_known c.args.side c.args.on.now c.args.pick c.args.input.now.old.rows pair.old there)
    ∙ ap₂ (λ cells time. same_spot (member_at c.args.side c.args.on.now c.args.pick c.args.input.now.old.rows pair.old) (member_of pair.new cells time)) (c.deref.ensures.value ∙ c.in_ok-time.ensures.cells ∙ ap (key_cells c.args.side c.args.on.now) row) (c.in_ok-time.ensures.time ∙ ap (time_of c.args.side c.args.pick) row) in record {
      rows = c.row-row.ensures.same ∙ c.loop-pair.invariant.rows;
      changed = chosen_more test c.loop-pair.yielded pair c.loop-pair.changed c.in_ok-changed.changed (not c.stands_at-stands.result) c.loop-pair.invariant.changed (ap not own) c.in_ok-changed.ensures;
      reads = reads_next c.args.input.now.new.width c.args.reads.now c.loop-pair.reads c.row-row.new.reads c.loop-pair.yielded pair c.loop-pair.invariant.reads (row_read c.loop-pair.reads c.loop-pair.invariant.rows c.row-row.ensures.reads);
    }

pub returns-in_err-time-clause-reads : goal.returns-in_err-time-clause-reads
returns-in_err-time-clause-reads g c = reads_within c.args.input.now.new.width c.args.reads.now c.loop-pair.reads c.row-row.new.reads c.loop-pair.yielded c.in-Some.pair _ _ (pairs_next c.loop-pair.yielded c.into_iter-pair-iterator.ensures.into_iter_gives c.loop-pair.yielded_by c.in-Some.ensures.steps) c.loop-pair.invariant.reads (row_read c.loop-pair.reads c.loop-pair.invariant.rows c.row-row.ensures.reads)

pub returns-in_err-changed-clause-reads : goal.returns-in_err-changed-clause-reads
returns-in_err-changed-clause-reads g c = reads_within c.args.input.now.new.width c.args.reads.now c.loop-pair.reads c.row-row.new.reads c.loop-pair.yielded c.in-Some.pair _ _ (pairs_next c.loop-pair.yielded c.into_iter-pair-iterator.ensures.into_iter_gives c.loop-pair.yielded_by c.in-Some.ensures.steps) c.loop-pair.invariant.reads (row_read c.loop-pair.reads c.loop-pair.invariant.rows c.row-row.ensures.reads)

pub returns-clause-pairs : goal.returns-clause-pairs
returns-clause-pairs g c = rw (pairs_all c.loop-pair.yielded c.into_iter-pair-iterator.ensures.into_iter_gives c.loop-pair.yielded_by c.in-None.ensures.steps.0) at c.loop-pair.invariant.changed

pub returns-clause-reads : goal.returns-clause-reads
returns-clause-reads g c = rw (pairs_all c.loop-pair.yielded c.into_iter-pair-iterator.ensures.into_iter_gives c.loop-pair.yielded_by c.in-None.ensures.steps.0) at c.loop-pair.invariant.reads
