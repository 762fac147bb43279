use Rattle.std.proofs.Common.{◌≡◌, ap, sym, ◌∙◌, arith, true, length, List, rules, w64, SFits}
use Rattle.std.proofs.lemmas.Int.{to_z-of_z}
use Rattle.key_lists.specs.Keys.{is_among}
use Rattle.lookup_join.{specs.declared.keyed.Side.TheVariants.Right, specs.Keyed.{key_at, key_cells, time_at, time_of}, specs.Notes.{Note, NoteList, spot_under}, specs.Taken.spot_at, proofs.Latests.timed_index, proofs.Walks.{length-key_cells, member_is, note_put, noting_two, reader_has, row_given, row_read, spot_is, spot_known}}
use Rattle.row_changes.proofs.Comparing.{reads_next, reads_within}
use Rattle.row_groups.specs.Members.{Grouped, groups_of}
use Rattle.shown_rows.proofs.Walks.{pair_has, pairs_all, pairs_next}
use Rattle.tick_model.{specs.declared.update.KeyPair.KeyPair, specs.Tables.keys}
use Rattle.lookup_join.proofs.notes.note_modified.Goals as goal

pub note_old-requires-clause-here : goal.note_old-requires-clause-here
note_old-requires-clause-here g c =
    let there = pair_has c.loop-pair.yielded c.into_iter-pair-iterator.ensures.into_iter_gives c.loop-pair.yielded_by c.in-Some.ensures.steps (λ pair. is_among pair.old (keys c.args.right.now.old.rows) ≡ true) c.requires.before in
    member_is Right c.args.on.now c.args.pick c.args.right.now.old.rows (groups_of c.args.index.now) c.in-Some.pair.old c.requires.index there

pub note_old-requires-clause-width : goal.note_old-requires-clause-width
note_old-requires-clause-width g c = ap (λ (noted : NoteList). noted.width) c.loop-pair.invariant.notes ∙ c.requires.width ∙ sym (ap (λ (index : Grouped). index.width) c.requires.index)

pub row-row-requires : goal.row-row-requires
row-row-requires g c = record {
  here = reader_has c.args.right.now.new c.loop-pair.rows c.in-Some.pair.new c.loop-pair.invariant.rows (pair_has c.loop-pair.yielded c.into_iter-pair-iterator.ensures.into_iter_gives c.loop-pair.yielded_by c.in-Some.ensures.steps (λ pair. is_among pair.new (keys c.args.right.now.new.rows) ≡ true) c.requires.now);
}

pub note_old-requires-clause-timed : goal.note_old-requires-clause-timed
note_old-requires-clause-timed g c = timed_index Right c.args.on.now c.args.pick c.args.right.now.old.rows (groups_of c.args.index.now) c.requires.index

pub note-requires-clause-timed : goal.note-requires-clause-timed
note-requires-clause-timed g c = timed_index Right c.args.on.now c.args.pick c.args.right.now.old.rows (groups_of c.args.index.now) c.requires.index

pub note-requires-clause-width : goal.note-requires-clause-width
note-requires-clause-width g c =
    ap length (c.deref.ensures.value ∙ c.in_ok-time.ensures.cells) ∙ length-key_cells Right c.args.on.now c.row-row.result.now
    ∙ sym (ap (λ (noted : NoteList). noted.width) c.in_ok-note_old.ensures ∙ ap (λ (noted : NoteList). noted.width) c.loop-pair.invariant.notes ∙ c.requires.width)

pub loop-pair-preserved : goal.loop-pair-preserved
loop-pair-preserved g c =
    let on = c.args.on.now in
    let right = c.args.right.now in
    let members = c.args.index.now.members in
    let pair = c.in-Some.pair in
    let fits : SFits w64 c.in_ok-time.time = search rules in
    let row = row_given right.new c.loop-pair.rows pair.new c.loop-pair.invariant.rows c.row-row.ensures.cells in
    let there = pair_has c.loop-pair.yielded c.into_iter-pair-iterator.ensures.into_iter_gives c.loop-pair.yielded_by c.in-Some.ensures.steps (λ pair. is_among pair.old (keys right.old.rows) ≡ true) c.requires.before in
    let first = note_put c.args.pick members c.args.notes.now c.loop-pair.notes c.note_old.new.self _ (spot_under pair.old members) (spot_at on c.args.pick right.old.rows pair.old) c.loop-pair.invariant.notes (spot_known on c.args.pick right.old.rows (groups_of c.args.index.now) pair.old c.requires.index there) c.in_ok-note_old.ensures in
    let second = note_put c.args.pick members c.args.notes.now c.note_old.new.self c.note.new.self _ _ (spot_at on c.args.pick right.new.rows pair.new) first
    (spot_is c.deref.result.now (key_at Right on right.new.rows pair.new) _ (time_at Right c.args.pick right.new.rows pair.new) (c.deref.ensures.value ∙ c.in_ok-time.ensures.cells ∙ ap (key_cells Right on) row) (to_z-of_z w64 c.in_ok-time.time fits ∙ c.in_ok-time.ensures.time ∙ ap (time_of Right c.args.pick) row)) c.in_ok-note.ensures in record {
      rows = c.row-row.ensures.same ∙ c.loop-pair.invariant.rows;
      notes =
          second
          ∙ ap (λ (notes : List Note). let noted : NoteList = record c.args.notes.now { notes = notes } in noted)
          (noting_two c.args.pick members c.args.notes.now.notes (λ (pair : KeyPair). spot_at on c.args.pick right.old.rows pair.old) (λ (pair : KeyPair). spot_at on c.args.pick right.new.rows pair.new) c.loop-pair.yielded pair);
      reads = reads_next right.new.width c.args.reads.now c.loop-pair.reads c.row-row.new.reads c.loop-pair.yielded pair c.loop-pair.invariant.reads (row_read c.loop-pair.reads c.loop-pair.invariant.rows c.row-row.ensures.reads);
    }

pub returns-in_err-note_old-clause-reads : goal.returns-in_err-note_old-clause-reads
returns-in_err-note_old-clause-reads g c = reads_within c.args.right.now.new.width c.args.reads.now c.loop-pair.reads c.loop-pair.reads c.loop-pair.yielded c.in-Some.pair _ _ (pairs_next c.loop-pair.yielded c.into_iter-pair-iterator.ensures.into_iter_gives c.loop-pair.yielded_by c.in-Some.ensures.steps) c.loop-pair.invariant.reads (omega arith)

pub returns-in_err-time-clause-reads : goal.returns-in_err-time-clause-reads
returns-in_err-time-clause-reads g c = reads_within c.args.right.now.new.width c.args.reads.now c.loop-pair.reads c.row-row.new.reads c.loop-pair.yielded c.in-Some.pair _ _ (pairs_next c.loop-pair.yielded c.into_iter-pair-iterator.ensures.into_iter_gives c.loop-pair.yielded_by c.in-Some.ensures.steps) c.loop-pair.invariant.reads (row_read c.loop-pair.reads c.loop-pair.invariant.rows c.row-row.ensures.reads)

pub returns-in_err-note-clause-reads : goal.returns-in_err-note-clause-reads
returns-in_err-note-clause-reads g c = reads_within c.args.right.now.new.width c.args.reads.now c.loop-pair.reads c.row-row.new.reads c.loop-pair.yielded c.in-Some.pair _ _ (pairs_next c.loop-pair.yielded c.into_iter-pair-iterator.ensures.into_iter_gives c.loop-pair.yielded_by c.in-Some.ensures.steps) c.loop-pair.invariant.reads (row_read c.loop-pair.reads c.loop-pair.invariant.rows c.row-row.ensures.reads)

pub returns-clause-notes : goal.returns-clause-notes
returns-clause-notes g c = rw (pairs_all c.loop-pair.yielded c.into_iter-pair-iterator.ensures.into_iter_gives c.loop-pair.yielded_by c.in-None.ensures.steps.0) at c.loop-pair.invariant.notes

pub returns-clause-reads : goal.returns-clause-reads
returns-clause-reads g c = rw (pairs_all c.loop-pair.yielded c.into_iter-pair-iterator.ensures.into_iter_gives c.loop-pair.yielded_by c.in-None.ensures.steps.0) at c.loop-pair.invariant.reads
