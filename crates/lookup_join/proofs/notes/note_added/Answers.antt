use Rattle.std.proofs.Common.{◌≡◌, ap, sym, ◌∙◌, subst, true, map, ◌+◌, ◌*◌, ◌≤◌, ℕ, List, rules, w64, SFits, length}
use Rattle.std.{specs.List.AllByRecursion, proofs.lemmas.Int.to_z-of_z}
use Rattle.key_lists.specs.Keys.{is_among}
use Rattle.lookup_join.{specs.Keyed.{key_at, key_cells, time_at, time_of}, specs.declared.keyed.Side.TheVariants.Right, specs.Notes.{NoteList, noting}, specs.Taken.spot_at, proofs.Walks.{length-key_cells, noted_next, reader_has, row_given, row_read, spot_is}, proofs.Stepping.added_there}
use Rattle.row_changes.proofs.Comparing.{reads_next, reads_within}
use Rattle.row_set.proofs.Yielded.{next_has, yielded_all, yielded_next}
use Rattle.tick_model.{specs.Tables.keys, specs.Updates.Update}
use Rattle.lookup_join.proofs.notes.note_added.Goals as goal

pub row-row-requires : goal.row-row-requires
row-row-requires g c = record {
  here =
      reader_has c.args.right.now.new c.loop-key.rows c.in-Some.key c.loop-key.invariant.rows
      (next_has c.loop-key.yielded c.into_iter-key-iterator.ensures.into_iter_gives c.loop-key.yielded_by c.in-Some.ensures.steps (λ key. is_among key (keys c.args.right.now.new.rows) ≡ true)
      (subst (AllByRecursion (λ key. is_among key (keys c.args.right.now.new.rows) ≡ true)) (sym (c.added-key-items.ensures.keys ∙ ap (λ (update : Update). update.added) c.update.ensures)) (added_there c.args.right.now c.requires.exact)));
}

pub note-requires-clause-width : goal.note-requires-clause-width
note-requires-clause-width g c =
    ap length (c.deref.ensures.value ∙ c.in_ok-time.ensures.cells) ∙ length-key_cells Right c.args.on.now c.row-row.result.now ∙ sym (ap (λ (noted : NoteList). noted.width) c.loop-key.invariant.notes ∙ c.requires.width)

pub loop-key-preserved : goal.loop-key-preserved
loop-key-preserved g c =
    let on = c.args.on.now in
    let right = c.args.right.now in
    let key = c.in-Some.key in
    let fits : SFits w64 c.in_ok-time.time = search rules in
    let row = row_given right.new c.loop-key.rows key c.loop-key.invariant.rows c.row-row.ensures.cells in record {
      rows = c.row-row.ensures.same ∙ c.loop-key.invariant.rows;
      notes =
          noted_next c.args.pick c.args.index.now.members c.args.notes.now c.loop-key.notes c.note.new.self (spot_at on c.args.pick right.new.rows) c.loop-key.yielded key _ c.loop-key.invariant.notes
          (spot_is c.deref.result.now (key_at Right on right.new.rows key) _ (time_at Right c.args.pick right.new.rows key) (c.deref.ensures.value ∙ c.in_ok-time.ensures.cells ∙ ap (key_cells Right on) row) (to_z-of_z w64 c.in_ok-time.time fits ∙ c.in_ok-time.ensures.time ∙ ap (time_of Right c.args.pick) row)) c.in_ok-note.ensures;
      reads = reads_next right.new.width c.args.reads.now c.loop-key.reads c.row-row.new.reads c.loop-key.yielded key c.loop-key.invariant.reads (row_read c.loop-key.reads c.loop-key.invariant.rows c.row-row.ensures.reads);
    }

pub returns-in_err-time-clause-reads : goal.returns-in_err-time-clause-reads
returns-in_err-time-clause-reads g c =
    reads_within c.args.right.now.new.width c.args.reads.now c.loop-key.reads c.row-row.new.reads c.loop-key.yielded c.in-Some.key _ _
    (sym (c.added-key-items.ensures.keys ∙ ap (λ (update : Update). update.added) c.update.ensures) ∙ yielded_next c.loop-key.yielded c.into_iter-key-iterator.ensures.into_iter_gives c.loop-key.yielded_by c.in-Some.ensures.steps)
    c.loop-key.invariant.reads (row_read c.loop-key.reads c.loop-key.invariant.rows c.row-row.ensures.reads)

pub returns-in_err-note-clause-reads : goal.returns-in_err-note-clause-reads
returns-in_err-note-clause-reads g c =
    reads_within c.args.right.now.new.width c.args.reads.now c.loop-key.reads c.row-row.new.reads c.loop-key.yielded c.in-Some.key _ _
    (sym (c.added-key-items.ensures.keys ∙ ap (λ (update : Update). update.added) c.update.ensures) ∙ yielded_next c.loop-key.yielded c.into_iter-key-iterator.ensures.into_iter_gives c.loop-key.yielded_by c.in-Some.ensures.steps)
    c.loop-key.invariant.reads (row_read c.loop-key.reads c.loop-key.invariant.rows c.row-row.ensures.reads)

pub returns-clause-notes : goal.returns-clause-notes
returns-clause-notes g c =
    c.loop-key.invariant.notes
    ∙ ap (λ (keys : List ℕ). let noted : NoteList = record c.args.notes.now { notes = noting c.args.pick c.args.index.now.members c.args.notes.now.notes (map (spot_at c.args.on.now c.args.pick c.args.right.now.new.rows) keys) } in noted)
    (yielded_all c.loop-key.yielded c.into_iter-key-iterator.ensures.into_iter_gives c.loop-key.yielded_by c.in-None.ensures.steps.0 ∙ c.added-key-items.ensures.keys ∙ ap (λ (update : Update). update.added) c.update.ensures)

pub returns-clause-reads : goal.returns-clause-reads
returns-clause-reads g c =
    subst (λ (keys : List ℕ). c.loop-key.reads ≤ c.args.reads.now + c.args.right.now.new.width * length keys)
    (yielded_all c.loop-key.yielded c.into_iter-key-iterator.ensures.into_iter_gives c.loop-key.yielded_by c.in-None.ensures.steps.0 ∙ c.added-key-items.ensures.keys ∙ ap (λ (update : Update). update.added) c.update.ensures) c.loop-key.invariant.reads
