use Rattle.std.proofs.Common.{ap, sym, subst, arith, ◌+◌, ◌*◌, ◌≤◌, ℕ, length}
use Rattle.tick_model.specs.Changes.{change_of}
use Rattle.tick_table.specs.Exact.{tick_of}
use Rattle.lookup_join.{specs.Matched.matched_tick, specs.Notes.NoteList, specs.Taken.modified_pairs, proofs.Before.matched, proofs.Noting.told_few, proofs.Stepping.{modified_count, step_reads}}
use Rattle.lookup_join.proofs.lookup.lookup_step.Goals as goal

pub matched_change-requires-clause-matched : goal.matched_change-requires-clause-matched
matched_change-requires-clause-matched g c =
    matched c.args.on.now c.args.pick c.args.right.now c.requires.right_exact c.args.take.now c.args.left.now _ _ c.requires.left_exact c.requires.take c.in_ok-notes.ensures.index (ap (λ (noted : NoteList). noted.notes) c.in_ok-notes.ensures.notes)

pub matched_change-requires-clause-notes : goal.matched_change-requires-clause-notes
matched_change-requires-clause-notes g c = ap (λ (noted : NoteList). noted.notes) c.in_ok-notes.ensures.notes

pub returns-in_err-notes-clause-reads : goal.returns-in_err-notes-clause-reads
returns-in_err-notes-clause-reads g c =
    let left = c.args.left.now in
    let right = c.args.right.now in
    let own = (change_of (matched_tick c.args.on.now c.args.pick c.args.take.now (tick_of left) (tick_of right))).update in
    step_reads left.new.width right.new.width (length c.args.take.now) c.args.reads.now c.bring_right_on.new.reads c.bring_right_on.new.reads c.bring_right_on.new.reads 0
    (length left.update.removed) (length left.update.added) (length left.update.modified) (length right.update.removed) (length right.update.added) (length right.update.modified) (length own.removed) (length own.added) (length own.modified)
    c.bring_right_on.ensures.reads (omega arith) (omega arith) (omega arith)

pub returns-in_err-came-clause-reads : goal.returns-in_err-came-clause-reads
returns-in_err-came-clause-reads g c =
    let left = c.args.left.now in
    let right = c.args.right.now in
    let own = (change_of (matched_tick c.args.on.now c.args.pick c.args.take.now (tick_of left) (tick_of right))).update in
    step_reads left.new.width right.new.width (length c.args.take.now) c.args.reads.now c.bring_right_on.new.reads c.bring_left_on.new.reads c.bring_left_on.new.reads 0
    (length left.update.removed) (length left.update.added) (length left.update.modified) (length right.update.removed) (length right.update.added) (length right.update.modified) (length own.removed) (length own.added) (length own.modified)
    c.bring_right_on.ensures.reads c.bring_left_on.ensures.reads (omega arith) (omega arith)

pub returns-in_err-change-clause-reads : goal.returns-in_err-change-clause-reads
returns-in_err-change-clause-reads g c =
    let left = c.args.left.now in
    let right = c.args.right.now in
    let own = (change_of (matched_tick c.args.on.now c.args.pick c.args.take.now (tick_of left) (tick_of right))).update in
    let few : length c.in_ok-notes.notes.notes ≤ length right.update.removed + length right.update.added + 2 * length right.update.modified =
    subst (λ (n : ℕ). length c.in_ok-notes.notes.notes ≤ length right.update.removed + length right.update.added + 2 * n) (modified_count right c.requires.right_exact)
    (subst (λ (noted : NoteList). length noted.notes ≤ length right.update.removed + length right.update.added + 2 * length (modified_pairs right)) (sym c.in_ok-notes.ensures.notes) (told_few c.args.on.now c.args.pick right c.requires.right_exact left)) in
    step_reads left.new.width right.new.width (length c.args.take.now) c.args.reads.now c.bring_right_on.new.reads c.bring_left_on.new.reads c.matched_change.new.reads (length c.in_ok-notes.notes.notes)
    (length left.update.removed) (length left.update.added) (length left.update.modified) (length right.update.removed) (length right.update.added) (length right.update.modified) (length own.removed) (length own.added) (length own.modified)
    c.bring_right_on.ensures.reads c.bring_left_on.ensures.reads c.matched_change.ensures.reads few

pub returns-clause-reads : goal.returns-clause-reads
returns-clause-reads g c =
    let left = c.args.left.now in
    let right = c.args.right.now in
    let own = (change_of (matched_tick c.args.on.now c.args.pick c.args.take.now (tick_of left) (tick_of right))).update in
    let few : length c.in_ok-notes.notes.notes ≤ length right.update.removed + length right.update.added + 2 * length right.update.modified =
    subst (λ (n : ℕ). length c.in_ok-notes.notes.notes ≤ length right.update.removed + length right.update.added + 2 * n) (modified_count right c.requires.right_exact)
    (subst (λ (noted : NoteList). length noted.notes ≤ length right.update.removed + length right.update.added + 2 * length (modified_pairs right)) (sym c.in_ok-notes.ensures.notes) (told_few c.args.on.now c.args.pick right c.requires.right_exact left)) in
    step_reads left.new.width right.new.width (length c.args.take.now) c.args.reads.now c.bring_right_on.new.reads c.bring_left_on.new.reads c.matched_change.new.reads (length c.in_ok-notes.notes.notes)
    (length left.update.removed) (length left.update.added) (length left.update.modified) (length right.update.removed) (length right.update.added) (length right.update.modified) (length own.removed) (length own.added) (length own.modified)
    c.bring_right_on.ensures.reads c.bring_left_on.ensures.reads c.matched_change.ensures.reads few
