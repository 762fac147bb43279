use Rattle.std.proofs.Common.{◌≡◌, refl, ap, ◌∙◌, true, map, List, ℕ}
use Rattle.std.specs.Prelude.{is_some}
use Rattle.lookup_join.{specs.Notes.{NoteList, noting, spot_under}, proofs.Walks.noted_next}
use Rattle.row_groups.specs.Members.{member_under}
use Rattle.row_set.proofs.Yielded.{next_has, yielded_all}
use Rattle.lookup_join.proofs.notes.note_removed.Goals as goal

pub note_old-requires-clause-here : goal.note_old-requires-clause-here
note_old-requires-clause-here c =
    next_has c.loop-key.yielded c.into_iter-key-iterator.ensures.into_iter_gives c.loop-key.yielded_by c.in-Some.ensures.steps (λ key. is_some (member_under key c.args.index.now.members) ≡ true) c.requires.here

pub note_old-requires-clause-width : goal.note_old-requires-clause-width
note_old-requires-clause-width c = ap (λ (noted : NoteList). noted.width) c.loop-key.invariant ∙ c.requires.width

pub loop-key-preserved : goal.loop-key-preserved
loop-key-preserved c =
    let members = c.args.index.now.members in
    noted_next c.args.pick members c.args.notes.now c.loop-key.notes c.note_old.new.self (λ key. spot_under key members) c.loop-key.yielded c.in-Some.key (spot_under c.in-Some.key members) c.loop-key.invariant refl c.in_ok-note_old.ensures

pub returns : goal.returns
returns c =
    let members = c.args.index.now.members in
    c.loop-key.invariant
    ∙ ap (λ (keys : List ℕ). let noted : NoteList = record c.args.notes.now { notes = noting c.args.pick members c.args.notes.now.notes (map (λ key. spot_under key members) keys) } in noted)
    (yielded_all c.loop-key.yielded c.into_iter-key-iterator.ensures.into_iter_gives c.loop-key.yielded_by c.in-None.ensures.steps.0)
