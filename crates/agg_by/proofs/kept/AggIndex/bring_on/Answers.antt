use Rattle.std.proofs.Common.{◌≡◌, is_some, ap, ap₂, sym, ◌∙◌, subst, true, ◌++◌, ◌+◌, ◌*◌, ◌≤◌, arith, append-nil, length, List, [], None, ℕ, ℤ, map}
use Rattle.std.{specs.List.{AllByRecursion, AllZip}, proofs.lemmas.List.map-append}
use Rattle.key_lists.specs.Keys.{is_among, without}
use Rattle.row_groups.specs.Members.{Grouped, IsNumberUnder, IsPart, Numbered, groups_of, member_under}
use Rattle.shift_data.specs.Moves.{IsLawful}
use Rattle.shown_rows.proofs.Restricted.{exact_shift}
use Rattle.table_update.specs.Kept.{old_modified}
use Rattle.tick_model.{specs.declared.plan.Agg.Agg, specs.Tables.keys, specs.Updates.{Update, removing, shifting}}
use Rattle.agg_by.{specs.Kept.{AnswerAll, IsMade, Keeps, indexed}, specs.Steps.{come_cells, keeps_groups, key_at, starts, staying_cells, touched_cells}, specs.Touched.{AreNoted, is_named}, proofs.Answering.{both_ok, own_there}, proofs.Bringing.members, proofs.Changing.{IsNumberIn, moved_noted, moved_numbers, numbers_noted, rows_before, rows_in, touched_come, went_cells}, proofs.Noted.{named_same, noted_again, noted_part, part_own, touched_now}, proofs.Touching.removed_there}
use Rattle.agg_by.proofs.kept.AggIndex.bring_on.Goals as goal

pub take_rows-requires-clause-numbers : goal.take_rows-requires-clause-numbers
take_rows-requires-clause-numbers g c = subst (AllZip (IsNumberUnder c.args.self.now.rows) c.args.input.now.update.removed) (sym c.as_slice-numbers.ensures.value) c.requires.leaving.removed

pub move_rows-requires-clause-gone : goal.move_rows-requires-clause-gone
move_rows-requires-clause-gone g c =
    let t = c.args.input.now in
    let gone = c.removed.ensures.keys ∙ ap (λ (update : Update). update.removed) c.update.ensures in
    subst (λ (kept : Numbered). AllByRecursion (λ key. is_some (member_under key kept.members) ≡ true) c.removed.result.now) (sym c.in_ok-take_rows.ensures.rows)
    (own_there c.args.self.now.by t.old c.requires.exact.tick.old_table (groups_of c.args.self.now.rows) c.requires.keeps.rows c.removed.result.now (subst (AllByRecursion (λ key. is_among key (keys t.old.rows) ≡ true)) (sym gone) (removed_there t c.requires.exact)))

pub move_rows-requires-clause-numbers : goal.move_rows-requires-clause-numbers
move_rows-requires-clause-numbers g c =
    let gone = c.removed.ensures.keys ∙ ap (λ (update : Update). update.removed) c.update.ensures in
    subst (λ (ks : List ℕ). AllZip (IsNumberUnder c.take_rows.new.self.rows) ks c.as_slice-numbers.result.now) (sym gone)
    (subst (λ (kept : Numbered). AllZip (IsNumberUnder kept) c.args.input.now.update.removed c.as_slice-numbers.result.now) (sym c.in_ok-take_rows.ensures.rows)
    (subst (AllZip (IsNumberUnder c.args.self.now.rows) c.args.input.now.update.removed) (sym c.as_slice-numbers.ensures.value) c.requires.leaving.removed))

pub move_rows-requires-clause-running : goal.move_rows-requires-clause-running
move_rows-requires-clause-running g c =
    let rows = c.args.input.now.old.rows in
    let gone = c.removed.ensures.keys ∙ ap (λ (update : Update). update.removed) c.update.ensures in
    let left = removing c.args.input.now.update.removed rows in
    let new = c.take_rows.new.self in
    subst (λ (ks : List ℕ). AnswerAll new.by new.rows.names new.aggs (removing ks rows) new.running.items) (sym gone)
    (subst (λ (by : List ℕ). AnswerAll by new.rows.names new.aggs left new.running.items) (sym c.in_ok-take_rows.ensures.made.by)
    (subst (λ (aggs : List Agg). AnswerAll c.args.self.now.by new.rows.names aggs left new.running.items) (sym c.in_ok-take_rows.ensures.made.aggs)
    (subst (λ (kept : Numbered). AnswerAll c.args.self.now.by kept.names c.args.self.now.aggs left new.running.items) (sym c.in_ok-take_rows.ensures.rows) c.in_ok-take_rows.ensures.running)))

pub move_rows-requires-clause-lawful : goal.move_rows-requires-clause-lawful
move_rows-requires-clause-lawful g c =
    let gone = c.removed.ensures.keys ∙ ap (λ (update : Update). update.removed) c.update.ensures in
    subst (λ (ks : List ℕ). IsLawful c.args.input.now.update.shifted (without ks (keys c.args.input.now.old.rows))) (sym gone) (exact_shift c.args.input.now c.requires.exact)

pub change_rows-requires : goal.change_rows-requires
change_rows-requires g c =
    let t = c.args.input.now in
    let e = c.requires.exact in
    let by = c.args.self.now.by in
    let old = c.args.self.now.rows in
    let mid = c.move_rows.new.self in
    let same : mid.by ≡ by = c.in_ok-move_rows.ensures.made.by ∙ c.in_ok-take_rows.ensures.made.by in
    let gone : c.removed.result.now ≡ t.update.removed = c.removed.ensures.keys ∙ ap (λ (update : Update). update.removed) c.update.ensures in
    let part : IsPart mid.rows old = subst (IsPart mid.rows) c.in_ok-take_rows.ensures.rows c.in_ok-move_rows.ensures.names in
    let mids : groups_of mid.rows ≡ indexed by None (rows_in t []) =
    c.in_ok-move_rows.ensures.keeps.rows ∙ ap₂ (λ (by ks : List ℕ). indexed by None (shifting t.update.shifted (removing ks t.old.rows))) same gone ∙ ap (indexed by None) (rows_before by t e) in
    let all : AllZip (IsNumberUnder old) (old_modified (keys t.old.rows) t.update) c.as_slice.result.now = subst (AllZip (IsNumberUnder old) (old_modified (keys t.old.rows) t.update)) (sym c.as_slice.ensures.value) c.requires.leaving.modified in record {
      exact = e;
      keeps = subst (Keeps mid) (ap (λ (ks : List ℕ). shifting t.update.shifted (removing ks t.old.rows)) gone) c.in_ok-move_rows.ensures.keeps;
      names = part_own mid.rows old part;
      numbers = subst (λ (by : List ℕ). AllZip (IsNumberIn by t mid.rows.names) (old_modified (keys t.old.rows) t.update) c.as_slice.result.now) (sym same) (moved_numbers by t e old mid.rows part mids c.requires.keeps.rows c.as_slice.result.now all);
      noted = numbers_noted by t e old mid.rows part mids c.requires.keeps.rows c.as_slice.result.now all c.args.touched.now c.requires.touched;
      stay = c.requires.leaving.stay ∙ ap (λ (by : List ℕ). keeps_groups by t) (sym same);
    }

-- the reads of a step, as far as it goes
bring_reads : (width old removed added modified first second third last : ℕ) → old ≡ width → second ≤ first + old * removed → third ≤ second + 2 * width * modified → last ≤ third + width * added → last ≤ first + width * (removed + added + 2 * modified)
bring_reads width old removed added modified first second third last same h k l = omega (arith, h, k, l, ap (λ width. width * removed) same)

pub returns-in_err-take_rows-clause-reads : goal.returns-in_err-take_rows-clause-reads
returns-in_err-take_rows-clause-reads g c =
    let t = c.args.input.now in
    bring_reads t.new.width t.old.width (length t.update.removed) (length t.update.added) (length t.update.modified) c.args.reads.now c.take_rows.new.reads c.take_rows.new.reads c.take_rows.new.reads (sym c.requires.exact.tick.one_width)
    c.take_rows.ensures.reads (omega arith) (omega arith)

pub returns-in_err-move_rows-clause-reads : goal.returns-in_err-move_rows-clause-reads
returns-in_err-move_rows-clause-reads g c =
    let t = c.args.input.now in
    bring_reads t.new.width t.old.width (length t.update.removed) (length t.update.added) (length t.update.modified) c.args.reads.now c.take_rows.new.reads c.take_rows.new.reads c.take_rows.new.reads (sym c.requires.exact.tick.one_width)
    c.take_rows.ensures.reads (omega arith) (omega arith)

pub returns-in_err-change_rows-clause-reads : goal.returns-in_err-change_rows-clause-reads
returns-in_err-change_rows-clause-reads g c =
    let t = c.args.input.now in
    bring_reads t.new.width t.old.width (length t.update.removed) (length t.update.added) (length t.update.modified) c.args.reads.now c.take_rows.new.reads c.change_rows.new.reads c.change_rows.new.reads (sym c.requires.exact.tick.one_width)
    c.take_rows.ensures.reads c.change_rows.ensures.reads (omega arith)

pub returns-clause-reads : goal.returns-clause-reads
returns-clause-reads g c =
    let t = c.args.input.now in
    bring_reads t.new.width t.old.width (length t.update.removed) (length t.update.added) (length t.update.modified) c.args.reads.now c.take_rows.new.reads c.change_rows.new.reads c.put_rows.new.reads (sym c.requires.exact.tick.one_width)
    c.take_rows.ensures.reads c.change_rows.ensures.reads c.put_rows.ensures.reads

pub returns-clause-firsts : goal.returns-clause-firsts
returns-clause-firsts g c =
    let t = c.args.input.now in
    let e = c.requires.exact in
    let by = c.args.self.now.by in
    let come = t.update.modified ++ t.update.added in
    let went = went_cells by t in
    let old = c.args.self.now.rows in
    let moved = c.move_rows.new.self in
    let mid = c.change_rows.new.self in
    let new = c.put_rows.new.self.rows in
    let before = c.args.touched.now in
    let gone : c.removed.result.now ≡ t.update.removed = c.removed.ensures.keys ∙ ap (λ (update : Update). update.removed) c.update.ensures in
    let first_by : moved.by ≡ by = c.in_ok-move_rows.ensures.made.by ∙ c.in_ok-take_rows.ensures.made.by in
    let same : mid.by ≡ by = c.in_ok-change_rows.ensures.made.by ∙ first_by in
    let part : IsPart moved.rows old = subst (IsPart moved.rows) c.in_ok-take_rows.ensures.rows c.in_ok-move_rows.ensures.names in
    let mids : groups_of moved.rows ≡ indexed by None (rows_in t []) =
    c.in_ok-move_rows.ensures.keeps.rows ∙ ap₂ (λ (by ks : List ℕ). indexed by None (shifting t.update.shifted (removing ks t.old.rows))) first_by gone ∙ ap (indexed by None) (rows_before by t e) in
    let changed = map (key_at by t.new.rows) t.update.modified in
    let added = map (key_at by t.new.rows) t.update.added in
    let so_far : AreNoted old.names mid.rows.names before c.change_rows.new.touched (staying_cells by t) changed =
    noted_again old.names moved.rows.names mid.rows.names before before c.change_rows.new.touched (staying_cells by t) [] changed (moved_noted by t e old moved.rows part mids before)
    (subst (λ (stays : List (List ℤ)). AreNoted moved.rows.names mid.rows.names before c.change_rows.new.touched stays changed) (sym (append-nil (staying_cells by t)))
    (subst (λ (by : List ℕ). AreNoted moved.rows.names mid.rows.names before c.change_rows.new.touched (staying_cells by t) (map (key_at by t.new.rows) t.update.modified)) first_by c.in_ok-change_rows.ensures.noted)) in
    let was : (number : ℕ) → is_among number before ≡ is_named (went ++ come_cells by t) old.names number =
    λ number. c.requires.touched.named number ∙ sym (named_same (went ++ come_cells by t) (touched_cells by t) (touched_come by t e) old.names number) in
    let r = c.put_rows.result in
    let numbers = c.put_rows.new.touched in
    let Made = IsMade mid c.put_rows.new.self in
    let Kept = Keeps c.put_rows.new.self t.new.rows in
    let Noted = AreNoted mid.rows.names new.names c.change_rows.new.touched numbers [] (map (key_at mid.by t.new.rows) t.update.added) in
    both_ok r (Made × Kept) (IsPart mid.rows new × Noted) _
    (λ kept noted first.
    let news : new.members ≡ members by None t.new.rows = ap (λ (grouped : Grouped). grouped.members) kept.1.rows ∙ ap (λ (by : List ℕ). members by None t.new.rows) (kept.0.by ∙ same) in
    let all : AreNoted old.names new.names before numbers (staying_cells by t) (come_cells by t) =
    subst (AreNoted old.names new.names before numbers (staying_cells by t)) (sym (map-append (key_at by t.new.rows) t.update.modified t.update.added))
    (noted_part old.names mid.rows new before c.change_rows.new.touched numbers (staying_cells by t) changed added noted.0 so_far
    (subst (λ (by : List ℕ). AreNoted mid.rows.names new.names c.change_rows.new.touched numbers [] (map (key_at by t.new.rows) t.update.added)) same noted.1)) in
    touched_now by t.new e.tick.new_table come went old new before numbers news was all first ∙ touched_come by t e (starts new.members first))
    (both_ok r Made Kept (Made × Kept) (λ made keeps. (made, keeps)) c.put_rows.ensures.made c.put_rows.ensures.keeps)
    (both_ok r (IsPart mid.rows new) Noted (IsPart mid.rows new × Noted) (λ part noted. (part, noted)) c.put_rows.ensures.names c.put_rows.ensures.noted)
