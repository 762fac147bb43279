use Rattle.std.proofs.Common.{◌≡◌, ap, sym, ◌∙◌, ◌||◌, ◌++◌, ◌∷◌, [], subst, arith, ◌+◌, ◌<◌, ◌≤◌, List, ℕ, append-nil, length, map, take}
use Rattle.std.{specs.List.list_any, proofs.lemmas.List.take_all, proofs.Math.Nat.mul-le-mul_left}
use Rattle.tick_model.specs.{Agg.key_cells as cells_by, Updates.Update}
use Rattle.agg_by.{specs.Steps.{key_at, touched_cells}, specs.Touched.HaveNoted, proofs.Changing.{cells_more, touched_all, touched_kept, went_cells, went_noted}, proofs.Noted.{noted_next, noted_nothing, noted_same}}
use Rattle.agg_by.proofs.touched.TouchedGroups.note_before.Goals as goal

pub returns-then-is_empty-clause-noted : goal.returns-then-is_empty-clause-noted
returns-then-is_empty-clause-noted g c =
    let t = c.args.input.now in
    let by = c.args.kept.now.by in
    let rows = c.args.kept.now.rows in
    let numbers = c.note_all-2.new.self in
    let added = map (key_at by t.new.rows) t.update.added in
    let modified = map (key_at by t.new.rows) t.update.modified in
    let nothing = noted_nothing rows numbers (c.is_empty.ensures.unnamed.0 c.if-is_empty.true) (c.is_empty.ensures.empty c.if-is_empty.true) in
    noted_same rows [] numbers ((went_cells by t ++ added) ++ modified)
    (noted_next rows [] numbers (went_cells by t ++ added)
    (noted_next rows [] numbers (went_cells by t)
    (went_noted by t c.requires.exact rows c.requires.rows c.args.leaving.now c.requires.leaving c.clear.new.self c.note_all.new.self numbers c.clear.ensures
    (λ test. c.in_ok-note_all.ensures test ∙ ap (λ some. list_any test c.clear.new.self || list_any test some) c.as_slice.ensures.value)
    (λ test. c.in_ok-note_all-2.ensures test ∙ ap (λ some. list_any test c.note_all.new.self || list_any test some) c.as_slice-2.ensures.value))
    numbers added (nothing added))
    numbers modified (nothing modified))
    (touched_cells by t) (touched_all by t c.requires.exact)

pub loop-place-init : goal.loop-place-init
loop-place-init g c =
    let t = c.args.input.now in
    let by = c.args.kept.now.by in
    let rows = c.args.kept.now.rows in record {
      noted = subst (HaveNoted rows [] c.note_all-2.new.self) (sym (append-nil (went_cells by t)))
          (went_noted by t c.requires.exact rows c.requires.rows c.args.leaving.now c.requires.leaving c.clear.new.self c.note_all.new.self c.note_all-2.new.self c.clear.ensures
          (λ test. c.in_ok-note_all.ensures test ∙ ap (λ some. list_any test c.clear.new.self || list_any test some) c.as_slice.ensures.value)
          (λ test. c.in_ok-note_all-2.ensures test ∙ ap (λ some. list_any test c.note_all.new.self || list_any test some) c.as_slice-2.ensures.value));
      reads = omega arith;
    }

pub returns-in_err-note_coming-clause-reads : goal.returns-in_err-note_coming-clause-reads
returns-in_err-note_coming-clause-reads g c =
    let t = c.args.input.now in
    let within : c.loop-place.place + 1 ≤ length t.update.added + length t.update.modified = omega (arith, c.loop-place-test.true, c.len-place-end.ensures.count, ap length (c.added.ensures.keys ∙ ap (λ (update : Update). update.added) c.update.ensures)) in
    omega (arith, c.loop-place.invariant.reads, c.added_row.ensures.reads, mul-le-mul_left t.new.width within)

pub loop-place-preserved : goal.loop-place-preserved
loop-place-preserved g c =
    let t = c.args.input.now in
    let by = c.args.kept.now.by in
    let rows = c.args.kept.now.rows in
    let place = c.loop-place.place in
    let own = cells_by by c.added_row.result.now in
    let within : place < length t.update.added = omega (arith, c.loop-place-test.true, c.len-place-end.ensures.count, ap length (c.added.ensures.keys ∙ ap (λ (update : Update). update.added) c.update.ensures)) in record {
      noted = subst (HaveNoted rows [] c.note_coming.new.self) (cells_more (went_cells by t) (key_at by t.new.rows) t.update.added place within own (ap (cells_by by) c.added_row.ensures.cells))
          (noted_next rows [] c.loop-place.self (went_cells by t ++ map (key_at by t.new.rows) (take place t.update.added)) c.loop-place.invariant.noted c.note_coming.new.self (own ∷ []) c.in_ok-note_coming.ensures);
      reads = omega (arith, c.loop-place.invariant.reads, c.added_row.ensures.reads);
    }

pub returns-then-leaving-clause-noted : goal.returns-then-leaving-clause-noted
returns-then-leaving-clause-noted g c =
    let t = c.args.input.now in
    let by = c.args.kept.now.by in
    let rows = c.args.kept.now.rows in
    let all : take c.loop-place.place t.update.added ≡ t.update.added =
    take_all c.loop-place.place t.update.added (omega (arith, c.loop-place-test.false, c.len-place-end.ensures.count, ap length (c.added.ensures.keys ∙ ap (λ (update : Update). update.added) c.update.ensures))) in
    noted_same rows [] c.loop-place.self (went_cells by t ++ map (key_at by t.new.rows) t.update.added)
    (subst (λ (ks : List ℕ). HaveNoted rows [] c.loop-place.self (went_cells by t ++ map (key_at by t.new.rows) ks)) all c.loop-place.invariant.noted)
    (touched_cells by t) (touched_kept by t c.requires.exact (sym c.requires.leaving.stay ∙ c.if-leaving.true))

pub returns-then-leaving-clause-reads : goal.returns-then-leaving-clause-reads
returns-then-leaving-clause-reads g c =
    let t = c.args.input.now in
    let within : c.loop-place.place ≤ length t.update.added + length t.update.modified = omega (arith, c.len-place-end.ensures.count, ap length (c.added.ensures.keys ∙ ap (λ (update : Update). update.added) c.update.ensures)) in
    omega (arith, c.loop-place.invariant.reads, mul-le-mul_left t.new.width within)

pub loop-other-init : goal.loop-other-init
loop-other-init g c =
    let t = c.args.input.now in
    let by = c.args.kept.now.by in
    let rows = c.args.kept.now.rows in
    let few : length t.update.added ≤ c.loop-place.place = omega (arith, c.loop-place-test.false, c.len-place-end.ensures.count, ap length (c.added.ensures.keys ∙ ap (λ (update : Update). update.added) c.update.ensures)) in
    let within : c.loop-place.place ≤ length t.update.added + 0 = omega (arith, c.len-place-end.ensures.count, ap length (c.added.ensures.keys ∙ ap (λ (update : Update). update.added) c.update.ensures)) in record {
      noted = subst (HaveNoted rows [] c.loop-place.self) (sym (append-nil (went_cells by t ++ map (key_at by t.new.rows) t.update.added)))
          (subst (λ (ks : List ℕ). HaveNoted rows [] c.loop-place.self (went_cells by t ++ map (key_at by t.new.rows) ks)) (take_all c.loop-place.place t.update.added few) c.loop-place.invariant.noted);
      reads = omega (arith, c.loop-place.invariant.reads, mul-le-mul_left t.new.width within);
    }

pub returns-in_err-note_coming-2-clause-reads : goal.returns-in_err-note_coming-2-clause-reads
returns-in_err-note_coming-2-clause-reads g c =
    let t = c.args.input.now in
    let within : length t.update.added + c.loop-other.other + 1 ≤ length t.update.added + length t.update.modified = omega (arith, c.loop-other-test.true, c.len-other-end.ensures.count, ap length (c.modified.ensures.keys ∙ ap (λ (update : Update). update.modified) c.update-2.ensures)) in
    omega (arith, c.loop-other.invariant.reads, c.modified_row.ensures.reads, mul-le-mul_left t.new.width within)

pub loop-other-preserved : goal.loop-other-preserved
loop-other-preserved g c =
    let t = c.args.input.now in
    let by = c.args.kept.now.by in
    let rows = c.args.kept.now.rows in
    let other = c.loop-other.other in
    let own = cells_by by c.modified_row.result.now in
    let some = went_cells by t ++ map (key_at by t.new.rows) t.update.added in
    let within : other < length t.update.modified = omega (arith, c.loop-other-test.true, c.len-other-end.ensures.count, ap length (c.modified.ensures.keys ∙ ap (λ (update : Update). update.modified) c.update-2.ensures)) in record {
      noted = subst (HaveNoted rows [] c.note_coming-in-loop-other.new.self) (cells_more some (key_at by t.new.rows) t.update.modified other within own (ap (cells_by by) c.modified_row.ensures.cells))
          (noted_next rows [] c.loop-other.self (some ++ map (key_at by t.new.rows) (take other t.update.modified)) c.loop-other.invariant.noted c.note_coming-in-loop-other.new.self (own ∷ []) c.in_ok-note_coming-2.ensures);
      reads = omega (arith, c.loop-other.invariant.reads, c.modified_row.ensures.reads);
    }

pub returns-clause-noted : goal.returns-clause-noted
returns-clause-noted g c =
    let t = c.args.input.now in
    let by = c.args.kept.now.by in
    let rows = c.args.kept.now.rows in
    let some = went_cells by t ++ map (key_at by t.new.rows) t.update.added in
    let all : take c.loop-other.other t.update.modified ≡ t.update.modified =
    take_all c.loop-other.other t.update.modified (omega (arith, c.loop-other-test.false, c.len-other-end.ensures.count, ap length (c.modified.ensures.keys ∙ ap (λ (update : Update). update.modified) c.update-2.ensures))) in
    noted_same rows [] c.loop-other.self (some ++ map (key_at by t.new.rows) t.update.modified)
    (subst (λ (ks : List ℕ). HaveNoted rows [] c.loop-other.self (some ++ map (key_at by t.new.rows) ks)) all c.loop-other.invariant.noted)
    (touched_cells by t) (touched_all by t c.requires.exact)

pub returns-clause-reads : goal.returns-clause-reads
returns-clause-reads g c =
    let t = c.args.input.now in
    let within : length t.update.added + c.loop-other.other ≤ length t.update.added + length t.update.modified = omega (arith, c.len-other-end.ensures.count, ap length (c.modified.ensures.keys ∙ ap (λ (update : Update). update.modified) c.update-2.ensures)) in
    omega (arith, c.loop-other.invariant.reads, mul-le-mul_left t.new.width within)
