use Rattle.std.proofs.Common.{◌≡◌, refl, ap, ap₂, sym, ◌∙◌, subst, rules, arith, false, true, List, [], ◌∷◌, ◌++◌, ℕ, ℤ, ◌+◌, ◌*◌, ◌≤◌, length, length-append, map, append-nil, append_assoc, pos}
use Rattle.std.{specs.List.AllByRecursion, proofs.lemmas.List.{length-map, map-append, with_items_is}}
use Rattle.key_lists.{specs.Keys.{is_among, IsRising}, proofs.Among.among_below, proofs.Every.{every_weaker, filter_all}}
use Rattle.row_changes.proofs.Comparing.{reads_next, reads_within}
use Rattle.row_groups.specs.Members.{Grouped, IsNumberOf, groups_of, member_of, with_member}
use Rattle.row_set.{proofs.Windows.rising_back, proofs.Yielded.{next_has, next_small, yielded_all, yielded_next}}
use Rattle.tick_model.{specs.Agg.key_cells, specs.Tables.{cell, cells_at, keys}, specs.Updates.{Update, removing}}
use Rattle.agg_by.{specs.declared.running.Accumulator.Accumulator, specs.Answers.with_row, specs.Kept.{AnswerAll, Answers, Keeps}, specs.Steps.key_at, specs.Touched.AreNoted, proofs.Changing.key_in_turn, proofs.KeptSteps.{all_changed, gains, indexed_gains, indexed_room, same_answers, with_agg}, proofs.Made.same_named, proofs.Noted.{noted_none, noted_one, noted_part, part_again}, proofs.Touching.added_there}
use Rattle.agg_by.proofs.kept.AggIndex.put_rows.Goals as goal

apart : (come yielded left : List ℕ) (key : ℕ) → IsRising come → come ≡ yielded ++ key ∷ left → is_among key left ≡ false
apart come yielded left key rising next = among_below key left (rising_back yielded (key ∷ left) (subst IsRising next rising)).0

pub loop-key-init : goal.loop-key-init
loop-key-init g c = record {
  by = refl;
  aggs = refl;
  place = refl;
  keeps = λ left all. subst (λ (keys : List ℕ). Keeps c.args.self.now (removing keys c.args.input.now.new.rows)) all c.requires.keeps;
  names = c.requires.names;
  noted = noted_none c.args.self.now.rows.names c.args.self.now.rows.names c.args.touched.now [] tt c.requires.names.alone;
  reads = omega arith;
}

pub added_row-row-requires : goal.added_row-row-requires
added_row-row-requires g c =
    let is = c.added-added.ensures.keys ∙ ap (λ (update : Update). update.added) c.update.ensures in
    (key_in_turn c.args.input.now.update.added c.loop-key.yielded c.next.new.self c.in-Some.key c.loop-key.place
    (sym is ∙ yielded_next c.loop-key.yielded c.into_iter-key-iterator.ensures.into_iter_gives c.loop-key.yielded_by c.in-Some.ensures.steps) c.loop-key.invariant.place).0

pub overflow_add-place : goal.overflow_add-place
overflow_add-place g c =
    let within = (key_in_turn c.added-added.result.now c.loop-key.yielded c.next.new.self c.in-Some.key c.loop-key.place
    (yielded_next c.loop-key.yielded c.into_iter-key-iterator.ensures.into_iter_gives c.loop-key.yielded_by c.in-Some.ensures.steps) c.loop-key.invariant.place).0 in
    omega (arith, within, c.len.ensures.count)

pub add_near-requires : goal.add_near-requires
add_near-requires g c =
    let t = c.args.input.now in
    let rows = t.new.rows in
    let yielded = c.loop-key.yielded in
    let gives = c.into_iter-key-iterator.ensures.into_iter_gives in
    let steps = c.in-Some.ensures.steps in
    let key = c.in-Some.key in
    let left = c.next.new.self in
    let is = c.added-added.ensures.keys ∙ ap (λ (update : Update). update.added) c.update.ensures in
    let next : c.added-added.result.now ≡ yielded ++ key ∷ left = yielded_next yielded gives c.loop-key.yielded_by steps in
    let own : is_among key (keys rows) ≡ true = next_has yielded gives c.loop-key.yielded_by steps (λ key. is_among key (keys rows) ≡ true) (subst (AllByRecursion (λ key. is_among key (keys rows) ≡ true)) (sym is) (added_there t c.requires.exact)) in
    let keeps = c.loop-key.invariant.keeps (key ∷ left) (sym is ∙ next) in record {
      small = next_small yielded gives c.loop-key.yielded_by steps;
      absent = indexed_room c.loop-key.self.by rows c.requires.exact.tick.new_table.rising key left own (apart c.added-added.result.now yielded left key gives.1.rising next) (groups_of c.loop-key.self.rows) keeps.rows;
      width =
          ap length (c.as_slice.ensures.value ∙ c.in_ok-read_key_cells.ensures) ∙ length-map c.loop-key.self.by (cell c.added_row-row.result.now)
          ∙ sym (ap (λ (grouped : Grouped). grouped.width) keeps.rows);
    }

pub loop-key-preserved : goal.loop-key-preserved
loop-key-preserved g c =
    let t = c.args.input.now in
    let rows = t.new.rows in
    let by = c.loop-key.self.by in
    let aggs = c.loop-key.self.aggs in
    let kept = c.loop-key.self.rows in
    let more = c.add_near.new.self in
    let number = c.in_ok-number.number in
    let yielded = c.loop-key.yielded in
    let gives = c.into_iter-key-iterator.ensures.into_iter_gives in
    let steps = c.in-Some.ensures.steps in
    let key = c.in-Some.key in
    let rising = c.requires.exact.tick.new_table.rising in
    let is = c.added-added.ensures.keys ∙ ap (λ (update : Update). update.added) c.update.ensures in
    let turn = key_in_turn t.update.added yielded c.next.new.self key c.loop-key.place (sym is ∙ yielded_next yielded gives c.loop-key.yielded_by steps) c.loop-key.invariant.place in
    let own : is_among key (keys rows) ≡ true = next_has yielded gives c.loop-key.yielded_by steps (λ key. is_among key (keys rows) ≡ true) (subst (AllByRecursion (λ key. is_among key (keys rows) ≡ true)) (sym is) (added_there t c.requires.exact)) in
    let row : c.added_row-row.result.now ≡ cells_at key rows = c.added_row-row.ensures.cells ∙ ap (λ key. cells_at key rows) turn.1 in
    let cells : c.as_slice.result.now ≡ key_at by rows key = c.as_slice.ensures.value ∙ c.in_ok-read_key_cells.ensures ∙ ap (key_cells by) row in
    let named : IsNumberOf number (key_at by rows key) more.names = subst (λ (cells : List ℤ). IsNumberOf number cells more.names) cells c.in_ok-number.ensures.number in
    let items = c.loop-key.self.running.items in
    let all : c.deref_mut.result.now ≡ items = search rules in
    let new = c.put_all.new.all in
    let f = with_row number (cells_at key rows) in
    let gained : new ≡ map f items = c.in_ok-put_all.ensures ∙ ap₂ (λ (row : List ℤ) (old : List Accumulator). map (with_row number row) old) row all in
    let long : length new ≡ c.loop-key.self.running.len = c.put_all.auto.all ∙ ap length all ∙ sym c.loop-key.self.running.ok.0 in
    let noted = key_at c.args.self.now.by rows in record {
      by = c.loop-key.invariant.by;
      aggs = c.loop-key.invariant.aggs;
      place = omega (arith, c.loop-key.invariant.place, length-append yielded (key ∷ []));
      keeps = λ left those.
          let next : t.update.added ≡ yielded ++ key ∷ left = those ∙ append_assoc yielded (key ∷ []) left in
          let new_to = apart t.update.added yielded left key (subst IsRising is gives.1.rising) next in
          let before = removing (key ∷ left) rows in
          let keeps = c.loop-key.invariant.keeps (key ∷ left) next in
          let widened : AllByRecursion (Answers by more.names before) items =
          every_weaker (Answers by kept.names before) (Answers by more.names before) items
          (same_answers by kept.names more.names before before (λ column. same_named by column before kept more c.add_near.ensures.names (ap (λ (grouped : Grouped). grouped.members) keeps.rows))) keeps.running.1 in record {
            rows =
                c.in_ok-number.ensures.members ∙ ap (λ (cells : List ℤ). let more : Grouped = record (groups_of kept) { members = with_member (member_of key cells (pos 0)) kept.members } in more) cells
                ∙ indexed_gains by rows rising key left own new_to (groups_of kept) keeps.rows;
            running =
                subst (AnswerAll by more.names aggs (removing left rows)) (sym (with_items_is c.loop-key.self.running new long ∙ gained))
                (all_changed f (Answers by more.names before) (Answers by more.names (removing left rows)) aggs items (with_agg number (cells_at key rows)) (gains by rows rising key left own new_to more.names number named) (keeps.running.0, widened));
          };
      names = part_again c.args.self.now.rows kept more c.loop-key.invariant.names c.add_near.ensures.names;
      noted =
          subst (λ (cells : List (List ℤ)). AreNoted c.args.self.now.rows.names more.names c.args.touched.now c.note.new.self [] cells) (sym (map-append noted yielded (key ∷ [])))
          (noted_part c.args.self.now.rows.names kept more c.args.touched.now c.loop-key.touched c.note.new.self [] (map noted yielded) (noted key ∷ []) c.add_near.ensures.names c.loop-key.invariant.noted
          (subst (λ (numbers : List ℕ). AreNoted kept.names more.names c.loop-key.touched numbers [] (noted key ∷ [])) (sym c.in_ok-note.ensures)
          (noted_one kept.names more.names c.loop-key.touched [] (noted key) number tt c.add_near.ensures.names.alone (subst (λ (by : List ℕ). IsNumberOf number (key_at by rows key) more.names) c.loop-key.invariant.by named))));
      reads = reads_next t.new.width c.args.reads.now c.loop-key.reads c.added_row-row.new.reads yielded key c.loop-key.invariant.reads (omega (arith, c.added_row-row.ensures.reads));
    }

pub returns-in_err-read_key_cells-clause-reads : goal.returns-in_err-read_key_cells-clause-reads
returns-in_err-read_key_cells-clause-reads g c =
    reads_within c.args.input.now.new.width c.args.reads.now c.loop-key.reads c.added_row-row.new.reads c.loop-key.yielded c.in-Some.key _ _
    (sym (c.added-added.ensures.keys ∙ ap (λ (update : Update). update.added) c.update.ensures) ∙ yielded_next c.loop-key.yielded c.into_iter-key-iterator.ensures.into_iter_gives c.loop-key.yielded_by c.in-Some.ensures.steps) c.loop-key.invariant.reads
    (omega (arith, c.added_row-row.ensures.reads))

pub returns-in_err-number-clause-reads : goal.returns-in_err-number-clause-reads
returns-in_err-number-clause-reads g c =
    reads_within c.args.input.now.new.width c.args.reads.now c.loop-key.reads c.added_row-row.new.reads c.loop-key.yielded c.in-Some.key _ _
    (sym (c.added-added.ensures.keys ∙ ap (λ (update : Update). update.added) c.update.ensures) ∙ yielded_next c.loop-key.yielded c.into_iter-key-iterator.ensures.into_iter_gives c.loop-key.yielded_by c.in-Some.ensures.steps) c.loop-key.invariant.reads
    (omega (arith, c.added_row-row.ensures.reads))

pub returns-in_err-note-clause-reads : goal.returns-in_err-note-clause-reads
returns-in_err-note-clause-reads g c =
    reads_within c.args.input.now.new.width c.args.reads.now c.loop-key.reads c.added_row-row.new.reads c.loop-key.yielded c.in-Some.key _ _
    (sym (c.added-added.ensures.keys ∙ ap (λ (update : Update). update.added) c.update.ensures) ∙ yielded_next c.loop-key.yielded c.into_iter-key-iterator.ensures.into_iter_gives c.loop-key.yielded_by c.in-Some.ensures.steps) c.loop-key.invariant.reads
    (omega (arith, c.added_row-row.ensures.reads))

pub returns-in_err-put_all-clause-reads : goal.returns-in_err-put_all-clause-reads
returns-in_err-put_all-clause-reads g c =
    reads_within c.args.input.now.new.width c.args.reads.now c.loop-key.reads c.added_row-row.new.reads c.loop-key.yielded c.in-Some.key _ _
    (sym (c.added-added.ensures.keys ∙ ap (λ (update : Update). update.added) c.update.ensures) ∙ yielded_next c.loop-key.yielded c.into_iter-key-iterator.ensures.into_iter_gives c.loop-key.yielded_by c.in-Some.ensures.steps) c.loop-key.invariant.reads
    (omega (arith, c.added_row-row.ensures.reads))

pub returns : goal.returns
returns g c =
    let t = c.args.input.now in
    let all : c.loop-key.yielded ≡ t.update.added =
    yielded_all c.loop-key.yielded c.into_iter-key-iterator.ensures.into_iter_gives c.loop-key.yielded_by c.in-None.ensures.steps.0 ∙ c.added-added.ensures.keys ∙ ap (λ (update : Update). update.added) c.update.ensures in record {
      made = record { by = c.loop-key.invariant.by; aggs = c.loop-key.invariant.aggs };
      keeps = subst (Keeps c.loop-key.self) (filter_all t.new.rows) (c.loop-key.invariant.keeps [] (sym (append-nil c.loop-key.yielded ∙ all)));
      names = c.loop-key.invariant.names;
      noted = subst (λ (keys : List ℕ). AreNoted c.args.self.now.rows.names c.loop-key.self.rows.names c.args.touched.now c.loop-key.touched [] (map (key_at c.args.self.now.by t.new.rows) keys)) all c.loop-key.invariant.noted;
      reads = subst (λ (keys : List ℕ). c.loop-key.reads ≤ c.args.reads.now + t.new.width * length keys) all c.loop-key.invariant.reads;
    }
