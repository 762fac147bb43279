use Rattle.std.proofs.Common.{◌≡◌, refl, ap, ap₂, sym, ◌∙◌, subst, rules, arith, true, List, ℕ, ℤ, ◌+◌, ◌*◌, ◌<◌, ◌≤◌, get_or, length, length-append, map, take, None, Some, [], ◌∷◌, ◌++◌, pos, option_map}
use Rattle.std.{specs.List.{AllByRecursion, AllZip}, proofs.lemmas.List.{map-append, take_all, with_items_is}, proofs.lemmas.List.Elements.length_all_zip, proofs.Math.Nat.mul-le-mul_left}
use Rattle.key_lists.{specs.Keys.is_among, proofs.Every.every_weaker, proofs.Parts.every_at}
use Rattle.row_groups.specs.Members.{Grouped, IsNumberOf, IsRegrouped, Member, Names, left_members, member_of, member_under, with_member}
use Rattle.row_set.proofs.Yielded.{yielded_all, yielded_next}
use Rattle.shown_rows.proofs.Restricted.{modified_even}
use Rattle.table_update.specs.Kept.{old_modified}
use Rattle.tick_model.{specs.declared.plan.Agg.Agg, specs.declared.table.PlainRow.PlainRow, specs.Agg.key_cells, specs.Tables.{cells_at, keys}, specs.Updates.{Update, removing}}
use Rattle.tick_table.{specs.Exact.IsExact, specs.Ticking.Ticking}
use Rattle.agg_by.{specs.declared.running.Accumulator.Accumulator, specs.Answers.{HasRow, with_row, without_row}, specs.Kept.{AnswerAll, Answers, indexed}, specs.Steps.{key_at, staying_cells}, specs.Touched.AreNoted, proofs.Changing.{IsNumberIn, back, both_numbered, comes, goes, has_numbers, key_in_turn, known, later_numbers, moved_noted, news, next_pair, placed, rows_after, rows_before, rows_in, rows_until, switched, was_held, whole_after}, proofs.KeptSteps.{all_changed, with_agg, without_agg}, proofs.Noted.{noted_again, noted_one}}
use Rattle.agg_by.proofs.kept.AggIndex.change_rows.Goals as goal

-- a turn
turn : (t : Ticking) (keys yielded left : List ℕ) (key place : ℕ) → keys ≡ t.update.modified → keys ≡ yielded ++ key ∷ left → place ≡ length yielded → (place < length t.update.modified) × (get_or t.update.modified place 0 ≡ key)
turn t keys yielded left key place are next count = key_in_turn t.update.modified yielded left key place (sym are ∙ next) count

-- its row's group has a number
in_numbers : (by : List ℕ) (t : Ticking) → IsExact t → (names : Names) (numbers : List ℕ) → AllZip (IsNumberIn by t names) (old_modified (keys t.old.rows) t.update) numbers → (place : ℕ) → place < length t.update.modified → place < length numbers
in_numbers by t e names numbers all place within = omega (arith, within, modified_even t e, length_all_zip (IsNumberIn by t names) (old_modified (keys t.old.rows) t.update) numbers all)

-- and its reads are among those of all
within_reads : (width old place count first so_far second third : ℕ) → old ≡ width → place < count → so_far ≤ first + 2 * width * place → second ≡ so_far + old → third ≡ second + width → third ≤ first + 2 * width * count
within_reads width old place count first so_far second third same within h k l = omega (arith, same, h, k, l, mul-le-mul_left (2 * width) more)
  where
    more : place + 1 ≤ count
    more = omega (arith, within)

pub loop-key-init : goal.loop-key-init
loop-key-init g c =
    let t = c.args.input.now in
    let self = c.args.self.now in record {
      by = refl;
      aggs = refl;
      place = refl;
      rows = c.requires.keeps.rows ∙ ap (indexed self.by None) (rows_before self.by t c.requires.exact);
      running = subst (λ (rows : List PlainRow). AnswerAll self.by self.rows.names self.aggs rows self.running.items) (rows_before self.by t c.requires.exact) c.requires.keeps.running;
      names = c.requires.names;
      numbers = has_numbers self.by t c.requires.exact self.rows.names c.args.numbers.now c.requires.numbers;
      noted = moved_noted self.by t c.requires.exact self.rows self.rows c.requires.names (c.requires.keeps.rows ∙ ap (indexed self.by None) (rows_before self.by t c.requires.exact)) c.args.touched.now;
      reads = omega arith;
    }

pub bounds-numbers-place : goal.bounds-numbers-place
bounds-numbers-place g c =
    in_numbers c.args.self.now.by c.args.input.now c.requires.exact c.args.self.now.rows.names c.args.numbers.now c.requires.numbers c.loop-key.place
    (turn c.args.input.now c.modified-key-items.result.now c.loop-key.yielded c.next.new.self c.in-Some.key c.loop-key.place (c.modified-key-items.ensures.keys ∙ ap (λ (update : Update). update.modified) c.update-update.ensures)
    (yielded_next c.loop-key.yielded c.into_iter-key-iterator.ensures.into_iter_gives c.loop-key.yielded_by c.in-Some.ensures.steps) c.loop-key.invariant.place).0

pub offset_bounds-numbers-place : goal.offset_bounds-numbers-place
offset_bounds-numbers-place g c =
    let within : c.loop-key.place < length c.args.numbers.now =
    in_numbers c.args.self.now.by c.args.input.now c.requires.exact c.args.self.now.rows.names c.args.numbers.now c.requires.numbers c.loop-key.place
    (turn c.args.input.now c.modified-key-items.result.now c.loop-key.yielded c.next.new.self c.in-Some.key c.loop-key.place (c.modified-key-items.ensures.keys ∙ ap (λ (update : Update). update.modified) c.update-update.ensures)
    (yielded_next c.loop-key.yielded c.into_iter-key-iterator.ensures.into_iter_gives c.loop-key.yielded_by c.in-Some.ensures.steps) c.loop-key.invariant.place).0 in
    search rules

pub overflow_add-place : goal.overflow_add-place
overflow_add-place g c =
    let within : c.loop-key.place < length c.args.numbers.now =
    in_numbers c.args.self.now.by c.args.input.now c.requires.exact c.args.self.now.rows.names c.args.numbers.now c.requires.numbers c.loop-key.place
    (turn c.args.input.now c.modified-key-items.result.now c.loop-key.yielded c.next.new.self c.in-Some.key c.loop-key.place (c.modified-key-items.ensures.keys ∙ ap (λ (update : Update). update.modified) c.update-update.ensures)
    (yielded_next c.loop-key.yielded c.into_iter-key-iterator.ensures.into_iter_gives c.loop-key.yielded_by c.in-Some.ensures.steps) c.loop-key.invariant.place).0 in
    omega (arith, within)

pub returns-in_err-take_all-clause-reads : goal.returns-in_err-take_all-clause-reads
returns-in_err-take_all-clause-reads g c =
    let t = c.args.input.now in
    let within =
    (turn t c.modified-key-items.result.now c.loop-key.yielded c.next.new.self c.in-Some.key c.loop-key.place (c.modified-key-items.ensures.keys ∙ ap (λ (update : Update). update.modified) c.update-update.ensures)
    (yielded_next c.loop-key.yielded c.into_iter-key-iterator.ensures.into_iter_gives c.loop-key.yielded_by c.in-Some.ensures.steps) c.loop-key.invariant.place).0 in
    within_reads t.new.width t.old.width c.loop-key.place (length t.update.modified) c.args.reads.now c.loop-key.reads c.modified_row_before-before.new.reads c.modified_row-row.new.reads (sym c.requires.exact.tick.one_width) within c.loop-key.invariant.reads c.modified_row_before-before.ensures.reads c.modified_row-row.ensures.reads

pub returns-in_err-number-clause-reads : goal.returns-in_err-number-clause-reads
returns-in_err-number-clause-reads g c =
    let t = c.args.input.now in
    let within =
    (turn t c.modified-key-items.result.now c.loop-key.yielded c.next.new.self c.in-Some.key c.loop-key.place (c.modified-key-items.ensures.keys ∙ ap (λ (update : Update). update.modified) c.update-update.ensures)
    (yielded_next c.loop-key.yielded c.into_iter-key-iterator.ensures.into_iter_gives c.loop-key.yielded_by c.in-Some.ensures.steps) c.loop-key.invariant.place).0 in
    within_reads t.new.width t.old.width c.loop-key.place (length t.update.modified) c.args.reads.now c.loop-key.reads c.modified_row_before-before.new.reads c.modified_row-row.new.reads (sym c.requires.exact.tick.one_width) within c.loop-key.invariant.reads c.modified_row_before-before.ensures.reads c.modified_row-row.ensures.reads

pub returns-in_err-put_all-clause-reads : goal.returns-in_err-put_all-clause-reads
returns-in_err-put_all-clause-reads g c =
    let t = c.args.input.now in
    let within =
    (turn t c.modified-key-items.result.now c.loop-key.yielded c.next.new.self c.in-Some.key c.loop-key.place (c.modified-key-items.ensures.keys ∙ ap (λ (update : Update). update.modified) c.update-update.ensures)
    (yielded_next c.loop-key.yielded c.into_iter-key-iterator.ensures.into_iter_gives c.loop-key.yielded_by c.in-Some.ensures.steps) c.loop-key.invariant.place).0 in
    within_reads t.new.width t.old.width c.loop-key.place (length t.update.modified) c.args.reads.now c.loop-key.reads c.modified_row_before-before.new.reads c.modified_row-row.new.reads (sym c.requires.exact.tick.one_width) within c.loop-key.invariant.reads c.modified_row_before-before.ensures.reads c.modified_row-row.ensures.reads

pub modified_row_before-before-requires : goal.modified_row_before-before-requires
modified_row_before-before-requires g c =
    (turn c.args.input.now c.modified-key-items.result.now c.loop-key.yielded c.next.new.self c.in-Some.key c.loop-key.place (c.modified-key-items.ensures.keys ∙ ap (λ (update : Update). update.modified) c.update-update.ensures)
    (yielded_next c.loop-key.yielded c.into_iter-key-iterator.ensures.into_iter_gives c.loop-key.yielded_by c.in-Some.ensures.steps) c.loop-key.invariant.place).0

pub modified_row-row-requires : goal.modified_row-row-requires
modified_row-row-requires g c =
    (turn c.args.input.now c.modified-key-items.result.now c.loop-key.yielded c.next.new.self c.in-Some.key c.loop-key.place (c.modified-key-items.ensures.keys ∙ ap (λ (update : Update). update.modified) c.update-update.ensures)
    (yielded_next c.loop-key.yielded c.into_iter-key-iterator.ensures.into_iter_gives c.loop-key.yielded_by c.in-Some.ensures.steps) c.loop-key.invariant.place).0

pub take_all-requires : goal.take_all-requires
take_all-requires g c =
    let t = c.args.input.now in
    let e = c.requires.exact in
    let by = c.args.self.now.by in
    let i = c.loop-key.invariant in
    let place = c.loop-key.place in
    let is = turn t c.modified-key-items.result.now c.loop-key.yielded c.next.new.self c.in-Some.key place (c.modified-key-items.ensures.keys ∙ ap (λ (update : Update). update.modified) c.update-update.ensures)
    (yielded_next c.loop-key.yielded c.into_iter-key-iterator.ensures.into_iter_gives c.loop-key.yielded_by c.in-Some.ensures.steps) i.place in
    let next = next_pair by t e place is.0 in
    let number = get_or c.args.numbers.now place 0 in
    let names = c.loop-key.self.rows.names in
    let items = c.loop-key.self.running.items in
    let was = cells_at next.0.old t.old.rows in
    let is_was : IsNumberOf number (key_at by t.old.rows next.0.old) names = subst (λ (key : ℕ). IsNumberIn by t names key number) (sym next.1.old) (i.numbers place (omega arith) is.0) in
    let all : c.deref_mut.result.now ≡ items = search rules in
    let row : c.modified_row_before-before.result.now ≡ was = c.modified_row_before-before.ensures.cells ∙ ap (λ key. cells_at key t.old.rows) (sym next.1.old) in
    subst (λ (row : List ℤ). AllByRecursion (HasRow number row) c.deref_mut.result.now) (sym row)
    (subst (AllByRecursion (HasRow number was)) (sym all)
    (every_weaker (Answers by names (rows_until by t e place)) (HasRow number was) items (λ x. was_held by t e place next.0 next.1 names number x is_was) i.running.1))

pub change_group-requires : goal.change_group-requires
change_group-requires g c =
    let t = c.args.input.now in
    let e = c.requires.exact in
    let by = c.args.self.now.by in
    let i = c.loop-key.invariant in
    let place = c.loop-key.place in
    let is = turn t c.modified-key-items.result.now c.loop-key.yielded c.next.new.self c.in-Some.key place (c.modified-key-items.ensures.keys ∙ ap (λ (update : Update). update.modified) c.update-update.ensures)
    (yielded_next c.loop-key.yielded c.into_iter-key-iterator.ensures.into_iter_gives c.loop-key.yielded_by c.in-Some.ensures.steps) i.place in
    let next = next_pair by t e place is.0 in
    let number = get_or c.args.numbers.now place 0 in
    let groups = c.loop-key.self.rows in
    let own : next.0.new ≡ c.in-Some.key = next.1.new ∙ is.1 in
    let before : key_cells c.loop-key.self.by c.modified_row_before-before.result.now ≡ key_at by t.old.rows next.0.old =
    ap₂ (λ (by : List ℕ) (row : List ℤ). key_cells by row) i.by (c.modified_row_before-before.ensures.cells ∙ ap (λ key. cells_at key t.old.rows) (sym next.1.old)) in
    let row : key_cells c.loop-key.self.by c.modified_row-row.result.now ≡ key_at by t.new.rows next.0.new =
    ap₂ (λ (by : List ℕ) (row : List ℤ). key_cells by row) i.by (c.modified_row-row.ensures.cells ∙ ap (λ key. cells_at key t.new.rows) (sym next.1.new)) in
    let few : place ≤ place = omega arith in record {
      width = ap (λ (grouped : Grouped). grouped.width) i.rows ∙ ap length (sym i.by);
      names = i.names;
      known = subst (λ (key : ℕ). option_map (λ (member : Member). member.cells) (member_under key groups.members) ≡ Some (key_cells c.loop-key.self.by c.modified_row_before-before.result.now)) own (known by t e place next.0 next.1 groups place few i.rows ∙ ap Some (sym before));
      at = subst (λ (key : ℕ). option_map (λ (member : Member). member.at) (member_under key groups.members) ≡ Some (pos 0)) own (placed by t e place next.0 next.1 groups place few i.rows);
      back = ap₂ (λ (key : ℕ) (cells : List ℤ). with_member (member_of key cells (pos 0)) (left_members (key ∷ []) groups.members)) (sym own) before ∙ back by t e place next.0 next.1 groups place few i.rows;
      number = subst (λ (cells : List ℤ). IsNumberOf number cells groups.names) (sym before) (subst (λ (key : ℕ). IsNumberIn by t groups.names key number) (sym next.1.old) (i.numbers place (omega arith) is.0));
      noted = i.noted.kept number
          (every_at (λ (number : ℕ). is_among number c.args.touched.now ≡ true) c.args.numbers.now place 0
          (omega (arith, is.0, modified_even t e, length_all_zip (IsNumberIn by t c.args.self.now.rows.names) (old_modified (keys t.old.rows) t.update) c.args.numbers.now c.requires.numbers)) c.requires.noted);
      stay = λ stays. before ∙ next.1.stays (sym c.requires.stay ∙ stays) ∙ sym row;
    }

pub loop-key-preserved : goal.loop-key-preserved
loop-key-preserved g c =
    let t = c.args.input.now in
    let e = c.requires.exact in
    let self = c.args.self.now in
    let by = self.by in
    let i = c.loop-key.invariant in
    let place = c.loop-key.place in
    let key = c.in-Some.key in
    let is = turn t c.modified-key-items.result.now c.loop-key.yielded c.next.new.self key place (c.modified-key-items.ensures.keys ∙ ap (λ (update : Update). update.modified) c.update-update.ensures)
    (yielded_next c.loop-key.yielded c.into_iter-key-iterator.ensures.into_iter_gives c.loop-key.yielded_by c.in-Some.ensures.steps) i.place in
    let next = next_pair by t e place is.0 in
    let pair = next.0 in
    let n = next.1 in
    let own : pair.new ≡ key = n.new ∙ is.1 in
    let number = get_or c.args.numbers.now place 0 in
    let old = c.loop-key.self.rows in
    let new = c.change_group.new.self.rows in
    let is_was : IsNumberOf number (key_at by t.old.rows pair.old) old.names = subst (λ (key : ℕ). IsNumberIn by t old.names key number) (sym n.old) (i.numbers place (omega arith) is.0) in
    let others = c.in_ok-number.number in
    let was = cells_at pair.old t.old.rows in
    let now = cells_at pair.new t.new.rows in
    let running = c.loop-key.self.running in
    let taken = c.take_all.new.all in
    let put = c.put_all.new.all in
    let f = without_row number was in
    let h = with_row others now in
    let before : c.modified_row_before-before.result.now ≡ was = c.modified_row_before-before.ensures.cells ∙ ap (λ key. cells_at key t.old.rows) (sym n.old) in
    let row : c.modified_row-row.result.now ≡ now = c.modified_row-row.ensures.cells ∙ ap (λ key. cells_at key t.new.rows) (sym n.new) in
    let cells : key_cells c.loop-key.self.by c.modified_row-row.result.now ≡ key_at by t.new.rows pair.new = ap₂ (λ (by : List ℕ) (row : List ℤ). key_cells by row) i.by row in
    let r : IsRegrouped (member_of pair.new (key_at by t.new.rows pair.new) (pos 0)) old new =
    subst (λ (member : Member). IsRegrouped member old new) (ap₂ (λ (key : ℕ) (cells : List ℤ). member_of key cells (pos 0)) (sym own) cells) c.in_ok-number.ensures.regrouped in
    let named : IsNumberOf others (key_at by t.new.rows pair.new) new.names = subst (λ (cells : List ℤ). IsNumberOf others cells new.names) cells c.in_ok-number.ensures.number in
    let held : c.deref_mut.result.now ≡ running.items = search rules in
    let lost : taken ≡ map f running.items = c.in_ok-take_all.ensures ∙ ap₂ (λ (row : List ℤ) (old : List Accumulator). map (without_row number row) old) before held in
    let long : length taken ≡ running.len = c.take_all.auto.all ∙ ap length held ∙ sym running.ok.0 in
    let left : c.deref_mut-in-loop-key.result.now ≡ taken = c.deref_mut-in-loop-key.ensures.value ∙ ap (λ run. run.items) c.in_ok-number.ensures.running ∙ with_items_is running taken long in
    let gained : put ≡ map h (map f running.items) = c.in_ok-put_all.ensures ∙ ap₂ (λ (row : List ℤ) (old : List Accumulator). map (with_row others row) old) row (left ∙ lost) in
    let longer : length put ≡ c.change_group.new.self.running.len = c.put_all.auto.all ∙ ap length left ∙ long ∙ sym (ap (λ run. run.len) c.in_ok-number.ensures.running) in
    let middle = removing (pair.new ∷ []) (rows_until by t e (place + 1)) in
    let gone = all_changed f (Answers by old.names (rows_until by t e place)) (Answers by old.names middle) self.aggs running.items (without_agg number was) (λ x. goes by t e place pair n old.names number x is_was) i.running in record {
      by = c.in_ok-number.ensures.made.by ∙ i.by;
      aggs = c.in_ok-number.ensures.made.aggs ∙ i.aggs;
      place = omega (arith, i.place, length-append c.loop-key.yielded (key ∷ []));
      rows = news by t e place pair n old new r i.rows;
      running =
          subst (AnswerAll by new.names self.aggs (rows_until by t e (place + 1))) (sym (with_items_is c.change_group.new.self.running put longer ∙ gained))
          (all_changed h (Answers by new.names middle) (Answers by new.names (rows_until by t e (place + 1))) self.aggs (map f running.items) (with_agg others now) (λ x. comes by t e place pair n new.names others x named)
          (gone.0, every_weaker (Answers by old.names middle) (Answers by new.names middle) (map f running.items) (switched by t e place pair n old new r i.rows) gone.1));
      names = whole_after by t e place pair n old new r i.rows others named;
      numbers = later_numbers by t e place pair n old new r i.rows c.args.numbers.now i.numbers;
      noted =
          subst (λ (cells : List (List ℤ)). AreNoted self.rows.names new.names c.args.touched.now c.change_group.new.touched (staying_cells by t) cells)
          (sym (ap (map (key_at by t.new.rows)) n.more ∙ map-append (key_at by t.new.rows) (take place t.update.modified) (pair.new ∷ [])))
          (noted_again self.rows.names old.names new.names c.args.touched.now c.loop-key.touched c.change_group.new.touched (staying_cells by t) (map (key_at by t.new.rows) (take place t.update.modified)) (key_at by t.new.rows pair.new ∷ []) i.noted
          (subst (λ (numbers : List ℕ). AreNoted old.names new.names c.loop-key.touched numbers (staying_cells by t ++ map (key_at by t.new.rows) (take place t.update.modified)) (key_at by t.new.rows pair.new ∷ [])) (sym c.in_ok-number.ensures.touched)
          (noted_one old.names new.names c.loop-key.touched (staying_cells by t ++ map (key_at by t.new.rows) (take place t.update.modified)) (key_at by t.new.rows pair.new) others (both_numbered by t e place pair n old new r i.rows) r.more.alone named)));
      reads = omega (arith, i.reads, c.modified_row_before-before.ensures.reads, c.modified_row-row.ensures.reads, e.tick.one_width);
    }

pub returns : goal.returns
returns g c =
    let t = c.args.input.now in
    let e = c.requires.exact in
    let self = c.args.self.now in
    let by = self.by in
    let new = c.loop-key.self in
    let i = c.loop-key.invariant in
    let place = c.loop-key.place in
    let left = removing t.update.added t.new.rows in
    let yielded : c.loop-key.yielded ≡ t.update.modified =
    yielded_all c.loop-key.yielded c.into_iter-key-iterator.ensures.into_iter_gives c.loop-key.yielded_by c.in-None.ensures.steps.0 ∙ c.modified-key-items.ensures.keys ∙ ap (λ (update : Update). update.modified) c.update-update.ensures in
    let all : take place t.update.modified ≡ t.update.modified = take_all place t.update.modified (omega (arith, i.place, ap length yielded)) in
    let whole : rows_in t (take place t.update.modified) ≡ left = ap (rows_in t) all ∙ rows_after by t e in record {
      made = record { by = i.by; aggs = i.aggs };
      keeps = record {
        rows = i.rows ∙ ap (indexed by None) whole ∙ ap (λ (by : List ℕ). indexed by None left) (sym i.by);
        running = subst (λ (by : List ℕ). AnswerAll by new.rows.names new.aggs left new.running.items) (sym i.by)
            (subst (λ (aggs : List Agg). AnswerAll by new.rows.names aggs left new.running.items) (sym i.aggs) (subst (λ (rows : List PlainRow). AnswerAll by new.rows.names self.aggs rows new.running.items) whole i.running));
      };
      names = i.names;
      noted = subst (λ (ks : List ℕ). AreNoted self.rows.names new.rows.names c.args.touched.now c.loop-key.touched (staying_cells by t) (map (key_at by t.new.rows) ks)) all i.noted;
      reads = omega (arith, i.reads, i.place, ap length yielded, ap (λ (n : ℕ). 2 * t.new.width * n) (i.place ∙ ap length yielded));
    }
