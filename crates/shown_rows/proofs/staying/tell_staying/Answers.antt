use Rattle.std.proofs.Common.{◌≡◌, refl, ap, ap₂, sym, ◌∙◌, subst, arith, true, false, not, ◌&&◌, ◌||◌, ◌+◌, ◌*◌, ◌<◌, ◌≤◌, List, [], ◌∷◌, ◌++◌, filter, length, append-nil, length-append, ℤ}
use Rattle.std.{specs.List.{AllByRecursion, list_any}, specs.Ordering.int_eq, specs.Prelude.{nat_lt, slice_index}, proofs.Math.Nat.mul-le-mul_left, proofs.lemmas.List.length-map}
use Rattle.key_lists.specs.Keys.{is_among}
use Rattle.row_changes.proofs.Comparing.{cells_more}
use Rattle.table_update.specs.Kept.{old_modified}
use Rattle.tick_model.{specs.declared.update.KeyPair.KeyPair, specs.Tables.{cell, cells_at, keys}, specs.Updates.{Update, differs_in, new_keys}}
use Rattle.tick_table.proofs.ExactAgain.{exact_lawful}
use Rattle.shown_rows.{specs.Shown.stays, proofs.Restricted.{is_modified, kept, modified_new}, proofs.Telling.{column_told, keys_told, new_at, old_at, place_within}, proofs.Walks.{chosen_more, new_above, new_small, pairs_all, pairs_next}, proofs.staying.tell_staying.Goals.{then-stays+in_ok-put, else-stays}}
use Rattle.shown_rows.proofs.staying.tell_staying.Goals as goal

pub modified_before-requires : goal.modified_before-requires
modified_before-requires g c = rw (c.prev_rows.ensures.keys, c.update-update.ensures) (exact_lawful c.args.input.now c.requires.exact)

pub modified-pair-items-requires-clause-from : goal.modified-pair-items-requires-clause-from
modified-pair-items-requires-clause-from g c = rw (c.in_ok-from.ensures, c.prev_rows.ensures.keys, c.update-update.ensures) refl

pub modified_row_before-before-requires : goal.modified_row_before-before-requires
modified_row_before-before-requires g c =
    let next = sym c.modified-pair-items.ensures.pairs ∙ pairs_next c.loop-pair.yielded (c.into_iter-pair-iterator.ensures.into_iter_gives, c.modified-pair-items.ensures.old, c.modified-pair-items.ensures.new) c.loop-pair.yielded_by c.in-Some.ensures.steps in
    subst (λ n. n < length c.args.input.now.update.modified) (sym c.loop-pair.invariant.place) (place_within c.args.input.now c.requires.exact c.loop-pair.yielded c.in-Some.pair _ next)

pub modified_row-now-requires : goal.modified_row-now-requires
modified_row-now-requires g c = modified_row_before-before-requires g c.before.before

pub put-requires-clause-small : goal.put-requires-clause-small
put-requires-clause-small g c = new_small c.loop-pair.yielded (c.into_iter-pair-iterator.ensures.into_iter_gives, c.modified-pair-items.ensures.old, c.modified-pair-items.ensures.new) c.loop-pair.yielded_by c.in-Some.ensures.steps

pub put-requires-clause-above : goal.put-requires-clause-above
put-requires-clause-above g c =
    subst (AllByRecursion (λ other. other < c.in-Some.pair.new)) (sym c.loop-pair.invariant.modified)
    (new_above c.loop-pair.yielded (c.into_iter-pair-iterator.ensures.into_iter_gives, c.modified-pair-items.ensures.old, c.modified-pair-items.ensures.new) c.loop-pair.yielded_by c.in-Some.ensures.steps (stays c.args.shown.now c.args.leaving.now) (filter (stays c.args.shown.now c.args.leaving.now) c.loop-pair.yielded) refl)

pub returns-in_err-put-clause-reads : goal.returns-in_err-put-clause-reads
returns-in_err-put-clause-reads g c =
    let t = c.args.input.now in
    let next = sym c.modified-pair-items.ensures.pairs ∙ pairs_next c.loop-pair.yielded (c.into_iter-pair-iterator.ensures.into_iter_gives, c.modified-pair-items.ensures.old, c.modified-pair-items.ensures.new) c.loop-pair.yielded_by c.in-Some.ensures.steps in
    let within = place_within t c.requires.exact c.loop-pair.yielded c.in-Some.pair _ next in
    let few : 2 * (c.loop-pair.place + 1) ≤ 2 * length t.update.modified = omega (arith, within, c.loop-pair.invariant.place) in
    omega (arith, c.loop-pair.invariant.reads, c.modified_row_before-before.ensures.reads, c.modified_row-now.ensures.reads, c.requires.exact.tick.one_width, mul-le-mul_left t.new.width few)

pub overflow_add-place : goal.overflow_add-place
overflow_add-place g c =
    let t = c.args.input.now in
    let next = sym c.modified-pair-items.ensures.pairs ∙ pairs_next c.loop-pair.yielded (c.into_iter-pair-iterator.ensures.into_iter_gives, c.modified-pair-items.ensures.old, c.modified-pair-items.ensures.new) c.loop-pair.yielded_by c.in-Some.ensures.steps in
    let within = place_within t c.requires.exact c.loop-pair.yielded c.in-Some.pair _ next in
    let count : c.len.result ≡ length t.update.modified = c.len.ensures.count ∙ ap length (c.modified.ensures.keys ∙ ap (λ (update : Update). update.modified) c.update-update.ensures) in
    omega (arith, within, c.loop-pair.invariant.place, count, c.len.type_inv)

pub loop-pair-preserved : goal.loop-pair-preserved
loop-pair-preserved g c =
    let t = c.args.input.now in
    let e = c.requires.exact in
    let some = c.loop-pair.yielded in
    let pair = c.in-Some.pair in
    let test = stays c.args.shown.now c.args.leaving.now in
    let next = sym c.modified-pair-items.ensures.pairs ∙ pairs_next some (c.into_iter-pair-iterator.ensures.into_iter_gives, c.modified-pair-items.ensures.old, c.modified-pair-items.ensures.new) c.loop-pair.yielded_by c.in-Some.ensures.steps in
    let place : c.loop-pair.place + 1 ≡ length (some ++ pair ∷ []) = omega (arith, c.loop-pair.invariant.place, length-append some (pair ∷ [])) in
    elim c.if-stays.branch [
      | then-stays+in_ok-put w ↦
          let one : filter test (some ++ pair ∷ []) ≡ filter test some ++ pair ∷ [] = sym (chosen_more test some pair (filter test some) (filter test some ++ pair ∷ []) true refl (sym w.if-stays.true ∙ c.stays.ensures) refl) in
          let before : w.modified_row_before-before.result.now ≡ cells_at pair.old t.old.rows =
          w.modified_row_before-before.ensures.cells ∙ ap (λ n. cells_at (slice_index (old_modified (keys t.old.rows) t.update) n) t.old.rows) c.loop-pair.invariant.place ∙ ap (λ key. cells_at key t.old.rows) (old_at t e some pair _ next) in
          let now : w.modified_row-now.result.now ≡ cells_at pair.new t.new.rows =
          w.modified_row-now.ensures.cells ∙ ap (λ n. cells_at (slice_index t.update.modified n) t.new.rows) c.loop-pair.invariant.place ∙ ap (λ key. cells_at key t.new.rows) (new_at t e some pair _ next) in
          let put = w.in_ok-put.ensures in record {
            place = place;
            modified = rw w.told-is (keys_told (filter test some) (filter test (some ++ pair ∷ [])) pair c.loop-pair.told.modified w.put.new.self.modified one c.loop-pair.invariant.modified put.modified);
            columns = λ column.
                rw w.told-is (column_told (differs_in t.old t.new column) (filter test some) (filter test (some ++ pair ∷ [])) pair (nat_lt column t.new.width) (is_among column c.loop-pair.told.columns) (is_among column w.put.new.self.columns) one (c.loop-pair.invariant.columns column)
                (put.columns column
                ∙ ap (λ width. is_among column c.loop-pair.told.columns || (nat_lt column width && not (int_eq (cell w.modified_row_before-before.result.now column) (cell w.modified_row-now.result.now column)))) c.width-width.ensures.now
                ∙ ap₂ (λ (was is : List ℤ). is_among column c.loop-pair.told.columns || (nat_lt column t.new.width && not (int_eq (cell was column) (cell is column)))) before now));
            rising = rw w.told-is put.rising;
            cells =
                rw w.told-is (cells_more t.new c.args.cells.items c.loop-pair.told.cells.items w.put.new.self.cells.items c.loop-pair.told.modified (pair.new ∷ []) w.put.new.self.modified c.loop-pair.invariant.cells put.modified
                (put.cells ∙ ap (λ (row : List ℤ). c.loop-pair.told.cells.items ++ row) (now ∙ sym (append-nil (cells_at pair.new t.new.rows)))));
            reads = omega (arith, w.reads-is, c.loop-pair.invariant.reads, w.modified_row_before-before.ensures.reads, w.modified_row-now.ensures.reads, e.tick.one_width);
          }
      | else-stays w ↦
          let none : filter test some ≡ filter test (some ++ pair ∷ []) = chosen_more test some pair (filter test some) (filter test some) false refl (sym w.if-stays.false ∙ c.stays.ensures) (sym (append-nil (filter test some))) in record {
            place = place;
            modified = rw w.told-is (c.loop-pair.invariant.modified ∙ ap new_keys none);
            columns = λ column. rw w.told-is (c.loop-pair.invariant.columns column ∙ ap (λ pairs. nat_lt column t.new.width && list_any (differs_in t.old t.new column) pairs) none);
            rising = rw w.told-is c.loop-pair.invariant.rising;
            cells = rw w.told-is c.loop-pair.invariant.cells;
            reads = omega (arith, w.reads-is, c.loop-pair.invariant.reads);
          }
    ]

pub returns-clause-modified : goal.returns-clause-modified
returns-clause-modified g c =
    let all = pairs_all c.loop-pair.yielded (c.into_iter-pair-iterator.ensures.into_iter_gives, c.modified-pair-items.ensures.old, c.modified-pair-items.ensures.new) c.loop-pair.yielded_by c.in-None.ensures.steps.0 ∙ c.modified-pair-items.ensures.pairs in
    c.loop-pair.invariant.modified ∙ ap (λ pairs. new_keys (filter (stays c.args.shown.now c.args.leaving.now) pairs)) all

pub returns-clause-columns : goal.returns-clause-columns
returns-clause-columns g c column =
    let t = c.args.input.now in
    let all = pairs_all c.loop-pair.yielded (c.into_iter-pair-iterator.ensures.into_iter_gives, c.modified-pair-items.ensures.old, c.modified-pair-items.ensures.new) c.loop-pair.yielded_by c.in-None.ensures.steps.0 ∙ c.modified-pair-items.ensures.pairs in
    c.loop-pair.invariant.columns column ∙ ap (λ pairs. nat_lt column t.new.width && list_any (differs_in t.old t.new column) (filter (stays c.args.shown.now c.args.leaving.now) pairs)) all

pub returns-clause-reads : goal.returns-clause-reads
returns-clause-reads g c =
    let t = c.args.input.now in
    let all = pairs_all c.loop-pair.yielded (c.into_iter-pair-iterator.ensures.into_iter_gives, c.modified-pair-items.ensures.old, c.modified-pair-items.ensures.new) c.loop-pair.yielded_by c.in-None.ensures.steps.0 ∙ c.modified-pair-items.ensures.pairs in
    subst (λ n. c.loop-pair.reads ≤ c.args.reads.now + t.new.width * (2 * n)) (c.loop-pair.invariant.place ∙ ap length all ∙ sym (length-map (filter (is_modified t c.requires.exact) (kept t c.requires.exact)) (λ (pair : KeyPair). pair.new)) ∙ ap length (sym (modified_new t c.requires.exact))) c.loop-pair.invariant.reads
