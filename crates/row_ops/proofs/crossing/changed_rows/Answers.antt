use Rattle.std.proofs.Common.{◌≡◌, refl, sym, ◌∙◌, ap, ap₂, arith, [], ◌∷◌, ◌+◌, ◌*◌, ◌^◌, ◌<◌, ◌≤◌, ◌&&◌, length, length-append, not, subst}
use Rattle.std.{specs.List.AllByRecursion, specs.Prelude.slice_index, proofs.lemmas.List.length-map}
use Rattle.key_lists.{specs.Keys.is_among, proofs.Every.every, proofs.Rising.rising_count}
use Rattle.row_changes.proofs.Comparing.{reads_next, reads_within}
use Rattle.shown_rows.proofs.{Telling.{new_at, place_within}, Walks.{new_above, new_small, old_above, old_small, pairs_all, pairs_next}}
use Rattle.tick_model.{specs.declared.update.KeyPair.KeyPair, specs.Formulas.truth, specs.Tables.cells_at, specs.Updates.new_keys}
use Rattle.tick_table.proofs.ExactAgain.{exact_lawful}
use Rattle.row_ops.{proofs.Walked.{modified_count, named_next}, proofs.crossing.changed_rows.Goals.{then-before, else-before, then-not-before, else-not-before}}
use Rattle.row_ops.proofs.crossing.changed_rows.Goals as goal

pub modified_before-requires : goal.modified_before-requires
modified_before-requires g c = rw (c.prev_rows.ensures.keys, c.update.ensures) (exact_lawful c.args.input.now c.requires.exact)

pub modified-pair-items-requires-clause-from : goal.modified-pair-items-requires-clause-from
modified-pair-items-requires-clause-from g c = rw (c.in_ok-from.ensures, c.prev_rows.ensures.keys, c.update.ensures) refl

pub modified_row-requires : goal.modified_row-requires
modified_row-requires g c =
    let next = sym c.modified-pair-items.ensures.pairs ∙ pairs_next c.loop-pair.yielded (c.into_iter-pair-iterator.ensures.into_iter_gives, c.modified-pair-items.ensures.old, c.modified-pair-items.ensures.new) c.loop-pair.yielded_by c.in-Some.ensures.steps in
    subst (λ n. n < length c.args.input.now.update.modified) (sym c.loop-pair.invariant.place) (place_within c.args.input.now c.requires.exact c.loop-pair.yielded c.in-Some.pair _ next)

pub put_last_if-requires-clause-small : goal.put_last_if-requires-clause-small
put_last_if-requires-clause-small g c = old_small c.loop-pair.yielded (c.into_iter-pair-iterator.ensures.into_iter_gives, c.modified-pair-items.ensures.old, c.modified-pair-items.ensures.new) c.loop-pair.yielded_by c.in-Some.ensures.steps

pub put_last_if-requires-clause-last : goal.put_last_if-requires-clause-last
put_last_if-requires-clause-last g c =
    let t = c.args.input.now in
    subst (AllByRecursion (λ key. key < c.in-Some.pair.old)) (sym c.loop-pair.invariant.leaving)
    (old_above c.loop-pair.yielded (c.into_iter-pair-iterator.ensures.into_iter_gives, c.modified-pair-items.ensures.old, c.modified-pair-items.ensures.new) c.loop-pair.yielded_by c.in-Some.ensures.steps (λ pair. is_among pair.old c.args.shown.now && not (truth c.args.test.now (cells_at pair.new t.new.rows))) _ refl)

pub put_last_if-requires-in-loop-pair-clause-small : goal.put_last_if-requires-in-loop-pair-clause-small
put_last_if-requires-in-loop-pair-clause-small g c = new_small c.loop-pair.yielded (c.into_iter-pair-iterator.ensures.into_iter_gives, c.modified-pair-items.ensures.old, c.modified-pair-items.ensures.new) c.loop-pair.yielded_by c.in-Some.ensures.steps

pub put_last_if-requires-in-loop-pair-clause-last : goal.put_last_if-requires-in-loop-pair-clause-last
put_last_if-requires-in-loop-pair-clause-last g c =
    let t = c.args.input.now in
    subst (AllByRecursion (λ key. key < c.in-Some.pair.new)) (sym c.loop-pair.invariant.coming)
    (new_above c.loop-pair.yielded (c.into_iter-pair-iterator.ensures.into_iter_gives, c.modified-pair-items.ensures.old, c.modified-pair-items.ensures.new) c.loop-pair.yielded_by c.in-Some.ensures.steps (λ pair. not (is_among pair.old c.args.shown.now) && truth c.args.test.now (cells_at pair.new t.new.rows)) _ refl)

pub overflow_add-place : goal.overflow_add-place
overflow_add-place g c =
    let t = c.args.input.now in
    let pairs = c.modified-pair-items.result in
    let next = sym c.modified-pair-items.ensures.pairs ∙ pairs_next c.loop-pair.yielded (c.into_iter-pair-iterator.ensures.into_iter_gives, c.modified-pair-items.ensures.old, c.modified-pair-items.ensures.new) c.loop-pair.yielded_by c.in-Some.ensures.steps in
    let within = place_within t c.requires.exact c.loop-pair.yielded c.in-Some.pair _ next in
    let most = rising_count 0 (2 ^ 62) (new_keys pairs) (omega arith) (every (λ key. 0 ≤ key) (new_keys pairs) (λ key. omega arith)) c.modified-pair-items.ensures.new.small c.modified-pair-items.ensures.new.rising in
    omega (arith, c.loop-pair.invariant.place, within, most, length-map pairs (λ (pair : KeyPair). pair.new), modified_count t c.requires.exact pairs c.modified-pair-items.ensures.pairs)

pub loop-pair-preserved : goal.loop-pair-preserved
loop-pair-preserved g c =
    let t = c.args.input.now in
    let now = c.passes-now.result in
    let yielded = c.loop-pair.yielded in
    let pair = c.in-Some.pair in
    let next = sym c.modified-pair-items.ensures.pairs ∙ pairs_next yielded (c.into_iter-pair-iterator.ensures.into_iter_gives, c.modified-pair-items.ensures.old, c.modified-pair-items.ensures.new) c.loop-pair.yielded_by c.in-Some.ensures.steps in
    let at : slice_index t.update.modified c.loop-pair.place ≡ pair.new = ap (slice_index t.update.modified) c.loop-pair.invariant.place ∙ new_at t c.requires.exact yielded pair _ next in
    let passing : now ≡ truth c.args.test.now (cells_at pair.new t.new.rows) = c.passes-now.ensures ∙ ap (truth c.args.test.now) (c.modified_row.ensures.cells ∙ ap (λ key. cells_at key t.new.rows) at) in
    let goes : c.if-before.put_last_if ≡ (c.contains-before.result && not now) =
    elim c.if-before.branch [ then-before w ↦ w.put_last_if-is ∙ ap (λ b. b && not now) (sym w.if-before.true) | else-before w ↦ w.put_last_if-is ∙ w.if-before.false ∙ ap (λ b. b && not now) (sym w.if-before.false) ] in
    let comes : c.if-not-before.put_last_if ≡ (not c.contains-before.result && now) =
    elim c.if-not-before.branch [ then-not-before w ↦ w.put_last_if-is ∙ ap (λ b. not b && now) (sym w.if-not-before.true) | else-not-before w ↦ w.put_last_if-is ∙ ap not w.if-not-before.false ∙ ap (λ b. not b && now) (sym w.if-not-before.false) ] in record {
      place = ap (λ n. n + 1) c.loop-pair.invariant.place ∙ sym (length-append yielded (pair ∷ []));
      leaving =
          named_next (λ pair. pair.old) (λ pair. is_among pair.old c.args.shown.now && not (truth c.args.test.now (cells_at pair.new t.new.rows))) yielded pair c.loop-pair.leaving c.put_last_if.new.keys c.if-before.put_last_if
          c.loop-pair.invariant.leaving (goes ∙ ap₂ (λ a b. a && not b) c.contains-before.ensures.member passing) c.in_ok-put_last_if.ensures.keys;
      coming =
          named_next (λ pair. pair.new) (λ pair. not (is_among pair.old c.args.shown.now) && truth c.args.test.now (cells_at pair.new t.new.rows)) yielded pair c.loop-pair.coming c.put_last_if-in-loop-pair.new.keys c.if-not-before.put_last_if
          c.loop-pair.invariant.coming (comes ∙ ap₂ (λ a b. not a && b) c.contains-before.ensures.member passing) c.in_ok-put_last_if-2.ensures.keys;
      reads = reads_next t.new.width c.args.reads.now c.loop-pair.reads c.modified_row.new.reads yielded pair c.loop-pair.invariant.reads (omega (arith, c.modified_row.ensures.reads));
    }

pub returns-in_err-put_last_if-clause-reads : goal.returns-in_err-put_last_if-clause-reads
returns-in_err-put_last_if-clause-reads g c =
    let t = c.args.input.now in
    let next = sym c.modified-pair-items.ensures.pairs ∙ pairs_next c.loop-pair.yielded (c.into_iter-pair-iterator.ensures.into_iter_gives, c.modified-pair-items.ensures.old, c.modified-pair-items.ensures.new) c.loop-pair.yielded_by c.in-Some.ensures.steps in
    subst (λ n. c.modified_row.new.reads ≤ c.args.reads.now + t.new.width * n) (modified_count t c.requires.exact _ refl)
    (reads_within t.new.width c.args.reads.now c.loop-pair.reads c.modified_row.new.reads c.loop-pair.yielded c.in-Some.pair _ _ next c.loop-pair.invariant.reads (omega (arith, c.modified_row.ensures.reads)))

pub returns-in_err-put_last_if-2-clause-reads : goal.returns-in_err-put_last_if-2-clause-reads
returns-in_err-put_last_if-2-clause-reads g c =
    let t = c.args.input.now in
    let next = sym c.modified-pair-items.ensures.pairs ∙ pairs_next c.loop-pair.yielded (c.into_iter-pair-iterator.ensures.into_iter_gives, c.modified-pair-items.ensures.old, c.modified-pair-items.ensures.new) c.loop-pair.yielded_by c.in-Some.ensures.steps in
    subst (λ n. c.modified_row.new.reads ≤ c.args.reads.now + t.new.width * n) (modified_count t c.requires.exact _ refl)
    (reads_within t.new.width c.args.reads.now c.loop-pair.reads c.modified_row.new.reads c.loop-pair.yielded c.in-Some.pair _ _ next c.loop-pair.invariant.reads (omega (arith, c.modified_row.ensures.reads)))

pub returns-clause-leaving : goal.returns-clause-leaving
returns-clause-leaving g c = rw (pairs_all c.loop-pair.yielded (c.into_iter-pair-iterator.ensures.into_iter_gives, c.modified-pair-items.ensures.old, c.modified-pair-items.ensures.new) c.loop-pair.yielded_by c.in-None.ensures.steps.0 ∙ c.modified-pair-items.ensures.pairs) at c.loop-pair.invariant.leaving

pub returns-clause-coming : goal.returns-clause-coming
returns-clause-coming g c = rw (pairs_all c.loop-pair.yielded (c.into_iter-pair-iterator.ensures.into_iter_gives, c.modified-pair-items.ensures.old, c.modified-pair-items.ensures.new) c.loop-pair.yielded_by c.in-None.ensures.steps.0 ∙ c.modified-pair-items.ensures.pairs) at c.loop-pair.invariant.coming

pub returns-clause-reads : goal.returns-clause-reads
returns-clause-reads g c =
    let t = c.args.input.now in
    let all = pairs_all c.loop-pair.yielded (c.into_iter-pair-iterator.ensures.into_iter_gives, c.modified-pair-items.ensures.old, c.modified-pair-items.ensures.new) c.loop-pair.yielded_by c.in-None.ensures.steps.0 ∙ c.modified-pair-items.ensures.pairs in
    subst (λ n. c.loop-pair.reads ≤ c.args.reads.now + t.new.width * n) (modified_count t c.requires.exact c.loop-pair.yielded all) c.loop-pair.invariant.reads
