use Rattle.std.proofs.Common.{◌≡◌, ◌∙◌, ap, arith, length, refl, subst, sym, true, [], List, ℕ}
use Rattle.std.{specs.List.AllByRecursion, proofs.lemmas.Result.IfOk-weaker}
use Rattle.key_lists.specs.Keys.{is_among, without}
use Rattle.row_changes.specs.Parts.{AreCompared}
use Rattle.tick_model.{specs.Changes.change_of, specs.Sort.{sort_pairs, sort_table}, specs.Tables.keys, specs.Updates.between}
use Rattle.tick_table.specs.Exact.{tick_of}
use Rattle.sort_op.{specs.declared.entry.Entry.Entry, specs.Entries.keys_in, specs.Places.{AreUnder, keys_at}, specs.Ranks.listed, specs.Sorted.entries_of, specs.Sorter.sorted, proofs.StepParts.{added_found, apart_in, compared_found, few_coming_in, few_compared_in, few_in, here_in, reads_fewer, removed_found, staying_is}, proofs.Stepped.{compared_new, compared_old, leaving_within}}
use Rattle.sort_op.proofs.operator.edited.Goals as goal

pub before_edits-requires-clause-leaving : goal.before_edits-requires-clause-leaving
before_edits-requires-clause-leaving g c =
    let t = c.args.input.now in
    here_in c.args.order.now.by t c.requires.exact t.old (listed c.args.order.now) c.args.edits.leaving c.requires.stands (subst (AllByRecursion (λ key. is_among key (keys t.old.rows) ≡ true)) (sym c.requires.leaving) (leaving_within c.args.order.now.by t c.requires.exact))

pub before_edits-requires-clause-compared : goal.before_edits-requires-clause-compared
before_edits-requires-clause-compared g c =
    let t = c.args.input.now in
    here_in c.args.order.now.by t c.requires.exact t.old (listed c.args.order.now) c.args.edits.compared_before c.requires.stands (subst (AllByRecursion (λ key. is_among key (keys t.old.rows) ≡ true)) (sym c.requires.compared_before) (compared_old c.args.order.now.by t c.requires.exact))

pub before_edits-requires-clause-apart : goal.before_edits-requires-clause-apart
before_edits-requires-clause-apart g c = apart_in c.args.order.now.by c.args.input.now c.requires.exact c.args.input.now.old (listed c.args.order.now) c.requires.stands c.requires.exact.tick.old_table.rising

pub before_edits-requires-clause-few : goal.before_edits-requires-clause-few
before_edits-requires-clause-few g c = few_in c.args.order.now.by c.args.input.now.old (listed c.args.order.now) c.requires.exact.tick.old_table c.requires.stands

pub bring_on-requires-clause-left : goal.bring_on-requires-clause-left
bring_on-requires-clause-left g c = subst (λ (some : List ℕ). AreUnder (keys_in (listed c.args.order.now)) some c.in_ok-before.before.places.crossing) c.requires.leaving c.in_ok-before.ensures.crossing

pub places_of-requires-clause-compared : goal.places_of-requires-clause-compared
places_of-requires-clause-compared g c =
    let t = c.args.input.now in
    here_in c.args.order.now.by t c.requires.exact t.new (listed c.bring_on.new.order) c.args.edits.compared_now c.in_ok-crossing.ensures.stands (subst (AllByRecursion (λ key. is_among key (keys t.new.rows) ≡ true)) (sym c.requires.compared_now) (compared_new c.args.order.now.by t c.requires.exact))

pub places_of-requires-clause-apart : goal.places_of-requires-clause-apart
places_of-requires-clause-apart g c = apart_in c.args.order.now.by c.args.input.now c.requires.exact c.args.input.now.new (listed c.bring_on.new.order) c.in_ok-crossing.ensures.stands c.requires.exact.tick.new_table.rising

pub places_of-requires-clause-few : goal.places_of-requires-clause-few
places_of-requires-clause-few g c = few_in c.args.order.now.by c.args.input.now.new (listed c.bring_on.new.order) c.requires.exact.tick.new_table c.in_ok-crossing.ensures.stands

pub sorted_change-requires-clause-order : goal.sorted_change-requires-clause-order
sorted_change-requires-clause-order g c = c.in_ok-crossing.ensures.stands ∙ ap (λ by. entries_of by c.args.input.now.new.rows) (sym c.bring_on.ensures.by)

pub sorted_change-requires-clause-removed : goal.sorted_change-requires-clause-removed
sorted_change-requires-clause-removed g c =
    removed_found c.args.order.now.by c.args.input.now c.requires.exact (listed c.args.order.now) c.in_ok-before.before.places.crossing c.requires.stands c.in_ok-before.ensures.crossing_set
    (subst (λ (some : List ℕ). AreUnder (keys_in (listed c.args.order.now)) some c.in_ok-before.before.places.crossing) c.requires.leaving c.in_ok-before.ensures.crossing)
    ∙ ap (λ by. (between (sorted by (tick_of c.args.input.now))).removed) (sym c.bring_on.ensures.by)

pub sorted_change-requires-clause-added : goal.sorted_change-requires-clause-added
sorted_change-requires-clause-added g c =
    c.in_ok-now.ensures.crossing
    ∙ added_found c.args.order.now.by c.args.input.now c.requires.exact (listed c.bring_on.new.order) c.in_ok-crossing.crossing c.in_ok-crossing.ensures.stands c.in_ok-crossing.ensures.set
    (subst (λ (some : List ℕ). AreUnder (keys_in (listed c.bring_on.new.order)) some c.in_ok-crossing.crossing) c.requires.coming c.in_ok-crossing.ensures.places)
    ∙ ap (λ by. (between (sorted by (tick_of c.args.input.now))).added) (sym c.bring_on.ensures.by)

pub sorted_change-requires-clause-staying_before : goal.sorted_change-requires-clause-staying_before
sorted_change-requires-clause-staying_before g c =
    staying_is c.args.order.now.by c.args.input.now.old (listed c.args.order.now) c.in_ok-before.before.places.crossing c.in_ok-before.before.places.staying c.requires.stands c.in_ok-before.ensures.staying
    ∙ ap (λ by. without c.in_ok-before.before.places.crossing (keys (sort_table by c.args.input.now.old).rows)) (sym c.bring_on.ensures.by)

pub sorted_change-requires-clause-staying_now : goal.sorted_change-requires-clause-staying_now
sorted_change-requires-clause-staying_now g c =
    staying_is c.args.order.now.by c.args.input.now.new (listed c.bring_on.new.order) c.in_ok-now.now.crossing c.in_ok-now.now.staying c.in_ok-crossing.ensures.stands c.in_ok-now.ensures.staying
    ∙ ap (λ by. without c.in_ok-now.now.crossing (keys (sort_table by c.args.input.now.new).rows)) (sym c.bring_on.ensures.by)

pub sorted_change-requires-clause-compared : goal.sorted_change-requires-clause-compared
sorted_change-requires-clause-compared g c =
    let t = c.args.input.now in
    subst (λ by. AreCompared (sort_table by t.old) (sort_table by t.new) (sort_pairs by (tick_of t)) c.in_ok-before.before.places.compared c.in_ok-now.now.compared) (sym c.bring_on.ensures.by)
    (compared_found c.args.order.now.by t c.requires.exact (listed c.args.order.now) (listed c.bring_on.new.order) c.in_ok-before.before.places.compared c.in_ok-now.now.compared
    c.requires.stands c.in_ok-crossing.ensures.stands c.in_ok-before.ensures.compared_set c.in_ok-now.ensures.compared_set
    (subst (λ (some : List ℕ). AreUnder (keys_in (listed c.args.order.now)) some c.in_ok-before.before.places.compared) c.requires.compared_before c.in_ok-before.ensures.compared)
    (subst (λ (some : List ℕ). AreUnder (keys_in (listed c.bring_on.new.order)) some c.in_ok-now.now.compared) c.requires.compared_now c.in_ok-now.ensures.compared))

pub sorted_change-requires-clause-touched_keys : goal.sorted_change-requires-clause-touched_keys
sorted_change-requires-clause-touched_keys g c =
    c.in_ok-before.ensures.touched_keys
    ∙ ap (λ (entries : List Entry). keys_at entries c.in_ok-before.before.touched) (c.requires.stands ∙ ap (λ by. entries_of by c.args.input.now.old.rows) (sym c.bring_on.ensures.by))

pub returns-clause-change : goal.returns-clause-change
returns-clause-change g c =
    let tick = tick_of c.args.input.now in
    IfOk-weaker c.sorted_change.result (λ change. change ≡ change_of (sorted c.bring_on.new.order.by tick)) (λ change. change ≡ change_of (sorted c.args.order.now.by tick))
    (λ change is. is ∙ ap (λ by. change_of (sorted by tick)) c.bring_on.ensures.by) c.sorted_change.ensures.change

pub returns-in_err-crossing-clause-reads : goal.returns-in_err-crossing-clause-reads
returns-in_err-crossing-clause-reads g c =
    let t = c.args.input.now in
    let by = c.args.order.now.by in
    let own = between (sorted by (tick_of t)) in
    reads_fewer t.new.width c.args.reads.now c.bring_on.new.reads c.bring_on.new.reads (length t.update.added) (length t.update.modified) c.args.edits.coming [] own.added own
    refl (few_coming_in by t c.requires.exact c.args.edits.coming c.requires.coming) (omega arith) c.bring_on.ensures.reads (omega arith)

pub returns-in_err-now-clause-reads : goal.returns-in_err-now-clause-reads
returns-in_err-now-clause-reads g c =
    let t = c.args.input.now in
    let by = c.args.order.now.by in
    let own = between (sorted by (tick_of t)) in
    reads_fewer t.new.width c.args.reads.now c.bring_on.new.reads c.bring_on.new.reads (length t.update.added) (length t.update.modified) c.args.edits.coming [] own.added own
    refl (few_coming_in by t c.requires.exact c.args.edits.coming c.requires.coming) (omega arith) c.bring_on.ensures.reads (omega arith)

pub returns-clause-reads : goal.returns-clause-reads
returns-clause-reads g c =
    let t = c.args.input.now in
    let by = c.args.order.now.by in
    let come =
    c.in_ok-now.ensures.crossing
    ∙ added_found by t c.requires.exact (listed c.bring_on.new.order) c.in_ok-crossing.crossing c.in_ok-crossing.ensures.stands c.in_ok-crossing.ensures.set
    (subst (λ (some : List ℕ). AreUnder (keys_in (listed c.bring_on.new.order)) some c.in_ok-crossing.crossing) c.requires.coming c.in_ok-crossing.ensures.places) in
    reads_fewer t.new.width c.args.reads.now c.bring_on.new.reads c.sorted_change.new.reads (length t.update.added) (length t.update.modified) c.args.edits.coming c.in_ok-now.now.compared c.in_ok-now.now.crossing (between (sorted by (tick_of t)))
    come (few_coming_in by t c.requires.exact c.args.edits.coming c.requires.coming) (few_compared_in by t c.requires.exact c.args.edits.compared_now c.in_ok-now.now.compared c.requires.compared_now c.in_ok-now.ensures.no_more) c.bring_on.ensures.reads c.sorted_change.ensures.reads
