use Rattle.std.proofs.Common.{◌≡◌, ap, ap₂, sym, ◌∙◌, subst, ◌+◌, ◌*◌, ◌≤◌, arith, ℕ, List, length, true}
use Rattle.std.{specs.List.AllByRecursion, proofs.Math.Nat.mul-le-mul_left}
use Rattle.key_lists.specs.Keys.{is_among, without}
use Rattle.lookup_join.{specs.Matched.{matched_table, matched_tick}, proofs.Compared.{are_compared, are_mapped, compared_few, compared_kept}}
use Rattle.row_changes.specs.Parts.{AreCompared}
use Rattle.row_set.specs.Sets.{united}
use Rattle.shift_data.specs.Moves.{IsLawful, unapplied}
use Rattle.shown_rows.proofs.Restricted.{exact_shift}
use Rattle.tick_model.{specs.Rules.landed, specs.Tables.keys, specs.Updates.{Update, between, pairs}}
use Rattle.tick_table.{proofs.Between.new_keys-pairs, specs.Exact.tick_of}
use Rattle.lookup_join.proofs.lookup.matched_change.Goals as goal

reads_within : (row first second last modified added out taken notes compared : ℕ) → second ≤ first + 2 * taken * notes → last ≤ second + row * (2 * compared + added) → compared ≤ modified + out → last ≤ first + 2 * taken * notes + row * (2 * (modified + out) + added)
reads_within row first second last modified added out taken notes compared h k m =
    omega (arith, h, k, mul-le-mul_left row more)
  where
    more : 2 * compared + added ≤ 2 * (modified + out) + added
    more = omega (arith, m)

pub keys_before-requires-clause-lawful : goal.keys_before-requires-clause-lawful
keys_before-requires-clause-lawful g c =
    let left = c.args.rows.now.left.now in
    subst (λ (update : Update). IsLawful update.shifted (without update.removed c.prev_rows.result.now)) (sym c.update-update.ensures)
    (subst (λ (ks : List ℕ). IsLawful left.update.shifted (without left.update.removed ks)) (sym c.prev_rows.ensures.keys) (exact_shift left c.requires.matched.left_exact))

pub keys_before-requires-clause-stay : goal.keys_before-requires-clause-stay
keys_before-requires-clause-stay g c =
    let rows = c.args.rows.now in
    let left = rows.left.now in
    let now_are : c.in_ok-now.now ≡ without left.update.added (united c.in_ok-set.set left.update.modified) =
    c.in_ok-now.ensures ∙ ap₂ without (c.added.ensures.keys ∙ ap (λ (update : Update). update.added) c.update-update.ensures) (c.in_ok-touched.ensures ∙ ap (united c.in_ok-set.set) (c.modified.ensures.keys ∙ ap (λ (update : Update). update.modified) c.update-update.ensures)) in
    subst (λ (update : Update). AllByRecursion (λ key. is_among key (landed update.shifted (without update.removed c.prev_rows.result.now)) ≡ true) c.in_ok-now.now) (sym c.update-update.ensures)
    (subst (λ (ks : List ℕ). AllByRecursion (λ key. is_among key (landed left.update.shifted (without left.update.removed ks)) ≡ true) c.in_ok-now.now) (sym c.prev_rows.ensures.keys)
    (subst (λ (ks : List ℕ). AllByRecursion (λ key. is_among key ks ≡ true) c.in_ok-now.now) (new_keys-pairs left.old left.update)
    (compared_kept rows.on.now rows.pick rows.take.now left c.requires.matched.left_exact rows.right.now c.requires.matched.right_exact c.in_ok-set.set c.in_ok-now.now c.in_ok-set.ensures.keys now_are)))

pub mapped-requires-clause-tables : goal.mapped-requires-clause-tables
mapped-requires-clause-tables g c =
    let rows = c.args.rows.now in
    are_mapped rows.on.now rows.pick rows.take.now rows.left.now c.requires.matched.left_exact rows.right.now c.requires.matched.right_exact

pub mapped-requires-clause-compared : goal.mapped-requires-clause-compared
mapped-requires-clause-compared g c =
    let rows = c.args.rows.now in
    let left = rows.left.now in
    let right = rows.right.now in
    let e = c.requires.matched.left_exact in
    let f = c.requires.matched.right_exact in
    let set_is = c.in_ok-set.ensures.keys in
    let now_are : c.in_ok-now.now ≡ without left.update.added (united c.in_ok-set.set left.update.modified) =
    c.in_ok-now.ensures ∙ ap₂ without (c.added.ensures.keys ∙ ap (λ (update : Update). update.added) c.update-update.ensures) (c.in_ok-touched.ensures ∙ ap (united c.in_ok-set.set) (c.modified.ensures.keys ∙ ap (λ (update : Update). update.modified) c.update-update.ensures)) in
    let before_are : c.in_ok-before.before ≡ unapplied left.update.shifted (without left.update.removed (keys left.old.rows)) c.in_ok-now.now =
    c.in_ok-before.ensures ∙ ap₂ (λ (update : Update) (ks : List ℕ). unapplied update.shifted (without update.removed ks) c.in_ok-now.now) c.update-update.ensures c.prev_rows.ensures.keys in
    subst (λ (before : List ℕ). AreCompared (matched_table rows.on.now rows.pick rows.take.now left.old right.old) (matched_table rows.on.now rows.pick rows.take.now left.new right.new) (pairs left.old left.update) before c.in_ok-now.now) (sym before_are)
    (are_compared rows.on.now rows.pick rows.take.now left e right f c.in_ok-set.set c.in_ok-now.now set_is now_are)

pub returns-in_err-set-clause-reads : goal.returns-in_err-set-clause-reads
returns-in_err-set-clause-reads g c =
    let rows = c.args.rows.now in
    let left = rows.left.now in
    let own = (between (matched_tick rows.on.now rows.pick rows.take.now (tick_of left) (tick_of rows.right.now))).modified in
    reads_within (left.new.width + length rows.take.now) c.args.reads.now c.turned_set.new.reads c.turned_set.new.reads (length left.update.modified) (length left.update.added) (length own) (length rows.take.now) (length rows.notes.now.notes) 0 c.turned_set.ensures.reads (omega arith) (omega arith)

pub returns-in_err-touched-clause-reads : goal.returns-in_err-touched-clause-reads
returns-in_err-touched-clause-reads g c =
    let rows = c.args.rows.now in
    let left = rows.left.now in
    let own = (between (matched_tick rows.on.now rows.pick rows.take.now (tick_of left) (tick_of rows.right.now))).modified in
    reads_within (left.new.width + length rows.take.now) c.args.reads.now c.turned_set.new.reads c.turned_set.new.reads (length left.update.modified) (length left.update.added) (length own) (length rows.take.now) (length rows.notes.now.notes) 0 c.turned_set.ensures.reads (omega arith) (omega arith)

pub returns-in_err-now-clause-reads : goal.returns-in_err-now-clause-reads
returns-in_err-now-clause-reads g c =
    let rows = c.args.rows.now in
    let left = rows.left.now in
    let own = (between (matched_tick rows.on.now rows.pick rows.take.now (tick_of left) (tick_of rows.right.now))).modified in
    reads_within (left.new.width + length rows.take.now) c.args.reads.now c.turned_set.new.reads c.turned_set.new.reads (length left.update.modified) (length left.update.added) (length own) (length rows.take.now) (length rows.notes.now.notes) 0 c.turned_set.ensures.reads (omega arith) (omega arith)

pub returns-in_err-before-clause-reads : goal.returns-in_err-before-clause-reads
returns-in_err-before-clause-reads g c =
    let rows = c.args.rows.now in
    let left = rows.left.now in
    let own = (between (matched_tick rows.on.now rows.pick rows.take.now (tick_of left) (tick_of rows.right.now))).modified in
    reads_within (left.new.width + length rows.take.now) c.args.reads.now c.turned_set.new.reads c.turned_set.new.reads (length left.update.modified) (length left.update.added) (length own) (length rows.take.now) (length rows.notes.now.notes) 0 c.turned_set.ensures.reads (omega arith) (omega arith)

pub returns-clause-reads : goal.returns-clause-reads
returns-clause-reads g c =
    let rows = c.args.rows.now in
    let left = rows.left.now in
    let right = rows.right.now in
    let e = c.requires.matched.left_exact in
    let f = c.requires.matched.right_exact in
    let set_is = c.in_ok-set.ensures.keys in
    let now_are : c.in_ok-now.now ≡ without left.update.added (united c.in_ok-set.set left.update.modified) =
    c.in_ok-now.ensures ∙ ap₂ without (c.added.ensures.keys ∙ ap (λ (update : Update). update.added) c.update-update.ensures) (c.in_ok-touched.ensures ∙ ap (united c.in_ok-set.set) (c.modified.ensures.keys ∙ ap (λ (update : Update). update.modified) c.update-update.ensures)) in
    let own = (between (matched_tick rows.on.now rows.pick rows.take.now (tick_of left) (tick_of right))).modified in
    reads_within (left.new.width + length rows.take.now) c.args.reads.now c.turned_set.new.reads c.mapped.new.reads (length left.update.modified) (length left.update.added) (length own) (length rows.take.now) (length rows.notes.now.notes) (length c.in_ok-now.now)
    c.turned_set.ensures.reads c.mapped.ensures.reads (compared_few rows.on.now rows.pick rows.take.now left e right f c.in_ok-set.set c.in_ok-now.now set_is now_are)
