use Rattle.std.proofs.Common.{◌≡◌, ap, sym, ◌∙◌, subst, arith, true, List, ◌≤◌, filter, length}
use Rattle.std.specs.List.{AllByRecursion}
use Rattle.key_lists.specs.Keys.{is_among}
use Rattle.lookup_join.{specs.declared.keyed.Side.TheVariants.Right, specs.Keyed.rekeys, proofs.Stepping.{brought_reads, modified_before, modified_count, modified_now, noted_reads}}
use Rattle.tick_laws.proofs.ResultCells.{length-filter_most}
use Rattle.tick_model.{specs.declared.update.KeyPair.KeyPair, specs.Tables.keys}
use Rattle.lookup_join.proofs.lookup.bring_right_on.Goals as goal

pub rekeyed-requires-clause-before : goal.rekeyed-requires-clause-before
rekeyed-requires-clause-before g c = subst (AllByRecursion (λ (pair : KeyPair). is_among pair.old (keys c.args.right.now.old.rows) ≡ true)) (sym c.in_ok-modified.ensures) (modified_before c.args.right.now c.requires.exact)

pub rekeyed-requires-clause-now : goal.rekeyed-requires-clause-now
rekeyed-requires-clause-now g c = subst (AllByRecursion (λ (pair : KeyPair). is_among pair.new (keys c.args.right.now.new.rows) ≡ true)) (sym c.in_ok-modified.ensures) (modified_now c.args.right.now c.requires.exact)

pub bring_on-requires-clause-rekeyed : goal.bring_on-requires-clause-rekeyed
bring_on-requires-clause-rekeyed g c = c.in_ok-changed.ensures.pairs ∙ ap (filter (rekeys Right c.args.on.now c.args.pick c.args.right.now.old c.args.right.now.new)) c.in_ok-modified.ensures

pub returns-in_err-notes-clause-reads : goal.returns-in_err-notes-clause-reads
returns-in_err-notes-clause-reads g c =
    let right = c.args.right.now in
    let pairs = c.in_ok-modified.modified in
    let count : length pairs ≡ length right.update.modified = ap length c.in_ok-modified.ensures ∙ modified_count right c.requires.exact in
    noted_reads right.new.width c.args.reads.now c.touched_places.new.reads c.touched_places.new.reads (length right.update.modified) (length pairs) (length right.update.added) c.touched_places.ensures.reads (omega arith) count

pub returns-in_err-changed-clause-reads : goal.returns-in_err-changed-clause-reads
returns-in_err-changed-clause-reads g c =
    let right = c.args.right.now in
    let pairs = c.in_ok-modified.modified in
    let count : length pairs ≡ length right.update.modified = ap length c.in_ok-modified.ensures ∙ modified_count right c.requires.exact in
    noted_reads right.new.width c.args.reads.now c.touched_places.new.reads c.rekeyed.new.reads (length right.update.modified) (length pairs) (length right.update.added) c.touched_places.ensures.reads
    (brought_reads right.new.width c.touched_places.new.reads c.rekeyed.new.reads c.rekeyed.new.reads (length right.update.modified) (length pairs) 0 (length right.update.added) c.rekeyed.ensures.reads (omega arith) (omega arith) count)
    count

pub returns-in_err-bring_on-clause-reads : goal.returns-in_err-bring_on-clause-reads
returns-in_err-bring_on-clause-reads g c =
    let right = c.args.right.now in
    let pairs = c.in_ok-modified.modified in
    let count : length pairs ≡ length right.update.modified = ap length c.in_ok-modified.ensures ∙ modified_count right c.requires.exact in
    let few : length c.in_ok-changed.changed ≤ length pairs = subst (λ (changed : List KeyPair). length changed ≤ length pairs) (sym c.in_ok-changed.ensures.pairs) (length-filter_most (rekeys Right c.args.on.now c.args.pick right.old right.new) pairs) in
    noted_reads right.new.width c.args.reads.now c.touched_places.new.reads c.bring_on.new.reads (length right.update.modified) (length pairs) (length right.update.added) c.touched_places.ensures.reads
    (brought_reads right.new.width c.touched_places.new.reads c.rekeyed.new.reads c.bring_on.new.reads (length right.update.modified) (length pairs) (length c.in_ok-changed.changed) (length right.update.added) c.rekeyed.ensures.reads c.bring_on.ensures.reads few count)
    count

pub returns-clause-reads : goal.returns-clause-reads
returns-clause-reads g c =
    let right = c.args.right.now in
    let pairs = c.in_ok-modified.modified in
    let count : length pairs ≡ length right.update.modified = ap length c.in_ok-modified.ensures ∙ modified_count right c.requires.exact in
    let few : length c.in_ok-changed.changed ≤ length pairs = subst (λ (changed : List KeyPair). length changed ≤ length pairs) (sym c.in_ok-changed.ensures.pairs) (length-filter_most (rekeys Right c.args.on.now c.args.pick right.old right.new) pairs) in
    noted_reads right.new.width c.args.reads.now c.touched_places.new.reads c.bring_on.new.reads (length right.update.modified) (length pairs) (length right.update.added) c.touched_places.ensures.reads
    (brought_reads right.new.width c.touched_places.new.reads c.rekeyed.new.reads c.bring_on.new.reads (length right.update.modified) (length pairs) (length c.in_ok-changed.changed) (length right.update.added) c.rekeyed.ensures.reads c.bring_on.ensures.reads few count)
    count
