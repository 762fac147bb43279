use Rattle.std.proofs.Common.{◌≡◌, ap, sym, ◌∙◌, subst, arith, true, List, ℕ, ◌≤◌, filter, length}
use Rattle.std.{specs.List.AllByRecursion, specs.Prelude.IfOk}
use Rattle.key_lists.specs.Keys.{is_among}
use Rattle.lookup_join.{specs.declared.keyed.Side.TheVariants.Left, specs.Keyed.rekeys, proofs.Stepping.{brought_reads, modified_before, modified_count, modified_now}}
use Rattle.tick_laws.proofs.ResultCells.{length-filter_most}
use Rattle.tick_model.{specs.declared.update.KeyPair.KeyPair, specs.Tables.keys, specs.Updates.new_keys}
use Rattle.row_set.specs.Sets.{united}
use Rattle.lookup_join.proofs.lookup.bring_left_on.Goals as goal

pub rekeyed-requires-clause-before : goal.rekeyed-requires-clause-before
rekeyed-requires-clause-before g c = subst (AllByRecursion (λ (pair : KeyPair). is_among pair.old (keys c.args.left.now.old.rows) ≡ true)) (sym c.in_ok-modified.ensures) (modified_before c.args.left.now c.requires.exact)

pub rekeyed-requires-clause-now : goal.rekeyed-requires-clause-now
rekeyed-requires-clause-now g c = subst (AllByRecursion (λ (pair : KeyPair). is_among pair.new (keys c.args.left.now.new.rows) ≡ true)) (sym c.in_ok-modified.ensures) (modified_now c.args.left.now c.requires.exact)

pub bring_on-requires-clause-rekeyed : goal.bring_on-requires-clause-rekeyed
bring_on-requires-clause-rekeyed g c = c.in_ok-changed.ensures.pairs ∙ ap (filter (rekeys Left c.args.on.now c.args.pick c.args.left.now.old c.args.left.now.new)) c.in_ok-modified.ensures

pub returns-clause-came : goal.returns-clause-came
returns-clause-came g c =
    subst (λ (changed : List KeyPair). IfOk c.bring_on.result (λ (came : List ℕ). came ≡ united (new_keys changed) c.args.left.now.update.added))
    (c.in_ok-changed.ensures.pairs ∙ ap (filter (rekeys Left c.args.on.now c.args.pick c.args.left.now.old c.args.left.now.new)) c.in_ok-modified.ensures) c.bring_on.ensures.came

pub returns-in_err-changed-clause-reads : goal.returns-in_err-changed-clause-reads
returns-in_err-changed-clause-reads g c =
    let left = c.args.left.now in
    let pairs = c.in_ok-modified.modified in
    let count : length pairs ≡ length left.update.modified = ap length c.in_ok-modified.ensures ∙ modified_count left c.requires.exact in
    brought_reads left.new.width c.args.reads.now c.rekeyed.new.reads c.rekeyed.new.reads (length left.update.modified) (length pairs) 0 (length left.update.added) c.rekeyed.ensures.reads (omega arith) (omega arith) count

pub returns-clause-reads : goal.returns-clause-reads
returns-clause-reads g c =
    let left = c.args.left.now in
    let pairs = c.in_ok-modified.modified in
    let count : length pairs ≡ length left.update.modified = ap length c.in_ok-modified.ensures ∙ modified_count left c.requires.exact in
    let few : length c.in_ok-changed.changed ≤ length pairs = subst (λ (changed : List KeyPair). length changed ≤ length pairs) (sym c.in_ok-changed.ensures.pairs) (length-filter_most (rekeys Left c.args.on.now c.args.pick left.old left.new) pairs) in
    brought_reads left.new.width c.args.reads.now c.rekeyed.new.reads c.bring_on.new.reads (length left.update.modified) (length pairs) (length c.in_ok-changed.changed) (length left.update.added) c.rekeyed.ensures.reads c.bring_on.ensures.reads few count
