use Rattle.std.proofs.Common.{sym, ◌∙◌, subst}
use Rattle.row_changes.proofs.Comparing.{new_keys-pairs_of, old_keys-pairs_of}
use Rattle.row_set.specs.Sets.{IsKeySet}
use Rattle.shown_rows.proofs.Restricted.{modified_even, modified_pairs}
use Rattle.shown_rows.proofs.pairs.Pairs.modified.Goals as goal

pub invariant_of-result : goal.invariant_of-result
invariant_of-result c = rw (c.iter.ensures.rest, c.iter-2.ensures.rest, c.modified.ensures.keys, c.update.ensures, c.requires.from) (modified_even c.args.input.now c.requires.exact)

pub returns-clause-pairs : goal.returns-clause-pairs
returns-clause-pairs c = rw (c.iter.ensures.rest, c.iter-2.ensures.rest, c.modified.ensures.keys, c.update.ensures, c.requires.from) (modified_pairs c.args.input.now c.requires.exact)

pub returns-clause-old : goal.returns-clause-old
returns-clause-old c = subst IsKeySet (sym (old_keys-pairs_of c.iter.result c.iter-2.result (invariant_of-result c) ∙ c.iter.ensures.rest)) c.iter.ensures.keys

pub returns-clause-new : goal.returns-clause-new
returns-clause-new c = subst IsKeySet (sym (new_keys-pairs_of c.iter.result c.iter-2.result (invariant_of-result c) ∙ c.iter-2.ensures.rest)) c.iter-2.ensures.keys
