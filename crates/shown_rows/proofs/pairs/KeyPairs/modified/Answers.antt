use Rattle.tick_table.proofs.ExactAgain.{exact_lawful}
use Rattle.shown_rows.proofs.Restricted.{modified_even, modified_pairs}
use Rattle.shown_rows.proofs.pairs.KeyPairs.modified.Goals as goal

pub modified_before-requires : goal.modified_before-requires
modified_before-requires c = rw (c.prev_rows.ensures.keys, c.update-update.ensures) (exact_lawful c.args.input.now c.requires)

pub invariant_of-result : goal.invariant_of-result
invariant_of-result c = rw (c.in_ok-from.ensures, c.in_ok-to.ensures, c.modified.ensures.keys, c.prev_rows.ensures.keys, c.update-update.ensures) (modified_even c.args.input.now c.requires)

pub returns : goal.returns
returns c = rw (c.in_ok-from.ensures, c.in_ok-to.ensures, c.modified.ensures.keys, c.prev_rows.ensures.keys, c.update-update.ensures) (modified_pairs c.args.input.now c.requires)
