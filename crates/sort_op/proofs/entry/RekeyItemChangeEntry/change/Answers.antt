use Rattle.sort_op.proofs.Rekeying.{key_small}
use Rattle.sort_op.proofs.entry.RekeyItemChangeEntry.change.Goals as goal

pub landing-entry-requires-clause-key : goal.landing-entry-requires-clause-key
landing-entry-requires-clause-key c = key_small c.args.self.now.shifts.now c.args.entry.now.key c.requires.0 c.requires.1
