use Rattle.std.proofs.Common.{sym, ◌∙◌, ap}
use Rattle.tick_model.specs.Updates.{new_keys, old_keys}
use Rattle.row_changes.proofs.Comparing.{new_keys-pairs_of, old_keys-pairs_of}
use Rattle.shown_rows.proofs.pairs.KeyPairs.into_keys.Goals as goal

pub returns-clause-old : goal.returns-clause-old
returns-clause-old c = sym (old_keys-pairs_of c.self.inside.from c.self.inside.to c.self.invariant) ∙ ap old_keys c.self.view_is

pub returns-clause-new : goal.returns-clause-new
returns-clause-new c = sym (new_keys-pairs_of c.self.inside.from c.self.inside.to c.self.invariant) ∙ ap new_keys c.self.view_is
