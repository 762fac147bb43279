use Rattle.std.proofs.Common.{sym, ◌∙◌, ap, ap₂, subst, ◌<◌, ◌++◌, ◌∷◌, [], List}
use Rattle.std.specs.List.{AllByRecursion}
use Rattle.shift_data.specs.Moves.{pairs_of}
use Rattle.tick_model.{specs.declared.update.KeyPair.KeyPair, specs.Updates.{new_keys, old_keys}}
use Rattle.row_changes.proofs.Comparing.{new_keys-pairs_of, old_keys-pairs_of}
use Rattle.shown_rows.proofs.Walks.{pairs_of-last}
use Rattle.shown_rows.proofs.pairs.KeyPairs.with_last.Goals as goal

pub put_last-requires-clause-last : goal.put_last-requires-clause-last
put_last-requires-clause-last c =
    subst (AllByRecursion (λ other. other < c.args.pair.old)) (ap old_keys (sym c.self.view_is) ∙ old_keys-pairs_of c.self.inside.from c.self.inside.to c.self.invariant) c.requires.old

pub put_last-requires-2-clause-last : goal.put_last-requires-2-clause-last
put_last-requires-2-clause-last c =
    subst (AllByRecursion (λ other. other < c.args.pair.new)) (ap new_keys (sym c.self.view_is) ∙ new_keys-pairs_of c.self.inside.from c.self.inside.to c.self.invariant) c.requires.new

pub returns : goal.returns
returns c =
    ap₂ pairs_of c.in_ok-put_last.ensures.keys c.in_ok-put_last-2.ensures.keys ∙ pairs_of-last c.self.inside.from c.self.inside.to c.args.pair c.self.invariant
    ∙ ap (λ (pairs : List KeyPair). pairs ++ c.args.pair ∷ []) c.self.view_is
