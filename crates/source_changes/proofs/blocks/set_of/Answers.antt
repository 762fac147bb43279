use Rattle.std.proofs.Common.{ap, sym, ◌∙◌, ◌<◌, ◌^◌, List, [], ◌∷◌, ◌++◌, get_or, ℕ}
use Rattle.std.proofs.lemmas.List.{take_more}
use Rattle.key_lists.proofs.Parts.{every_at}
use Rattle.source_changes.proofs.Gathered.{keys_below}
use Rattle.source_changes.proofs.blocks.set_of.Goals as goal

pub put_last-requires-clause-small : goal.put_last-requires-clause-small
put_last-requires-clause-small c = every_at (λ key. key < 2 ^ 62) c.args.keys.now c.loop-key.key-index 0 c.loop-key-test.true c.requires.small

pub put_last-requires-clause-last : goal.put_last-requires-clause-last
put_last-requires-clause-last c = rw c.loop-key.invariant (keys_below c.args.keys.now c.loop-key.key-index 0 c.requires.rising c.loop-key-test.true)

pub loop-key-preserved : goal.loop-key-preserved
loop-key-preserved c =
    let key = get_or c.args.keys.now c.loop-key.key-index 0 in
    c.in_ok-put_last.ensures.keys ∙ ap (λ (ks : List ℕ). ks ++ key ∷ []) c.loop-key.invariant ∙ sym (take_more c.args.keys.now c.loop-key.key-index 0 c.loop-key-test.true)
