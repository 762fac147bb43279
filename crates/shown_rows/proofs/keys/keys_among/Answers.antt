use Rattle.std.proofs.Common.{ap, ◌∙◌, List, ℕ}
use Rattle.key_lists.specs.Keys.{is_among}
use Rattle.row_set.{proofs.Yielded.{next_above, next_small, yielded_all}, specs.Sets.common}
use Rattle.shown_rows.proofs.Walks.{chosen_below, chosen_more}
use Rattle.shown_rows.proofs.keys.keys_among.Goals as goal

pub put_last_if-requires-clause-small : goal.put_last_if-requires-clause-small
put_last_if-requires-clause-small c =
    let all = c.into_iter-key-iterator.ensures.into_iter_gives in
    next_small c.loop-key.yielded all c.loop-key.yielded_by c.in-Some.ensures.steps

pub put_last_if-requires-clause-last : goal.put_last_if-requires-clause-last
put_last_if-requires-clause-last c =
    let all = c.into_iter-key-iterator.ensures.into_iter_gives in
    let yielded = c.loop-key.yielded in
    chosen_below (λ key. is_among key c.args.others.now) yielded c.loop-key.found c.in-Some.key (next_above yielded all c.loop-key.yielded_by c.in-Some.ensures.steps) c.loop-key.invariant

pub loop-key-preserved : goal.loop-key-preserved
loop-key-preserved c =
    chosen_more (λ key. is_among key c.args.others.now) c.loop-key.yielded c.in-Some.key c.loop-key.found c.put_last_if.new.keys c.contains.result c.loop-key.invariant c.contains.ensures.member c.in_ok-put_last_if.ensures.keys

pub returns : goal.returns
returns c = c.loop-key.invariant ∙ ap (λ (keys : List ℕ). common keys c.args.others.now) (yielded_all c.loop-key.yielded c.into_iter-key-iterator.ensures.into_iter_gives c.loop-key.yielded_by c.in-None.ensures.steps.0)
