use Rattle.std.proofs.Common.{◌≡◌, ap, ap₂, sym, ◌∙◌, subst, IfOk, map}
use Rattle.key_lists.specs.Keys.{without}
use Rattle.tick_model.specs.Shifts.{shifted}
use Rattle.shift_data.specs.Moves.{pair_through}
use Rattle.table_update.{specs.Coalesced.kept_by_both, proofs.CoalescedKeys.{kept_keys, kept_lawful, kept_of_old, kept_pairs, places_lawful}}
use Rattle.table_update.proofs.update.Update.shifted_with.Goals as goal

pub then-requires-clause-lawful : goal.then-requires-clause-lawful
then-requires-clause-lawful c =
    let old = c.args.old.now in
    let first = c.args.self.now in
    let next = c.args.next.now in
    let f = c.requires.follow.applies in
    let n = c.requires.follow.follows in
    let kept : c.in_ok-kept.kept ≡ kept_keys old first next f n = c.in_ok-kept.ensures ∙ ap (λ keys. without keys old) c.requires.removed ∙ kept_of_old old first next f n c.requires.old in
    rw (c.shifted.ensures, kept) (kept_lawful old first next f n)

pub then-requires-clause-next_lawful : goal.then-requires-clause-next_lawful
then-requires-clause-next_lawful c =
    let old = c.args.old.now in
    let first = c.args.self.now in
    let next = c.args.next.now in
    let f = c.requires.follow.applies in
    let n = c.requires.follow.follows in
    let kept : c.in_ok-kept.kept ≡ kept_keys old first next f n = c.in_ok-kept.ensures ∙ ap (λ keys. without keys old) c.requires.removed ∙ kept_of_old old first next f n c.requires.old in
    rw (c.shifted-2.ensures, c.shifted.ensures, kept) (places_lawful old first next f n c.requires.added)

pub returns : goal.returns
returns c =
    let old = c.args.old.now in
    let first = c.args.self.now in
    let next = c.args.next.now in
    let f = c.requires.follow.applies in
    let n = c.requires.follow.follows in
    let kept : c.in_ok-kept.kept ≡ kept_keys old first next f n = c.in_ok-kept.ensures ∙ ap (λ keys. without keys old) c.requires.removed ∙ kept_of_old old first next f n c.requires.old in
    let pairs : map (pair_through c.shifted.result.now c.shifted-2.result.now) c.in_ok-kept.kept ≡ kept_by_both old first next =
    ap₂ (λ a b. map (pair_through a b) c.in_ok-kept.kept) c.shifted.ensures c.shifted-2.ensures ∙ ap (map (pair_through first.shifted next.shifted)) kept ∙ sym (kept_pairs old first next f n) in
    subst (λ pairs. IfOk c.then.result (λ shift. shift ≡ shifted pairs)) pairs c.then.ensures
