use Rattle.std.proofs.Common.{◌≡◌, ap, ap₂, sym, ◌∙◌, subst, IfOk, ◌^◌}
use Rattle.key_lists.specs.Keys.{without}
use Rattle.row_set.specs.Sets.{united}
use Rattle.shift_data.specs.Moves.{IsLawful, unapplied}
use Rattle.table_update.{specs.Coalesced.removed_by_both, proofs.KeysAfter.rules_kept, proofs.CoalescedKeys.united_removed}
use Rattle.table_update.proofs.update.Update.removed_with.Goals as goal

pub unapply_without-requires : goal.unapply_without-requires
unapply_without-requires c =
    subst (λ gone. IsLawful c.shifted.result.now (without gone c.args.old.now)) (sym c.removed-removed.ensures.keys)
    (subst (λ shifts. IsLawful shifts (without c.args.self.now.removed c.args.old.now)) (sym c.shifted.ensures)
    ((rules_kept (2 ^ 62) c.args.old.now c.args.self.now c.requires.follow.applies).shifted))

pub returns : goal.returns
returns c =
    let old = c.args.old.now in
    let first = c.args.self.now in
    let next = c.args.next.now in
    let gone : c.in_ok-gone.gone ≡ unapplied first.shifted (without first.removed old) next.removed =
    c.in_ok-gone.ensures ∙ ap₂ (λ shifts keys. unapplied shifts (without keys old) c.removed.result.now) c.shifted.ensures c.removed-removed.ensures.keys ∙ ap (unapplied first.shifted (without first.removed old)) c.removed.ensures.keys in
    let both : united c.removed-removed.result.now c.in_ok-gone.gone ≡ removed_by_both old first next =
    ap₂ united c.removed-removed.ensures.keys gone ∙ united_removed old first next c.requires.follow.applies c.requires.follow.follows c.requires.old in
    subst (λ keys. IfOk c.union.result (λ removed. removed ≡ keys)) both c.union.ensures
