use Rattle.std.proofs.Common.{◌≡◌, sym, subst, IfOk, List, ℕ}
use Rattle.key_lists.specs.Keys.{without}
use Rattle.tick_laws.proofs.EmptyUpdates.{none_is}
use Rattle.table_update.proofs.StillKeys.{unapplied_still}
use Rattle.table_update.proofs.update.Update.keys_before.Goals as goal

pub returns-then-is_still : goal.returns-then-is_still
returns-then-is_still c =
    let shifts = c.args.self.now.shifted in
    let survivors = without c.args.self.now.removed c.args.old.now in
    subst (λ (keys : List ℕ). IfOk c.copy.result (λ before. before ≡ keys))
    (sym (unapplied_still shifts survivors c.args.now.now (none_is shifts (sym c.if-is_still.ensures)) c.requires.lawful c.ranges-then-is_still.ensures.keys.rising c.requires.stay)) c.copy.ensures
