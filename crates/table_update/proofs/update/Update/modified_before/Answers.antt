use Rattle.std.proofs.Common.{◌≡◌, ◌^◌, sym, subst, true}
use Rattle.std.specs.List.{AllByRecursion}
use Rattle.key_lists.{specs.Keys.{is_among, without}, proofs.Among.each_among, proofs.Every.every_weaker}
use Rattle.tick_model.specs.Rules.{landed}
use Rattle.table_update.{proofs.CoalescedKeys.modified_stays, proofs.KeysAfter.rules_kept}
use Rattle.table_update.proofs.update.Update.modified_before.Goals as goal

pub keys_before-requires-clause-lawful : goal.keys_before-requires-clause-lawful
keys_before-requires-clause-lawful c = (rules_kept (2 ^ 62) c.args.old.now c.args.self.now c.requires).shifted

pub keys_before-requires-clause-stay : goal.keys_before-requires-clause-stay
keys_before-requires-clause-stay c =
    let old = c.args.old.now in
    let update = c.args.self.now in
    let places = landed update.shifted (without update.removed old) in
    subst (AllByRecursion (λ key. is_among key places ≡ true)) (sym c.modified.ensures.keys)
    (every_weaker (λ key. is_among key update.modified ≡ true) (λ key. is_among key places ≡ true) update.modified
    (modified_stays (2 ^ 62) old update (rules_kept (2 ^ 62) old update c.requires)) (each_among update.modified))
