use Rattle.std.proofs.Common.{◌≡◌, ap, ap₂, ◌∙◌}
use Rattle.key_lists.specs.Keys.{without}
use Rattle.row_set.specs.Sets.{united}
use Rattle.tick_model.specs.Rules.{landed}
use Rattle.table_update.proofs.KeysAfter.{keys_after_edits}
use Rattle.table_update.proofs.update.Update.apply_to_keys.Goals as goal

pub returns : goal.returns
returns c =
    let old = c.args.keys in
    let update = c.args.self.now in
    let survivors : c.remove_all.new.self ≡ without update.removed old = c.in_ok-remove_all.ensures.ok ∙ ap (λ keys. without keys old) c.removed-removed.ensures.keys in
    let places : c.in_ok-moved.moved ≡ landed update.shifted (without update.removed old) = c.in_ok-moved.ensures ∙ ap₂ landed c.shifted-shifted.ensures survivors in
    c.in_ok-insert_all.ensures.ok
    ∙ ap₂ united c.added-added.ensures.keys places ∙ keys_after_edits old update c.requires c.added-added.ensures.set.rising
