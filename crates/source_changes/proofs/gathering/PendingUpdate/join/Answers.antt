use Rattle.std.proofs.Common.{◌≡◌, ap, sym, ◌∙◌, subst, Option, List, ℕ, None}
use Rattle.table_update.specs.Coalesced.{Follow}
use Rattle.tick_laws.specs.Checked.{keys_after}
use Rattle.tick_model.specs.Updates.{Update}
use Rattle.source_changes.{specs.Stepping.update_after, specs.Waiting.{AreSets, IsGathered}, proofs.Joining.{made, next_follows, next_joins}}
use Rattle.source_changes.proofs.gathering.PendingUpdate.join.Goals as goal

pub update_after-requires : goal.update_after-requires
update_after-requires c =
    let g = c.args.self.now in
    let h = subst (λ (waiting : Option Update). IsGathered c.args.old.now (made g.keys g.update waiting)) c.requires.none c.requires.gathered in
    subst (λ (update : Update). Follow c.args.old.now update c.args.next) (sym c.replace-update.ensures.value)
    (next_follows c.args.old.now c.len.ensures.keys g.keys g.update c.args.next h c.see_keys.ensures c.requires.lawful)

pub returns-clause-update : goal.returns-clause-update
returns-clause-update c = c.in_ok-after.ensures ∙ ap (λ (update : Update). update_after c.args.old.now update c.args.next) c.replace-update.ensures.value

pub returns-clause-gathered : goal.returns-clause-gathered
returns-clause-gathered c =
    let g = c.args.self.now in
    let h = subst (λ (waiting : Option Update). IsGathered c.args.old.now (made g.keys g.update waiting)) c.requires.none c.requires.gathered in
    let after : c.in_ok-after.after ≡ update_after c.args.old.now g.update c.args.next = c.in_ok-after.ensures ∙ ap (λ (update : Update). update_after c.args.old.now update c.args.next) c.replace-update.ensures.value in
    let joins = next_joins c.args.old.now c.len.ensures.keys g.keys g.update c.args.next h c.see_keys.ensures c.requires.lawful c.requires.plain (subst AreSets after c.see_keys-2.ensures) in
    subst (λ (waiting : Option Update). IsGathered c.args.old.now (made c.in_ok-keys.keys c.in_ok-after.after waiting)) (sym c.requires.none)
    (subst (λ (ks : List ℕ). IsGathered c.args.old.now (made ks c.in_ok-after.after None)) (sym (c.in_ok-keys.ensures ∙ ap (λ (ks : List ℕ). keys_after ks c.args.next) c.replace-keys.ensures.value))
    (subst (λ (update : Update). IsGathered c.args.old.now (made (keys_after g.keys c.args.next) update None)) (sym after) joins))

pub returns-clause-keys : goal.returns-clause-keys
returns-clause-keys c = c.in_ok-keys.ensures ∙ ap (λ (ks : List ℕ). keys_after ks c.args.next) c.replace-keys.ensures.value
