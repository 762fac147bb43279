use Rattle.std.proofs.Common.{◌≡◌, ap, sym, ◌∙◌, subst, Option, ◌^◌, Some, None}
use Rattle.tick_model.{specs.Rules.update_fault, specs.Updates.Update}
use Rattle.source_changes.{specs.Stepping.update_after, specs.Waiting.{AreSets, IsGathered, MayFollow, joined, keys_with}, proofs.Joining.{both_join, both_wait, made, on_both, still_behind}}
use Rattle.source_changes.proofs.gathering.PendingUpdate.put.Goals as goal

pub returns-in_ok-both-in-Some-clause-gathered : goal.returns-in_ok-both-in-Some-clause-gathered
returns-in_ok-both-in-Some-clause-gathered c =
    let g = c.args.self.now in
    let w = c.in-Some.waiting in
    let one : g.waiting ≡ Some w = sym c.replace.ensures.value ∙ c.in-Some.is in
    let h = subst (λ (o : Option Update). IsGathered c.args.old.now (made g.keys g.update o)) one c.requires.gathered in
    let still = still_behind w c.args.next (subst (λ (o : Option Update). MayFollow o c.args.next) one c.requires.way) in
    let applies = subst (λ (o : Option Update). update_fault (2 ^ 62) (keys_with g.keys o) c.args.next ≡ None) one c.requires.lawful in
    subst (λ (both : Update). IsGathered c.args.old.now (made g.keys g.update (Some both))) (sym c.in_ok-both-in-Some.ensures)
    (both_wait c.args.old.now c.len.ensures.keys g.keys g.update w h c.args.next c.see_keys.ensures still c.requires.plain applies (subst AreSets c.in_ok-both-in-Some.ensures c.see_keys-in-Some.ensures))

pub returns-in_ok-both-in-Some-clause-joined : goal.returns-in_ok-both-in-Some-clause-joined
returns-in_ok-both-in-Some-clause-joined c =
    let g = c.args.self.now in
    let w = c.in-Some.waiting in
    let one : g.waiting ≡ Some w = sym c.replace.ensures.value ∙ c.in-Some.is in
    let h = subst (λ (o : Option Update). IsGathered c.args.old.now (made g.keys g.update o)) one c.requires.gathered in
    let still = still_behind w c.args.next (subst (λ (o : Option Update). MayFollow o c.args.next) one c.requires.way) in
    let applies = subst (λ (o : Option Update). update_fault (2 ^ 62) (keys_with g.keys o) c.args.next ≡ None) one c.requires.lawful in
    ap (update_after c.args.old.now g.update) c.in_ok-both-in-Some.ensures
    ∙ both_join c.args.old.now c.len.ensures.keys g.keys g.update w h c.args.next c.see_keys.ensures still c.requires.plain applies
    ∙ sym (ap (λ (o : Option Update). update_after c.args.old.now (joined c.args.old.now g.update o) c.args.next) one)

pub returns-in-None-clause-joined : goal.returns-in-None-clause-joined
returns-in-None-clause-joined c =
    let g = c.args.self.now in
    let none : g.waiting ≡ None = sym c.replace.ensures.value ∙ c.in-None.is in
    sym (ap (λ (o : Option Update). update_after c.args.old.now (joined c.args.old.now g.update o) c.args.next) none)

pub returns-in-None-2-clause-joined : goal.returns-in-None-2-clause-joined
returns-in-None-2-clause-joined c =
    let g = c.args.self.now in
    let none : g.waiting ≡ None = sym c.replace.ensures.value ∙ c.in-None.is in
    on_both c.join.result c.join.ensures.update c.join.ensures.none
    (λ after left.
    ap (joined c.args.old.now c.join.new.self.update) left
    ∙ after
    ∙ sym (ap (λ (o : Option Update). update_after c.args.old.now (joined c.args.old.now g.update o) c.args.next) none))
