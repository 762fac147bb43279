use Rattle.std.proofs.Common.{◌≡◌, refl, ap, ◌∙◌, subst, Option, List, ℕ}
use Rattle.tick_model.{specs.declared.update.FeedRule.FeedRule, specs.Tables.keys, specs.Updates.Update}
use Rattle.source_changes.{specs.declared.taking.TakenBlocks.TakenBlocks, specs.Faults.{IsFault, record_fault}, specs.Stepping.update_after, specs.Waiting.{IsGathered, joined, keys_with}, proofs.Turned.{block_fine, fault_is, may_apply, now_below, reads_on, takes_on, ticked_on, told_moves}}
use Rattle.source_changes.proofs.taking.TakenBlocks.take.Goals as goal

pub check-requires-clause-below : goal.check-requires-clause-below
check-requires-clause-below c =
    let ks = keys_with c.make_way.new.self.keys c.make_way.new.self.waiting in
    now_below c.args.self.now c.requires.taking ks c.in_ok-make_way.ensures.keys c.requires.below

pub returns-in-Err-clause-cause : goal.returns-in-Err-clause-cause
returns-in-Err-clause-cause c =
    let ks = keys_with c.make_way.new.self.keys c.make_way.new.self.waiting in
    subst (λ (o : Option FeedRule). IsFault (record_fault c.args.block.now o) c.in-Err.fault) (fault_is c.args.self.now c.requires.taking ks c.in_ok-make_way.ensures.keys c.args.block.now c.requires.readable c.requires.whole c.in_ok-next.next c.in_ok-next.ensures) c.in-Err.ensures.cause

pub tell-requires-clause-lawful : goal.tell-requires-clause-lawful
tell-requires-clause-lawful c =
    let ks = keys_with c.make_way.new.self.keys c.make_way.new.self.waiting in
    told_moves c.args.self.now c.requires.taking ks c.in_ok-make_way.ensures.keys c.args.block.now c.requires.readable c.requires.whole c.in_ok-next.next c.in_ok-next.ensures c.in-Ok.ensures.lawful

pub put-requires-clause-lawful : goal.put-requires-clause-lawful
put-requires-clause-lawful c =
    let ks = keys_with c.make_way.new.self.keys c.make_way.new.self.waiting in
    may_apply ks c.in_ok-next.next c.in-Ok.ensures.lawful

pub returns-clause-lawful : goal.returns-clause-lawful
returns-clause-lawful c =
    let ks = keys_with c.make_way.new.self.keys c.make_way.new.self.waiting in
    block_fine c.args.self.now c.requires.taking ks c.in_ok-make_way.ensures.keys c.args.block.now c.requires.readable c.requires.whole c.in_ok-next.next c.in_ok-next.ensures c.in-Ok.ensures.lawful

pub returns-clause-taking : goal.returns-clause-taking
returns-clause-taking c =
    let ks = keys_with c.make_way.new.self.keys c.make_way.new.self.waiting in
    let new : TakenBlocks = record { table = c.args.self.now.table; gathered = c.put.new.self; told = c.tell.new.self } in
    let old : c.rows-old.result.now ≡ keys c.args.self.now.table.now.new.rows = c.rows-old.ensures.keys in
    let gathers = subst (λ (ks : List ℕ). IsGathered ks c.put.new.self) old c.in_ok-put.ensures.gathered in
    let g = c.args.self.now.gathered in
    let joins = subst (λ (ks : List ℕ). joined ks c.put.new.self.update c.put.new.self.waiting ≡ update_after ks (joined ks g.update g.waiting) c.in_ok-next.next) old
    (c.in_ok-put.ensures.joined ∙ ap (λ (update : Update). update_after c.rows-old.result.now update c.in_ok-next.next) c.in_ok-make_way.ensures.joined) in
    takes_on c.args.self.now c.requires.taking ks c.in_ok-make_way.ensures.keys c.args.block.now c.requires.readable c.requires.whole c.in_ok-next.next c.in_ok-next.ensures c.in-Ok.ensures.lawful new refl gathers joins c.in_ok-tell.ensures

pub returns-clause-tick : goal.returns-clause-tick
returns-clause-tick c =
    let ks = keys_with c.make_way.new.self.keys c.make_way.new.self.waiting in
    let new : TakenBlocks = record { table = c.args.self.now.table; gathered = c.put.new.self; told = c.tell.new.self } in
    let old : c.rows-old.result.now ≡ keys c.args.self.now.table.now.new.rows = c.rows-old.ensures.keys in
    let gathers = subst (λ (ks : List ℕ). IsGathered ks c.put.new.self) old c.in_ok-put.ensures.gathered in
    let g = c.args.self.now.gathered in
    let joins = subst (λ (ks : List ℕ). joined ks c.put.new.self.update c.put.new.self.waiting ≡ update_after ks (joined ks g.update g.waiting) c.in_ok-next.next) old
    (c.in_ok-put.ensures.joined ∙ ap (λ (update : Update). update_after c.rows-old.result.now update c.in_ok-next.next) c.in_ok-make_way.ensures.joined) in
    ticked_on c.args.self.now c.requires.taking ks c.in_ok-make_way.ensures.keys c.args.block.now c.requires.readable c.requires.whole c.in_ok-next.next c.in_ok-next.ensures c.in-Ok.ensures.lawful new refl gathers joins c.in_ok-tell.ensures

pub returns-clause-reads : goal.returns-clause-reads
returns-clause-reads c =
    let ks = keys_with c.make_way.new.self.keys c.make_way.new.self.waiting in
    let new : TakenBlocks = record { table = c.args.self.now.table; gathered = c.put.new.self; told = c.tell.new.self } in
    let old : c.rows-old.result.now ≡ keys c.args.self.now.table.now.new.rows = c.rows-old.ensures.keys in
    let gathers = subst (λ (ks : List ℕ). IsGathered ks c.put.new.self) old c.in_ok-put.ensures.gathered in
    let g = c.args.self.now.gathered in
    let joins = subst (λ (ks : List ℕ). joined ks c.put.new.self.update c.put.new.self.waiting ≡ update_after ks (joined ks g.update g.waiting) c.in_ok-next.next) old
    (c.in_ok-put.ensures.joined ∙ ap (λ (update : Update). update_after c.rows-old.result.now update c.in_ok-next.next) c.in_ok-make_way.ensures.joined) in
    reads_on c.args.self.now c.requires.taking ks c.in_ok-make_way.ensures.keys c.args.block.now c.requires.readable c.requires.whole c.in_ok-next.next c.in_ok-next.ensures c.in-Ok.ensures.lawful new refl gathers joins c.in_ok-tell.ensures
