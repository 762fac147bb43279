use Rattle.std.proofs.Common.{◌≡◌, ap, sym, ◌∙◌, subst, List, ℕ, ◌+◌, ◌≤◌}
use Rattle.tick_model.specs.Changes.{change_of}
use Rattle.source_changes.{specs.Reads.step_reads, specs.Stepping.{IsStepping, Stepping, ticked}, specs.Taking.taking, specs.Waiting.{joined, keys_with}, proofs.Turned.{closes, keys_now}}
use Rattle.source_changes.proofs.taking.TakenBlocks.close.Goals as goal

pub change-requires : goal.change-requires
change-requires g c =
    let own = c.args.self.gathered in
    let update = c.new-step.ensures.update ∙ sym (ap (joined c.rows-old.result.now c.settle.new.self.update) c.in_ok-settle.ensures.none) ∙ c.in_ok-settle.ensures.joined ∙ ap (λ (ks : List ℕ). joined ks own.update own.waiting) c.rows-old.ensures.keys in
    let same : c.new-step.result ≡ taking c.args.self = closes c.args.self c.requires c.new-step.result c.new-step.ensures.old update c.new-step.ensures.told in
    subst IsStepping (sym same) c.requires.stepping

pub returns-clause-change : goal.returns-clause-change
returns-clause-change g c =
    let own = c.args.self.gathered in
    let update = c.new-step.ensures.update ∙ sym (ap (joined c.rows-old.result.now c.settle.new.self.update) c.in_ok-settle.ensures.none) ∙ c.in_ok-settle.ensures.joined ∙ ap (λ (ks : List ℕ). joined ks own.update own.waiting) c.rows-old.ensures.keys in
    let same : c.new-step.result ≡ taking c.args.self = closes c.args.self c.requires c.new-step.result c.new-step.ensures.old update c.new-step.ensures.told in
    c.in_ok-change.ensures.change ∙ ap (λ (step : Stepping). change_of (ticked step)) same

pub returns-clause-keys : goal.returns-clause-keys
returns-clause-keys g c = sym (ap (keys_with c.settle.new.self.keys) c.in_ok-settle.ensures.none) ∙ c.in_ok-settle.ensures.keys ∙ keys_now c.args.self c.requires

pub returns-in_err-change-clause-reads : goal.returns-in_err-change-clause-reads
returns-in_err-change-clause-reads g c =
    let own = c.args.self.gathered in
    let update = c.new-step.ensures.update ∙ sym (ap (joined c.rows-old.result.now c.settle.new.self.update) c.in_ok-settle.ensures.none) ∙ c.in_ok-settle.ensures.joined ∙ ap (λ (ks : List ℕ). joined ks own.update own.waiting) c.rows-old.ensures.keys in
    let same : c.new-step.result ≡ taking c.args.self = closes c.args.self c.requires c.new-step.result c.new-step.ensures.old update c.new-step.ensures.told in
    subst (λ (step : Stepping). c.change.new.reads ≤ c.args.reads.now + step_reads step) same c.change.ensures.reads

pub returns-clause-reads : goal.returns-clause-reads
returns-clause-reads g c =
    let own = c.args.self.gathered in
    let update = c.new-step.ensures.update ∙ sym (ap (joined c.rows-old.result.now c.settle.new.self.update) c.in_ok-settle.ensures.none) ∙ c.in_ok-settle.ensures.joined ∙ ap (λ (ks : List ℕ). joined ks own.update own.waiting) c.rows-old.ensures.keys in
    let same : c.new-step.result ≡ taking c.args.self = closes c.args.self c.requires c.new-step.result c.new-step.ensures.old update c.new-step.ensures.told in
    subst (λ (step : Stepping). c.change.new.reads ≤ c.args.reads.now + step_reads step) same c.change.ensures.reads
