use Rattle.std.proofs.Common.{sym, subst, Option, ◌^◌, ◌<◌}
use Rattle.std.{specs.List.AllByRecursion, specs.Prelude.IfErr}
use Rattle.tick_model.specs.Updates.{Update}
use Rattle.source_changes.{specs.Faults.{IsRuleOf, keys_fault}, specs.Waiting.keys_with}
use Rattle.source_changes.proofs.gathering.PendingUpdate.check.Goals as goal

pub check_on-requires : goal.check_on-requires
check_on-requires c = subst (λ (waiting : Option Update). AllByRecursion (λ key. key < 2 ^ 40) (keys_with c.args.self.now.keys waiting)) c.in-None.is c.requires.below.below

pub returns-in-None-clause-cause : goal.returns-in-None-clause-cause
returns-in-None-clause-cause c =
    subst (λ (waiting : Option Update). IfErr c.check_on.result (IsRuleOf (keys_fault (keys_with c.args.self.now.keys waiting) c.args.next.now))) (sym c.in-None.is) c.check_on.ensures.cause

pub returns-in-Some-clause-cause : goal.returns-in-Some-clause-cause
returns-in-Some-clause-cause c =
    subst (λ (waiting : Option Update). IfErr c.check_behind.result (IsRuleOf (keys_fault (keys_with c.args.self.now.keys waiting) c.args.next.now))) (sym c.in-Some.is) c.check_behind.ensures.cause
