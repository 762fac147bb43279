use Rattle.std.proofs.Common.{◌+◌, ◌-◌, ◌^◌, length, arith}
use Rattle.std.proofs.lemmas.Result.{IfErr-weaker, on_ok_weaker}
use Rattle.source_changes.{specs.Faults.{IsRuleOf, keys_fault}, proofs.RowCounts.{counted_lawful, counted_rule, few_rising, removed_few}}
use Rattle.tick_model.specs.Sources.{too_many}
use Rattle.source_changes.proofs.checks.check_on.Goals as goal

pub check_count-requires-clause-small : goal.check_count-requires-clause-small
check_count-requires-clause-small c = let few = few_rising (2 ^ 62) c.args.keys.now c.len.ensures.keys.rising c.len.ensures.keys.small in omega (arith, few, c.len.ensures.count)

pub check_count-requires-clause-there : goal.check_count-requires-clause-there
check_count-requires-clause-there c =
    let few = removed_few (2 ^ 40) c.args.keys.now c.args.update.now c.in_ok-check_rules.ensures.lawful c.len.ensures.keys.rising c.see_keys.ensures.removed.rising in
    omega (arith, few, c.len.ensures.count)

pub returns-clause-lawful : goal.returns-clause-lawful
returns-clause-lawful c =
    on_ok_weaker c.check_count.result (counted_lawful c.args.keys.now c.args.update.now c.in_ok-check_rules.ensures.lawful c.len.ensures.keys.rising c.see_keys.ensures.removed.rising c.len.result c.len.ensures.count) c.check_count.ensures.lawful

pub returns-clause-cause : goal.returns-clause-cause
returns-clause-cause c =
    let keys = c.args.keys.now in
    let update = c.args.update.now in
    IfErr-weaker c.check_count.result (IsRuleOf (too_many (c.len.result + length update.added - length update.removed))) (IsRuleOf (keys_fault keys update))
    (counted_rule keys update c.in_ok-check_rules.ensures.lawful c.len.ensures.keys.rising c.see_keys.ensures.removed.rising c.len.result c.len.ensures.count) c.check_count.ensures.cause
