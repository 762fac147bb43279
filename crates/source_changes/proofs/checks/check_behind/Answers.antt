use Rattle.std.proofs.Common.{sym, ◌∙◌, subst, ◌+◌, ◌-◌, ◌^◌, length, arith, rules, Option}
use Rattle.std.{specs.Prelude.option_map, proofs.lemmas.Result.{IfErr-weaker, on_ok_weaker}}
use Rattle.source_changes.{specs.Faults.{IsRuleOf, keys_fault}, proofs.Behind.{after_rise, here_below, here_same}, proofs.RowCounts.{counted_lawful, counted_rule, few_rising, length-keys_after, removed_few, rule_first}}
use Rattle.tick_laws.specs.Checked.{keys_after}
use Rattle.tick_model.{specs.declared.update.FeedRule.TheVariants.Update as ByUpdate, specs.declared.update.UpdateFault.UpdateFault, specs.Rules.update_fault, specs.Sources.too_many}
use Rattle.source_changes.proofs.checks.check_behind.Goals as goal

pub rows_after-rows-requires-clause-small : goal.rows_after-rows-requires-clause-small
rows_after-rows-requires-clause-small c = let few = few_rising (2 ^ 62) c.args.keys.now c.len.ensures.keys.rising c.len.ensures.keys.small in omega (arith, few, c.len.ensures.count)

pub rows_after-rows-requires-clause-there : goal.rows_after-rows-requires-clause-there
rows_after-rows-requires-clause-there c =
    let few = removed_few (2 ^ 62) c.args.keys.now c.args.waiting.now c.requires.waits.applies c.len.ensures.keys.rising c.see_keys.ensures.removed.rising in
    omega (arith, few, c.len.ensures.count)

pub check_rules-requires : goal.check_rules-requires
check_rules-requires c = here_below c.args.keys.now c.args.waiting.now c.requires.waits c.see_keys.ensures.added.rising c.args.update.now c.in_ok-here.here c.in_ok-here.ensures c.requires.below

pub returns-in_err-check_rules-clause-cause : goal.returns-in_err-check_rules-clause-cause
returns-in_err-check_rules-clause-cause c =
    let after = keys_after c.args.keys.now c.args.waiting.now in
    let update = c.args.update.now in
    let same = here_same c.args.keys.now c.args.waiting.now c.requires.waits c.see_keys.ensures.added.rising update c.requires.still c.requires.below c.see_keys-2.ensures.modified.rising c.in_ok-here.here c.in_ok-here.ensures in
    let broken = subst (λ (found : Option UpdateFault). IsRuleOf (option_map ByUpdate found) c.in_err-check_rules.field-0.0) same c.in_err-check_rules.ensures.cause in
    let fault : IsRuleOf (keys_fault after update) c.in_err-check_rules.field-0.0 = rule_first (option_map ByUpdate (update_fault (2 ^ 40) after update)) (too_many (length (keys_after after update))) c.in_err-check_rules.field-0.0 broken in
    search rules

pub check_count-requires-clause-small : goal.check_count-requires-clause-small
check_count-requires-clause-small c =
    let keys = c.args.keys.now in
    let waiting = c.args.waiting.now in
    let rows = c.rows_after-rows.ensures ∙ length-keys_after (2 ^ 62) keys waiting c.requires.waits.applies c.len.ensures.keys.rising c.see_keys.ensures.removed.rising c.len.result c.len.ensures.count in
    let few = few_rising (2 ^ 40) (keys_after keys waiting) (after_rise keys waiting c.requires.waits c.see_keys.ensures.added.rising) c.requires.below in
    omega (arith, few, rows)

pub check_count-requires-clause-there : goal.check_count-requires-clause-there
check_count-requires-clause-there c =
    let keys = c.args.keys.now in
    let waiting = c.args.waiting.now in
    let update = c.args.update.now in
    let rise = after_rise keys waiting c.requires.waits c.see_keys.ensures.added.rising in
    let rows = c.rows_after-rows.ensures ∙ length-keys_after (2 ^ 62) keys waiting c.requires.waits.applies c.len.ensures.keys.rising c.see_keys.ensures.removed.rising c.len.result c.len.ensures.count in
    let lawful = sym (here_same keys waiting c.requires.waits c.see_keys.ensures.added.rising update c.requires.still c.requires.below c.see_keys-2.ensures.modified.rising c.in_ok-here.here c.in_ok-here.ensures) ∙ c.in_ok-check_rules.ensures.lawful in
    let few = removed_few (2 ^ 40) (keys_after keys waiting) update lawful rise c.see_keys-2.ensures.removed.rising in
    omega (arith, few, rows)

pub returns-clause-lawful : goal.returns-clause-lawful
returns-clause-lawful c =
    let keys = c.args.keys.now in
    let waiting = c.args.waiting.now in
    let update = c.args.update.now in
    let rise = after_rise keys waiting c.requires.waits c.see_keys.ensures.added.rising in
    let rows = c.rows_after-rows.ensures ∙ length-keys_after (2 ^ 62) keys waiting c.requires.waits.applies c.len.ensures.keys.rising c.see_keys.ensures.removed.rising c.len.result c.len.ensures.count in
    let lawful = sym (here_same keys waiting c.requires.waits c.see_keys.ensures.added.rising update c.requires.still c.requires.below c.see_keys-2.ensures.modified.rising c.in_ok-here.here c.in_ok-here.ensures) ∙ c.in_ok-check_rules.ensures.lawful in
    on_ok_weaker c.check_count.result (counted_lawful (keys_after keys waiting) update lawful rise c.see_keys-2.ensures.removed.rising c.rows_after-rows.result rows) c.check_count.ensures.lawful

pub returns-clause-cause : goal.returns-clause-cause
returns-clause-cause c =
    let keys = c.args.keys.now in
    let waiting = c.args.waiting.now in
    let update = c.args.update.now in
    let rise = after_rise keys waiting c.requires.waits c.see_keys.ensures.added.rising in
    let rows = c.rows_after-rows.ensures ∙ length-keys_after (2 ^ 62) keys waiting c.requires.waits.applies c.len.ensures.keys.rising c.see_keys.ensures.removed.rising c.len.result c.len.ensures.count in
    let lawful = sym (here_same keys waiting c.requires.waits c.see_keys.ensures.added.rising update c.requires.still c.requires.below c.see_keys-2.ensures.modified.rising c.in_ok-here.here c.in_ok-here.ensures) ∙ c.in_ok-check_rules.ensures.lawful in
    IfErr-weaker c.check_count.result (IsRuleOf (too_many (c.rows_after-rows.result + length update.added - length update.removed))) (IsRuleOf (keys_fault (keys_after keys waiting) update))
    (counted_rule (keys_after keys waiting) update lawful rise c.see_keys-2.ensures.removed.rising c.rows_after-rows.result rows) c.check_count.ensures.cause
