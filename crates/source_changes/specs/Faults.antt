-- Why blocks cannot be applied.
--     keys_fault old update      the first rule that an update breaks on the keys of a source
--     IsRuleOf found fault      memory ran out, or this is the rule that was found
--     IsFault found fault      memory ran out, or these are the record and the rule that were found
--     IsKeysBelow limit keys      the keys rise and are below the limit
--     record_fault block found      the record of a block that breaks a rule, with the rule
use Rattle.std.{specs.Prelude.{◌≡◌, ℕ, ◌^◌, ◌<◌, List, length, Option, Some, option_map}, specs.List.AllByRecursion, specs.Option.option_or}
use Rattle.key_lists.specs.Keys.{IsRising}
use Rattle.tick_laws.specs.Checked.{keys_after}
use Rattle.tick_model.{specs.declared.feed.Block.Block, specs.declared.update.FeedRule.FeedRule, specs.declared.update.FeedRule.TheVariants.Update as ByUpdate, specs.Rules.update_fault, specs.Sources.{record_of, too_many}, specs.Updates.Update}
use Rattle.source_changes.{specs.declared.faults.BatchFault.BatchFault, specs.declared.faults.BatchFault.TheVariants.{Memory, Rule}, specs.declared.faults.KeyFault.KeyFault, specs.declared.faults.KeyFault.TheVariants.{Memory as NoMemory, Broken}}

abbrev pub keys_fault : List ℕ → Update → Option FeedRule
keys_fault old update = option_or (option_map ByUpdate (update_fault (2 ^ 40) old update)) (too_many (length (keys_after old update)))

abbrev pub IsRuleOf : Option FeedRule → KeyFault → Type 0
IsRuleOf found NoMemory = Unit {0}
IsRuleOf found (Broken rule) = found ≡ Some rule

abbrev pub IsFault : Option (ℕ × FeedRule) → BatchFault → Type 0
IsFault found Memory = Unit {0}
IsFault found (Rule number rule) = found ≡ Some (number, rule)

abbrev pub record_fault : Block → Option FeedRule → Option (ℕ × FeedRule)
record_fault block = option_map (λ rule. (record_of block rule, rule))

pub record IsKeysBelow (limit : ℕ) (keys : List ℕ) : Type 0 where
  pub rising : IsRising keys
  pub below : AllByRecursion (λ key. key < limit) keys
