-- The number of rows that an update leaves, and the rules that the update and that number break.
use Rattle.std.proofs.Common.{◌≡◌, refl, ap, sym, ◌∙◌, subst, Bool, true, false, cond, not, ℕ, suc, ◌+◌, ◌-◌, ◌<◌, ◌≤◌, arith, List, [], ◌∷◌, length, ltb, Option, None, ◌^◌}
use Rattle.std.{specs.Prelude.{filter, option_map}, specs.List.AllByRecursion, specs.Option.option_or, proofs.lemmas.Bool.not-false, proofs.lemmas.List.length-map}
use Rattle.key_lists.{specs.Keys.{is_among, IsRising, without}, proofs.Every.{every, every_weaker, none_pass}, proofs.Rising.{as_filter, rising_count}}
use Rattle.source_changes.{specs.declared.faults.KeyFault.KeyFault, specs.declared.faults.KeyFault.TheVariants.{Memory, Broken}, specs.Faults.{IsRuleOf, keys_fault}}
use Rattle.table_update.proofs.KeysAfter.{rules_kept}
use Rattle.tick_laws.specs.Checked.{keys_after, put_key, put_keys}
use Rattle.tick_model.{specs.declared.update.FeedRule.FeedRule, specs.declared.update.FeedRule.TheVariants.Update as ByUpdate, specs.Rules.{landed, update_fault}, specs.Shifts.{as_key, moved}, specs.Sources.too_many, specs.Updates.Update}

pub few_rising : (bound : ℕ) (keys : List ℕ) → IsRising keys → AllByRecursion (λ key. key < bound) keys → length keys ≤ bound
few_rising bound keys rising below = let count = rising_count 0 bound keys (omega arith) (every (λ key. 0 ≤ key) keys (λ key. omega arith)) below rising in omega (arith, count)

-- the keys that pass a test, and those that do not
length-parted : (p : ℕ → Bool) (keys : List ℕ) → length (filter (λ key. not (p key)) keys) + length (filter p keys) ≡ length keys
length-parted p [] = refl
length-parted p (key ∷ keys) =
    elim (p key) as (λ b. length (cond (not b) (key ∷ filter (λ other. not (p other)) keys) (filter (λ other. not (p other)) keys)) + length (cond b (key ∷ filter p keys) (filter p keys)) ≡ suc (length keys)) [
      | true ↦ let rest = length-parted p keys in omega (arith, rest)
      | false ↦ let rest = length-parted p keys in omega (arith, rest)
    ]

length-put_key : (key : ℕ) (keys : List ℕ) → length (put_key key keys) ≡ suc (length keys)
length-put_key key [] = refl
length-put_key key (other ∷ others) =
    elim (ltb key other) as (λ b. length (cond b (key ∷ other ∷ others) (other ∷ put_key key others)) ≡ suc (suc (length others))) [
      | true ↦ refl
      | false ↦ ap suc (length-put_key key others)
    ]

length-put_keys : (added keys : List ℕ) → length (put_keys added keys) ≡ length added + length keys
length-put_keys [] keys = omega arith
length-put_keys (key ∷ added) keys = let rest = length-put_keys added keys in omega (arith, length-put_key key (put_keys added keys), rest)

-- the rows that an update leaves are those of before and those that come, without those that go
module _ (limit : ℕ) (old : List ℕ) (update : Update) (applies : update_fault limit old update ≡ None) (rising : IsRising old) (removed_rise : IsRising update.removed) where
  removed_there : AllByRecursion (λ key. is_among key old ≡ true) update.removed
  removed_there =
      every_weaker (λ key. not (is_among key old) ≡ false) (λ key. is_among key old ≡ true) update.removed (λ key e. not-false (is_among key old) e)
      (none_pass (λ key. not (is_among key old)) update.removed (rules_kept limit old update applies).removed)

  staying : length (without update.removed old) + length update.removed ≡ length old
  staying = subst (λ keys. length (without update.removed old) + length keys ≡ length old) (as_filter update.removed old removed_rise rising removed_there) (length-parted (λ key. is_among key update.removed) old)

  pub removed_few : length update.removed ≤ length old
  removed_few = omega (arith, staying)

  pub length-keys_after : (rows : ℕ) → rows ≡ length old → rows + length update.added - length update.removed ≡ length (keys_after old update)
  length-keys_after rows count =
      omega (arith, count, staying, length-put_keys update.added (landed update.shifted (without update.removed old)), length-map (without update.removed old) (λ key. as_key (moved update.shifted key)))

-- the first of two rules that are broken
pub rule_first : (found others : Option FeedRule) (fault : KeyFault) → IsRuleOf found fault → IsRuleOf (option_or found others) fault
rule_first found others Memory e = tt
rule_first found others (Broken rule) e = ap (λ o. option_or o others) e

-- an update that breaks no other rule may leave too many rows
module _ (old : List ℕ) (update : Update) (lawful : update_fault (2 ^ 40) old update ≡ None) (rising : IsRising old) (removed_rise : IsRising update.removed) (rows : ℕ) (count : rows ≡ length old) where
  counted : too_many (rows + length update.added - length update.removed) ≡ keys_fault old update
  counted =
      ap too_many (length-keys_after (2 ^ 40) old update lawful rising removed_rise rows count)
      ∙ sym (ap (λ o. option_or (option_map ByUpdate o) (too_many (length (keys_after old update)))) lawful)

  pub counted_lawful : too_many (rows + length update.added - length update.removed) ≡ None → keys_fault old update ≡ None
  counted_lawful fine = sym counted ∙ fine

  pub counted_rule : (fault : KeyFault) → IsRuleOf (too_many (rows + length update.added - length update.removed)) fault → IsRuleOf (keys_fault old update) fault
  counted_rule fault broken = subst (λ found. IsRuleOf found fault) counted broken
