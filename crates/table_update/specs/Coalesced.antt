-- Two updates of a table, one after the other.
--     Follow old first next      the first one may be applied to a table with the old keys, and then the next one
--     kept_by_both old first next      the pairs of the keys that both keep
--     coalesced old first next      the update that they make together
use Rattle.std.specs.Prelude.{◌≡◌, ℕ, ◌^◌, ◌||◌, Bool, List, [], None, map, filter, if◌then◌else◌}
use Rattle.key_lists.specs.Keys.{is_among, without}
use Rattle.row_set.specs.Sets.{united}
use Rattle.tick_model.{specs.declared.update.KeyPair.KeyPair, specs.Changes.is_none, specs.Rules.{landed, update_fault}, specs.Shifts.{moved, as_key, composed, shifted}, specs.Updates.{Update, kept_pair, new_keys, old_keys}}
use Rattle.tick_laws.specs.Checked.{keys_after}

pub record Follow (old : List ℕ) (first next : Update) : Type 0 where
  pub applies : update_fault (2 ^ 62) old first ≡ None
  pub follows : update_fault (2 ^ 62) (keys_after old first) next ≡ None

-- the pairs of the keys that an update keeps
abbrev pub key_pairs : List ℕ → Update → List KeyPair
key_pairs old update = map (kept_pair update) (without update.removed old)

abbrev pub kept_by_both : List ℕ → Update → Update → List KeyPair
kept_by_both old first next = composed (key_pairs old first) (key_pairs (keys_after old first) next)

-- the keys that an update modifies, but for others, and those to which it moves the keys that were modified before
abbrev pub modified_after : Update → List ℕ → List ℕ → List ℕ
modified_after update modified others = united (landed update.shifted (without update.removed modified)) (without others update.modified)

-- whether one of them modifies the row of a pair
abbrev pub is_modified : Update → Update → KeyPair → Bool
is_modified first next pair = is_among (as_key (moved first.shifted pair.old)) first.modified || is_among pair.new next.modified

-- the columns of both, where a row is modified
abbrev pub columns_of_both : List ℕ → Update → Update → List ℕ
columns_of_both modified first next = if is_none modified then [] else united first.columns next.columns

abbrev pub removed_by_both : List ℕ → Update → Update → List ℕ
removed_by_both old first next = without (old_keys (kept_by_both old first next)) old

abbrev pub added_by_both : List ℕ → Update → Update → List ℕ
added_by_both old first next = without (new_keys (kept_by_both old first next)) (keys_after (keys_after old first) next)

abbrev pub modified_by_both : List ℕ → Update → Update → List ℕ
modified_by_both old first next = new_keys (filter (is_modified first next) (kept_by_both old first next))

abbrev pub coalesced : List ℕ → Update → Update → Update
coalesced old first next = record {
  removed = removed_by_both old first next;
  added = added_by_both old first next;
  modified = modified_by_both old first next;
  shifted = shifted (kept_by_both old first next);
  columns = columns_of_both (modified_by_both old first next) first next;
}
