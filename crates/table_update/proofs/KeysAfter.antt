-- The keys that an update leaves, by the edits of a set.
use Rattle.std.proofs.Common.{◌≡◌, refl, ap, ◌∙◌, false, cond, not, ◌++◌, ◌==◌, ℕ, ◌^◌, ltb, List, [], ◌∷◌, None}
use Rattle.std.{specs.Prelude.{find, option_map}, specs.List.AllByRecursion, proofs.lemmas.Bool.{or_parts, or_from}}
use Rattle.key_lists.{specs.Keys.{is_among, IsRising, without}, proofs.Among.among_below, proofs.Every.none_pass, proofs.Booleans.eqb_swap}
use Rattle.row_set.{specs.Sets.{with_key, united}, proofs.United.among-united}
use Rattle.tick_model.{specs.declared.update.UpdateFault.TheVariants.{RemovedAbsent, AddedTaken, ModifiedAbsent, ModifiedAdded}, specs.Rules.{landed, shift_fault, update_fault}, specs.Updates.Update}
use Rattle.tick_laws.{specs.Checked.{put_key, put_keys, keys_after}, proofs.CheckedUpdates.{none_parts, map_none}}

-- a key that is none of the others is put among them
with_key-put : (key : ℕ) (keys : List ℕ) → is_among key keys ≡ false → with_key key keys ≡ put_key key keys
with_key-put key [] e = refl
with_key-put key (other ∷ others) e =
    let apart : ((other == key) ≡ false) × (is_among key others ≡ false) = or_parts (other == key) (is_among key others) e in
    ap (λ b. cond (ltb key other) (key ∷ other ∷ others) (cond b (other ∷ others) (other ∷ with_key key others))) (eqb_swap key other ∙ apart.0)
    ∙ ap (λ keys. cond (ltb key other) (key ∷ other ∷ others) (other ∷ keys)) (with_key-put key others apart.1)

united-put : (added keys : List ℕ) → IsRising added → AllByRecursion (λ key. is_among key keys ≡ false) added → united added keys ≡ put_keys added keys
united-put [] keys rising free = refl
united-put (key ∷ added) keys rising free =
    with_key-put key (united added keys) (among-united key added keys ∙ or_from (is_among key added) (is_among key keys) (among_below key added rising.0) free.0)
    ∙ ap (put_key key) (united-put added keys rising.1 free.1)

-- what an update that breaks no rule keeps to
pub record KeepsRules (limit : ℕ) (old : List ℕ) (update : Update) : Type 0 where
  pub removed : find (λ key. not (is_among key old)) update.removed ≡ None
  pub shifted : shift_fault limit update.shifted (without update.removed old) ≡ None
  pub added : find (λ key. is_among key (landed update.shifted (without update.removed old))) update.added ≡ None
  pub modified : find (λ key. not (is_among key (landed update.shifted (without update.removed old) ++ update.added))) update.modified ≡ None
  pub apart : find (λ key. is_among key update.added) update.modified ≡ None

pub rules_kept : (limit : ℕ) (old : List ℕ) (update : Update) → update_fault limit old update ≡ None → KeepsRules limit old update
rules_kept limit old update e =
    let after_removed = none_parts (option_map RemovedAbsent (find (λ key. not (is_among key old)) update.removed)) _ e in
    let after_shifts = none_parts (shift_fault limit update.shifted (without update.removed old)) _ after_removed.1 in
    let after_added = none_parts (option_map AddedTaken (find (λ key. is_among key (landed update.shifted (without update.removed old))) update.added)) _ after_shifts.1 in
    let after_modified = none_parts (option_map ModifiedAbsent (find (λ key. not (is_among key (landed update.shifted (without update.removed old) ++ update.added))) update.modified)) _ after_added.1 in
    record {
      removed = map_none RemovedAbsent _ after_removed.0;
      shifted = after_shifts.0;
      added = map_none AddedTaken _ after_added.0;
      modified = map_none ModifiedAbsent _ after_modified.0;
      apart = map_none ModifiedAdded _ after_modified.1;
    }

pub keys_after_edits : (old : List ℕ) (update : Update) → update_fault (2 ^ 62) old update ≡ None → IsRising update.added → united update.added (landed update.shifted (without update.removed old)) ≡ keys_after old update
keys_after_edits old update e rising =
    let free = none_pass (λ key. is_among key (landed update.shifted (without update.removed old))) update.added (rules_kept (2 ^ 62) old update e).added in
    united-put update.added (landed update.shifted (without update.removed old)) rising free
