-- What the blocks of a step have gathered of a source, of which the last ones may wait.
--     MayWait keys update      the update may wait to be joined to what was gathered before it, which leaves these keys
--     joined old update waiting      the update of a table with the old keys, and then the one that waits, if one does
--     keys_with keys waiting      the keys that the update that waits leaves of these
--     MayFollow waiting next      the next update may follow what waits
--     AreSets update      its keys are sets
--     IsGathered old gathered      what was gathered of a source that had the old keys
use Rattle.std.specs.Prelude.{◌≡◌, ℕ, ◌^◌, ◌⊎◌, List, [], Option, None, Some}
use Rattle.row_set.specs.Sets.{IsKeySet}
use Rattle.source_changes.{specs.declared.gathering.PendingUpdate.PendingUpdate, specs.Stepping.update_after}
use Rattle.tick_laws.specs.Checked.{keys_after}
use Rattle.tick_model.{specs.Rules.update_fault, specs.Updates.Update}

-- it moves no row, names no column and breaks no rule
pub record MayWait (keys : List ℕ) (update : Update) : Type 0 where
  pub still : update.shifted ≡ []
  pub plain : update.columns ≡ []
  pub applies : update_fault (2 ^ 62) keys update ≡ None

abbrev pub Waits : List ℕ → Option Update → Type 0
Waits keys None = Unit {0}
Waits keys (Some waiting) = MayWait keys waiting

abbrev pub joined : List ℕ → Update → Option Update → Update
joined old update None = update
joined old update (Some waiting) = update_after old update waiting

abbrev pub keys_with : List ℕ → Option Update → List ℕ
keys_with keys None = keys
keys_with keys (Some waiting) = keys_after keys waiting

abbrev pub MayFollow : Option Update → Update → Type 0
MayFollow waiting next = (waiting ≡ None) ⊎ (next.shifted ≡ [])

pub record AreSets (update : Update) : Type 0 where
  pub removed : IsKeySet update.removed
  pub added : IsKeySet update.added
  pub modified : IsKeySet update.modified

abbrev pub AreSetsOf : Option Update → Type 0
AreSetsOf None = Unit {0}
AreSetsOf (Some update) = AreSets update

pub record IsGathered (old : List ℕ) (gathered : PendingUpdate) : Type 0 where
  pub keys : gathered.keys ≡ keys_after old gathered.update
  pub plain : gathered.update.columns ≡ []
  pub applies : update_fault (2 ^ 62) old gathered.update ≡ None
  pub waits : Waits gathered.keys gathered.waiting
  pub sets : AreSets gathered.update
  pub waiting_sets : AreSetsOf gathered.waiting
