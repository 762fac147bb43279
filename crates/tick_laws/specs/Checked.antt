-- Updates that are checked against the keys that they change.
--     keys_after old update      the keys that an update leaves
--     IsChecked limit old update      it breaks no rule on the old keys, and its added keys rise
use Rattle.std.specs.Prelude.{◌≡◌, ℕ, List, [], ◌∷◌, None, nat_lt, if◌then◌else◌}
use Rattle.key_lists.specs.Keys.{IsRising, without}
use Rattle.tick_model.{specs.declared.table.PlainRow.PlainRow, specs.declared.table.PlainTable.PlainTable, specs.Rules.{landed, update_fault}, specs.Updates.{Tick, Update, carry, pairs}}

-- a key, and keys, put among others in order
abbrev pub put_key : ℕ → List ℕ → List ℕ
put_key key [] = key ∷ []
put_key key (other ∷ others) = if nat_lt key other then key ∷ other ∷ others else other ∷ put_key key others

abbrev pub put_keys : List ℕ → List ℕ → List ℕ
put_keys [] keys = keys
put_keys (key ∷ added) keys = put_key key (put_keys added keys)

-- where the keys that stay have moved, with the added ones among them
abbrev pub keys_after : List ℕ → Update → List ℕ
keys_after old update = put_keys update.added (landed update.shifted (without update.removed old))

pub record IsChecked (limit : ℕ) (old : List ℕ) (update : Update) : Type 0 where
  pub breaks_none : update_fault limit old update ≡ None
  pub added_rise : IsRising update.added

-- the tick from a table to what an update makes of it
abbrev pub carried_tick : PlainTable → Update → List PlainRow → Tick
carried_tick table update cells = record { old = table; new = carry table update cells; kept = pairs table update }
