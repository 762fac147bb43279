-- The regions of the inputs of a merge.
--     room_in version input      how much room the region of an input has
--     IsStart start      no region begins further behind the keys than all that are empty may be
--     starts_of before now inputs      where the regions begin, of which the first begins there
--     in_regions part room from inputs      a part of each input's keys in the input's region, where a region has so much room
--     moves before now inputs key      by how much a key of the rows before moves: with its input, and with the input's region
use Rattle.std.specs.Prelude.{ℕ, ◌+◌, ◌-◌, ◌^◌, ◌≤◌, List, [], ◌∷◌, ◌++◌, ℤ, pos, ◌+ℤ◌, ◌-ℤ◌, map, nat_lt, if◌then◌else◌}
use Rattle.merge_op.specs.declared.starts.Start.{Start}
use Rattle.tick_model.{specs.Merge.region, specs.Shifts.delta_at}
use Rattle.tick_table.{specs.declared.version.Version.Version, specs.Ticking.Ticking, specs.Versions.table_in}

abbrev pub room_in : Version → Ticking → ℕ
room_in version input = region (table_in version input)

abbrev pub room_before : Ticking → ℕ
room_before input = region input.old

abbrev pub room_now : Ticking → ℕ
room_now input = region input.new

abbrev pub start_at : ℕ → ℕ → Start
start_at before now = record { before = before; now = now }

pub record IsStart (start : Start) : Type 0 where
  pub before : start.before ≤ 2 ^ 62 + 2 ^ 20
  pub now : start.now ≤ 2 ^ 62 + 2 ^ 20

abbrev pub starts_of : ℕ → ℕ → List Ticking → List Start
starts_of before now [] = []
starts_of before now (input ∷ inputs) = start_at before now ∷ starts_of (before + room_before input) (now + room_now input) inputs

abbrev pub in_regions : (Ticking → List ℕ) → (Ticking → ℕ) → ℕ → List Ticking → List ℕ
in_regions part room from [] = []
in_regions part room from (input ∷ inputs) = map (λ key. key + from) (part input) ++ in_regions part room (from + room input) inputs

abbrev pub moves : ℕ → ℕ → List Ticking → ℕ → ℤ
moves before now [] key = pos 0
moves before now (input ∷ inputs) key =
    if nat_lt key (before + room_before input)
    then delta_at input.update.shifted (key - before) +ℤ (pos now -ℤ pos before)
    else moves (before + room_before input) (now + room_now input) inputs key
