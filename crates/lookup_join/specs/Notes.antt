-- Which right row left rows took before a step, where the step touches right rows.
--     Note      key cells and a time, and the old key of the right row that was taken then by rows with these key cells
--     note_of cells at notes      the latest note of these key cells that is not later, or None where there is none
--     is_noted note at      whether what was found is a note of this very time
--     noting pick members notes spots      notes of these places more, by the right rows that there are
--     notes_of members before      the notes whose key cells and times are those of members
--     IsNumbered members before      the members are numbered as what is noted of them
use Rattle.std.{specs.Prelude.{◌≡◌, ℕ, Bool, false, ◌&&◌, List, [], ◌∷◌, ◌++◌, Option, Some, None, filter, fold, int_le, length, map, option_map, unwrap_or, ℤ, pos, if◌then◌else◌}, specs.List.range_with_len, specs.Ordering.int_eq}
use Rattle.lookup_join.{specs.declared.notes.PriorMatch.PriorMatch, specs.declared.pick.Pick.Pick, specs.declared.pick.Pick.TheVariants.Last, specs.Latest.{latest_by, match_of, next_time}}
use Rattle.row_groups.specs.Members.{Member, keys_of, member_of, member_under}
use Rattle.tick_model.specs.Tables.{same_cells}

-- key cells and a time
pub record Spot : Type 0 where
  pub cells : List ℤ
  pub at : ℤ

pub record Note : Type 0 where
  pub cells : List ℤ
  pub at : ℤ
  pub before : Option ℕ

-- notes of groups with this many key cells
pub record NoteList : Type 0 where
  pub width : ℕ
  pub notes : List Note

abbrev pub note_of : List ℤ → ℤ → List Note → Option Note
note_of cells at notes = latest_by Last (λ note. note.at) (filter (λ note. same_cells cells note.cells && int_le note.at at) notes)

abbrev pub noted_of : Note → PriorMatch
noted_of note = record { at = note.at; before = note.before }

-- the first time after this one of a note of these key cells
abbrev pub next_after : List ℤ → ℤ → List Note → Option ℤ
next_after cells at notes = next_time cells at (map (λ (note : Note). member_of 0 note.cells note.at) notes)

-- whether the latest note is one of this very time
abbrev pub is_noted : Option Note → ℤ → Bool
is_noted None at = false
is_noted (Some note) at = int_eq note.at at

abbrev pub with_note : Note → List Note → List Note
with_note note notes = if is_noted (note_of note.cells note.at notes) note.at then notes else notes ++ note ∷ []

-- the key of the row that is taken at a time by those with these key cells
abbrev pub taken_key : Pick → List Member → List ℤ → ℤ → Option ℕ
taken_key pick members cells at = option_map (λ (member : Member). member.key) (match_of pick cells at members)

abbrev pub spot_under : ℕ → List Member → Spot
spot_under key members = unwrap_or (option_map (λ (member : Member). record { cells = member.cells; at = member.at }) (member_under key members)) (record { cells = []; at = pos 0 })

abbrev pub fresh_note : Pick → List Member → Spot → Note
fresh_note pick members spot = record { cells = spot.cells; at = spot.at; before = taken_key pick members spot.cells spot.at }

abbrev pub noting : Pick → List Member → List Note → List Spot → List Note
noting pick members = fold (λ notes spot. with_note (fresh_note pick members spot) notes)

abbrev pub notes_of : List Member → List (Option ℕ) → List Note
notes_of [] before = []
notes_of (member ∷ members) [] = []
notes_of (member ∷ members) (first ∷ before) = (record { cells = member.cells; at = member.at; before = first }) ∷ notes_of members before

-- the members are numbered from 0 on
pub record IsNumbered (members : List Member) (before : List (Option ℕ)) : Type 0 where
  pub numbers : keys_of members ≡ range_with_len 0 (length before)
