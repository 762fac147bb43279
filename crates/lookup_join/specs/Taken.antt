-- The cells that left rows take of right rows.
--     cell_of old new match      the cells of the right row of a match, before the step or now, or nulls
--     IsThere old new match      the row is one of the tables
--     taken_cells on pick take rows cells time      the cells that left rows with these key cells take at this time
--     touched_spots on pick old new update modified      the key cells and times of the rows that a step touches, before and now
--     end_of right notes cells at      until when a note of this place speaks
--     speaks now noted      whether a note of this time tells what was taken
--     match_as_before pick members notes cells at      the right row that was taken before the step
--     match_in version pick members notes cells at      the right row that was taken before the step, or is taken now
--     turned_note pick take left right notes old new note      the left rows for which a note speaks, where they take other cells now
--     told_notes on pick left right      what is noted in a step: nothing, where there was no left row
--     turned_keys on pick take left right      the left rows for which the notes of a step speak so
use Rattle.std.{specs.Prelude.{◌≡◌, ℕ, ◌<◌, ◌==◌, Bool, false, true, ◌&&◌, List, [], ◌∷◌, ◌++◌, Option, Some, None, filter, flat_map, int_le, length, map, option_map, ℤ, if◌then◌else◌, IsTrue}, specs.List.AllByRecursion}
use Rattle.key_lists.specs.Keys.{is_among}
use Rattle.lookup_join.{specs.declared.keyed.Side.Side, specs.declared.keyed.Side.TheVariants.{Left, Right}, specs.declared.matches.Match.Match, specs.declared.matches.Match.TheVariants.{Before, Now, Nothing}, specs.declared.pick.Pick.Pick, specs.Keyed.{indexed, key_at, key_cells, keyed, rekeys, time_at, time_of}, specs.Latest.{during, earlier, latest_by, match_of, next_time}, specs.Notes.{Note, Spot, next_after, note_of, noting, taken_key}}
use Rattle.row_groups.specs.Members.{Grouped, Member, group_of, keys_of}
use Rattle.tick_model.{specs.declared.plan.OnPair.OnPair, specs.declared.table.PlainRow.PlainRow, specs.declared.table.PlainTable.PlainTable, specs.declared.update.KeyPair.KeyPair, specs.Join.taken, specs.Tables.{cell, cells_at, keys, null, same_cells}, specs.Updates.{Update, pairs}}
use Rattle.tick_table.specs.declared.version.Version.TheVariants as versions
use Rattle.tick_table.{specs.declared.version.Version.Version, specs.Exact.IsExact, specs.Ticking.Ticking}

abbrev pub match_before : Option ℕ → Match
match_before None = Nothing
match_before (Some key) = Before key

abbrev pub match_now : Option ℕ → Match
match_now None = Nothing
match_now (Some key) = Now key

abbrev pub cell_of : List PlainRow → List PlainRow → Match → ℕ → ℤ
cell_of old new (Before key) = cell (cells_at key old)
cell_of old new (Now key) = cell (cells_at key new)
cell_of old new Nothing = λ _. null

abbrev pub IsThere : PlainTable → PlainTable → Match → Type 0
IsThere old new (Before key) = IsTrue (is_among key (keys old.rows))
IsThere old new (Now key) = IsTrue (is_among key (keys new.rows))
IsThere old new Nothing = Unit {0}

-- the right rows with these key cells that are not later
abbrev pub gathered : List OnPair → Pick → List PlainRow → List ℤ → ℤ → List PlainRow
gathered on pick rows cells time = filter (λ row. same_cells cells (key_cells Right on row.cells) && int_le (time_of Right pick row.cells) time) rows

abbrev pub taken_cells : List OnPair → Pick → List ℕ → List PlainRow → List ℤ → ℤ → List ℤ
taken_cells on pick take rows cells time = taken take (latest_by pick (λ row. time_of Right pick row.cells) (gathered on pick rows cells time))

abbrev pub spot_at : List OnPair → Pick → List PlainRow → ℕ → Spot
spot_at on pick rows key = record { cells = key_at Right on rows key; at = time_at Right pick rows key }

abbrev pub touched_spots : List OnPair → Pick → List PlainRow → List PlainRow → Update → List KeyPair → List Spot
touched_spots on pick old new update modified =
    map (spot_at on pick old) update.removed
    ++ (flat_map (λ pair. spot_at on pick old pair.old ∷ spot_at on pick new pair.new ∷ []) modified
    ++ map (spot_at on pick new) update.added)

-- the note is of the right row that was taken, which is there as is the one that is taken now
pub record IsFrom (pick : Pick) (members : List Member) (old new : PlainTable) (note : Note) : Type 0 where
  pub before : IsThere old new (match_before note.before)
  pub now : IsThere old new (match_now (taken_key pick members note.cells note.at))

-- until when a note of this place speaks: the next right row, or the next note
abbrev pub end_of : List Member → List Note → List ℤ → ℤ → Option ℤ
end_of right notes cells at = earlier (next_time cells at right) (next_after cells at notes)

abbrev pub turned_note : Pick → List ℕ → List Member → List Member → List Note → List PlainRow → List PlainRow → Note → List ℕ
turned_note pick take left right notes old new note =
    if same_cells (map (cell_of old new (match_now (taken_key pick right note.cells note.at))) take) (map (cell_of old new (match_before note.before)) take)
    then []
    else keys_of (filter (during note.at (end_of right notes note.cells note.at)) (group_of note.cells left))

abbrev pub turned_members : Pick → List ℕ → List Member → List Member → List Note → List PlainRow → List PlainRow → List Note → List ℕ
turned_members pick take left right notes old new = flat_map (turned_note pick take left right notes old new)

-- whether a note of this time speaks of what is taken now: no right row came after it
abbrev pub speaks : Option Member → ℤ → Bool
speaks None noted = true
speaks (Some member) noted = int_le member.at noted

-- the right row that was taken before the step: the noted one, where its note speaks, or else the one of now
abbrev pub before_by : Option Member → Option Note → Match
before_by now None = match_now (option_map (λ (member : Member). member.key) now)
before_by now (Some note) = if speaks now note.at then match_before note.before else match_now (option_map (λ (member : Member). member.key) now)

abbrev pub match_as_before : Pick → List Member → List Note → List ℤ → ℤ → Match
match_as_before pick members notes cells at = before_by (match_of pick cells at members) (note_of cells at notes)

abbrev pub match_in : Version → Pick → List Member → List Note → List ℤ → ℤ → Match
match_in versions.Before pick members notes cells at = match_as_before pick members notes cells at
match_in versions.Now pick members notes cells at = match_now (taken_key pick members cells at)

-- a table has a row
abbrev pub HasRow : PlainTable → Type 0
HasRow table = (length (keys table.rows) == 0) ≡ false

-- the rows of an as-of join may be read: the index has the right rows of now, and what is noted or not says what left rows took before
pub record AreMatched (on : List OnPair) (pick : Pick) (take : List ℕ) (left right : Ticking) (index : Grouped) (notes : List Note) : Type 0 where
  pub left_exact : IsExact left
  pub right_exact : IsExact right
  pub within : AllByRecursion (λ column. column < right.new.width) take
  pub rows : index ≡ indexed Right on pick right.new.rows
  pub there : HasRow left.old → (cells : List ℤ) (time : ℤ) → IsThere right.old right.new (match_as_before pick index.members notes cells time)
  pub before : HasRow left.old → (cells : List ℤ) (time : ℤ) → map (cell_of right.old.rows right.new.rows (match_as_before pick index.members notes cells time)) take ≡ taken_cells on pick take right.old.rows cells time

-- the pairs of modified rows, and of those that change their key cells or their time
abbrev pub modified_pairs : Ticking → List KeyPair
modified_pairs input = filter (λ pair. is_among pair.new input.update.modified) (pairs input.old input.update)

abbrev pub rekeyed_pairs : Side → List OnPair → Pick → Ticking → List KeyPair
rekeyed_pairs side on pick input = filter (rekeys side on pick input.old input.new) (modified_pairs input)

-- what is noted in a step of the right input
abbrev pub step_notes : List OnPair → Pick → Ticking → List Note
step_notes on pick right = noting pick (keyed Right on pick right.old.rows) [] (touched_spots on pick right.old.rows right.new.rows right.update (modified_pairs right))

abbrev pub told_notes : List OnPair → Pick → Ticking → Ticking → List Note
told_notes on pick left right = if length (keys left.old.rows) == 0 then [] else step_notes on pick right

abbrev pub turned_keys : List OnPair → Pick → List ℕ → Ticking → Ticking → List ℕ
turned_keys on pick take left right = turned_members pick take (keyed Left on pick left.new.rows) (keyed Right on pick right.new.rows) (step_notes on pick right) right.old.rows right.new.rows (step_notes on pick right)
