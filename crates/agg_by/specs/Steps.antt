-- What a step touches.
--     gone input, come input      the old keys of the rows that go or are modified, and the new keys of those that come or are modified
--     staying_rows input      the rows that stay as they are, each under its key of now
--     touched_cells by input      the key cells of these rows, before and now
--     is_touched by input cells      whether a group is touched
--     first_keys by rows      the keys of the first rows of the groups
--     touched_firsts by input rows      those of the touched groups
--     keeps_groups by input      whether rows that stay differ in none of these columns
--     come_cells by input, staying_cells by input      the key cells of now of the rows that come or are modified, and of the others
--     kept_cells members key      the key cells that are kept under a key
--     stays by input pair      whether both rows of a pair are first rows of one touched group
use Rattle.std.{specs.Prelude.{ℕ, ◌==◌, ◌&&◌, Bool, false, not, List, [], ◌++◌, filter, map, option_map, slice_get, unwrap_or, ℤ}, specs.List.list_any, specs.Option.option_map_or}
use Rattle.key_lists.specs.Keys.{is_among, without}
use Rattle.row_groups.specs.Members.{Member, group_of, keys_of, member_under}
use Rattle.row_set.specs.Sets.{united}
use Rattle.table_update.specs.Kept.{old_modified}
use Rattle.tick_model.{specs.Agg.{is_first, key_cells}, specs.Tables.{cells_at, keys, same_cells}, specs.Updates.{kept_pair, removing, shifting}, specs.declared.table.PlainRow.PlainRow, specs.declared.update.KeyPair.KeyPair}
use Rattle.tick_table.specs.Ticking.{Ticking}

abbrev pub gone : Ticking → List ℕ
gone input = united input.update.removed (old_modified (keys input.old.rows) input.update)

abbrev pub come : Ticking → List ℕ
come input = united input.update.added input.update.modified

-- the rows that stay as they are, each under its key of now
abbrev pub staying_rows : Ticking → List PlainRow
staying_rows input = shifting input.update.shifted (removing (gone input) input.old.rows)

abbrev pub keeps_groups : List ℕ → Ticking → Bool
keeps_groups by input = not (list_any (λ column. is_among column input.update.columns) by)

-- the key cells of the row under a key
abbrev pub key_at : List ℕ → List PlainRow → ℕ → List ℤ
key_at by rows key = key_cells by (cells_at key rows)

abbrev pub touched_cells : List ℕ → Ticking → List (List ℤ)
touched_cells by input = map (key_at by input.old.rows) (gone input) ++ map (key_at by input.new.rows) (come input)

-- those of now, in the order in which the rows come
abbrev pub come_cells : List ℕ → Ticking → List (List ℤ)
come_cells by input = map (key_at by input.new.rows) (input.update.modified ++ input.update.added)

abbrev pub staying_cells : List ℕ → Ticking → List (List ℤ)
staying_cells by input = map (key_at by input.new.rows) (without (input.update.modified ++ input.update.added) (keys input.new.rows))

abbrev pub is_touched : List ℕ → Ticking → List ℤ → Bool
is_touched by input cells = list_any (same_cells cells) (touched_cells by input)

abbrev pub first_keys : List ℕ → List PlainRow → List ℕ
first_keys by rows = keys (filter (is_first by rows) rows)

abbrev pub touched_firsts : List ℕ → Ticking → List PlainRow → List ℕ
touched_firsts by input rows = filter (λ key. is_touched by input (key_at by rows key)) (first_keys by rows)

-- whether the group has its first row under the key, and whether that with these key cells has
abbrev pub is_led : List Member → ℕ → Bool
is_led group key = option_map_or (λ first. first == key) (slice_get (keys_of group) 0) false

abbrev pub starts : List Member → ℕ → List ℤ → Bool
starts members key cells = is_led (group_of cells members) key

-- the key cells of the member under a key
abbrev pub kept_cells : List Member → ℕ → List ℤ
kept_cells members key = unwrap_or (option_map (λ member. member.cells) (member_under key members)) []

-- whether both rows of a pair are first rows of one touched group
abbrev pub stays : List ℕ → Ticking → KeyPair → Bool
stays by input pair =
    is_among pair.new (touched_firsts by input input.new.rows)
    && same_cells (key_at by input.old.rows pair.old) (key_at by input.new.rows pair.new)

abbrev pub staying : List ℕ → Ticking → List KeyPair
staying by input = filter (stays by input) (map (kept_pair input.update) (without input.update.removed (touched_firsts by input input.old.rows)))
