-- Rows by the cells in which the two inputs are compared.
--     key_cells side on cells      the key cells of a row of the left or of the right input
--     time_of side pick cells      its time; where the pick asks for none, all rows have the same
--     keyed side on pick rows      the rows by their key cells and times
--     indexed side on pick rows      the index of an input's rows
--     rekeys side on pick old new pair      whether a row that stays changes its key cells or its time
--     IsRowOf side on pick rows member      the member is the row under its key
use Rattle.std.{specs.Prelude.{◌≡◌, ℕ, Bool, ◌&&◌, not, List, length, map, ℤ, pos}, specs.Ordering.int_eq}
use Rattle.lookup_join.{specs.declared.keyed.Side.Side, specs.declared.keyed.Side.TheVariants.{Left, Right}, specs.declared.pick.Pick.Pick, specs.declared.pick.Pick.TheVariants.{First, Last, Latest}}
use Rattle.row_groups.specs.Members.{Grouped, Member, member_of}
use Rattle.tick_model.{specs.declared.plan.OnPair.OnPair, specs.declared.table.PlainRow.PlainRow, specs.declared.table.PlainTable.PlainTable, specs.declared.update.KeyPair.KeyPair, specs.Tables.{cell, cells_at, same_cells}}

abbrev pub column_of : Side → OnPair → ℕ
column_of Left pair = pair.left
column_of Right pair = pair.right

abbrev pub key_cells : Side → List OnPair → List ℤ → List ℤ
key_cells side on cells = map (λ pair. cell cells (column_of side pair)) on

abbrev pub time_of : Side → Pick → List ℤ → ℤ
time_of side First cells = pos 0
time_of side Last cells = pos 0
time_of side (Latest at) cells = cell cells (column_of side at)

abbrev pub keyed : Side → List OnPair → Pick → List PlainRow → List Member
keyed side on pick = map (λ row. member_of row.key (key_cells side on row.cells) (time_of side pick row.cells))

abbrev pub indexed : Side → List OnPair → Pick → List PlainRow → Grouped
indexed side on pick rows = record { width = length on; members = keyed side on pick rows }

-- the key cells and the time of the row under a key
abbrev pub key_at : Side → List OnPair → List PlainRow → ℕ → List ℤ
key_at side on rows key = key_cells side on (cells_at key rows)

abbrev pub time_at : Side → Pick → List PlainRow → ℕ → ℤ
time_at side pick rows key = time_of side pick (cells_at key rows)

abbrev pub member_at : Side → List OnPair → Pick → List PlainRow → ℕ → Member
member_at side on pick rows key = member_of key (key_at side on rows key) (time_at side pick rows key)

-- whether two members stand at one place of a group
abbrev pub same_spot : Member → Member → Bool
same_spot one other = same_cells one.cells other.cells && int_eq one.at other.at

abbrev pub rekeys : Side → List OnPair → Pick → PlainTable → PlainTable → KeyPair → Bool
rekeys side on pick old new pair = not (same_spot (member_at side on pick old.rows pair.old) (member_at side on pick new.rows pair.new))

abbrev pub IsRowOf : Side → List OnPair → Pick → List PlainRow → Member → Type 0
IsRowOf side on pick rows member = member ≡ member_at side on pick rows member.key
