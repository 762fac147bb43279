-- What a field spells.
--     long_of text      the number of a long cell
--     key_of text      the key of a row
--     delta_of text      how far a range moves
--     cells_of columns fields      the cells of a row
use Rattle.std.{specs.Prelude.{◌≡◌, ℕ, ◌^◌, ◌==◌, ◌&&◌, List, [], ◌∷◌, Option, Some, None, ℤ, pos, neg_ℤ, length, map, nat_lt, nat_le, not, option_map, if◌then◌else◌}, specs.List.zip, specs.Str.all_ascii_digits, specs.Str.Parse.digits_value}
use Rattle.tick_model.{specs.declared.plan.ColumnSpec.ColumnSpec, specs.declared.plan.Kind.Kind, specs.declared.plan.Kind.TheVariants.{Long as LongKind, Text as TextKind}, specs.Changes.is_none}
use Rattle.feed_reader.{specs.declared.raw.RawCell.RawCell, specs.declared.raw.RawCell.TheVariants.{Null, Long, Text}, specs.Raw.{cell_texts, raw_cell, Grows, IsNumber}}

-- the number that 1 to 19 digits spell, below a limit
abbrev pub number_below : ℕ → List ℕ → Option ℕ
number_below limit text =
    if not (is_none text) && nat_le (length text) 19 && all_ascii_digits text && nat_lt (digits_value 10 text) limit then Some (digits_value 10 text) else None

-- the same after an optional minus sign
abbrev pub signed_below : ℕ → List ℕ → Option ℤ
signed_below limit [] = None
signed_below limit (first ∷ others) = if first == 45 then option_map neg_ℤ (option_map pos (number_below limit others)) else option_map pos (number_below limit (first ∷ others))

abbrev pub long_of : List ℕ → Option ℤ
long_of = signed_below (2 ^ 63)

-- the keys of a source are below 2 ^ 40
abbrev pub key_of : List ℕ → Option ℕ
key_of = number_below (2 ^ 40)

-- a range moves by less than there are keys, and by some
abbrev pub not_zero : ℤ → Option ℤ
not_zero (pos n) = if n == 0 then None else Some (pos n)
not_zero delta = Some delta

abbrev pub some_not_zero : Option ℤ → Option ℤ
some_not_zero None = None
some_not_zero (Some delta) = not_zero delta

abbrev pub delta_of : List ℕ → Option ℤ
delta_of text = some_not_zero (signed_below (2 ^ 40) text)

-- a cell: an empty field is null
abbrev pub known_cell : Kind → List ℕ → Option RawCell
known_cell LongKind field = option_map Long (long_of field)
known_cell TextKind field = Some (Text field)

abbrev pub cell_of : Kind → List ℕ → Option RawCell
cell_of kind field = if is_none field then Some Null else known_cell kind field

abbrev pub cell_in : ColumnSpec × List ℕ → Option RawCell
cell_in cell = cell_of cell.0.kind cell.1

-- each one, where each is there
abbrev pub with_first : {X : Type 0} → Option X → Option (List X) → Option (List X)
with_first None others = None
with_first (Some first) None = None
with_first (Some first) (Some others) = Some (first ∷ others)

abbrev pub all_some : {X : Type 0} → List (Option X) → Option (List X)
all_some [] = Some []
all_some (first ∷ others) = with_first first (all_some others)

-- one for each column
abbrev pub cells_of : List ColumnSpec → List (List ℕ) → Option (List RawCell)
cells_of columns fields = all_some (map cell_in (zip columns fields))

abbrev pub kinds_in : List ColumnSpec → List Kind
kinds_in = map (λ column. column.kind)

-- a cell in which a text has its number is the one that a field spells
abbrev pub IsCellOf : Kind → List ℕ → List (List ℕ) → List (List ℕ) → Option ℤ → Type 0
IsCellOf kind field known texts None = cell_of kind field ≡ None
IsCellOf kind field known texts (Some n) = (cell_of kind field ≡ Some (raw_cell texts (kind, n))) × IsNumber (length texts) (kind, n) × Grows known texts (cell_texts (raw_cell texts (kind, n)))
