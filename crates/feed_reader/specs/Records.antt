-- The records of a text, by the definition of the crate `csv`: with its default settings, and without a byte order mark at the start.
--     records_of bytes      the records, each the list of its fields
--     left_of reader      those that a reader has yet to read
use Rattle.std.{specs.Prelude.{◌≡◌, ℕ, ◌+◌, ◌==◌, ◌&&◌, not, Bool, true, false, List, [], ◌∷◌, Option, Some, None, IsSome, length, map, slice_index_or}, specs.List.{list_all, list_any}, specs.Str.is_utf8, specs.Borrow.Bor}
use Rattle.csv.{specs.Machine.ends_with, specs.Records.fields_of, specs.Reading.{records, records_from, default_config, strip_bom, source_of, reader_config, reader_trim, reader_state, Ready}, specs.declared.parser.State.State, specs.declared.reader.Reader.Reader}
use Rattle.csv.specs.declared.parser.State.TheVariants as st
use Rattle.csv.specs.declared.parser.Terminator.TheVariants as term
use Rattle.csv.specs.declared.reader.Trim.TheVariants as trim
use Rattle.feed_reader.{specs.declared.records.Next.Next, specs.declared.records.Records.Records, specs.declared.records.Records.TheVariants.{Plain, Quoted}, specs.declared.records.Next.TheVariants.{Record, NotText, End}}

abbrev pub records_of : List ℕ → List (List (List ℕ))
records_of bytes = records default_config (strip_bom bytes)

-- the field at a place, and the empty text past the last
abbrev pub field_of : List (List ℕ) → ℕ → List ℕ
field_of fields place = slice_index_or fields place []

-- each field is UTF-8
abbrev pub are_texts : List (List ℕ) → Bool
are_texts = list_all is_utf8

-- what a reader has yet to read
abbrev pub records_left : State → Option (List ℕ) → List (List (List ℕ))
records_left state None = []
records_left state (Some text) = records_from default_config (length text + 1) state text

abbrev pub unread : Reader (Bor (List ℕ)) → Option (List ℕ)
unread = source_of (λ text. Some text.now)

abbrev pub quoted_left : Reader (Bor (List ℕ)) → List (List (List ℕ))
quoted_left reader = records_left (reader_state reader) (unread reader)

abbrev pub plain_left : List ℕ → List (List (List ℕ))
plain_left text = records_left st.StartRecord (Some text)

abbrev pub left_of : Records → List (List (List ℕ))
left_of (Plain plain) = plain_left plain.left.now
left_of (Quoted quoted) = quoted_left quoted.reader

-- the fields of the record at hand
abbrev pub field_texts : List (Bor (List ℕ)) → List (List ℕ)
field_texts = map (λ field. field.now)

abbrev pub at_hand : Records → List (List ℕ)
at_hand (Plain plain) = field_texts plain.fields.items
at_hand (Quoted quoted) = fields_of quoted.fields

-- the reader is set up as `records_of` says, and knows what it has yet to read
pub record IsQuoted (reader : Reader (Bor (List ℕ))) : Type 0 where
  pub config : reader_config reader ≡ default_config
  pub trim : reader_trim reader ≡ trim.None
  pub ready : Ready reader
  pub known : IsSome (unread reader)

-- a text without quotes: a line end ends a record, and any other byte but a comma stands in a field
abbrev pub has_quote : List ℕ → Bool
has_quote = list_any (λ byte. byte == 34)

abbrev pub ends_line : ℕ → Bool
ends_line = ends_with term.CRLF

abbrev pub is_field_byte : ℕ → Bool
is_field_byte byte = not (byte == 44) && not (ends_line byte)

abbrev pub IsReading : Records → Type 0
IsReading (Plain plain) = has_quote plain.left.now ≡ false
IsReading (Quoted quoted) = IsQuoted quoted.reader

-- what comes next is the first of what is left
abbrev pub IsNext : Next → List (List (List ℕ)) → List (List ℕ) → List (List (List ℕ)) → Type 0
IsNext Record left fields rest = (left ≡ fields ∷ rest) × (are_texts fields ≡ true)
IsNext NotText left fields rest = (refused : List (List ℕ)) × (others : List (List (List ℕ))) × (left ≡ refused ∷ others) × (are_texts refused ≡ false)
IsNext End left fields rest = left ≡ []
