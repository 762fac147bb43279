-- What edits make of entries.
--     edited edit entries      the entries after an edit
--     edited_by edits entries      the entries after these edits
--     IsAllowed edit entries      whether an edit may be made
--     AreAllowed edits entries      whether each of these edits may be made, after those before it
use Rattle.std.specs.Prelude.{◌≡◌, ◌^◌, ◌<◌, List, [], ◌∷◌}
use Rattle.shift_data.specs.Moves.{IsLawful}
use Rattle.column_source.{specs.declared.edit.Edit.Edit, specs.declared.edit.Edit.TheVariants.{Set, DropKeys, Shift}, specs.Entries.{Entry, keys_of, left_entries, moved_entries, put}}

abbrev pub edited : Edit → List Entry → List Entry
edited (Set key cell) = put key cell
edited (DropKeys keys) = left_entries keys
edited (Shift shifts) = moved_entries shifts

abbrev pub edited_by : List Edit → List Entry → List Entry
edited_by [] entries = entries
edited_by (edit ∷ edits) entries = edited_by edits (edited edit entries)

-- a key is below 2 ^ 62, and a shift is one that the keys may be moved by
abbrev pub IsAllowed : Edit → List Entry → Type 0
IsAllowed (Set key cell) entries = key < 2 ^ 62
IsAllowed (DropKeys keys) entries = Unit {0}
IsAllowed (Shift shifts) entries = IsLawful shifts (keys_of entries)

abbrev pub AreAllowed : List Edit → List Entry → Type 0
AreAllowed [] entries = Unit {0}
AreAllowed (edit ∷ edits) entries = IsAllowed edit entries × AreAllowed edits (edited edit entries)

pub record LeadTo (now : List Entry) (edits : List Edit) (before : List Entry) : Type 0 where
  pub allowed : AreAllowed edits before
  pub lead : edited_by edits before ≡ now
