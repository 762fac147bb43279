-- A change can be read back from its text.
--     change_text step name columns texts change      the text of a change
--     UpdateTextIsOneToOne      a text is of one change, at one step, of a table of one name
use Rattle.std.specs.Prelude.{◌≡◌, ℕ, ◌^◌, ◌<◌, true, false, List, map}
use Rattle.tick_model.{specs.declared.plan.ColumnSpec.ColumnSpec, specs.Changes.{Change, is_empty}, specs.LawfulRuns.AreTexts, specs.Names.are_distinct, specs.Printable.IsPrintable, specs.Texts.{change_records, records_text}}

abbrev pub change_text : ℕ → List ℕ → List ColumnSpec → List (List ℕ) → Change → List ℕ
change_text step name columns texts change = records_text (change_records step name columns texts change)

-- the columns have distinct names, and the texts are not empty and rise
pub record TellApart (columns : List ColumnSpec) (texts : List (List ℕ)) : Type 0 where
  pub distinct : are_distinct (map (λ column. column.name) columns) ≡ true
  pub rising : AreTexts texts

-- a printable change that is not empty, at a step of 64 bits
pub record IsPrinted (columns : List ColumnSpec) (texts : List (List ℕ)) (step : ℕ) (change : Change) : Type 0 where
  pub printable : IsPrintable columns texts change
  pub some : is_empty change.update ≡ false
  pub within : step < 2 ^ 64

abbrev pub UpdateTextIsOneToOne : Type 0
UpdateTextIsOneToOne =
    (columns : List ColumnSpec) (texts : List (List ℕ)) (step other_step : ℕ) (name other_name : List ℕ) (change other : Change) →
    TellApart columns texts → IsPrinted columns texts step change → IsPrinted columns texts other_step other →
    change_text step name columns texts change ≡ change_text other_step other_name columns texts other →
    (step ≡ other_step) × (name ≡ other_name) × (change ≡ other)
