-- What a node would be, as the code makes it, in the words of the definitions.
--     shown literals made      the draft that was made, with the texts so far
--     before nodes literals      what a node may be made of
use Rattle.std.specs.Prelude.{ℕ, List}
use Rattle.tick_model.specs.declared.plan.Node.{Node}
use Rattle.script_reader.{specs.declared.drafts.Draft.Draft as Made, specs.Checks.{Before, Draft, names_of, tables_of}, specs.Plain.plain_op}

abbrev pub shown : List (List ℕ) → Made → Draft
shown literals made = record { op = plain_op made.op; columns = made.columns; kinds_fit = made.kinds_fit; rows_fit = made.rows_fit; literals = literals }

abbrev pub before : List Node → List (List ℕ) → Before
before nodes literals = record { names = names_of nodes; tables = tables_of nodes; literals = literals }
