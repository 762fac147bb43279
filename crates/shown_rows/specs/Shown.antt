-- Some rows of a table, under their keys.
--     part these table      the table with the rows under these keys alone
--     IsPart some table      the rows of the one are rows of the other, under their keys
--     stays shown leaving pair      whether a row that was shown is not leaving, by its old key
--     staying table shown leaving      the pairs of such rows that a table modifies
--     through choice input      the tick from the rows that are chosen of the input before to those chosen now, along the input's pairs of which both rows are chosen
use Rattle.std.specs.Prelude.{◌≡◌, ◌&&◌, not, Bool, ℕ, List, filter}
use Rattle.key_lists.specs.Keys.{is_among}
use Rattle.tick_model.{specs.declared.table.PlainTable.PlainTable, specs.declared.update.KeyPair.KeyPair, specs.Tables.keys, specs.Updates.{Tick, both_in, pairs, rows_at}}
use Rattle.tick_table.specs.Ticking.{Ticking}

abbrev pub part : List ℕ → PlainTable → PlainTable
part these table = record table { rows = rows_at these table.rows }

abbrev pub IsPart : PlainTable → PlainTable → Type 0
IsPart some table = some ≡ part (keys some.rows) table

abbrev pub stays : List ℕ → List ℕ → KeyPair → Bool
stays shown leaving pair = is_among pair.old shown && not (is_among pair.old leaving)

abbrev pub staying : Ticking → List ℕ → List ℕ → List KeyPair
staying table shown leaving = filter (stays shown leaving) (filter (λ pair. is_among pair.new table.update.modified) (pairs table.old table.update))

abbrev pub through : (PlainTable → PlainTable) → Tick → Tick
through choice input =
    let old = choice input.old in
    let new = choice input.new in
    record { old = old; new = new; kept = both_in old new input.kept }
