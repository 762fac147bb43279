use Rattle.feed_reader.proofs.ReadLemmas.{table_is_opening, no_rows_are_opening}
use Rattle.feed_reader.proofs.laws.read_tables_are_openings.Goals as goal

pub returns : goal.returns
returns c = record { read = table_is_opening; no_rows = no_rows_are_opening }
