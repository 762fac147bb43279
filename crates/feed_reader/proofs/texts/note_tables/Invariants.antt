use Rattle.std.proofs.Common.{◌≡◌, drop}
use Rattle.std.specs.Prelude.{flat_map}
use Rattle.tick_model.specs.LawfulRuns.{AreTexts}
use Rattle.feed_reader.specs.Coding.{with_texts, table_texts}
use Rattle.feed_reader.proofs.texts.note_tables.Given as goal

abbrev pub invariant-loop-table : goal.invariant-loop-table
invariant-loop-table l = record {
  are : AreTexts l.texts;
  told : with_texts l.fn.texts (flat_map table_texts l.tables) ≡ with_texts l.texts (flat_map table_texts (drop l.table-index l.tables));
}
