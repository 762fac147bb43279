use Rattle.std.proofs.Common.{sym, ◌∙◌, subst}
use Rattle.tick_model.specs.LawfulRuns.{AreTexts}
use Rattle.feed_reader.{specs.Coding.table_texts, proofs.OrderLemmas.{all_kept, with_same}, proofs.TextLemmas.table_noted}
use Rattle.feed_reader.proofs.texts.note_tables.Goals as goal

pub loop-table-preserved : goal.loop-table-preserved
loop-table-preserved c =
    let old = c.loop-table.texts in
    let names = c.cell_texts.result.now in
    let table = c.table-item.result in
    record {
      are = subst AreTexts (sym c.in_ok-note_names.ensures) (all_kept old names c.loop-table.invariant.are);
      told =
          c.loop-table.invariant.told
          ∙ table_noted old c.note_names.new.texts c.args.tables.now c.loop-table.table-index table c.loop-table-test.true c.table-item.is
          (c.in_ok-note_names.ensures ∙ with_same old names (table_texts table) c.loop-table.invariant.are c.cell_texts.ensures.told c.cell_texts.ensures.all);
    }
