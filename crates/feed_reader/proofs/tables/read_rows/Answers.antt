use Rattle.std.proofs.Common.{ap, ◌∙◌, length, arith}
use Rattle.feed_reader.{specs.declared.tables.ReadRows.ReadRows, specs.Records.{at_hand, left_of}, specs.ReadRows.raw_rows, specs.Tables.rows_from, proofs.RecordLemmas.next_is, proofs.TableLemmas.{rows_onto, none_read, from_none, row_taken, few_rows}}
use Rattle.feed_reader.proofs.tables.read_rows.Goals as goal

pub records-init : goal.records-init
records-init c =
    let none : ReadRows = record { keys = c.new.result; read = c.new-2.result } in
    record {
      reading = c.requires;
      rows = none_read c.args.columns.now none c.new.ensures.items c.new-2.ensures.texts c.new-2.ensures.cells;
      told = from_none c.args.columns.now none c.new.ensures.items (left_of c.args.records.now);
      few = omega (arith, ap length c.new.ensures.items);
    }

pub records-preserved : goal.records-preserved
records-preserved c =
    let columns = c.args.columns.now in
    let old = c.records.rows in
    let fields = at_hand c.next.new.self in
    let rest = left_of c.next.new.self in
    let next = next_is c.in_ok-next.field-0 (left_of c.records.records) fields rest c.in-Record.is c.in_ok-next.ensures.reading in
    let step = row_taken columns old c.take.new.self fields rest c.in-Ok.field-0 (rw c.in-Ok.is at c.in_ok-take-in-Record.ensures.told) in
    record {
      reading = c.in_ok-next.ensures.goes c.in-Record.is;
      rows = rw c.in-Ok.is at c.in_ok-take-in-Record.ensures.rows;
      told = c.records.invariant.told ∙ ap (λ left. rows_onto (raw_rows columns old) (rows_from columns (length old.keys.items) left)) next ∙ step.0;
      few = step.1;
    }

pub returns-clause-few : goal.returns-clause-few
returns-clause-few c = few_rows _ _ _ _ c.records.rows.keys.items _ c.of.result c.of.ensures c.records.invariant.few
