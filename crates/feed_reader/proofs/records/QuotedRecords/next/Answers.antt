use Rattle.std.proofs.Common.{◌∙◌, sym}
use Rattle.csv.specs.Records.{fields_of}
use Rattle.feed_reader.{proofs.FieldLemmas.texts_are, proofs.RecordLemmas.{read_next, reads_on, read_ended, no_text}}
use Rattle.feed_reader.proofs.records.QuotedRecords.next.Goals as goal

pub returns-in-Ok-true-clause-reading : goal.returns-in-Ok-true-clause-reading
returns-in-Ok-true-clause-reading c =
    let fields = fields_of c.read_record.new.row in
    let reads = rw c.in-Ok-true.field-0-test at (c.in-Ok-true.ensures.reads c.requires.trim c.requires.ready) in
    ((read_next c.args.self.now.reader c.read_record.new.self fields c.requires reads).0, texts_are fields (c.in-Ok-true.ensures.text c.requires.trim))

pub returns-in-Ok-true-clause-goes : goal.returns-in-Ok-true-clause-goes
returns-in-Ok-true-clause-goes c is =
    let reads = rw c.in-Ok-true.field-0-test at (c.in-Ok-true.ensures.reads c.requires.trim c.requires.ready) in
    reads_on c.args.self.now.reader c.read_record.new.self (fields_of c.read_record.new.row) c.requires reads (c.in-Ok-true.ensures.ready c.requires.trim)

pub returns-in-Ok-false-clause-reading : goal.returns-in-Ok-false-clause-reading
returns-in-Ok-false-clause-reading c =
    let reads = rw c.in-Ok-false.field-0-test at (c.in-Ok-false.ensures.reads c.requires.trim c.requires.ready) in
    read_ended c.args.self.now.reader c.read_record.new.self (fields_of c.read_record.new.row) c.requires reads

pub returns-in-Utf8-clause-reading : goal.returns-in-Utf8-clause-reading
returns-in-Utf8-clause-reading c =
    no_text c.args.self.now.reader c.read_record.new.self _ c.in-Utf8.pos c.in-Utf8.err c.requires (sym c.kind.ensures ∙ c.in-Utf8.is) (c.in-Err.ensures.why c.requires.trim c.requires.ready)
