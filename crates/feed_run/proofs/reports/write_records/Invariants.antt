use Rattle.std.proofs.Common.{◌≡◌, take}
use Rattle.std.specs.Io.KnownBytes.{append_known}
use Rattle.tick_model.specs.Texts.{records_text}
use Rattle.feed_run.proofs.reports.write_records.Given as goal

-- the records so far are written
abbrev pub invariant-loop-fields : goal.invariant-loop-fields
invariant-loop-fields g l = record {
  written : g.S.Sink.bytes l.out ≡ append_known (g.S.Sink.bytes l.initial.out) (records_text (take l.fields-index l.records));
  steady : g.S.Sink.failures l.out ≡ g.S.Sink.failures l.initial.out;
}
