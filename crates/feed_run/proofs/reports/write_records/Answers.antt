use Rattle.std.proofs.Common.{◌≡◌, ◌∙◌, List, ℕ, subst}
use Rattle.std.specs.Io.KnownBytes.{append_known}
use Rattle.tick_io.{proofs.Prefixes.prefix_within, specs.Written.AppendsPrefix}
use Rattle.tick_model.specs.Texts.{record_text}
use Rattle.feed_run.{proofs.OkLemmas.on_err, proofs.RecordLemmas.{text_splits, written_next}}
use Rattle.feed_run.proofs.reports.write_records.Goals as goal

pub returns-in_err-write_fields-clause-err : goal.returns-in_err-write_fields-clause-err
returns-in_err-write_fields-clause-err g c =
    let bytes = g.S.Sink.bytes in
    let records = c.args.records.now in
    let i = c.loop-fields.fields-index in
    on_err c.from_residual.result
    (prefix_within (bytes c.args.out.now) (bytes c.loop-fields.out) (bytes c.write_fields.new.sink) _ _ _ _
    (text_splits records i c.fields-item.result c.loop-fields-test.true c.fields-item.is) c.loop-fields.invariant.written
    (subst (λ (own : List (List ℕ)). AppendsPrefix (bytes c.loop-fields.out) (bytes c.write_fields.new.sink) (record_text own)) c.as_slice.ensures c.in_err-write_fields.ensures.err))

pub loop-fields-preserved : goal.loop-fields-preserved
loop-fields-preserved g c =
    let bytes = g.S.Sink.bytes in
    let records = c.args.records.now in
    let i = c.loop-fields.fields-index in
    record {
      written = written_next records i c.fields-item.result c.loop-fields-test.true c.fields-item.is (bytes c.args.out.now) (bytes c.loop-fields.out) (bytes c.write_fields.new.sink) c.loop-fields.invariant.written
          (subst (λ (own : List (List ℕ)). bytes c.write_fields.new.sink ≡ append_known (bytes c.loop-fields.out) (record_text own)) c.as_slice.ensures c.in_ok-write_fields.ensures.whole);
      steady = c.in_ok-write_fields.ensures.steady ∙ c.loop-fields.invariant.steady;
    }
