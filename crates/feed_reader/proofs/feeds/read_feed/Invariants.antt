use Rattle.std.proofs.Common.{◌≡◌, ◌≤◌, ◌+◌, length}
use Rattle.feed_reader.{specs.Feeds.feed_in, specs.ReadSteps.{steps_of, AreReadSteps}, specs.Records.{records_of, left_of, IsReading}, proofs.FeedLemmas.left_to_read}
use Rattle.feed_reader.proofs.feeds.read_feed.Given as goal

abbrev pub invariant-records : goal.invariant-records
invariant-records l = record {
  reading : IsReading l.records;
  steps : AreReadSteps l.plan l.steps;
  told : feed_in l.plan (records_of l.bytes) ≡ left_to_read l.plan l.steps.place (steps_of l.plan l.steps) l.number (left_of l.records);
  few : length l.steps.feed.batches ≤ 100000;
  rest : l.number + length (left_of l.records) ≤ 67108865;
}

abbrev pub decreases-records : goal.decreases-records
decreases-records l = length (left_of l.records)
