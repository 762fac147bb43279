-- A feed that is read has few steps, and its blocks are lawful.
use Rattle.std.proofs.Common.{◌≡◌, ℕ, ◌+◌, ◌^◌, ◌<◌, ◌≤◌, List, Ok, sym, ap, subst, length, arith}
use Rattle.std.{specs.Prelude.flat_map, specs.List.AllByRecursion}
use Rattle.tick_model.{specs.declared.plan.Plan.Plan, specs.LawfulRuns.IsLawfulBlock}
use Rattle.feed_reader.{specs.declared.raw.RawFeed.RawFeed, specs.Coding.{batch_texts, coded_feed}, specs.Feeds.feed_of, specs.Runs.IsAmong, proofs.BlockLemmas.{batches_stand, batches_few, StandIn}, proofs.CodedLemmas.batches_of_run, proofs.ReadLemmas.feed_read}

pub feed_steps : (plan : Plan) (bytes : List ℕ) (feed : RawFeed) → feed_of plan bytes ≡ Ok feed → length feed.batches ≤ 100000
feed_steps plan bytes feed read =
    let found = feed_read plan bytes feed read in
    omega (arith, ap length found.3, batches_few plan found.0 found.1)

pub feed_blocks : (plan : Plan) (bytes : List ℕ) (feed : RawFeed) (texts : List (List ℕ)) → feed_of plan bytes ≡ Ok feed → length texts < 2 ^ 63 → AllByRecursion (IsAmong texts) (flat_map batch_texts feed.batches) → AllByRecursion (λ batch. AllByRecursion (IsLawfulBlock plan (length texts)) batch.blocks) (coded_feed texts feed)
feed_blocks plan bytes feed texts read small among =
    let found = feed_read plan bytes feed read in
    batches_of_run texts small plan (1 + length found.0) feed.batches (omega (arith, found.2)) (subst (AllByRecursion (StandIn plan (1 + length found.0))) (sym found.3) (batches_stand plan found.0 found.1)) among
