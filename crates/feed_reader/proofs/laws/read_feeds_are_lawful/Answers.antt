use Rattle.feed_reader.proofs.FeedLaws.{feed_steps, feed_blocks}
use Rattle.feed_reader.proofs.laws.read_feeds_are_lawful.Goals as goal

pub returns : goal.returns
returns c = record { steps = feed_steps; blocks = feed_blocks }
