use Rattle.std.proofs.Common.{refl}
use Rattle.tick_model.specs.Spoiled.{good}
use Rattle.output_laws.proofs.WatchedEntries.{watch_are, watch_told}
use Rattle.output_laws.proofs.laws.watches_are_read.Goals as goal

pub returns-clause-text : goal.returns-clause-text
returns-clause-text c run watch = watch_told run watch (good run)

pub returns-clause-entries : goal.returns-clause-entries
returns-clause-entries c run h watch w = watch_are run h watch w (good run) refl
