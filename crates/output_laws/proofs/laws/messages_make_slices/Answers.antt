use Rattle.output_laws.proofs.WatchedEntries.{slices_made}
use Rattle.output_laws.proofs.laws.messages_make_slices.Goals as goal

pub returns : goal.returns
returns c run h watch w last is = slices_made run h watch w last is
