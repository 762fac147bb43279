use Rattle.std.proofs.Common.{subst, sym, ap, ◌<◌, ◌∙◌, length}
use Rattle.std.proofs.lemmas.List.{length-map}
use Rattle.replay.{specs.Printed.published_of, proofs.PublishedTables.published_there}
use Rattle.replay.proofs.snapshots.write_snapshots.Goals as goal

pub published_nodes-requires : goal.published_nodes-requires
published_nodes-requires g c = published_there c.args.run.now.plan c.requires.lawful.plan
