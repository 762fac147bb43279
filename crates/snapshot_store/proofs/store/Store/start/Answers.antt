use Rattle.snapshot_store.proofs.Opening.{opens}
use Rattle.snapshot_store.proofs.store.Store.start.Goals as goal

pub of_words-requires : goal.of_words-requires
of_words-requires c = rw (c.of-about.ensures, c.as_slice.ensures.value) (opens c.args.run.now c.in_ok-first.first.items c.in_ok-first.ensures.words)
