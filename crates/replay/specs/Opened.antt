-- A run that was opened.
--     IsStarted run callers publication      the store has the run's published tables at step 0, and so many callers that have kept nothing
--     IsOpened run knobs opened      the opening is printed and published
use Rattle.std.specs.Prelude.{◌≡◌, ℕ, length}
use Rattle.tick_model.specs.declared.feed.Run.{Run}
use Rattle.replay.{specs.declared.opening.Opened.Opened, specs.declared.opening.Publication.Publication, specs.declared.outcome.Knobs.Knobs, specs.Snapshots.{EachReader, IsReader, callers_of}, specs.Standing.{IsAt, IsWriterAt}}

pub record IsStarted (run : Run) (callers : ℕ) (publication : Publication) : Type 0 where
  pub run_is : publication.store.run ≡ run
  pub writes : IsWriterAt publication.store 0 publication.writer
  pub count_is : length publication.readers.items ≡ callers
  pub read : (attempts : ℕ) → EachReader (λ number. IsReader publication.store attempts number 0) publication.readers.items

pub record IsOpened (run : Run) (knobs : Knobs) (opened : Opened) : Type 0 where
  pub stands : IsAt run 0 opened.progress
  pub started : IsStarted run (callers_of run.plan.published knobs.callers) opened.publication
