-- How many words the snapshots of a run may have.
--     largest_words published      the words of the largest published table: its row count and, up to its limit of rows, a key and cells for each
--     kept_words run knobs      so many words for each call of each caller
--     most_words      more than these are not kept
use Rattle.std.specs.Prelude.{ℕ, ◌+◌, ◌*◌, List, [], ◌∷◌, max}
use Rattle.tick_model.{specs.declared.feed.Run.Run, specs.declared.plan.Published.Published, specs.Plans.table_words}
use Rattle.replay.specs.declared.outcome.Knobs.{Knobs}

abbrev pub largest_words : List Published → ℕ
largest_words [] = 0
largest_words (table ∷ tables) = max (table_words table) (largest_words tables)

-- a caller's last call comes after the run
abbrev pub kept_words : Run → Knobs → ℕ
kept_words run knobs = knobs.callers * (knobs.snaps + 1) * largest_words run.plan.published

abbrev pub most_words : ℕ
most_words = 16777216
