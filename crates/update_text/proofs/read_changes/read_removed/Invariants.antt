use Rattle.std.proofs.Common.{◌≡◌, ℕ, List, ◌++◌, length}
use Rattle.std.specs.Prelude.{flat_map}
use Rattle.key_lists.specs.Keys.{IsRising}
use Rattle.tick_model.specs.Texts.{removed_record}
use Rattle.update_text.specs.Reading.{AreAhead, is_run, run_keys}
use Rattle.update_text.proofs.read_changes.read_removed.Given as goal

-- the keys so far, and the runs that are still to come of those that are told
abbrev pub invariant-loop-fields : goal.invariant-loop-fields
invariant-loop-fields l =
    (runs : List (ℕ × ℕ)) (rest : List ℕ) → IsRising (flat_map run_keys runs) → AreAhead removed_record is_run 114 runs rest l.fn.bytes →
    (todo : List (ℕ × ℕ)) × AreAhead removed_record is_run 114 todo rest l.rest × (l.keys ++ flat_map run_keys todo ≡ flat_map run_keys runs)

abbrev pub decreases-loop-fields : goal.decreases-loop-fields
decreases-loop-fields l = length l.rest
