use Rattle.std.proofs.Common.{◌≡◌, map}
use Rattle.lookup_join.specs.Notes.{noting, spot_under}
use Rattle.lookup_join.proofs.notes.note_removed.Given as goal

abbrev pub invariant-loop-key : goal.invariant-loop-key
invariant-loop-key l = l.notes ≡ record l.fn.notes { notes = noting l.pick l.index.members l.fn.notes.notes (map (λ key. spot_under key l.index.members) l.yielded) }
