use Rattle.std.proofs.Common.{◌≡◌, ◌+◌, ◌*◌, ◌≤◌, ◌∷◌, [], length}
use Rattle.std.specs.Prelude.{flat_map}
use Rattle.lookup_join.{specs.Notes.noting, specs.Taken.spot_at}
use Rattle.tick_model.specs.declared.update.KeyPair.{KeyPair}
use Rattle.lookup_join.proofs.notes.note_modified.Given as goal

abbrev pub invariant-loop-pair : goal.invariant-loop-pair
invariant-loop-pair g l = record {
  rows : l.rows ≡ l.right.new;
  notes : l.notes ≡ record l.fn.notes {
    notes = noting l.pick l.index.members l.fn.notes.notes
        (flat_map (λ (pair : KeyPair). spot_at l.on l.pick l.right.old.rows pair.old ∷ spot_at l.on l.pick l.right.new.rows pair.new ∷ []) l.yielded);
  };
  reads : l.reads ≤ l.fn.reads + l.right.new.width * length l.yielded;
}
