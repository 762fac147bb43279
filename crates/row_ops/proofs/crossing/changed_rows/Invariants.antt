use Rattle.std.proofs.Common.{◌≡◌, ◌+◌, ◌*◌, ◌≤◌, ◌&&◌, filter, length, not}
use Rattle.key_lists.specs.Keys.{is_among}
use Rattle.tick_model.{specs.Formulas.truth, specs.Tables.cells_at, specs.Updates.{new_keys, old_keys}}
use Rattle.row_ops.proofs.crossing.changed_rows.Given as goal

abbrev pub invariant-loop-pair : goal.invariant-loop-pair
invariant-loop-pair g l = record {
  place : l.place ≡ length l.yielded;
  leaving : l.leaving ≡ old_keys (filter (λ pair. is_among pair.old l.shown && not (truth l.test (cells_at pair.new l.input.new.rows))) l.yielded);
  coming : l.coming ≡ new_keys (filter (λ pair. not (is_among pair.old l.shown) && truth l.test (cells_at pair.new l.input.new.rows)) l.yielded);
  reads : l.reads ≤ l.fn.reads + l.input.new.width * length l.yielded;
}
