use Rattle.std.proofs.Common.{◌≡◌, ◌++◌, length, drop, map}
use Rattle.std.{specs.Int.{w64, cast_signed}, specs.Prelude.flat_map}
use Rattle.tick_model.specs.Texts.{comma_before, cell_texts}
use Rattle.update_text.proofs.snapshots.push_words.Given as goal

-- what is still to come stands after what was written
abbrev pub invariant-loop-column : goal.invariant-loop-column
invariant-loop-column l =
    l.text.items ++ flat_map comma_before (cell_texts l.texts (drop (length l.yielded) l.columns) (drop (length l.yielded) (map (cast_signed w64) l.words)))
    ≡ l.fn.text.items ++ flat_map comma_before (cell_texts l.texts l.columns (map (cast_signed w64) l.words))
