use Rattle.std.proofs.Common.{sym, ◌∙◌, ap, ap₂, subst}
use Rattle.row_set.specs.Sets.{IsKeySet}
use Rattle.row_changes.proofs.Comparing.{new_keys-pairs_of, old_keys-pairs_of}
use Rattle.shift_data.specs.Moves.{pairs_of}
use Rattle.tick_model.specs.Updates.{new_keys, old_keys}
use Rattle.shown_rows.proofs.pairs.RefKeyPairsIntoIterator.into_iter.Goals as goal

pub returns : goal.returns
returns c =
    let from = c.self.inside.from in
    let to = c.self.inside.to in record {
      into_iter_gives = (
        ap₂ pairs_of c.iter.ensures.rest c.iter-2.ensures.rest ∙ c.self.view_is,
        subst IsKeySet (sym (old_keys-pairs_of from to c.self.invariant) ∙ ap old_keys c.self.view_is) c.iter.ensures.keys,
        subst IsKeySet (sym (new_keys-pairs_of from to c.self.invariant) ∙ ap new_keys c.self.view_is) c.iter-2.ensures.keys,
      );
    }
