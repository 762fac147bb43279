use Rattle.std.proofs.Common.{◌≡◌, ap, ◌∙◌}
use Rattle.std.specs.Prelude.{slice_get}
use Rattle.key_lists.specs.Keys.{is_among, without}
use Rattle.row_set.specs.Sets.{common}
use Rattle.tick_model.specs.Rules.{landed}
use Rattle.table_update.proofs.Occupied.{get-filter}
use Rattle.table_update.proofs.update.Update.least_taken.Goals as goal

pub returns : goal.returns
returns c =
    let places = landed c.args.self.now.shifted (without c.args.self.now.removed c.args.old.now) in
    let taken : c.in_ok-taken.taken ≡ common c.args.self.now.added places = c.in_ok-taken.ensures ∙ ap (λ keys. common keys places) c.added.ensures.keys in
    c.first.ensures.key ∙ ap (λ keys. slice_get keys 0) taken ∙ get-filter (λ key. is_among key places) c.args.self.now.added
