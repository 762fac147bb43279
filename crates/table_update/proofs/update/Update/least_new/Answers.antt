use Rattle.std.proofs.Common.{◌≡◌, ap, ap₂, ◌∙◌}
use Rattle.std.specs.Prelude.{slice_get}
use Rattle.key_lists.specs.Keys.{is_among}
use Rattle.row_set.specs.Sets.{common}
use Rattle.table_update.proofs.Occupied.{get-filter}
use Rattle.table_update.proofs.update.Update.least_new.Goals as goal

pub returns : goal.returns
returns c =
    let new : c.in_ok-new.new ≡ common c.args.self.now.modified c.args.self.now.added = c.in_ok-new.ensures ∙ ap₂ common c.modified.ensures.keys c.added.ensures.keys in
    c.first.ensures.key ∙ ap (λ keys. slice_get keys 0) new ∙ get-filter (λ key. is_among key c.args.self.now.added) c.args.self.now.modified
