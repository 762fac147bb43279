use Rattle.std.proofs.Common.{◌≡◌, refl, ap₂, ◌∙◌, List, ℕ}
use Rattle.std.proofs.lemmas.Result.{IfOk-weaker}
use Rattle.key_lists.specs.Keys.{without}
use Rattle.row_set.specs.Sets.{common, united}
use Rattle.tick_laws.specs.Checked.{keys_after}
use Rattle.source_changes.proofs.Behind.{common_after, named, named_rise}
use Rattle.source_changes.proofs.checks.named_keys.Goals as goal

pub returns : goal.returns
returns c =
    let waiting = c.args.waiting.now in
    let some = named c.args.update.now in
    let all : c.in_ok-named.named ≡ some = rw (c.in_ok-named.ensures, c.in_ok-coming.ensures, c.removed.ensures.keys, c.added.ensures.keys, c.modified.ensures.keys) refl in
    let stay : c.in_ok-staying.staying ≡ without waiting.removed (common some c.args.keys.now) = rw (c.in_ok-staying.ensures, c.in_ok-intersect.ensures, c.removed-2.ensures.keys, all) refl in
    let come : c.in_ok-added.added ≡ common some waiting.added = rw (c.in_ok-added.ensures, c.added-2.ensures.keys, all) refl in
    IfOk-weaker c.union-3.result (λ (here : List ℕ). here ≡ united c.in_ok-added.added c.in_ok-staying.staying) (λ here. here ≡ common some (keys_after c.args.keys.now waiting))
    (λ here is. is ∙ ap₂ united come stay ∙ common_after c.args.keys.now some waiting c.requires (named_rise c.args.update.now c.modified.ensures.set.rising)) c.union-3.ensures
