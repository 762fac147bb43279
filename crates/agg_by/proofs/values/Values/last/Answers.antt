use Rattle.std.proofs.Common.{◌≡◌, refl, ap, sym, ◌∙◌, arith, List, [], ◌∷◌, Option, Some, None, ℤ, Bor, true≢false}
use Rattle.std.{specs.Option.option_copied, specs.Prelude.slice_get, specs.Slice.IsItemAt}
use Rattle.agg_by.{specs.Values.last, proofs.Counted.last_left}
use Rattle.agg_by.proofs.values.Values.last.Goals as goal

first_item : (xs : List ℤ) (item : Option (Bor ℤ)) → IsItemAt xs 0 item → option_copied item ≡ slice_get xs 0
first_item [] None h = refl
first_item [] (Some cell) h = absurd (true≢false h.0)
first_item (x ∷ xs) None h = absurd (true≢false (sym (h.2 (omega arith))))
first_item (x ∷ xs) (Some cell) h = ap Some h.1

pub returns : goal.returns
returns c =
    let inside = c.self.inside in
    c.copied.ensures ∙ first_item inside.live.data.items c.peek.result c.peek.ensures.item ∙ sym (last_left inside.live.data.items inside.gone.data.items c.self.invariant) ∙ ap last c.self.view_is
