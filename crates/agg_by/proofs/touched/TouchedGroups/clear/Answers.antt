use Rattle.std.proofs.Common.{◌≡◌, ap, sym, ◌∙◌, subst, ◌<◌, true, ℕ, Some, get_or, length}
use Rattle.std.{specs.Prelude.slice_get, specs.List.AllByRecursion, proofs.lemmas.List.length-set, proofs.lemmas.Option.slice_get-get_or}
use Rattle.key_lists.{specs.Keys.is_among, proofs.Among.each_among, proofs.Every.every_weaker}
use Rattle.shown_rows.proofs.Walks.{of_place}
use Rattle.agg_by.proofs.Noted.{marked_within, unmarked}
use Rattle.agg_by.proofs.touched.TouchedGroups.clear.Goals as goal

pub loop-number-init : goal.loop-number-init
loop-number-init c =
    let numbers = c.self.inside.numbers.items in
    let marks = c.self.inside.marks.items in record {
      within = subst (AllByRecursion (λ number. number < length marks)) (sym c.deref-number-items.ensures.value)
          (every_weaker (λ number. is_among number numbers ≡ true) (λ number. number < length marks) numbers (λ number own. marked_within marks number (c.self.invariant number ∙ own)) (each_among numbers));
      marks = λ number. c.self.invariant number ∙ ap (is_among number) (sym c.deref-number-items.ensures.value);
    }

pub loop-number-preserved : goal.loop-number-preserved
loop-number-preserved c =
    let numbers = c.deref-number-items.result.now in
    let marks = c.loop-number.self-inside.1.1.0.items in
    let place = c.loop-number.number-index in
    let number : ℕ = get_or numbers place 0 in
    let here : slice_get numbers place ≡ Some number = slice_get-get_or numbers place 0 c.loop-number-test.true in
    let within = of_place (λ number. number < length marks) place numbers number c.loop-number.invariant.within here in record {
      within = subst (λ (count : ℕ). AllByRecursion (λ number. number < count) numbers) (sym (length-set marks number _)) c.loop-number.invariant.within;
      marks = unmarked numbers marks place number within here c.loop-number.invariant.marks;
    }
