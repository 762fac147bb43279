use Rattle.std.proofs.Common.{◌≡◌, ap, sym, ◌∙◌, ◌||◌, ◌∷◌, [], ℕ, Some, get_or, take}
use Rattle.std.{specs.List.list_any, specs.Prelude.slice_get, proofs.lemmas.List.Folds.list_any-append, proofs.lemmas.Option.slice_get-get_or}
use Rattle.key_lists.proofs.Booleans.{or_assoc, or_false}
use Rattle.shown_rows.proofs.Walks.{take_next}
use Rattle.agg_by.proofs.Noted.{any_with}
use Rattle.agg_by.proofs.touched.TouchedGroups.note_all.Goals as goal

pub loop-number-init : goal.loop-number-init
loop-number-init c = λ test. sym (or_false (list_any test c.args.self.now))

pub loop-number-preserved : goal.loop-number-preserved
loop-number-preserved c = λ test.
    let numbers = c.args.numbers.now in
    let before = list_any test c.args.self.now in
    let place = c.loop-number.number-index in
    let some = take place numbers in
    let number : ℕ = get_or numbers place 0 in
    let here : slice_get numbers place ≡ Some number = slice_get-get_or numbers place 0 c.loop-number-test.true in
    ap (list_any test) c.in_ok-note.ensures ∙ any_with test number c.loop-number.self ∙ ap (λ b. b || test number) (c.loop-number.invariant test) ∙ sym (or_assoc before (list_any test some) (test number))
    ∙ ap (λ b. before || b) (sym (ap (list_any test) (take_next numbers place number here) ∙ list_any-append test some (number ∷ []) ∙ ap (λ b. list_any test some || b) (or_false (test number))))
