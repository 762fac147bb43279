use Rattle.std.proofs.Common.{◌≡◌, refl, sym, ◌∙◌, not, true, true≢false, ℕ, ◌+◌, ◌-◌, ◌<◌, ◌≤◌, arith, List, [], ◌∷◌, length, ltb, lt-ltb, Option, Some, None, inl, inr}
use Rattle.std.{specs.Prelude.{filter, slice_get, IfNone}, specs.List.AllByRecursion, proofs.lemmas.Bool.{and_from, cases_lt}, proofs.lemmas.List.Filters.length-filter_both, proofs.lemmas.Option.{none-some, slice_get_cases}}
use Rattle.key_lists.{specs.Keys.is_among, proofs.Among.{among-filter, each_among}, proofs.Every.every_weaker}
use Rattle.row_set.specs.Sets.{count_below}
use Rattle.shift_data.proofs.Segments.{last_up}
use Rattle.shift_data.proofs.parts.last_up_to.Goals as goal

some_among : (key : ℕ) (keys : List ℕ) → is_among key keys ≡ true → 1 ≤ length keys
some_among key [] own = absurd (true≢false (sym own))
some_among key (other ∷ keys) own = omega arith

none_counted : (high count : ℕ) (keys : List ℕ) → count < 1 → count ≡ count_below (high + 1) keys → AllByRecursion (λ key. high < key) keys
none_counted high count keys none is =
    every_weaker (λ key. is_among key keys ≡ true) (λ key. high < key) keys
    (λ key own.
    elim (cases_lt high key) [
      | inl past ↦ past
      | inr le ↦ absurd (omega (arith, none, is, some_among key (filter (λ other. ltb other (high + 1)) keys) (among-filter (λ other. ltb other (high + 1)) key keys ∙ and_from (ltb key (high + 1)) (is_among key keys) (lt-ltb key (high + 1) (omega (arith, le))) own)))
    ])
    (each_among keys)

never_past : (high count position : ℕ) (keys : List ℕ) (o : Option ℕ) → 1 ≤ count → position ≡ count - 1 → count ≡ count_below (high + 1) keys → o ≡ slice_get keys position → IfNone o (AllByRecursion (λ key. high < key) keys)
never_past high count position keys (Some last) some at is e = tt
never_past high count position keys None some at is e =
    elim (slice_get_cases keys position).1 [
      | inl there ↦ absurd (none-some there.0 (e ∙ there.2))
      | inr past ↦ absurd (omega (arith, past.0, some, at, is, length-filter_both (λ other. ltb other (high + 1)) (λ other. not (ltb other (high + 1))) (λ other. refl) keys))
    ]

pub returns-in_err-checked_sub-clause-none : goal.returns-in_err-checked_sub-clause-none
returns-in_err-checked_sub-clause-none c =
    rw c.from_residual.ensures (none_counted c.args.key c.count_below-count.result c.args.keys.now (omega (arith, c.in_err-checked_sub.ensures)) c.count_below-count.ensures.count)

pub returns-clause-last : goal.returns-clause-last
returns-clause-last c =
    last_up c.args.key c.count_below-count.result c.in_ok-checked_sub.field-0 c.args.keys.now c.get.result
    c.count_below-count.ensures.keys.rising c.in_ok-checked_sub.ensures.0 c.in_ok-checked_sub.ensures.1 c.count_below-count.ensures.count c.get.ensures.key

pub returns-clause-none : goal.returns-clause-none
returns-clause-none c =
    never_past c.args.key c.count_below-count.result c.in_ok-checked_sub.field-0 c.args.keys.now c.get.result
    c.in_ok-checked_sub.ensures.0 c.in_ok-checked_sub.ensures.1 c.count_below-count.ensures.count c.get.ensures.key
