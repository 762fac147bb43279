use Rattle.std.proofs.Common.{◌≡◌, sym, ap, ◌∙◌, subst, ◌+◌, ◌-◌, ◌++◌, ◌∷◌, ℕ, List, Some, arith, length}
use Rattle.std.{specs.Iterator.{MakesProgress, item_count}, specs.List.range_with_len, proofs.lemmas.List.nil_from_length}
use Rattle.row_set.{specs.declared.ranges.Range.Range, specs.Ranges.{AreApart, keys_of}, proofs.Apart.apart_weaker, proofs.Coming.{next_in_range, next_range, none_in_range}}
use Rattle.row_set.proofs.iter.KeysIterator.next.Goals as goal

goes_on : (before after : List ℕ) (key : ℕ) → before ≡ key ∷ after → MakesProgress (λ _. Unit {0}) (item_count (λ keys. keys)) before (Some key) after
goes_on before after key steps = record { on = λ _. (tt, tt, omega (arith, ap length steps)); keeps = tt; rests = λ _. tt }

pub returns-then-self-clause-steps : goal.returns-then-self-clause-steps
returns-then-self-clause-steps c = sym c.self.view_is ∙ next_in_range c.self.inside.next c.self.inside.end c.self.inside.ranges.now (omega arith)

pub returns-then-self-clause-goes : goal.returns-then-self-clause-goes
returns-then-self-clause-goes c = goes_on _ _ _ (sym c.self.view_is ∙ next_in_range c.self.inside.next c.self.inside.end c.self.inside.ranges.now (omega arith))

pub returns-in_err-range-clause-steps : goal.returns-in_err-range-clause-steps
returns-in_err-range-clause-steps c =
    let at = c.self.inside in
    let none = sym c.self.view_is ∙ none_in_range at.next at.end at.ranges.now (omega arith) ∙ ap keys_of (nil_from_length at.ranges.now c.in_err-range.ensures.cases) in
    rw c.from_residual.ensures (none, none)

pub invariant_of-self-2 : goal.invariant_of-self-2
invariant_of-self-2 c =
    apart_weaker 0 (c.in_ok-range.range.now.last + 2) c.in_ok-range.others.now (omega arith) (subst (AreApart 0) c.in_ok-range.ensures.cases.0 c.self.invariant).1

pub returns-clause-steps : goal.returns-clause-steps
returns-clause-steps c =
    let at = c.self.inside in
    let split = c.in_ok-range.ensures.cases.0 in
    sym c.self.view_is
    ∙ ap (λ (ranges : List Range). range_with_len at.next (at.end - at.next) ++ keys_of ranges) split
    ∙ next_range at.next at.end c.in_ok-range.range.now c.in_ok-range.others.now (omega arith) (subst (AreApart 0) split c.self.invariant).0.ascends

pub returns-clause-goes : goal.returns-clause-goes
returns-clause-goes c =
    let at = c.self.inside in
    let split = c.in_ok-range.ensures.cases.0 in
    goes_on _ _ _
    (sym c.self.view_is
    ∙ ap (λ (ranges : List Range). range_with_len at.next (at.end - at.next) ++ keys_of ranges) split
    ∙ next_range at.next at.end c.in_ok-range.range.now c.in_ok-range.others.now (omega arith) (subst (AreApart 0) split c.self.invariant).0.ascends)
