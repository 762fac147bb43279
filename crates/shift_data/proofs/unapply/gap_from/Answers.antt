use Rattle.std.proofs.Common.{◌≡◌, sym, ◌∙◌, subst, arith, leb, leb-true, true}
use Rattle.key_lists.specs.Keys.{is_among}
use Rattle.shift_data.proofs.Keys.{find_key, none_between, none_from}
use Rattle.shift_data.proofs.unapply.gap_from.Goals as goal

pub overflow_sub-result : goal.overflow_sub-result
overflow_sub-result c = leb-true c.args.number c.in-Some.next (find_key (leb c.args.number) c.args.keys.now c.in-Some.next (sym c.next_from.ensures.next ∙ c.in-Some.is)).1

pub returns-in-Some-clause-gap : goal.returns-in-Some-clause-gap
returns-in-Some-clause-gap c =
    let there = find_key (leb c.args.number) c.args.keys.now c.in-Some.next (sym c.next_from.ensures.next ∙ c.in-Some.is) in
    let above = leb-true c.args.number c.in-Some.next there.1 in
    λ key le lt. none_between c.args.number c.in-Some.next c.args.keys.now c.next_from.ensures.keys.rising (sym c.next_from.ensures.next ∙ c.in-Some.is) key le (omega arith)

pub returns-in-Some-clause-none : goal.returns-in-Some-clause-none
returns-in-Some-clause-none c =
    let there = find_key (leb c.args.number) c.args.keys.now c.in-Some.next (sym c.next_from.ensures.next ∙ c.in-Some.is) in
    let above = leb-true c.args.number c.in-Some.next there.1 in
    λ none. subst (λ key. is_among key c.args.keys.now ≡ true) (omega arith) there.0

pub returns-in-None-clause-gap : goal.returns-in-None-clause-gap
returns-in-None-clause-gap c = λ key le lt. none_from c.args.number c.args.keys.now (sym c.next_from.ensures.next ∙ c.in-None.is) key le
