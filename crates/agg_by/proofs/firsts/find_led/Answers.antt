use Rattle.std.proofs.Common.{◌≡◌, sym, ap, ◌∙◌, subst, true, ◌^◌, ◌<◌, ◌==◌, ℕ, List, take, arith}
use Rattle.std.{specs.List.{AllByRecursion, list_any}, specs.List.Sorted.IsPermutation, proofs.lemmas.List.take_all, proofs.lemmas.List.Elements.recursion_from_All, proofs.lemmas.List.Sorted.{All-permutation, list_any-IsPermutation}, proofs.lemmas.Result.IfOk-weaker}
use Rattle.key_lists.{specs.Keys.{IsRising, is_among}, proofs.Every.all_from}
use Rattle.agg_by.{specs.declared.firsts.LedGroup.LedGroup, specs.Touched.{AreLed, starts_numbered}}
use Rattle.agg_by.proofs.firsts.find_led.Goals as goal

-- what holds of all of them holds of them in another order
each_sorted : (P : LedGroup → Type 0) (led sorted : List LedGroup) → IsPermutation led sorted → AllByRecursion P led → AllByRecursion P sorted
each_sorted P led sorted same each = recursion_from_All P sorted (All-permutation P led sorted same (all_from P led each))

pub firsts_of-requires : goal.firsts_of-requires
firsts_of-requires c =
    let small : LedGroup → Type 0 = λ group. group.first < 2 ^ 62 in
    subst (AllByRecursion small) (sym c.deref.ensures.value) (each_sorted small c.loop-number.led.items c.sort_unstable_by_key.new.self.items c.sort_unstable_by_key.ensures.permutation c.loop-number.invariant.small)

pub returns-clause-led : goal.returns-clause-led
returns-clause-led c =
    let rows = c.args.rows.now in
    let sorted = c.sort_unstable_by_key.new.self.items in
    IfOk-weaker c.firsts_of.result IsRising (λ _. AreLed rows sorted)
    (λ firsts rising. each_sorted (λ group. starts_numbered rows group.first group.number ≡ true) c.loop-number.led.items sorted c.sort_unstable_by_key.ensures.permutation c.loop-number.invariant.led) c.firsts_of.ensures.rising

pub returns-clause-firsts : goal.returns-clause-firsts
returns-clause-firsts c =
    let rows = c.args.rows.now in
    let numbers = c.args.numbers.now in
    let led = c.loop-number.led.items in
    let sorted = c.sort_unstable_by_key.new.self.items in
    let all : take c.loop-number.number-index numbers ≡ numbers = take_all c.loop-number.number-index numbers (omega (arith, c.loop-number-test.false)) in
    IfOk-weaker c.firsts_of.result (λ (set : List ℕ). (first : ℕ) → is_among first set ≡ list_any (λ (group : LedGroup). group.first == first) c.deref.result.now) (λ (set : List ℕ). (first : ℕ) → is_among first set ≡ list_any (starts_numbered rows first) numbers)
    (λ set is first.
    is first ∙ ap (list_any (λ (group : LedGroup). group.first == first)) c.deref.ensures.value
    ∙ sym (list_any-IsPermutation (λ (group : LedGroup). group.first == first) led sorted c.sort_unstable_by_key.ensures.permutation)
    ∙ c.loop-number.invariant.firsts first ∙ ap (list_any (starts_numbered rows first)) all)
    c.firsts_of.ensures.firsts
