use Rattle.std.proofs.Common.{◌≡◌, refl, ap, ap₂, sym, ◌∙◌, subst, ◌+◌, ◌^◌, ◌<◌, ◌≤◌, ◌==◌, ◌∷◌, arith, get_or, length, List, suc, ℕ, take_all, true}
use Rattle.std.{specs.List.AllByRecursion, specs.List.Sorted.IsPermutation, proofs.lemmas.List.Elements.recursion_from_All, proofs.lemmas.List.Sorted.{All-permutation, IsNonDecreasingBy-from_sort, length_permutation, list_any-IsPermutation}}
use Rattle.key_lists.{specs.Keys.{IsRising, is_among}, proofs.Among.{each_among, of_among}, proofs.Every.{all_from, every_weaker}}
use Rattle.row_set.{specs.Ranges.keys_from, specs.Sets.united, proofs.Adjacent.{no_more_than, run_begun, run_on}, proofs.United.united_rises, proofs.rows.RowSet.from_keys.Goals.{then-key-last+in_ok-insert_range, else-key-last}}
use Rattle.row_set.proofs.rows.RowSet.from_keys.Goals as goal

abbrev small : ℕ → Type 0
small key = key < 2 ^ 62

-- a key of the sorted list is as small as those that came
small_at : (keys sorted all : List ℕ) (i key : ℕ) → AllByRecursion small keys → IsPermutation keys sorted → sorted ≡ all → i < length all → key ≡ get_or all i 0 → key < 2 ^ 62
small_at keys sorted all i key each same whole within is =
    let own : get_or all i 0 < 2 ^ 62 = all_from small all (subst (AllByRecursion small) whole (recursion_from_All small sorted (All-permutation small keys sorted same (all_from small keys each)))) i 0 within in
    omega (arith, own, is)

pub loop-key-init : goal.loop-key-init
loop-key-init c =
    let least = c.in-Some.least.now in record {
      order = omega arith;
      last_is = refl;
      keys = λ other. run_begun other least c.in_ok-set.set (least ∷ c.in-Some.others.now) 0 (omega arith) refl (ap (is_among other) c.in_ok-set.ensures);
      rising = subst IsRising (sym c.in_ok-set.ensures) tt;
      no_more = omega (arith, ap length c.in_ok-set.ensures);
    }

pub overflow_add-last : goal.overflow_add-last
overflow_add-last c =
    let at = small_at c.args.keys.items _ (c.in-Some.least.now ∷ c.in-Some.others.now) c.loop-key.key-index c.loop-key.last c.requires.small c.sort_unstable.ensures.permutation (sym c.deref.ensures.value ∙ c.in-Some.ensures.cases.0) (omega (arith, c.loop-key-test.true)) c.loop-key.invariant.last_is in
    omega (arith, at)

pub insert_range-requires-clause-small : goal.insert_range-requires-clause-small
insert_range-requires-clause-small c =
    small_at c.args.keys.items _ (c.in-Some.least.now ∷ c.in-Some.others.now) c.loop-key.key-index c.loop-key.last c.requires.small c.sort_unstable.ensures.permutation (sym c.deref.ensures.value ∙ c.in-Some.ensures.cases.0) (omega (arith, c.loop-key-test.true)) c.loop-key.invariant.last_is

pub insert_range-requires-2-clause-small : goal.insert_range-requires-2-clause-small
insert_range-requires-2-clause-small c =
    small_at c.args.keys.items _ (c.in-Some.least.now ∷ c.in-Some.others.now) c.loop-key.key-index c.loop-key.last c.requires.small c.sort_unstable.ensures.permutation (sym c.deref.ensures.value ∙ c.in-Some.ensures.cases.0) (omega (arith, c.loop-key.auto.key-index-end)) c.loop-key.invariant.last_is

pub loop-key-preserved : goal.loop-key-preserved
loop-key-preserved c =
    let others = c.in-Some.others.now in
    let all = c.in-Some.least.now ∷ others in
    let i = c.loop-key.key-index in
    let key = get_or others i 0 in
    let first = c.loop-key.first in
    let last = c.loop-key.last in
    let set = c.loop-key.set in
    let so_far = c.loop-key.invariant in
    let whole = sym c.deref.ensures.value ∙ c.in-Some.ensures.cases.0 in
    let next : i + 1 ≡ suc i = omega arith in
    let within : i + 1 < length all = omega (arith, c.loop-key-test.true) in
    let is : key ≡ get_or all (i + 1) 0 = sym (ap (λ (n : ℕ). get_or all n 0) next) in
    let from : last ≤ key = omega (arith, so_far.last_is, is, subst (λ (ks : List ℕ). get_or ks i 0 ≤ get_or ks (i + 1) 0) whole (IsNonDecreasingBy-from_sort (λ (k : ℕ). k) _ c.sort_unstable.ensures.sorted i (i + 1) 0 (omega arith) (omega (arith, within, ap length whole)))) in
    elim c.if-key-last.branch [
      | then-key-last+in_ok-insert_range w ↦
          let more = united (keys_from first last) set in
          let new : c.if-key-last.set ≡ more = w.set-is ∙ w.in_ok-insert_range.ensures.ok in record {
            order = omega (arith, w.first-is, w.last-is);
            last_is = w.last-is ∙ is;
            keys = λ other.
                ap (λ (keys : List ℕ). is_among other (united (keys_from c.if-key-last.first c.if-key-last.last) keys)) new
                ∙ ap₂ (λ (f l : ℕ). is_among other (united (keys_from f l) more)) w.first-is w.last-is
                ∙ run_begun other key more all (i + 1) within is (so_far.keys other);
            rising = subst IsRising (sym new) (united_rises (keys_from first last) set so_far.rising);
            no_more = omega (arith, w.first-is, w.last-is, ap length new, no_more_than first last set so_far.order, so_far.no_more);
          }
      | else-key-last w ↦ record {
        order = omega (arith, w.first-is, w.last-is, so_far.order, from);
        last_is = w.last-is ∙ is;
        keys = λ other.
            ap (λ (keys : List ℕ). is_among other (united (keys_from c.if-key-last.first c.if-key-last.last) keys)) w.set-is
            ∙ ap₂ (λ (f l : ℕ). is_among other (united (keys_from f l) set)) w.first-is w.last-is
            ∙ run_on other first last key set all (i + 1) so_far.order from w.if-key-last.false within is (so_far.keys other);
        rising = subst IsRising (sym w.set-is) so_far.rising;
        no_more = omega (arith, w.first-is, w.last-is, ap length w.set-is, w.if-key-last.false, so_far.no_more);
      }
    ]

pub returns-clause-keys : goal.returns-clause-keys
returns-clause-keys c =
    let all = c.in-Some.least.now ∷ c.in-Some.others.now in
    λ key.
    ap (is_among key) c.in_ok-insert_range-2.ensures.ok
    ∙ c.loop-key.invariant.keys key
    ∙ ap (is_among key) (take_all (c.loop-key.key-index + 1) all (omega (arith, c.loop-key-test.false)) ∙ sym c.in-Some.ensures.cases.0 ∙ c.deref.ensures.value)
    ∙ sym (list_any-IsPermutation (λ other. other == key) c.args.keys.items _ c.sort_unstable.ensures.permutation)

pub returns-clause-set : goal.returns-clause-set
returns-clause-set c =
    let set = c.insert_range-2.new.self in record {
      rising = subst IsRising (sym c.in_ok-insert_range-2.ensures.ok) (united_rises (keys_from c.loop-key.first c.loop-key.last) c.loop-key.set c.loop-key.invariant.rising);
      small = every_weaker (λ key. is_among key set ≡ true) small set (λ key own. of_among small key c.args.keys.items c.requires.small (sym (returns-clause-keys c key) ∙ own)) (each_among set);
    }

pub returns-clause-no_more : goal.returns-clause-no_more
returns-clause-no_more c =
    omega (arith, ap length c.in_ok-insert_range-2.ensures.ok, no_more_than c.loop-key.first c.loop-key.last c.loop-key.set c.loop-key.invariant.order, c.loop-key.invariant.no_more, c.loop-key.auto.key-index-end, ap length c.in-Some.ensures.cases.0, ap length c.deref.ensures.value, length_permutation c.args.keys.items _ c.sort_unstable.ensures.permutation)
