use Rattle.std.proofs.Common.{sym, ap, ◌∙◌, arith, leb, leb-true, ℕ, ◌+◌}
use Rattle.std.proofs.lemmas.Bool.{true≢false}
use Rattle.shift_data.{specs.Moves.pairs_of, specs.Parts.from_on, proofs.Asked.{run_of, no_run}, proofs.Keys.{find_none, find_key}, proofs.Kept.run_small, proofs.Paired.{front_run, pairs_end}}
use Rattle.shift_data.proofs.pairs.pairs_from.Goals as goal

pub returns-in_err-first-clause-none : goal.returns-in_err-first-clause-none
returns-in_err-first-clause-none c =
    rw c.from_residual.ensures
    (ap (λ keys. pairs_of keys (from_on c.args.new_from c.args.new.now)) (find_none (leb c.args.old_from) c.args.old.now (sym c.next_from-next_old.ensures.next ∙ c.in_err-first.was)))

pub returns-in_err-place-clause-none : goal.returns-in_err-place-clause-none
returns-in_err-place-clause-none c =
    rw c.from_residual-in_err-place.ensures
    (pairs_end (from_on c.args.new_from c.args.new.now) (from_on c.args.old_from c.args.old.now) (find_none (leb c.args.new_from) c.args.new.now (sym c.next_from-next_new.ensures.next ∙ c.in_err-place.was)))

pub returns-in_err-run-clause-none : goal.returns-in_err-run-clause-none
returns-in_err-run-clause-none c =
    absurd (true≢false (sym (find_key (leb c.args.old_from) c.args.old.now c.in_ok-first.first (sym c.next_from-next_old.ensures.next ∙ c.in_ok-first.was)).0 ∙ no_run c.args.old.now c.in_ok-first.first (sym c.range_at.ensures.range ∙ c.in_err-run.was)))

pub returns-in_err-other-clause-none : goal.returns-in_err-other-clause-none
returns-in_err-other-clause-none c =
    absurd (true≢false (sym (find_key (leb c.args.new_from) c.args.new.now c.in_ok-place.place (sym c.next_from-next_new.ensures.next ∙ c.in_ok-place.was)).0 ∙ no_run c.args.new.now c.in_ok-place.place (sym c.range_at-2.ensures.range ∙ c.in_err-other.was)))

pub overflow_sub-run : goal.overflow_sub-run
overflow_sub-run c = (run_of c.args.old.now c.in_ok-first.first c.in_ok-run.run' (sym c.range_at.ensures.range ∙ c.in_ok-run.was)).1

pub overflow_sub-other : goal.overflow_sub-other
overflow_sub-other c = (run_of c.args.new.now c.in_ok-place.place c.in_ok-other.other (sym c.range_at-2.ensures.range ∙ c.in_ok-other.was)).1

pub overflow_add-result : goal.overflow_add-result
overflow_add-result c =
    let small = run_small c.args.old.now c.in_ok-first.first c.in_ok-run.run' c.next_from-next_old.ensures.keys (sym c.range_at.ensures.range ∙ c.in_ok-run.was) in
    record { fits = omega (arith, small.1) }

pub returns-clause-run : goal.returns-clause-run
returns-clause-run c =
    let first = c.in_ok-first.first in
    let place = c.in_ok-place.place in
    let count : ℕ = c.min.result + 1 in
    let olds = c.args.old.now in
    let news = c.args.new.now in
    let here = run_of olds first c.in_ok-run.run' (sym c.range_at.ensures.range ∙ c.in_ok-run.was) in
    let there = run_of news place c.in_ok-other.other (sym c.range_at-2.ensures.range ∙ c.in_ok-other.was) in
    let old_run = front_run olds c.args.old_from first count c.in_ok-run.run' c.next_from-next_old.ensures.keys (sym c.next_from-next_old.ensures.next ∙ c.in_ok-first.was) (sym c.range_at.ensures.range ∙ c.in_ok-run.was) (omega arith) (omega (arith, here.1)) in
    let new_run = front_run news c.args.new_from place count c.in_ok-other.other c.next_from-next_new.ensures.keys (sym c.next_from-next_new.ensures.next ∙ c.in_ok-place.was) (sym c.range_at-2.ensures.range ∙ c.in_ok-other.was) (omega arith) (omega (arith, there.1)) in
    record {
      some = omega arith;
      above = leb-true c.args.old_from first (find_key (leb c.args.old_from) olds first (sym c.next_from-next_old.ensures.next ∙ c.in_ok-first.was)).1;
      old_small = old_run.1;
      new_small = new_run.1;
      old_front = old_run.0;
      new_front = new_run.0;
    }
