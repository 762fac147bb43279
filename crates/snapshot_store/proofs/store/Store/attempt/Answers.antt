use Rattle.std.proofs.Common.{◌≡◌, ℕ, List, [], ◌∷◌, ◌++◌, ap, ◌∙◌, sym, arith, append_assoc, vec_capacity, le_of_eq}
use Rattle.snapshot_store.{specs.Looks.last_or, proofs.Calls.{answers_taken, answers_moved, seen_first, calls_on}, proofs.store.Store.attempt.Goals.{then-last-step-lt-NEAR, else-last-step-lt-NEAR}}
use Rattle.snapshot_store.proofs.store.Store.attempt.Goals as goal

pub invariant_of-caller : goal.invariant_of-caller
invariant_of-caller c = calls_on _ _ _ _ _ _ _ c.caller.inside.seen (vec_capacity c.caller.inside.words) c.read-first.ensures.reading c.caller.invariant (vec_capacity c.read-first.new.words) (le_of_eq (sym c.read-first.ensures.room))

pub returns-clause-attempt : goal.returns-clause-attempt
returns-clause-attempt c = let r = c.read-first.ensures.reading in let f = seen_first _ _ _ _ _ _ _ c.caller.inside.seen (vec_capacity c.caller.inside.words) r c.caller.invariant in
    let step = c.completed-step.ensures.value in let low = r.rises in let s = r.started in record {
      first = c.read-first.result.0;
      last = c.read-first.result.1;
      looks = r.looks ∙ (append_assoc c.caller.inside.place.me.0.looks (c.read-first.result.0 ∷ []) (c.read-first.result.1 ∷ []) ∙ ap (λ (z : List ℕ). z ++ c.read-first.result.0 ∷ c.read-first.result.1 ∷ []) (ap (λ v. v.looks) c.caller.view_is));
      rises = low;
      not_older = (let l = f.0 in let e : last_or 1 c.caller.inside.place.me.0.looks ≡ last_or 1 c.args.caller.now.looks = ap (λ v. last_or 1 v.looks) c.caller.view_is in omega arith);
      answers = elim c.if-last-step-lt-NEAR.branch [
        | then-last-step-lt-NEAR w ↦ w.result-is ∙ answers_taken c.read-first.result.0 c.read-first.result.1 c.completed-step.result step (let h = w.if-last-step-lt-NEAR.true in omega arith)
        | else-last-step-lt-NEAR w ↦ w.result-is ∙ answers_moved c.read-first.result.0 c.read-first.result.1 (let h = w.if-last-step-lt-NEAR.false in omega arith)
      ];
      words = r.line_is;
    }

pub returns-clause-rises : goal.returns-clause-rises
returns-clause-rises c = (seen_first _ _ _ _ _ _ _ c.caller.inside.seen (vec_capacity c.caller.inside.words) c.read-first.ensures.reading c.caller.invariant).1
