use Rattle.std.proofs.Common.{◌≡◌, refl, ap, ap₂, sym, ◌∙◌, subst, arith, ℕ, suc, ◌+◌, ◌-◌, ◌<◌, ◌≤◌, List, [], ◌∷◌, ◌++◌, length, length-append, append-nil}
use Rattle.std.{specs.Prelude.remove, proofs.lemmas.List.Edits.length-remove}
use Rattle.key_lists.specs.Keys.{IsRising}
use Rattle.row_set.{proofs.Windows.rising_back, proofs.Yielded.{next_has, next_small, yielded_all, yielded_next}}
use Rattle.sort_op.{specs.Places.left_from, specs.Ranks.Ranking, proofs.LeftOut.{left_next, left_none, many_before, next_before}}
use Rattle.sort_op.proofs.row_order.RowOrder.remove_found.Goals as goal

pub loop-position-init : goal.loop-position-init
loop-position-init c = record {
  removed = refl;
  count = omega arith;
  self = refl;
  left = λ rest these. ap (λ some. left_from 0 some c.args.self.now.rows) these;
}

pub overflow_sub-position : goal.overflow_sub-position
overflow_sub-position c =
    let gives = c.into_iter-position-iterator.ensures.into_iter_gives in
    let these = yielded_next c.loop-position.yielded gives c.loop-position.yielded_by c.in-Some.ensures.steps in
    omega (arith, c.loop-position.invariant.removed, many_before c.loop-position.yielded c.in-Some.position c.next.new.self (subst IsRising these gives.1.rising))

pub overflow_add-removed : goal.overflow_add-removed
overflow_add-removed c =
    let gives = c.into_iter-position-iterator.ensures.into_iter_gives in
    let small = next_small c.loop-position.yielded gives c.loop-position.yielded_by c.in-Some.ensures.steps in
    let below : c.loop-position.removed ≤ c.in-Some.position = overflow_sub-position c.before in
    omega (arith, small, below)

pub remove_at-requires : goal.remove_at-requires
remove_at-requires c =
    let gives = c.into_iter-position-iterator.ensures.into_iter_gives in
    let these = yielded_next c.loop-position.yielded gives c.loop-position.yielded_by c.in-Some.ensures.steps in
    omega (
      arith,
      c.loop-position.invariant.removed,
      c.loop-position.invariant.count,
      many_before c.loop-position.yielded c.in-Some.position c.next.new.self (subst IsRising these gives.1.rising),
      next_has c.loop-position.yielded gives c.loop-position.yielded_by c.in-Some.ensures.steps (λ position. position < length c.args.self.now.rows) c.requires,
    )

pub loop-position-preserved : goal.loop-position-preserved
loop-position-preserved c =
    let before = c.args.self.now in
    let yielded = c.loop-position.yielded in
    let position = c.in-Some.position in
    let removed = c.loop-position.removed in
    let rows = c.loop-position.self.rows in
    let is = c.loop-position.invariant in
    let gives = c.into_iter-position-iterator.ensures.into_iter_gives in
    let these = yielded_next yielded gives c.loop-position.yielded_by c.in-Some.ensures.steps in
    let below : removed ≤ position = omega (arith, is.removed, many_before yielded position c.next.new.self (subst IsRising these gives.1.rising)) in
    let within : position - removed < length rows =
    omega (arith, below, is.count, next_has yielded gives c.loop-position.yielded_by c.in-Some.ensures.steps (λ position. position < length before.rows) c.requires) in
    let now : c.remove_at.new.self.rows ≡ remove rows (position - removed) = ap (λ (order : Ranking). order.rows) c.remove_at.ensures in record {
      removed = omega (arith, is.removed, length-append yielded (position ∷ []));
      count = omega (arith, is.count, ap length now, length-remove rows (position - removed) within);
      self =
          c.remove_at.ensures
          ∙ ap (λ (order : Ranking). let after : Ranking = record order { rows = remove rows (position - removed) } in after) is.self
          ∙ ap (λ (rows : List ℕ). let after : Ranking = record before { rows = rows } in after) (sym now);
      left = λ rest all.
          let next = next_before yielded position rest c.args.positions.now all in
          is.left (position ∷ rest) next
          ∙ left_next rows (position - removed) removed position rest (omega (arith, below)) within (rising_back yielded (position ∷ rest) (subst IsRising next gives.1.rising)).0
          ∙ ap₂ (λ (n : ℕ) (rows : List ℕ). left_from n rest rows) (omega arith) (sym now);
    }

pub returns-clause-left : goal.returns-clause-left
returns-clause-left c =
    let yielded = c.loop-position.yielded in
    let all = sym (append-nil yielded ∙ yielded_all yielded c.into_iter-position-iterator.ensures.into_iter_gives c.loop-position.yielded_by c.in-None.ensures.steps.0) in
    c.loop-position.invariant.self
    ∙ ap (λ (rows : List ℕ). let order : Ranking = record c.args.self.now { rows = rows } in order) (sym (c.loop-position.invariant.left [] all ∙ left_none c.loop-position.removed c.loop-position.self.rows))
