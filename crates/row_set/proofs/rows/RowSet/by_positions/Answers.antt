use Rattle.std.proofs.Common.{◌≡◌, ℕ, ◌+◌, ◌-◌, ◌^◌, min, List, [], length, take, drop, IfOk, sym, ap, ◌∙◌, subst, arith}
use Rattle.row_set.{specs.Ranges.keys_from, specs.Sets.{common, united}, proofs.Windows.{window_at, window_none, low_to_high, get_small}, proofs.rows.RowSet.by_positions.Goals.{then-first-end+in_ok-insert_range, else-first-end}}
use Rattle.row_set.proofs.rows.RowSet.by_positions.Goals as goal

pub insert_range-requires-clause-order : goal.insert_range-requires-clause-order
insert_range-requires-clause-order c =
    low_to_high c.args.first (c.min-end.result - 1) c.unwrap-low.result c.unwrap-high.result c.args.self.now c.len.ensures.keys.rising (omega (arith, c.if-first-end.true))
    (sym c.get.ensures.key ∙ c.unwrap-low.ensures) (sym c.get-then-first-end.ensures.key ∙ c.unwrap-high.ensures)

pub insert_range-requires-clause-small : goal.insert_range-requires-clause-small
insert_range-requires-clause-small c =
    get_small (2 ^ 62) (c.min-end.result - 1) c.unwrap-high.result c.args.self.now c.len.ensures.keys.small (sym c.get-then-first-end.ensures.key ∙ c.unwrap-high.ensures)

pub returns : goal.returns
returns c =
    let keys = c.args.self.now in
    let first = c.args.first in
    let count = c.args.count in
    let end = c.min-end.result in
    let is : end ≡ min (first + count) (length keys) = omega (arith, c.min-end.ensures, c.saturating_add.ensures, c.len.ensures.count, c.len.type_inv) in
    let same : common c.if-first-end.window keys ≡ take count (drop first keys) =
    elim c.if-first-end.branch [
      | then-first-end+in_ok-insert_range w ↦
          let low = w.unwrap-low.result in
          let high = w.unwrap-high.result in
          let window : c.if-first-end.window ≡ united (keys_from low high) [] = w.window-is ∙ w.in_ok-insert_range.ensures.ok ∙ ap (united (keys_from low high)) c.new-window.ensures in
          ap (λ those. common those keys) window
          ∙ sym (window_at first count end low high keys c.len.ensures.keys.rising is w.if-first-end.true (sym w.get.ensures.key ∙ w.unwrap-low.ensures) (sym w.get-then-first-end.ensures.key ∙ w.unwrap-high.ensures))
      | else-first-end w ↦
          ap (λ those. common those keys) (w.window-is ∙ c.new-window.ensures) ∙ sym (window_none first count end keys is w.if-first-end.false)
    ] in
    subst (λ those. IfOk c.intersect.result (λ (found : List ℕ). found ≡ those)) same c.intersect.ensures
