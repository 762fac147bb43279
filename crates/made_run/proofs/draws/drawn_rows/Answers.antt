use Rattle.std.proofs.Common.{◌≡◌, ℕ, ◌+◌, ◌*◌, List, [], ◌∷◌, ◌++◌, length, map, refl, ap, ap₂, sym, ◌∙◌, subst, arith}
use Rattle.std.{specs.List.{AllByRecursion, range_with_len}, proofs.lemmas.List.FromFn.map-range_with_len_more}
use Rattle.key_lists.proofs.Every.{every, every-map}
use Rattle.tick_model.specs.declared.table.PlainRow.{PlainRow}
use Rattle.made_run.{specs.Draws.{after, drawn_row, drawn_rows}, proofs.Drawn.one_row_more}
use Rattle.made_run.proofs.draws.drawn_rows.Goals as goal

-- the row of an index
abbrev at : ℕ → ℕ → ℕ → PlainRow
at first state i = drawn_row (first + i) (after (4 * i) state)

pub loop-i-init : goal.loop-i-init
unfolding after
loop-i-init c = record { rows = c.new-rows.ensures; state = refl }

pub put_drawn_row-requires : goal.put_drawn_row-requires
put_drawn_row-requires c =
    let row = at c.args.first c.args.draws.now.state in
    subst (AllByRecursion (λ (row : PlainRow). length row.cells ≡ 4)) (sym c.loop-i.invariant.rows)
    (every-map (λ (row : PlainRow). length row.cells ≡ 4) row (range_with_len 0 c.loop-i.i) (every (λ i. length (row i).cells ≡ 4) (range_with_len 0 c.loop-i.i) (λ i. refl)))

pub loop-i-preserved : goal.loop-i-preserved
loop-i-preserved c =
    let i = c.loop-i.i in
    let start = c.args.draws.now.state in
    record {
      rows =
          c.in_ok-put_drawn_row.ensures.row
          ∙ ap₂ (λ (rows : List PlainRow) (row : PlainRow). rows ++ row ∷ []) c.loop-i.invariant.rows (ap (drawn_row (c.args.first + i)) c.loop-i.invariant.state)
          ∙ sym (map-range_with_len_more (at c.args.first start) 0 i i (omega arith));
      state = c.put_drawn_row.ensures.state ∙ ap (after 4) c.loop-i.invariant.state ∙ one_row_more i start;
    }

pub returns-clause-rows : goal.returns-clause-rows
unfolding drawn_rows
returns-clause-rows c =
    let all : c.loop-i.i ≡ c.args.count = omega arith in
    c.loop-i.invariant.rows ∙ ap (λ count. map (at c.args.first c.args.draws.now.state) (range_with_len 0 count)) all
