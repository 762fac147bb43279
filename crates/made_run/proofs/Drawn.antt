-- What is drawn: numbers below their limits, and rows under keys in a row.
use Rattle.std.proofs.Common.{◌≡◌, refl, ap, sym, ◌∙◌, ℕ, zero, suc, ◌+◌, ◌*◌, ◌/◌, ◌%◌, ◌^◌, ◌<◌, ◌≤◌, arith, Bool, true, false, List, [], ◌∷◌, map}
use Rattle.std.{specs.List.{AllByRecursion, range_with_len}, proofs.lemmas.Nat.mod_below}
use Rattle.key_lists.{proofs.Every.{every-map, map_map}, proofs.Ranges.each_from}
use Rattle.tick_model.{specs.declared.table.PlainRow.PlainRow, specs.Tables.keys}
use Rattle.made_run.{specs.Draws.{next, draw, after, drawn_row, drawn_rows}, proofs.Numbers.map_plus}

pub draw-below : (below state : ℕ) → 0 < below → draw below state < below
unfolding draw
draw-below below state some = mod_below (next state / 2 ^ 33) below some

pub keys-drawn : (first count state : ℕ) → keys (drawn_rows first count state) ≡ range_with_len first count
unfolding drawn_rows
keys-drawn first count state =
    let here : first + 0 ≡ first = omega arith in
    map_map (λ (row : PlainRow). row.key) (λ i. drawn_row (first + i) (after (4 * i) state)) (range_with_len 0 count)
    ∙ map_plus first 0 count ∙ ap (λ k. range_with_len k count) here

-- what holds of each row that is drawn
pub every_drawn : (P : PlainRow → Type 0) (first count state : ℕ) → ((key at : ℕ) → key < first + count → P (drawn_row key at)) → AllByRecursion P (drawn_rows first count state)
unfolding drawn_rows
every_drawn P first count state h =
    every-map P (λ i. drawn_row (first + i) (after (4 * i) state)) (range_with_len 0 count)
    (each_from (λ i. P (drawn_row (first + i) (after (4 * i) state))) 0 count (λ i low high. h (first + i) (after (4 * i) state) (omega (arith, high))))

-- draws after draws
pub after-plus : (m n state : ℕ) → after m (after n state) ≡ after (m + n) state
unfolding after
after-plus zero n state = let same : n ≡ 0 + n = omega arith in ap (λ draws. after draws state) same
after-plus (suc m) n state = let same : suc (m + n) ≡ suc m + n = omega arith in ap next (after-plus m n state) ∙ ap (λ draws. after draws state) same

pub one_row_more : (i state : ℕ) → after 4 (after (4 * i) state) ≡ after (4 * (i + 1)) state
one_row_more i state = let count : 4 + 4 * i ≡ 4 * (i + 1) = omega arith in after-plus 4 (4 * i) state ∙ ap (λ draws. after draws state) count
