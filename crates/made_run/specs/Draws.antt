-- The numbers of made runs. Each draw goes from one state to the next, and gives a number below another.
--     next state      the state after a draw
--     draw below state      the number that the draw gives
--     after draws state      the state after so many draws
--     drawn_row key state, drawn_rows first count state      rows of trades, from four draws each
use Rattle.std.{specs.Prelude.{ℕ, zero, suc, ◌+◌, ◌*◌, ◌/◌, ◌%◌, ◌^◌, List, [], ◌∷◌, map, ℤ, pos}, specs.List.range_with_len}
use Rattle.tick_model.specs.declared.table.PlainRow.{PlainRow}

unfoldable pub next : ℕ → ℕ
next state = (state * 6364136223846793005 + 1442695040888963407) % 2 ^ 64

unfoldable pub draw : ℕ → ℕ → ℕ
draw below state = next state / 2 ^ 33 % below

unfoldable pub after : ℕ → ℕ → ℕ
after zero state = state
after (suc draws) state = next (after draws state)

-- a symbol, a side, a quantity and a price
abbrev pub drawn_cells : ℕ → List ℤ
drawn_cells state =
    pos (draw 8 state) ∷ pos (draw 2 (after 1 state)) ∷ pos (1 + draw 100 (after 2 state)) ∷ pos (1 + draw 1000 (after 3 state)) ∷ []

abbrev pub drawn_row : ℕ → ℕ → PlainRow
drawn_row key state = record { key = key; cells = drawn_cells state }

-- under the keys from the first on
unfoldable pub drawn_rows : ℕ → ℕ → ℕ → List PlainRow
drawn_rows first count state = map (λ i. drawn_row (first + i) (after (4 * i) state)) (range_with_len 0 count)
