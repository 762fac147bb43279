-- A step with one input, or with two: that there are so many, and how many cells it may read.
use Rattle.std.proofs.Common.{◌≡◌, ap, ap₂, sym, ◌∙◌, ℕ, ◌+◌, ◌*◌, arith, List, [], ◌∷◌, map, length}
use Rattle.std.{specs.Prelude.sum, proofs.lemmas.List.length-map, proofs.lemmas.List.Sums.sum_by-cons}
use Rattle.tick_model.{specs.Changes.change_of, specs.Operators.result_width}
use Rattle.tick_table.{specs.Exact.counted, specs.Ticking.Ticking}
use Rattle.table_operator.{specs.Inputs.counted_in, specs.Made.{Made, own_tick, room_for}}

-- as many inputs as widths
pub count_is : (inputs : List Ticking) (widths : List ℕ) → map (λ (input : Ticking). input.new.width) inputs ≡ widths → length inputs ≡ length widths
count_is inputs widths e = sym (length-map inputs (λ (input : Ticking). input.new.width)) ∙ ap length e

-- what the widths add up to, and what the updates count
room_by : (made : Made) (inputs : List Ticking) (widths : List ℕ) (wide count : ℕ) → made.widths ≡ widths → sum widths ≡ wide → counted_in inputs ≡ count
    → room_for made inputs ≡ 4 * (wide + result_width made.op widths) * (count + counted (change_of (own_tick made inputs)).update)
room_by made inputs widths wide count e f g =
    let own = counted (change_of (own_tick made inputs)).update in
    ap (λ (widths : List ℕ). 4 * (sum widths + result_width made.op widths) * (counted_in inputs + own)) e
    ∙ ap₂ (λ (wide count : ℕ). 4 * (wide + result_width made.op widths) * (count + own)) f g

pub one_room : (made : Made) (inputs : List Ticking) (input : Ticking) → inputs ≡ input ∷ [] → map (λ (input : Ticking). input.new.width) inputs ≡ made.widths
    → room_for made inputs ≡ 4 * (input.new.width + result_width made.op (input.new.width ∷ [])) * (counted input.update + counted (change_of (own_tick made (input ∷ []))).update)
one_room made inputs input is widths =
    ap (room_for made) is
    ∙ room_by made (input ∷ []) (input.new.width ∷ []) input.new.width (counted input.update) (sym widths ∙ ap (map (λ (input : Ticking). input.new.width)) is)
    (sum_by-cons (λ (k : ℕ). k) input.new.width [] ∙ omega arith) (sum_by-cons (λ (input : Ticking). counted input.update) input [] ∙ omega arith)

pub two_room : (made : Made) (inputs : List Ticking) (left right : Ticking) → inputs ≡ left ∷ right ∷ [] → map (λ (input : Ticking). input.new.width) inputs ≡ made.widths
    → room_for made inputs ≡ 4 * (left.new.width + right.new.width + result_width made.op (left.new.width ∷ right.new.width ∷ [])) * (counted left.update + counted right.update + counted (change_of (own_tick made (left ∷ right ∷ []))).update)
two_room made inputs left right is widths =
    let last = sum_by-cons (λ (k : ℕ). k) right.new.width [] in
    let counts = sum_by-cons (λ (input : Ticking). counted input.update) right [] in
    ap (room_for made) is
    ∙ room_by made (left ∷ right ∷ []) (left.new.width ∷ right.new.width ∷ []) (left.new.width + right.new.width) (counted left.update + counted right.update) (sym widths ∙ ap (map (λ (input : Ticking). input.new.width)) is)
    (sum_by-cons (λ (k : ℕ). k) left.new.width (right.new.width ∷ []) ∙ omega (arith, last)) (sum_by-cons (λ (input : Ticking). counted input.update) left (right ∷ []) ∙ omega (arith, counts))
