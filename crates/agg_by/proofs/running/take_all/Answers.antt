use Rattle.std.proofs.Common.{◌≡◌, ◌<◌, ap, ◌∙◌, refl, subst, sym, arith, ℕ, zero, suc, List, [], ◌∷◌, ◌++◌, length, map, get_or, set, take, drop}
use Rattle.std.{proofs.lemmas.List.get_or_default, proofs.lemmas.List.Edits.map_over_more}
use Rattle.key_lists.proofs.Every.{all_from}
use Rattle.agg_by.{specs.declared.running.Accumulator.Accumulator, specs.Answers.{HasRow, without_row}}
use Rattle.agg_by.proofs.running.take_all.Goals as goal

-- what has its turn is as it was
at_turn : (f : Accumulator → Accumulator) (xs : List Accumulator) (i : ℕ) (d : Accumulator) → get_or (map f (take i xs) ++ drop i xs) i d ≡ get_or xs i d
at_turn f [] zero d = refl
at_turn f [] (suc i) d = refl
at_turn f (x ∷ xs) zero d = refl
at_turn f (x ∷ xs) (suc i) d = at_turn f xs i d

pub take-requires : goal.take-requires
take-requires c =
    let place = c.loop-place.place in
    let held = c.index-all-place.result in
    let was = c.args.all.now in
    let below : place < length was = omega arith in
    let is : get_or c.loop-place.all place held ≡ get_or was place held =
    ap (λ (all : List Accumulator). get_or all place held) c.loop-place.invariant ∙ at_turn (without_row c.args.number c.args.row.now) was place held in
    subst (HasRow c.args.number c.args.row.now) (sym is) (all_from (HasRow c.args.number c.args.row.now) was c.requires place held below)

pub loop-place-preserved : goal.loop-place-preserved
loop-place-preserved c =
    let all = c.loop-place.all in
    let place = c.loop-place.place in
    let held = get_or all place c.index-all-place.result in
    let below : place < length c.args.all.now = omega arith in
    let within : place < length all = omega (arith, below, c.loop-place.auto.all) in
    ap (set all place) c.in_ok-take.ensures
    ∙ map_over_more (without_row c.args.number c.args.row.now) c.args.all.now all place held below c.loop-place.invariant (get_or_default all place c.index-all-place.result held within)
