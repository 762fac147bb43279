use Rattle.std.proofs.Common.{◌≡◌, ap, sym, ◌∙◌, arith, true, false, pos}
use Rattle.std.{specs.Prelude.int_lt, proofs.lemmas.Result.IfOk-weaker}
use Rattle.row_set.specs.Moves.{moved_keys}
use Rattle.tick_model.specs.Rules.{landed}
use Rattle.shift_data.{proofs.ByRange.{before_move, fall_keys, fall_rises, head, last_keys, last_land, last_rises, movable, others_move, rest, same_delta, shorter, split, then_land, then_move}, proofs.InPlace.landed_none}
use Rattle.shift_data.proofs.in_place.+move_ranges.Goals as goal

pub move_ranges-requires : goal.move_ranges-requires
move_ranges-requires t c =
    let s = c.args.shifts.now in
    let h = movable s c.args.keys (omega (arith, c.in-len1-up.len_at_least)) c.requires.shifts c.requires.inside c.requires.rising in
    let m = others_move (head s) (rest s) c.args.keys h c.in-None.ensures.none in
    (shorter s t (omega (arith, c.in-len1-up.len_at_least)) (omega (arith, c.decreases)), (m.0.list, (m.0.inside, m.0.rising)))

pub shift_range-requires-clause-in_bounds : goal.shift_range-requires-clause-in_bounds
shift_range-requires-clause-in_bounds t c =
    let s = c.args.shifts.now in
    let h = movable s c.args.keys (omega (arith, c.in-len1-up.len_at_least)) c.requires.shifts c.requires.inside c.requires.rising in
    let same = same_delta (head s) (rest s) c.args.keys h in
    let falls : int_lt (head s).delta (pos 0) ≡ true = rw same at c.if-range-lt0.true in
    rw same (fall_keys (head s) (rest s) c.args.keys h c.in-Some.last c.last_held.ensures.keys c.in-Some.ensures.last falls)

pub shift_range-requires-clause-rising : goal.shift_range-requires-clause-rising
shift_range-requires-clause-rising t c =
    let s = c.args.shifts.now in
    let h = movable s c.args.keys (omega (arith, c.in-len1-up.len_at_least)) c.requires.shifts c.requires.inside c.requires.rising in
    let same = same_delta (head s) (rest s) c.args.keys h in
    let falls : int_lt (head s).delta (pos 0) ≡ true = rw same at c.if-range-lt0.true in
    rw same (fall_rises (head s) (rest s) c.args.keys h c.in-Some.last c.last_held.ensures.keys c.in-Some.ensures.last falls)

pub move_ranges-requires-in-Some : goal.move_ranges-requires-in-Some
move_ranges-requires-in-Some t c =
    let s = c.args.shifts.now in
    let h = movable s c.args.keys (omega (arith, c.in-len1-up.len_at_least)) c.requires.shifts c.requires.inside c.requires.rising in
    let same = same_delta (head s) (rest s) c.args.keys h in
    let falls : int_lt (head s).delta (pos 0) ≡ true = rw same at c.if-range-lt0.true in
    let m = then_move (head s) (rest s) c.args.keys h c.in-Some.last c.last_held.ensures.keys c.in-Some.ensures.last falls in
    rw (c.in_ok-shift_range-in-Some.ensures.ok, same) (shorter s t (omega (arith, c.in-len1-up.len_at_least)) (omega (arith, c.decreases)), (m.list, (m.inside, m.rising)))

pub move_ranges-requires-in-Some-2 : goal.move_ranges-requires-in-Some-2
move_ranges-requires-in-Some-2 t c =
    let s = c.args.shifts.now in
    let h = movable s c.args.keys (omega (arith, c.in-len1-up.len_at_least)) c.requires.shifts c.requires.inside c.requires.rising in
    let same = same_delta (head s) (rest s) c.args.keys h in
    let climbs : int_lt (head s).delta (pos 0) ≡ false = rw same at c.if-range-lt0.false in
    let m = before_move (head s) (rest s) c.args.keys h c.in-Some.last c.last_held.ensures.keys c.in-Some.ensures.last climbs in
    (shorter s t (omega (arith, c.in-len1-up.len_at_least)) (omega (arith, c.decreases)), (m.list, (m.inside, m.rising)))

pub shift_range-requires-in-Some-2-clause-in_bounds : goal.shift_range-requires-in-Some-2-clause-in_bounds
shift_range-requires-in-Some-2-clause-in_bounds t c =
    let s = c.args.shifts.now in
    let h = movable s c.args.keys (omega (arith, c.in-len1-up.len_at_least)) c.requires.shifts c.requires.inside c.requires.rising in
    let same = same_delta (head s) (rest s) c.args.keys h in
    let climbs : int_lt (head s).delta (pos 0) ≡ false = rw same at c.if-range-lt0.false in
    rw (c.in_ok-places-in-Some-2.ensures, same) (last_keys (head s) (rest s) c.args.keys h c.in-Some.last c.last_held.ensures.keys c.in-Some.ensures.last climbs)

pub shift_range-requires-in-Some-2-clause-rising : goal.shift_range-requires-in-Some-2-clause-rising
shift_range-requires-in-Some-2-clause-rising t c =
    let s = c.args.shifts.now in
    let h = movable s c.args.keys (omega (arith, c.in-len1-up.len_at_least)) c.requires.shifts c.requires.inside c.requires.rising in
    let same = same_delta (head s) (rest s) c.args.keys h in
    let climbs : int_lt (head s).delta (pos 0) ≡ false = rw same at c.if-range-lt0.false in
    rw (c.in_ok-places-in-Some-2.ensures, same) (last_rises (head s) (rest s) c.args.keys h c.in-Some.last c.last_held.ensures.keys c.in-Some.ensures.last climbs)

pub returns-in-empty : goal.returns-in-empty
returns-in-empty t c = landed_none c.args.shifts.now c.args.keys c.in-empty.len_below

pub returns-in-None : goal.returns-in-None
returns-in-None t c =
    let s = c.args.shifts.now in
    let h = movable s c.args.keys (omega (arith, c.in-len1-up.len_at_least)) c.requires.shifts c.requires.inside c.requires.rising in
    IfOk-weaker c.move_ranges.result (λ places. places ≡ landed (rest s) c.args.keys) (λ places. places ≡ landed s c.args.keys)
    (λ places is. is ∙ (others_move (head s) (rest s) c.args.keys h c.in-None.ensures.none).1 ∙ ap (λ those. landed those c.args.keys) (sym (split s (omega (arith, c.in-len1-up.len_at_least))))) c.move_ranges.ensures

pub returns-in_ok-shift_range-in-Some : goal.returns-in_ok-shift_range-in-Some
returns-in_ok-shift_range-in-Some t c =
    let s = c.args.shifts.now in
    let h = movable s c.args.keys (omega (arith, c.in-len1-up.len_at_least)) c.requires.shifts c.requires.inside c.requires.rising in
    let same = same_delta (head s) (rest s) c.args.keys h in
    let falls : int_lt (head s).delta (pos 0) ≡ true = rw same at c.if-range-lt0.true in
    let moves : landed (rest s) c.shift_range.new.self ≡ landed s c.args.keys =
    ap (landed (rest s)) (c.in_ok-shift_range-in-Some.ensures.ok ∙ ap (λ d. moved_keys (head s).begin c.in-Some.last d c.args.keys) same) ∙ then_land (head s) (rest s) c.args.keys h c.in-Some.last c.last_held.ensures.keys c.in-Some.ensures.last falls ∙ ap (λ those. landed those c.args.keys) (sym (split s (omega (arith, c.in-len1-up.len_at_least)))) in
    IfOk-weaker c.move_ranges-in-Some.result (λ places. places ≡ landed (rest s) c.shift_range.new.self) (λ places. places ≡ landed s c.args.keys) (λ places is. is ∙ moves) c.move_ranges-in-Some.ensures

pub returns-in_ok-shift_range-in-Some-2 : goal.returns-in_ok-shift_range-in-Some-2
returns-in_ok-shift_range-in-Some-2 t c =
    let s = c.args.shifts.now in
    let h = movable s c.args.keys (omega (arith, c.in-len1-up.len_at_least)) c.requires.shifts c.requires.inside c.requires.rising in
    let same = same_delta (head s) (rest s) c.args.keys h in
    let climbs : int_lt (head s).delta (pos 0) ≡ false = rw same at c.if-range-lt0.false in
    c.in_ok-shift_range-in-Some-2.ensures.ok
    ∙ ap (λ d. moved_keys (head s).begin c.in-Some.last d c.in_ok-places-in-Some-2.places) same
    ∙ ap (moved_keys (head s).begin c.in-Some.last (head s).delta) c.in_ok-places-in-Some-2.ensures
    ∙ last_land (head s) (rest s) c.args.keys h c.in-Some.last c.last_held.ensures.keys c.in-Some.ensures.last climbs
    ∙ ap (λ those. landed those c.args.keys) (sym (split s (omega (arith, c.in-len1-up.len_at_least))))
