use Rattle.std.proofs.Common.{◌≡◌, refl, ap, ap₂, sym, ◌∙◌, subst, true, arith, ◌*◌, ◌≤◌, ◌∷◌, length, drop, take, List, ℕ, ℤ, zero-mul}
use Rattle.std.specs.List.{insert}
use Rattle.key_lists.{specs.Keys.{is_among, without}, proofs.Every.filter_all}
use Rattle.row_set.{specs.Sets.count_below, proofs.Yielded.{next_has, yielded_next}}
use Rattle.tick_model.{specs.declared.table.PlainRow.PlainRow, specs.Changes.rows_under}
use Rattle.tick_table.{specs.Placed.{paired, put_row, put_rows}, proofs.Edits.{come_to, put_count, put_now, put_within}, proofs.Paired.row_of, proofs.Puts.{rest_next, room_next, row_fits}}
use Rattle.tick_table.proofs.stepping.add_rows.Goals as goal

pub loop-key-init : goal.loop-key-init
loop-key-init c =
    let width = c.args.placed.now.width in
    let rows = c.args.rows.now in
    let cells = c.args.cells.now in
    let all = c.into_iter-key-iterator.ensures.into_iter_gives.0 in record {
      width = refl;
      places = c.of-places.ensures;
      room = subst (λ (ks : List ℕ). length ks * width ≤ length cells) (sym all) c.requires.whole;
      rest = ap (λ (ks : List ℕ). drop (length ks * width) cells) all;
      count = c.requires.count ∙ ap (λ (ks : List ℕ). length (without ks rows)) (sym all);
      now = ap (λ (ks : List ℕ). put_rows (rows_under width ks cells) (paired (without ks rows) c.args.placed.now.rows)) all;
      left = refl;
      saved = refl;
    }

pub position_of-position-requires : goal.position_of-position-requires
position_of-position-requires c =
    subst (λ (ks : List ℕ). is_among c.in-Some.key ks ≡ true) (sym c.loop-key.invariant.places)
    (next_has c.loop-key.yielded c.into_iter-key-iterator.ensures.into_iter_gives c.loop-key.yielded_by c.in-Some.ensures.steps (λ key. is_among key c.args.rows.now ≡ true) c.requires.own)

pub split_at-requires : goal.split_at-requires
split_at-requires c =
    let width = c.args.placed.now.width in
    let wide : c.width.result ≡ width = c.width.ensures ∙ c.loop-key.invariant.width in
    let cells = c.loop-key.rest.now in
    omega (arith, wide, row_fits (length c.next.new.self) width (length cells) (subst (λ (ks : List ℕ). length ks * width ≤ length cells) c.in-Some.ensures.steps c.loop-key.invariant.room))

pub put_in-requires-clause-within : goal.put_in-requires-clause-within
put_in-requires-clause-within c =
    let rows = c.args.rows.now in
    let key = c.in-Some.key in
    let others = c.next.new.self in
    let gives = c.into_iter-key-iterator.ensures.into_iter_gives in
    let come = come_to rows c.args.added.now c.loop-key.yielded key others c.ranges-2.ensures.keys.rising gives.1.rising c.requires.own (yielded_next c.loop-key.yielded gives c.loop-key.yielded_by c.in-Some.ensures.steps) in
    let is = c.position_of-position.ensures.position ∙ ap (count_below key) c.loop-key.invariant.places in
    let count = c.loop-key.invariant.count ∙ ap (λ (ks : List ℕ). length (without ks rows)) c.in-Some.ensures.steps in
    put_within rows c.loop-key.yielded key others come c.split_at.result.0.now c.loop-key.placed.rows c.position_of-position.result count is

pub put_in-requires-clause-whole : goal.put_in-requires-clause-whole
put_in-requires-clause-whole c = omega (arith, c.split_at.ensures.front_len, c.width.ensures)

pub loop-key-preserved : goal.loop-key-preserved
loop-key-preserved c =
    let width = c.args.placed.now.width in
    let rows = c.args.rows.now in
    let key = c.in-Some.key in
    let others = c.next.new.self in
    let steps : c.loop-key.key-iterator ≡ key ∷ others = c.in-Some.ensures.steps in
    let rest = c.loop-key.rest.now in
    let now = c.loop-key.placed.rows in
    let position = c.position_of-position.result in
    let row = c.split_at.result.0.now in
    let gives = c.into_iter-key-iterator.ensures.into_iter_gives in
    let come = come_to rows c.args.added.now c.loop-key.yielded key others c.ranges-2.ensures.keys.rising gives.1.rising c.requires.own (yielded_next c.loop-key.yielded gives c.loop-key.yielded_by steps) in
    let is = c.position_of-position.ensures.position ∙ ap (count_below key) c.loop-key.invariant.places in
    let count = c.loop-key.invariant.count ∙ ap (λ (ks : List ℕ). length (without ks rows)) steps in
    let wide : c.width.result ≡ width = c.width.ensures ∙ c.loop-key.invariant.width in
    let front : row ≡ take width rest = c.split_at.ensures.front ∙ ap (λ n. take n rest) wide in
    let back : c.split_at.result.1.now ≡ drop width rest = c.split_at.ensures.back ∙ ap (λ n. drop n rest) wide in
    let put : c.put_in.new.self.rows ≡ insert now position row = c.in_ok-put_in.ensures.rows in
    let one : paired (without others rows) c.put_in.new.self.rows ≡ put_row (row_of key (take width rest)) (paired (without (key ∷ others) rows) now) =
    ap (paired (without others rows)) put
    ∙ put_now rows c.loop-key.yielded key others come row now position count is
    ∙ ap (λ (cells : List ℤ). put_row (row_of key cells) (paired (without (key ∷ others) rows) now)) front in record {
      width = c.in_ok-put_in.ensures.width ∙ c.loop-key.invariant.width;
      places = c.position_of-position.ensures.same ∙ c.loop-key.invariant.places;
      room =
          subst (λ (rest : List ℤ). length others * width ≤ length rest) (sym back)
          (room_next (length others) width rest (subst (λ (ks : List ℕ). length ks * width ≤ length rest) steps c.loop-key.invariant.room));
      rest = ap (drop (length others * width)) back ∙ rest_next (length others) width rest ∙ ap (λ (ks : List ℕ). drop (length ks * width) rest) (sym steps) ∙ c.loop-key.invariant.rest;
      count = ap length put ∙ put_count rows c.loop-key.yielded key others come row now position count is;
      now =
          ap₂ (λ (rest : List ℤ) (rows : List PlainRow). put_rows (rows_under width others rest) rows) back one
          ∙ ap (λ (ks : List ℕ). put_rows (rows_under width ks rest) (paired (without ks rows) now)) (sym steps)
          ∙ c.loop-key.invariant.now;
      left = c.in_ok-put_in.ensures.left ∙ c.loop-key.invariant.left;
      saved = c.in_ok-put_in.ensures.saved ∙ c.loop-key.invariant.saved;
    }

pub returns-clause-count : goal.returns-clause-count
returns-clause-count c =
    c.loop-key.invariant.count ∙ ap (λ (ks : List ℕ). length (without ks c.args.rows.now)) c.in-None.ensures.steps.0 ∙ ap length (filter_all c.args.rows.now)

pub returns-clause-now : goal.returns-clause-now
returns-clause-now c =
    let rows = c.args.rows.now in
    let now = c.loop-key.placed.rows in
    ap (λ (ks : List ℕ). paired ks now) (sym (filter_all rows))
    ∙ ap (λ (ks : List ℕ). put_rows (rows_under c.args.placed.now.width ks c.loop-key.rest.now) (paired (without ks rows) now)) (sym c.in-None.ensures.steps.0)
    ∙ c.loop-key.invariant.now

pub returns-clause-rest : goal.returns-clause-rest
returns-clause-rest c =
    let width = c.args.placed.now.width in
    ap (λ n. drop n c.loop-key.rest.now) (sym (zero-mul width)) ∙ ap (λ (ks : List ℕ). drop (length ks * width) c.loop-key.rest.now) (sym c.in-None.ensures.steps.0) ∙ c.loop-key.invariant.rest
