use Rattle.std.proofs.Common.{◌≡◌, refl, ap, ap₂, sym, ◌∙◌, subst, true, arith, ◌*◌, ◌≤◌, ◌++◌, ◌∷◌, [], length, drop, take, get_or, set, List, ℕ, ℤ, append-nil}
use Rattle.std.{specs.Prelude.flat_map, proofs.lemmas.List.append_assoc}
use Rattle.key_lists.specs.Keys.{is_among}
use Rattle.row_set.{specs.Sets.count_below, proofs.Yielded.{next_has, yielded_next}}
use Rattle.tick_model.{specs.declared.table.PlainRow.PlainRow, specs.Changes.rows_under, specs.Tables.cells_at}
use Rattle.tick_table.{specs.Placed.{paired, put_row, put_rows}, proofs.Edits.{come_to, set_count, set_now, set_saved, set_within}, proofs.Paired.row_of, proofs.Puts.{room_next, row_fits}}
use Rattle.tick_table.proofs.stepping.modify_rows.Goals as goal

pub loop-key-init : goal.loop-key-init
loop-key-init c =
    let width = c.args.placed.now.width in
    let rows = c.args.rows.now in
    let was = c.args.placed.now.rows in
    let cells = c.args.cells.now in
    let all = c.into_iter-key-iterator.ensures.into_iter_gives.0 in record {
      width = refl;
      places = c.of-places.ensures;
      room = subst (λ (ks : List ℕ). length ks * width ≤ length cells) (sym all) c.requires.whole;
      count = c.requires.count;
      now = ap (λ (ks : List ℕ). put_rows (rows_under width ks cells) (paired rows was)) all;
      left = refl;
      saved = ap (λ (ks : List ℕ). c.args.placed.now.saved ++ flat_map (λ key. cells_at key (paired rows was)) ks) all;
    }

pub position_of-position-requires : goal.position_of-position-requires
position_of-position-requires c =
    subst (λ (ks : List ℕ). is_among c.in-Some.key ks ≡ true) (sym c.loop-key.invariant.places)
    (next_has c.loop-key.yielded c.into_iter-key-iterator.ensures.into_iter_gives c.loop-key.yielded_by c.in-Some.ensures.steps (λ key. is_among key c.args.rows.now ≡ true) c.requires.own)

pub split_at-requires : goal.split_at-requires
split_at-requires c =
    let width = c.args.placed.now.width in
    let wide : c.width.result ≡ width = c.width.ensures ∙ c.loop-key.invariant.width in
    let cells = c.loop-key.rest.now in
    omega (arith, wide, row_fits (length c.next.new.self) width (length cells) (subst (λ (ks : List ℕ). length ks * width ≤ length cells) c.in-Some.ensures.steps c.loop-key.invariant.room))

pub replace-requires-clause-within : goal.replace-requires-clause-within
replace-requires-clause-within c =
    let rows = c.args.rows.now in
    let key = c.in-Some.key in
    let others = c.next.new.self in
    let gives = c.into_iter-key-iterator.ensures.into_iter_gives in
    let come = come_to rows c.args.modified.now c.loop-key.yielded key others c.ranges-2.ensures.keys.rising gives.1.rising c.requires.own (yielded_next c.loop-key.yielded gives c.loop-key.yielded_by c.in-Some.ensures.steps) in
    let is = c.position_of-position.ensures.position ∙ ap (count_below key) c.loop-key.invariant.places in
    set_within rows c.loop-key.yielded key others come c.split_at.result.0.now c.loop-key.placed.rows c.position_of-position.result c.loop-key.invariant.count is

pub replace-requires-clause-whole : goal.replace-requires-clause-whole
replace-requires-clause-whole c = omega (arith, c.split_at.ensures.front_len, c.width.ensures)

pub loop-key-preserved : goal.loop-key-preserved
loop-key-preserved c =
    let width = c.args.placed.now.width in
    let rows = c.args.rows.now in
    let key = c.in-Some.key in
    let others = c.next.new.self in
    let steps : c.loop-key.key-iterator ≡ key ∷ others = c.in-Some.ensures.steps in
    let rest = c.loop-key.rest.now in
    let now = c.loop-key.placed.rows in
    let saved = c.loop-key.placed.saved in
    let position = c.position_of-position.result in
    let row = c.split_at.result.0.now in
    let gives = c.into_iter-key-iterator.ensures.into_iter_gives in
    let come = come_to rows c.args.modified.now c.loop-key.yielded key others c.ranges-2.ensures.keys.rising gives.1.rising c.requires.own (yielded_next c.loop-key.yielded gives c.loop-key.yielded_by steps) in
    let is = c.position_of-position.ensures.position ∙ ap (count_below key) c.loop-key.invariant.places in
    let count = c.loop-key.invariant.count in
    let wide : c.width.result ≡ width = c.width.ensures ∙ c.loop-key.invariant.width in
    let front : row ≡ take width rest = c.split_at.ensures.front ∙ ap (λ n. take n rest) wide in
    let back : c.split_at.result.1.now ≡ drop width rest = c.split_at.ensures.back ∙ ap (λ n. drop n rest) wide in
    let put : c.replace.new.self.rows ≡ set now position row = c.in_ok-replace.ensures.rows in
    let one : paired rows c.replace.new.self.rows ≡ put_row (row_of key (take width rest)) (paired rows now) =
    ap (paired rows) put
    ∙ set_now rows c.loop-key.yielded key others come row now position count is
    ∙ ap (λ (cells : List ℤ). put_row (row_of key cells) (paired rows now)) front in
    let cells_then : List ℤ = flat_map (λ other. cells_at other (paired rows (set now position row))) others in record {
      width = c.in_ok-replace.ensures.width ∙ c.loop-key.invariant.width;
      places = c.position_of-position.ensures.same ∙ c.loop-key.invariant.places;
      room =
          subst (λ (rest : List ℤ). length others * width ≤ length rest) (sym back)
          (room_next (length others) width rest (subst (λ (ks : List ℕ). length ks * width ≤ length rest) steps c.loop-key.invariant.room));
      count = ap length put ∙ set_count rows c.loop-key.yielded key others come row now position count is;
      now =
          ap₂ (λ (rest : List ℤ) (rows : List PlainRow). put_rows (rows_under width others rest) rows) back one
          ∙ ap (λ (ks : List ℕ). put_rows (rows_under width ks rest) (paired rows now)) (sym steps)
          ∙ c.loop-key.invariant.now;
      left = c.in_ok-replace.ensures.left ∙ c.loop-key.invariant.left;
      saved =
          ap₂ (λ (cells : List ℤ) (these : List (List ℤ)). cells ++ flat_map (λ other. cells_at other (paired rows these)) others) c.in_ok-replace.ensures.saved put
          ∙ append_assoc saved (get_or now position []) cells_then
          ∙ ap (λ (cells : List ℤ). saved ++ cells) (set_saved rows c.loop-key.yielded key others come row now position count is)
          ∙ ap (λ (ks : List ℕ). saved ++ flat_map (λ other. cells_at other (paired rows now)) ks) (sym steps)
          ∙ c.loop-key.invariant.saved;
    }

pub returns-clause-now : goal.returns-clause-now
returns-clause-now c =
    ap (λ (ks : List ℕ). put_rows (rows_under c.args.placed.now.width ks c.loop-key.rest.now) (paired c.args.rows.now c.loop-key.placed.rows)) (sym c.in-None.ensures.steps.0) ∙ c.loop-key.invariant.now

pub returns-clause-saved : goal.returns-clause-saved
returns-clause-saved c =
    let saved = c.loop-key.placed.saved in
    sym (append-nil saved)
    ∙ ap (λ (ks : List ℕ). saved ++ flat_map (λ key. cells_at key (paired c.args.rows.now c.loop-key.placed.rows)) ks) (sym c.in-None.ensures.steps.0)
    ∙ c.loop-key.invariant.saved
