use Rattle.std.proofs.Common.{◌≡◌, sym, ap, ◌∙◌, subst, arith, ◌*◌, ◌≤◌, ◌++◌, length, drop, take, ℕ, ℤ, List, ◌∷◌, map, append_assoc, append-nil, zero-mul}
use Rattle.tick_model.{specs.declared.table.PlainRow.PlainRow, specs.Changes.rows_under, specs.Texts.{record_text, records_text, row_record}}
use Rattle.tick_table.proofs.Puts.{rest_next, room_next, row_fits}
use Rattle.update_text.proofs.changes.push_told.Goals as goal

pub loop-key-init : goal.loop-key-init
loop-key-init c =
    let columns = c.args.columns.now in
    let all = c.into_iter-key-iterator.ensures.into_iter_gives.0 in record {
      room = subst (λ (ks : List ℕ). length ks * length columns ≤ length c.args.cells.now) (sym all) c.requires;
      rest = ap (λ (ks : List ℕ). drop (length ks * length columns) c.args.cells.now) all;
      written = ap (λ (ks : List ℕ). c.args.text.now.items ++ records_text (map (row_record c.args.tag.now c.args.texts.now columns) (rows_under (length columns) ks c.args.cells.now))) all;
    }

pub split_at-requires : goal.split_at-requires
split_at-requires c =
    let width = length c.args.columns.now in
    let cells = c.loop-key.rest.now in
    omega (arith, row_fits (length c.next.new.self) width (length cells) (subst (λ (ks : List ℕ). length ks * width ≤ length cells) c.in-Some.ensures.steps c.loop-key.invariant.room))

pub loop-key-preserved : goal.loop-key-preserved
loop-key-preserved c =
    let columns = c.args.columns.now in
    let width = length columns in
    let key = c.in-Some.key in
    let left = c.next.new.self in
    let steps : c.loop-key.key-iterator ≡ key ∷ left = c.in-Some.ensures.steps in
    let rest = c.loop-key.rest.now in
    let text = c.loop-key.text.items in
    let told = row_record c.args.tag.now c.args.texts.now columns in
    let row = λ (cells : List ℤ). let row : PlainRow = record { key = key; cells = cells } in row in
    let back : c.split_at.result.1.now ≡ drop width rest = c.split_at.ensures.back in
    record {
      room =
          subst (λ (rest : List ℤ). length left * width ≤ length rest) (sym back)
          (room_next (length left) width rest (subst (λ (ks : List ℕ). length ks * width ≤ length rest) steps c.loop-key.invariant.room));
      rest = ap (drop (length left * width)) back ∙ rest_next (length left) width rest ∙ ap (λ (ks : List ℕ). drop (length ks * width) rest) (sym steps) ∙ c.loop-key.invariant.rest;
      written =
          ap (λ text. text ++ records_text (map told (rows_under width left c.split_at.result.1.now))) c.in_ok-push_row.ensures
          ∙ ap (λ (others : List ℤ). (text ++ record_text (told (row c.split_at.result.0.now))) ++ records_text (map told (rows_under width left others))) back
          ∙ ap (λ (cells : List ℤ). (text ++ record_text (told (row cells))) ++ records_text (map told (rows_under width left (drop width rest)))) c.split_at.ensures.front
          ∙ append_assoc text (record_text (told (row (take width rest)))) (records_text (map told (rows_under width left (drop width rest))))
          ∙ ap (λ (ks : List ℕ). text ++ records_text (map told (rows_under width ks rest))) (sym steps)
          ∙ c.loop-key.invariant.written;
    }

pub returns-clause-text : goal.returns-clause-text
returns-clause-text c =
    let columns = c.args.columns.now in
    sym (append-nil c.loop-key.text.items)
    ∙ ap (λ (ks : List ℕ). c.loop-key.text.items ++ records_text (map (row_record c.args.tag.now c.args.texts.now columns) (rows_under (length columns) ks c.loop-key.rest.now))) (sym c.in-None.ensures.steps.0)
    ∙ c.loop-key.invariant.written

pub returns-clause-rest : goal.returns-clause-rest
returns-clause-rest c =
    let width = length c.args.columns.now in
    ap (λ n. drop n c.loop-key.rest.now) (sym (zero-mul width)) ∙ ap (λ (ks : List ℕ). drop (length ks * width) c.loop-key.rest.now) (sym c.in-None.ensures.steps.0) ∙ c.loop-key.invariant.rest
