use Rattle.std.proofs.Common.{◌≡◌, ◌^◌, ap, sym, ◌∙◌, subst, arith, true, false, ℕ, List, ℤ, ◌++◌}
use Rattle.std.proofs.lemmas.Result.{on_ok_weaker}
use Rattle.key_lists.specs.Keys.{is_among}
use Rattle.tick_model.{specs.Agg.agg_table, specs.declared.update.ShiftRange.ShiftRange, specs.Rules.is_past, specs.Shifts.{as_key, moved}, specs.Tables.cells_at, specs.Updates.Update}
use Rattle.agg_by.{specs.Steps.{first_keys, touched_firsts}, proofs.Answering.items_put, proofs.GroupRows.keys-agg, proofs.Noting.noted_room, proofs.Quiet.{first_now, same_row, still_there}, proofs.StayingRows.{chosen_is, first_there, lands, none_chosen, small_row}}
use Rattle.agg_by.proofs.rows.GroupRowsRows.row.Goals as goal

pub row-requires : goal.row-requires
row-requires g c =
    let rows = c.args.self.now in
    let notes = rows.notes.now in
    let room = noted_room notes (agg_table rows.kept.now.by rows.kept.now.aggs rows.input.now.old) c.requires.ready.noted in
    omega (arith, room, notes.cells.ok.0)

pub returns-in-Some-clause-cells : goal.returns-in-Some-clause-cells
returns-in-Some-clause-cells g c =
    let rows = c.args.self.now in
    let table = agg_table rows.kept.now.by rows.kept.now.aggs rows.input.now.old in
    let told = rw c.in-Some.is at (c.row.ensures table c.requires.ready.noted) in
    let is = chosen_is (is_among c.args.key rows.notes.now.keys) (cells_at c.args.key table.rows) c.in-Some.row.now told in
    rw c.in-Before.is (items_put c.extend_from_slice.result c.args.cells.now.items c.in-Some.row.now (cells_at c.args.key table.rows) c.extend_from_slice.new.self.items (sym is.1) c.extend_from_slice.ensures.items)

pub landing-now-requires-clause-key : goal.landing-now-requires-clause-key
landing-now-requires-clause-key g c =
    let rows = c.args.self.now in
    let t = rows.input.now in
    let by = rows.kept.now.by in
    let e = c.requires.ready.exact in
    let own : is_among c.args.key (first_keys by t.old.rows) ≡ true = subst (λ ks. is_among c.args.key ks ≡ true) (keys-agg by rows.kept.now.aggs t.old) (rw c.in-Before.is at c.requires.here) in
    small_row by t e c.args.key (first_there by t e c.args.key own)

pub landing-now-requires-clause-inside : goal.landing-now-requires-clause-inside
landing-now-requires-clause-inside g c =
    let rows = c.args.self.now in
    let t = rows.input.now in
    let by = rows.kept.now.by in
    let aggs = rows.kept.now.aggs in
    let ready = c.requires.ready in
    let key = c.args.key in
    let own : is_among key (first_keys by t.old.rows) ≡ true = subst (λ ks. is_among key ks ≡ true) (keys-agg by aggs t.old) (rw c.in-Before.is at c.requires.here) in
    let told = rw c.in-None.is at (c.row.ensures (agg_table by aggs t.old) ready.noted) in
    let absent : is_among key (touched_firsts by t t.old.rows) ≡ false = ap (is_among key) (sym ready.keys) ∙ none_chosen (is_among key rows.notes.now.keys) (cells_at key (agg_table by aggs t.old).rows) told in
    ap (λ (shifts : List ShiftRange). is_past (2 ^ 62) (moved shifts key)) (c.shifted.ensures ∙ ap (λ (update : Update). update.shifted) c.update.ensures) ∙ lands by t ready.exact key (still_there by aggs t ready.exact key own absent)

pub put_now-requires-clause-here : goal.put_now-requires-clause-here
put_now-requires-clause-here g c =
    let rows = c.args.self.now in
    let t = rows.input.now in
    let by = rows.kept.now.by in
    let aggs = rows.kept.now.aggs in
    let ready = c.requires.ready in
    let key = c.args.key in
    let own : is_among key (first_keys by t.old.rows) ≡ true = subst (λ ks. is_among key ks ≡ true) (keys-agg by aggs t.old) (rw c.in-Before.is at c.requires.here) in
    let told = rw c.in-None.is at (c.row.ensures (agg_table by aggs t.old) ready.noted) in
    let absent : is_among key (touched_firsts by t t.old.rows) ≡ false = ap (is_among key) (sym ready.keys) ∙ none_chosen (is_among key rows.notes.now.keys) (cells_at key (agg_table by aggs t.old).rows) told in
    let place : c.landing-now.result ≡ as_key (moved t.update.shifted key) = c.landing-now.ensures.place ∙ ap (λ (shifts : List ShiftRange). as_key (moved shifts key)) (c.shifted.ensures ∙ ap (λ (update : Update). update.shifted) c.update.ensures) in
    ap (λ (k : ℕ). is_among k (first_keys by t.new.rows)) place ∙ first_now by aggs t ready.exact key own absent

pub returns-in-None-clause-cells : goal.returns-in-None-clause-cells
returns-in-None-clause-cells g c =
    let rows = c.args.self.now in
    let t = rows.input.now in
    let by = rows.kept.now.by in
    let aggs = rows.kept.now.aggs in
    let ready = c.requires.ready in
    let key = c.args.key in
    let own : is_among key (first_keys by t.old.rows) ≡ true = subst (λ ks. is_among key ks ≡ true) (keys-agg by aggs t.old) (rw c.in-Before.is at c.requires.here) in
    let told = rw c.in-None.is at (c.row.ensures (agg_table by aggs t.old) ready.noted) in
    let absent : is_among key (touched_firsts by t t.old.rows) ≡ false = ap (is_among key) (sym ready.keys) ∙ none_chosen (is_among key rows.notes.now.keys) (cells_at key (agg_table by aggs t.old).rows) told in
    let place : c.landing-now.result ≡ as_key (moved t.update.shifted key) = c.landing-now.ensures.place ∙ ap (λ (shifts : List ShiftRange). as_key (moved shifts key)) (c.shifted.ensures ∙ ap (λ (update : Update). update.shifted) c.update.ensures) in
    rw c.in-Before.is (on_ok_weaker c.put_now.result
    (λ made. made ∙ ap (λ (row : List ℤ). c.args.cells.now.items ++ row) (ap (λ (k : ℕ). cells_at k (agg_table by aggs t.new).rows) place ∙ same_row by aggs t ready.exact key own absent)) c.put_now.ensures.cells)

pub put_now-requires-in-Now-clause-here : goal.put_now-requires-in-Now-clause-here
put_now-requires-in-Now-clause-here g c =
    let rows = c.args.self.now in
    subst (λ ks. is_among c.args.key ks ≡ true) (keys-agg rows.kept.now.by rows.kept.now.aggs rows.input.now.new) (rw c.in-Now.is at c.requires.here)

pub returns-in-Now-clause-cells : goal.returns-in-Now-clause-cells
returns-in-Now-clause-cells g c = rw c.in-Now.is c.put_now-in-Now.ensures.cells
