use Rattle.std.proofs.Common.{◌≡◌, refl, ap, sym, ◌∙◌, subst, ◌^◌, true, false, List, ℕ, Option, Some, None, is_some}
use Rattle.key_lists.specs.Keys.{is_among}
use Rattle.row_groups.specs.Members.{Member, groups_of}
use Rattle.tick_model.{specs.declared.update.KeyPair.KeyPair, specs.declared.update.ShiftRange.ShiftRange, specs.Rules.is_past, specs.Shifts.{as_key, moved}, specs.Tables.same_cells, specs.Updates.Update}
use Rattle.agg_by.{specs.Steps.{key_at, touched_firsts}, proofs.Answering.{led_row, there_at}, proofs.FirstKeys.{led_at, led_found, led_own}, proofs.StayingRows.{all_three, begins_long, first_there, has_cells, lands, not_first, not_same, pair_when, small_row, stays_on, touched_first}}
use Rattle.agg_by.proofs.staying.staying_pair.Goals as goal

pub landing-new-requires-clause-key : goal.landing-new-requires-clause-key
landing-new-requires-clause-key c =
    let t = c.args.input.now in
    let e = c.requires.exact in
    small_row c.args.kept.now.by t e c.args.old (first_there c.args.kept.now.by t e c.args.old c.requires.first)

pub landing-new-requires-clause-inside : goal.landing-new-requires-clause-inside
landing-new-requires-clause-inside c =
    let t = c.args.input.now in
    let e = c.requires.exact in
    let by = c.args.kept.now.by in
    let old = c.args.old in
    let left : is_among old t.update.removed ≡ false = sym (ap (is_among old) (c.removed.ensures.keys ∙ ap (λ (update : Update). update.removed) c.update.ensures)) ∙ sym c.contains.ensures.member ∙ c.if-contains.false in
    ap (λ (shifts : List ShiftRange). is_past (2 ^ 62) (moved shifts old)) (c.shifted.ensures ∙ ap (λ (update : Update). update.shifted) c.update-2.ensures) ∙ lands by t e old (stays_on by t e old (first_there by t e old c.requires.first) left)

pub returns-then-not-contains : goal.returns-then-not-contains
returns-then-not-contains c =
    let t = c.args.input.now in
    let by = c.args.kept.now.by in
    let old = c.args.old in
    let place : c.landing-new.result ≡ as_key (moved t.update.shifted old) = c.landing-new.ensures.place ∙ ap (λ (shifts : List ShiftRange). as_key (moved shifts old)) (c.shifted.ensures ∙ ap (λ (update : Update). update.shifted) c.update-2.ensures) in
    let none : is_among (as_key (moved t.update.shifted old)) (touched_firsts by t t.new.rows) ≡ false = ap (λ (k : ℕ). is_among k (touched_firsts by t t.new.rows)) (sym place) ∙ ap (is_among c.landing-new.result) (sym c.requires.firsts) ∙ sym c.contains-2.ensures.member ∙ c.if-not-contains.true in
    pair_when by t old None false (not_first (is_among old t.update.removed) (is_among (as_key (moved t.update.shifted old)) (touched_firsts by t t.new.rows)) (same_cells (key_at by t.old.rows old) (key_at by t.new.rows (as_key (moved t.update.shifted old)))) none) refl

pub number_led-number-requires-clause-there : goal.number_led-number-requires-clause-there
number_led-number-requires-clause-there c =
    let t = c.args.input.now in
    let e = c.requires.exact in
    let by = c.args.kept.now.by in
    let first : is_among c.landing-new.result (touched_firsts by t t.new.rows) ≡ true = ap (is_among c.landing-new.result) (sym c.requires.firsts) ∙ sym c.contains-2.ensures.member ∙ c.if-not-contains.false in
    there_at by t.new e.tick.new_table (groups_of c.args.kept.now.rows) c.requires.keeps.rows c.landing-new.result (led_row by t.new e.tick.new_table (groups_of c.args.kept.now.rows) c.requires.keeps.rows c.landing-new.result (touched_first by t e c.landing-new.result first))

pub number_led-number-requires-clause-starts : goal.number_led-number-requires-clause-starts
number_led-number-requires-clause-starts c =
    let t = c.args.input.now in
    let e = c.requires.exact in
    let by = c.args.kept.now.by in
    let first : is_among c.landing-new.result (touched_firsts by t t.new.rows) ≡ true = ap (is_among c.landing-new.result) (sym c.requires.firsts) ∙ sym c.contains-2.ensures.member ∙ c.if-not-contains.false in
    led_own by t.new e.tick.new_table (groups_of c.args.kept.now.rows) c.requires.keeps.rows c.landing-new.result (touched_first by t e c.landing-new.result first)

pub unwrap-group-requires : goal.unwrap-group-requires
unwrap-group-requires c =
    subst (λ (group : Option (List Member)). is_some group ≡ true)
    (sym (led_at c.args.kept.now.by c.args.input.now.new c.requires.exact.tick.new_table (groups_of c.args.kept.now.rows) c.requires.keeps.rows c.landing-new.result c.number_led-number.result c.args.kept.now.rows.names c.group_at.result c.number_led-number.ensures c.group_at.ensures.group)) refl

pub has_key_cells-requires : goal.has_key_cells-requires
has_key_cells-requires c =
    let t = c.args.input.now in
    let e = c.requires.exact in
    let by = c.args.kept.now.by in
    let aggs = c.args.kept.now.aggs in
    let old = c.args.old in
    begins_long by t e aggs old c.args.row.now c.requires.first c.requires.noted

pub returns-then-not-has_key_cells : goal.returns-then-not-has_key_cells
returns-then-not-has_key_cells c =
    let t = c.args.input.now in
    let e = c.requires.exact in
    let by = c.args.kept.now.by in
    let aggs = c.args.kept.now.aggs in
    let old = c.args.old in
    let land = as_key (moved t.update.shifted old) in
    let place : c.landing-new.result ≡ land = c.landing-new.ensures.place ∙ ap (λ (shifts : List ShiftRange). as_key (moved shifts old)) (c.shifted.ensures ∙ ap (λ (update : Update). update.shifted) c.update-2.ensures) in
    let first : is_among c.landing-new.result (touched_firsts by t t.new.rows) ≡ true = ap (is_among c.landing-new.result) (sym c.requires.firsts) ∙ sym c.contains-2.ensures.member ∙ c.if-not-contains.false in
    let cells : c.cells.result.now ≡ key_at by t.new.rows c.landing-new.result =
    led_found by t.new e.tick.new_table (groups_of c.args.kept.now.rows) c.requires.keeps.rows c.landing-new.result c.number_led-number.result c.args.kept.now.rows.names c.group_at.result c.unwrap-group.result c.cells.result.now (touched_first by t e c.landing-new.result first) c.number_led-number.ensures c.group_at.ensures.group c.unwrap-group.ensures c.cells.ensures in
    let same : same_cells (key_at by t.old.rows old) (key_at by t.new.rows land) ≡ false =
    ap (λ (k : ℕ). same_cells (key_at by t.old.rows old) (key_at by t.new.rows k)) (sym place)
    ∙ sym (c.has_key_cells.ensures ∙ has_cells by t e aggs old c.landing-new.result c.args.row.now c.cells.result.now c.requires.first c.requires.noted cells) ∙ c.if-not-has_key_cells.true in
    pair_when by t old None false (not_same (is_among old t.update.removed) (is_among land (touched_firsts by t t.new.rows)) (same_cells (key_at by t.old.rows old) (key_at by t.new.rows land)) same) refl

pub returns : goal.returns
returns c =
    let t = c.args.input.now in
    let e = c.requires.exact in
    let by = c.args.kept.now.by in
    let aggs = c.args.kept.now.aggs in
    let old = c.args.old in
    let land = as_key (moved t.update.shifted old) in
    let left : is_among old t.update.removed ≡ false = sym (ap (is_among old) (c.removed.ensures.keys ∙ ap (λ (update : Update). update.removed) c.update.ensures)) ∙ sym c.contains.ensures.member ∙ c.if-contains.false in
    let place : c.landing-new.result ≡ land = c.landing-new.ensures.place ∙ ap (λ (shifts : List ShiftRange). as_key (moved shifts old)) (c.shifted.ensures ∙ ap (λ (update : Update). update.shifted) c.update-2.ensures) in
    let first : is_among c.landing-new.result (touched_firsts by t t.new.rows) ≡ true = ap (is_among c.landing-new.result) (sym c.requires.firsts) ∙ sym c.contains-2.ensures.member ∙ c.if-not-contains.false in
    let cells : c.cells.result.now ≡ key_at by t.new.rows c.landing-new.result =
    led_found by t.new e.tick.new_table (groups_of c.args.kept.now.rows) c.requires.keeps.rows c.landing-new.result c.number_led-number.result c.args.kept.now.rows.names c.group_at.result c.unwrap-group.result c.cells.result.now (touched_first by t e c.landing-new.result first) c.number_led-number.ensures c.group_at.ensures.group c.unwrap-group.ensures c.cells.ensures in
    let same : same_cells (key_at by t.old.rows old) (key_at by t.new.rows land) ≡ true =
    ap (λ (k : ℕ). same_cells (key_at by t.old.rows old) (key_at by t.new.rows k)) (sym place)
    ∙ sym (c.has_key_cells.ensures ∙ has_cells by t e aggs old c.landing-new.result c.args.row.now c.cells.result.now c.requires.first c.requires.noted cells) ∙ c.if-not-has_key_cells.false in
    pair_when by t old (Some (record { old = old; new = c.landing-new.result })) true
    (all_three (is_among old t.update.removed) (is_among land (touched_firsts by t t.new.rows)) (same_cells (key_at by t.old.rows old) (key_at by t.new.rows land)) left (ap (λ (k : ℕ). is_among k (touched_firsts by t t.new.rows)) (sym place) ∙ first) same)
    (ap (λ (k : ℕ). let pair : KeyPair = record { old = old; new = k } in Some pair) place)
