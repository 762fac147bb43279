use Rattle.std.proofs.Common.{◌≡◌, sym, ◌∙◌, ap, ap₂, subst, ◌+◌, List, ℕ, length}
use Rattle.std.proofs.lemmas.Result.{IfOk-weaker}
use Rattle.key_lists.specs.Keys.{without}
use Rattle.row_changes.{specs.Parts.{Parts, AreParts, tick_along}, proofs.MadeChange.parts_there}
use Rattle.shift_data.specs.Moves.{IsLawful, canonical}
use Rattle.tick_model.{specs.declared.update.KeyPair.KeyPair, specs.declared.update.ShiftRange.ShiftRange, specs.Agg.agg_table, specs.Changes.change_of, specs.Updates.{Update, between, new_keys, old_keys}}
use Rattle.agg_by.{specs.Steps.staying, proofs.GroupParts.{parts_are, removed_is, shift_lawful, tick}, proofs.Whole.{change_reads, read_few}}
use Rattle.agg_by.proofs.aggregation.group_change.Goals as goal

pub canonical_without-requires : goal.canonical_without-requires
canonical_without-requires g c =
    let t = c.args.rows.now.input.now in
    let by = c.args.rows.now.kept.now.by in
    let aggs = c.args.rows.now.kept.now.aggs in
    let e = c.requires.ready.exact in
    let gone : c.in_ok-removed.removed ≡ (between (tick by aggs t e)).removed =
    c.in_ok-removed.ensures ∙ ap₂ without (c.into_keys-compared_before.ensures.old ∙ ap old_keys c.in_ok-staying.ensures) c.requires.ready.keys ∙ removed_is by aggs t e in
    subst (λ (shifts : List ShiftRange). IsLawful shifts (without c.in_ok-removed.removed c.args.shown.now)) (sym (c.shifted.ensures ∙ ap (λ (update : Update). update.shifted) c.update.ensures))
    (subst (IsLawful t.update.shifted) (sym (ap₂ without gone c.requires.shown)) (shift_lawful by aggs t e))

pub change_of_touched-requires-clause-added : goal.change_of_touched-requires-clause-added
change_of_touched-requires-clause-added g c =
    let t = c.args.rows.now.input.now in
    let by = c.args.rows.now.kept.now.by in
    let aggs = c.args.rows.now.kept.now.aggs in
    let e = c.requires.ready.exact in
    let parts : Parts = record { removed = c.in_ok-removed.removed; added = c.in_ok-added.added; shifted = c.in_ok-shifted.shifted; compared_before = c.into_keys-compared_before.result.0; compared_now = c.into_keys-compared_before.result.1 } in
    let olds : c.into_keys-compared_before.result.0 ≡ old_keys (staying by t) = c.into_keys-compared_before.ensures.old ∙ ap old_keys c.in_ok-staying.ensures in
    let news : c.into_keys-compared_before.result.1 ≡ new_keys (staying by t) = c.into_keys-compared_before.ensures.new ∙ ap new_keys c.in_ok-staying.ensures in
    let are : AreParts (agg_table by aggs t.old) (agg_table by aggs t.new) parts (tick by aggs t e).kept =
    parts_are by aggs t e parts (c.in_ok-removed.ensures ∙ ap₂ without olds c.requires.ready.keys) (c.in_ok-added.ensures ∙ ap₂ without news c.requires.firsts)
    (c.in_ok-shifted.ensures ∙ ap₂ (λ (shifts : List ShiftRange) (shown : List ℕ). canonical shifts (without c.in_ok-removed.removed shown)) (c.shifted.ensures ∙ ap (λ (update : Update). update.shifted) c.update.ensures) c.requires.shown) olds news in
    (parts_there (agg_table by aggs t.old) (agg_table by aggs t.new) parts (tick by aggs t e).kept are).0

pub change_of_touched-requires-clause-before : goal.change_of_touched-requires-clause-before
change_of_touched-requires-clause-before g c =
    let t = c.args.rows.now.input.now in
    let by = c.args.rows.now.kept.now.by in
    let aggs = c.args.rows.now.kept.now.aggs in
    let e = c.requires.ready.exact in
    let parts : Parts = record { removed = c.in_ok-removed.removed; added = c.in_ok-added.added; shifted = c.in_ok-shifted.shifted; compared_before = c.into_keys-compared_before.result.0; compared_now = c.into_keys-compared_before.result.1 } in
    let olds : c.into_keys-compared_before.result.0 ≡ old_keys (staying by t) = c.into_keys-compared_before.ensures.old ∙ ap old_keys c.in_ok-staying.ensures in
    let news : c.into_keys-compared_before.result.1 ≡ new_keys (staying by t) = c.into_keys-compared_before.ensures.new ∙ ap new_keys c.in_ok-staying.ensures in
    let are : AreParts (agg_table by aggs t.old) (agg_table by aggs t.new) parts (tick by aggs t e).kept =
    parts_are by aggs t e parts (c.in_ok-removed.ensures ∙ ap₂ without olds c.requires.ready.keys) (c.in_ok-added.ensures ∙ ap₂ without news c.requires.firsts)
    (c.in_ok-shifted.ensures ∙ ap₂ (λ (shifts : List ShiftRange) (shown : List ℕ). canonical shifts (without c.in_ok-removed.removed shown)) (c.shifted.ensures ∙ ap (λ (update : Update). update.shifted) c.update.ensures) c.requires.shown) olds news in
    (parts_there (agg_table by aggs t.old) (agg_table by aggs t.new) parts (tick by aggs t e).kept are).1

pub change_of_touched-requires-clause-now : goal.change_of_touched-requires-clause-now
change_of_touched-requires-clause-now g c =
    let t = c.args.rows.now.input.now in
    let by = c.args.rows.now.kept.now.by in
    let aggs = c.args.rows.now.kept.now.aggs in
    let e = c.requires.ready.exact in
    let parts : Parts = record { removed = c.in_ok-removed.removed; added = c.in_ok-added.added; shifted = c.in_ok-shifted.shifted; compared_before = c.into_keys-compared_before.result.0; compared_now = c.into_keys-compared_before.result.1 } in
    let olds : c.into_keys-compared_before.result.0 ≡ old_keys (staying by t) = c.into_keys-compared_before.ensures.old ∙ ap old_keys c.in_ok-staying.ensures in
    let news : c.into_keys-compared_before.result.1 ≡ new_keys (staying by t) = c.into_keys-compared_before.ensures.new ∙ ap new_keys c.in_ok-staying.ensures in
    let are : AreParts (agg_table by aggs t.old) (agg_table by aggs t.new) parts (tick by aggs t e).kept =
    parts_are by aggs t e parts (c.in_ok-removed.ensures ∙ ap₂ without olds c.requires.ready.keys) (c.in_ok-added.ensures ∙ ap₂ without news c.requires.firsts)
    (c.in_ok-shifted.ensures ∙ ap₂ (λ (shifts : List ShiftRange) (shown : List ℕ). canonical shifts (without c.in_ok-removed.removed shown)) (c.shifted.ensures ∙ ap (λ (update : Update). update.shifted) c.update.ensures) c.requires.shown) olds news in
    (parts_there (agg_table by aggs t.old) (agg_table by aggs t.new) parts (tick by aggs t e).kept are).2

pub returns-clause-change : goal.returns-clause-change
returns-clause-change g c =
    let t = c.args.rows.now.input.now in
    let by = c.args.rows.now.kept.now.by in
    let aggs = c.args.rows.now.kept.now.aggs in
    let e = c.requires.ready.exact in
    let old = agg_table by aggs t.old in
    let new = agg_table by aggs t.new in
    let parts : Parts = record { removed = c.in_ok-removed.removed; added = c.in_ok-added.added; shifted = c.in_ok-shifted.shifted; compared_before = c.into_keys-compared_before.result.0; compared_now = c.into_keys-compared_before.result.1 } in
    let olds : c.into_keys-compared_before.result.0 ≡ old_keys (staying by t) = c.into_keys-compared_before.ensures.old ∙ ap old_keys c.in_ok-staying.ensures in
    let news : c.into_keys-compared_before.result.1 ≡ new_keys (staying by t) = c.into_keys-compared_before.ensures.new ∙ ap new_keys c.in_ok-staying.ensures in
    let are : AreParts old new parts (tick by aggs t e).kept =
    parts_are by aggs t e parts (c.in_ok-removed.ensures ∙ ap₂ without olds c.requires.ready.keys) (c.in_ok-added.ensures ∙ ap₂ without news c.requires.firsts)
    (c.in_ok-shifted.ensures ∙ ap₂ (λ (shifts : List ShiftRange) (shown : List ℕ). canonical shifts (without c.in_ok-removed.removed shown)) (c.shifted.ensures ∙ ap (λ (update : Update). update.shifted) c.update.ensures) c.requires.shown) olds news in
    IfOk-weaker c.change_of_touched.result (λ change. (kept : List KeyPair) → AreParts old new parts kept → change ≡ change_of (tick_along old new kept)) (λ change. change ≡ change_of (tick by aggs t e))
    (λ change is. is (tick by aggs t e).kept are) c.change_of_touched.ensures.change

pub returns-clause-reads : goal.returns-clause-reads
returns-clause-reads g c =
    let t = c.args.rows.now.input.now in
    let by = c.args.rows.now.kept.now.by in
    let aggs = c.args.rows.now.kept.now.aggs in
    let e = c.requires.ready.exact in
    let news : c.into_keys-compared_before.result.1 ≡ new_keys (staying by t) = c.into_keys-compared_before.ensures.new ∙ ap new_keys c.in_ok-staying.ensures in
    let few : length c.into_keys-compared_before.result.1 + length c.in_ok-added.added ≡ length c.args.firsts =
    ap₂ (λ (compared added : List ℕ). length compared + length added) news (c.in_ok-added.ensures ∙ ap₂ without news c.requires.firsts) ∙ read_few by aggs t e ∙ ap length (sym c.requires.firsts) in
    change_reads (length aggs) c.args.reads.now c.change_of_touched.new.reads (length c.into_keys-compared_before.result.1) (length c.in_ok-added.added) (length c.args.firsts) c.change_of_touched.ensures.reads few
