use Rattle.std.proofs.Common.{◌≡◌, ap, sym, ◌∙◌, subst, eqb-true, ℕ, length, map, List, ℤ, Bor}
use Rattle.std.{specs.BTreeMap.BTreeMap, specs.Map.keys_of as map_keys, proofs.lemmas.List.nil_from_length}
use Rattle.shift_data.specs.Moves.{IsLawful}
use Rattle.tick_model.specs.Updates.{shifting}
use Rattle.source_changes.{specs.Told.told_row, proofs.Mapped.{none_shifted, small_keys}}
use Rattle.source_changes.proofs.told.shift_rows.Goals as goal

pub returns-then-is_empty : goal.returns-then-is_empty
returns-then-is_empty c =
    let none : length c.ranges-2.result.now ≡ 0 = eqb-true (length c.ranges-2.result.now) 0 (sym c.is_empty.ensures ∙ c.if-is_empty.true) in
    none_shifted c.args.shift.now (map told_row c.args.rows.now.entries) (sym c.ranges-2.ensures.ranges ∙ nil_from_length c.ranges-2.result.now none)

pub moved_rows-requires-clause-lawful : goal.moved_rows-requires-clause-lawful
moved_rows-requires-clause-lawful c = subst (λ (rows : BTreeMap ℕ (Bor (List ℤ))). IsLawful c.args.shift.now (map_keys rows.entries)) (sym c.replace-staying.ensures.value) c.requires

pub moved_rows-requires-clause-small : goal.moved_rows-requires-clause-small
moved_rows-requires-clause-small c = small_keys c.args.shift.now (map_keys c.replace-staying.result.entries) c.ranges-2.ensures.shift (moved_rows-requires-clause-lawful c)

pub returns : goal.returns
returns c = c.in_ok-moved.ensures ∙ ap (λ (rows : BTreeMap ℕ (Bor (List ℤ))). shifting c.args.shift.now (map told_row rows.entries)) c.replace-staying.ensures.value
