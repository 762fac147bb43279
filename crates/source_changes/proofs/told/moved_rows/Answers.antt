use Rattle.std.proofs.Common.{◌≡◌, ap, sym, ◌∙◌, subst, false, ℕ, ◌^◌, ◌<◌, map, length, List, ◌∷◌, ℤ, Bor, rules}
use Rattle.std.{specs.List.AllByRecursion, specs.Map.keys_of as map_keys, proofs.lemmas.List.nil_from_length}
use Rattle.shift_data.proofs.Lawful.{lawful}
use Rattle.tick_model.{specs.Rules.is_past, specs.Shifts.moved, specs.Updates.shifting}
use Rattle.tick_table.specs.Placed.{put_row, put_rows}
use Rattle.source_changes.{specs.Told.told_row, proofs.Mapped.{all_moved, told_put}}
use Rattle.source_changes.proofs.told.moved_rows.Goals as goal

pub loop-key-init : goal.loop-key-init
loop-key-init c = record {
  small = c.requires.small;
  inside = (lawful c.args.shift.now (map_keys c.args.rows.entries) c.requires.lawful).inside;
  whole = ap (λ (entries : List (ℕ × Bor (List ℤ))). put_rows (shifting c.args.shift.now (map told_row c.args.rows.entries)) (map told_row entries)) c.new-moved.ensures.empty;
}

pub loop-key-preserved : goal.loop-key-preserved
loop-key-preserved c =
    let shifts = c.args.shift.now in
    let parts : c.loop-key.rows.entries ≡ (c.in-Some.key, c.in-Some.cells) ∷ c.pop_first.new.self.entries = c.in-Some.ensures.removal in
    let left = c.pop_first.new.self.entries in
    let put : map told_row c.insert.new.self.entries ≡ put_row (told_row (c.landing.result, c.in-Some.cells)) (map told_row c.loop-key.moved.entries) =
    ap (map told_row) c.in_ok-insert.ensures.entries ∙ told_put c.landing.result c.in-Some.cells c.loop-key.moved.entries in
    record {
      small = (subst (λ (entries : List (ℕ × Bor (List ℤ))). AllByRecursion (λ key. key < 2 ^ 62) (map_keys entries)) parts c.loop-key.invariant.small).1;
      inside = (subst (λ (entries : List (ℕ × Bor (List ℤ))). AllByRecursion (λ key. is_past (2 ^ 62) (moved shifts key) ≡ false) (map_keys entries)) parts c.loop-key.invariant.inside).1;
      whole =
          ap (put_rows (shifting shifts (map told_row left))) (put ∙ ap (λ (key : ℕ). put_row (told_row (key, c.in-Some.cells)) (map told_row c.loop-key.moved.entries)) c.landing.ensures.place)
          ∙ sym (ap (λ (entries : List (ℕ × Bor (List ℤ))). put_rows (shifting shifts (map told_row entries)) (map told_row c.loop-key.moved.entries)) parts)
          ∙ c.loop-key.invariant.whole;
    }

pub returns : goal.returns
returns c =
    let none : length c.loop-key.rows.entries ≡ 0 = search rules in
    all_moved c.args.shift.now c.loop-key.rows.entries c.loop-key.moved.entries c.args.rows.entries (nil_from_length c.loop-key.rows.entries none) c.requires.lawful c.loop-key.invariant.whole
