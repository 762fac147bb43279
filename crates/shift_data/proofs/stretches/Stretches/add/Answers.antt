use Rattle.std.proofs.Common.{Some, sym, ap, ◌∙◌, w64, of_z, SFits, rules}
use Rattle.std.{proofs.lemmas.Int.to_z-of_z, proofs.lemmas.Option.same_Some}
use Rattle.tick_model.specs.declared.update.ShiftRange.{ShiftRange}
use Rattle.shift_data.{specs.declared.stretches.Stretches.Stretches, specs.Stretches.built, proofs.Stretched.{range_by, goes_on, begins}, proofs.stretches.Stretches.add.Goals.{in-Some, in_default+in_ok-close-in_default, in_default-via-in-Some+else-last-part, in_default-via-in_default}}
use Rattle.shift_data.proofs.stretches.Stretches.add.Goals as goal

pub returns : goal.returns
returns c =
    λ others.
    let fits : SFits w64 c.args.part.delta = search rules in
    let old = c.args.self.now in
    let first = c.args.part.first in
    let end = c.args.part.last in
    let delta = c.args.part.delta in
    rw (to_z-of_z w64 delta fits)
    (elim c.match-self.branch [
      | in-Some w ↦
          ap (λ (s : Stretches). built s.whole.items (Some (range_by c.match-self.begin end delta)) others) w.self-is
          ∙ ap (λ begin. built old.whole.items (Some (range_by begin end delta)) others) w.begin-is
          ∙ goes_on old.whole.items old.last w.in-Some.last first end delta others w.in-Some.is (search rules) fits w.if-last-part.true
      | in_default+in_ok-close-in_default w ↦
          ap (λ (s : Stretches). built s.whole.items (Some (range_by c.match-self.begin end delta)) others) w.self-is
          ∙ ap (λ begin. built w.close.new.self.whole.items (Some (range_by begin end delta)) others) w.begin-is
          ∙ ap (λ whole. built whole (Some (range_by first end delta)) others) w.in_ok-close-in_default.ensures.whole
          ∙ begins old.whole.items old.last first end delta others
          (λ range is same. elim w.in_default.branch [
            | in_default-via-in-Some+else-last-part w' ↦ w'.if-last-part.false (ap (λ (r : ShiftRange). of_z w64 r.delta) (same_Some w'.in-Some.last range (sym w'.in-Some.is ∙ is)) ∙ same)
            | in_default-via-in_default w' ↦ w'.in_default.not-Some range is
          ])
    ])
