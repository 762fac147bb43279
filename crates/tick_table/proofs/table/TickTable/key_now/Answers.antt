use Rattle.std.proofs.Common.{ap, ◌∙◌, ◌<◌, ◌^◌, List}
use Rattle.key_lists.{specs.Keys.is_among, proofs.Among.of_among}
use Rattle.tick_model.{specs.declared.update.ShiftRange.ShiftRange, specs.Shifts.{as_key, moved}}
use Rattle.tick_table.{specs.Ticking.Ticking, proofs.Before.{before_keys, now_own, place_inside}}
use Rattle.tick_table.proofs.table.TickTable.key_now.Goals as goal

pub landing-requires-clause-key : goal.landing-requires-clause-key
landing-requires-clause-key c =
    let s = c.self.inside in
    of_among (λ key. key < 2 ^ 62) c.args.key s.prev_rows c.ranges-2.ensures.keys.small
    (ap (is_among c.args.key) (before_keys s.rows s.prev_rows s.placed s.update s.told c.self.invariant c.args.self.now c.self.view_is) ∙ c.requires.here)

pub landing-requires-clause-inside : goal.landing-requires-clause-inside
landing-requires-clause-inside c =
    let s = c.self.inside in
    place_inside s.rows s.prev_rows s.placed s.update s.told c.self.invariant c.args.self.now c.self.view_is c.args.key c.requires.here c.requires.stays c.shifted.result.now c.shifted.ensures

pub returns-clause-there : goal.returns-clause-there
returns-clause-there c =
    let s = c.self.inside in
    now_own s.rows s.prev_rows s.placed s.update s.told c.self.invariant c.args.self.now c.self.view_is c.args.key c.requires.here c.requires.stays c.landing.result
    (c.landing.ensures.place ∙ ap (λ (shifts : List ShiftRange). as_key (moved shifts c.args.key)) (c.shifted.ensures ∙ ap (λ (table : Ticking). table.update.shifted) c.self.view_is))
