use Rattle.std.proofs.Common.{ap, ap₂, ◌∙◌, length}
use Rattle.tick_model.specs.Changes.{Change, changed}
use Rattle.tick_table.{specs.Ticking.Ticking, proofs.Applied.{follows, kept_is, lawful, new_is, old_is, whole}, proofs.ExactAgain.applied_is}
use Rattle.tick_table.proofs.table.TickTable.apply.Goals as goal

pub next_keys-requires-clause-follow : goal.next_keys-requires-clause-follow
next_keys-requires-clause-follow c =
    let s = c.self.inside in
    follows s.rows s.prev_rows s.placed s.update s.told c.self.invariant c.change.inside.update c.change.inside.cells c.args.self.new c.args.change (ap (λ (table : Ticking). table.new) c.self.view_is) c.change.view_is c.requires.lawful c.requires.whole

pub bring_on-requires-clause-lawful : goal.bring_on-requires-clause-lawful
bring_on-requires-clause-lawful c =
    let s = c.self.inside in
    lawful s.rows s.prev_rows s.placed s.update s.told c.self.invariant c.change.inside.update c.change.inside.cells c.args.self.new c.args.change (ap (λ (table : Ticking). table.new) c.self.view_is) c.change.view_is c.requires.lawful c.requires.whole

pub bring_on-requires-clause-count : goal.bring_on-requires-clause-count
bring_on-requires-clause-count c = c.self.invariant.count

pub bring_on-requires-clause-whole : goal.bring_on-requires-clause-whole
bring_on-requires-clause-whole c =
    let s = c.self.inside in
    ap length c.as_slice.ensures
    ∙ whole s.rows s.prev_rows s.placed s.update s.told c.self.invariant c.change.inside.update c.change.inside.cells c.args.self.new c.args.change (ap (λ (table : Ticking). table.new) c.self.view_is) c.change.view_is c.requires.lawful c.requires.whole

pub invariant_of-result : goal.invariant_of-result
invariant_of-result c =
    let s = c.self.inside in
    kept_is s.rows s.prev_rows s.placed s.update s.told c.self.invariant c.change.inside.update c.change.inside.cells c.args.self.new c.args.change (ap (λ (table : Ticking). table.new) c.self.view_is) c.change.view_is c.requires.lawful c.requires.whole
    c.in_ok-bring_on.ensures.added c.in_ok-bring_on.ensures.modified
    c.bring_on.new.placed c.in_ok-now.now c.in_ok-bring_on.ensures.width c.in_ok-now.ensures
    c.in_ok-bring_on.ensures.count c.as_slice.result.now c.as_slice.ensures c.in_ok-bring_on.ensures.now c.in_ok-bring_on.ensures.left c.in_ok-bring_on.ensures.saved

pub returns-clause-old : goal.returns-clause-old
returns-clause-old c =
    let s = c.self.inside in
    old_is s.rows s.prev_rows s.placed s.update s.told c.self.invariant c.change.inside.update c.change.inside.cells c.args.self.new c.args.change (ap (λ (table : Ticking). table.new) c.self.view_is) c.change.view_is c.requires.lawful c.requires.whole
    c.in_ok-bring_on.ensures.added c.in_ok-bring_on.ensures.modified
    c.bring_on.new.placed c.in_ok-now.now c.in_ok-bring_on.ensures.width c.in_ok-now.ensures
    c.in_ok-bring_on.ensures.count c.as_slice.result.now c.as_slice.ensures c.in_ok-bring_on.ensures.now c.in_ok-bring_on.ensures.left c.in_ok-bring_on.ensures.saved

pub returns-clause-new : goal.returns-clause-new
returns-clause-new c =
    let s = c.self.inside in
    new_is s.rows s.prev_rows s.placed s.update s.told c.self.invariant c.change.inside.update c.change.inside.cells c.args.self.new c.args.change (ap (λ (table : Ticking). table.new) c.self.view_is) c.change.view_is c.requires.lawful c.requires.whole
    c.in_ok-bring_on.ensures.added c.in_ok-bring_on.ensures.modified
    c.bring_on.new.placed c.in_ok-now.now c.in_ok-bring_on.ensures.width c.in_ok-now.ensures
    c.in_ok-bring_on.ensures.count c.as_slice.result.now c.as_slice.ensures c.in_ok-bring_on.ensures.now c.in_ok-bring_on.ensures.left c.in_ok-bring_on.ensures.saved

pub returns-clause-update : goal.returns-clause-update
returns-clause-update c = ap (λ (change : Change). change.update) c.change.view_is

pub returns-clause-exact : goal.returns-clause-exact
returns-clause-exact c tick h old change =
    applied_is tick _ h (returns-clause-old c ∙ old) (returns-clause-new c ∙ ap₂ changed old change) (returns-clause-update c ∙ ap (λ (change : Change). change.update) change)
