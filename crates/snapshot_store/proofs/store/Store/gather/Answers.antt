use Rattle.std.proofs.Common.{◌≡◌, ap, ◌∙◌, sym, arith, Some}
use Rattle.snapshot_store.{specs.Models.CallerModel, proofs.Keeps.meets, proofs.Calls.popped}
use Rattle.snapshot_store.proofs.store.Store.gather.Goals as goal

pub join_seat-requires : goal.join_seat-requires
join_seat-requires c = let own = sym (ap (λ z. z.table) c.self.view_is) in (
  c.loop-caller.invariant.stays.0.0 ∙ (c.requires.own ∙ own),
  ap (λ z. z.table) c.caller.view_is ∙ ((popped (λ (z : CallerModel). (z.table ≡ c.args.self.now.table) × (z.run ≡ Some c.args.self.now.run)) c.loop-caller.callers.items c.pop.new.self.items c.in-Some.caller c.in-Some.ensures.items c.loop-caller.invariant.own).0 ∙ own),
  c.caller.invariant.alone,
  (let w = c.self.invariant.words in omega arith),
  meets _ _ _ _ _ c.caller.invariant.free,
)
