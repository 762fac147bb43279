use Rattle.std.specs.List.{All}
use Rattle.std.proofs.Common.{◌≡◌, ◌≤◌, List, ◌++◌, vec_len, Some}
use Rattle.snapshot_store.{specs.Models.{CallerModel, IsSamePlace}, specs.Looks.last_or}
use Rattle.snapshot_store.proofs.store.Store.gather.Given as goal

abbrev pub invariant-loop-caller : goal.invariant-loop-caller
invariant-loop-caller l = record {
  stays : IsSamePlace l.initial.place l.place × (l.place.me.0.doing ≡ l.initial.place.me.0.doing);
  own : All (λ (c : CallerModel). (c.table ≡ l.self.table) × (c.run ≡ Some l.self.run)) l.callers.items;
  done : (seen : List CallerModel) × (l.fn.callers ≡ l.callers.items ++ seen) × All (λ (c : CallerModel). last_or 1 c.looks ≤ l.place.me.0.floor) seen;
}

abbrev pub decreases-loop-caller : goal.decreases-loop-caller
decreases-loop-caller l = vec_len l.callers
