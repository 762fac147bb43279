use Rattle.std.proofs.Common.{◌≡◌, ◌≤◌, ◌⊎◌, ◌++◌, filter, take}
use Rattle.std.specs.Prelude.{int_le}
use Rattle.row_groups.specs.Members.{Member, keys_of}
use Rattle.lookup_join.proofs.turned.put_keys.Given as goal

abbrev pub invariant-loop-position : goal.invariant-loop-position
invariant-loop-position l = record {
  least : l.start ≤ l.position;
  most : (l.position ≤ l.start) ⊎ (l.position ≤ l.end);
  keys : l.keys.items ≡ l.fn.keys.items ++ keys_of (filter (λ (member : Member). int_le l.from member.at) (take l.position l.group));
}
