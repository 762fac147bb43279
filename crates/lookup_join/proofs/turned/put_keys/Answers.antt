use Rattle.std.proofs.Common.{ap, ap₂, sym, ◌∙◌, subst, arith, w64, to_z, of_z, ◌≤◌, ◌<◌, inl, inr, List, ◌++◌, filter, length}
use Rattle.std.{proofs.lemmas.List.append-nil, proofs.lemmas.Int.to_z-of_z}
use Rattle.lookup_join.{specs.Latest.during, proofs.During.{all_done, count_within, none_first, one_after}, proofs.Latests.{Timed, group_timed}}
use Rattle.row_groups.specs.Members.{Member, keys_of}
use Rattle.lookup_join.proofs.turned.put_keys.Goals as goal

pub loop-position-init : goal.loop-position-init
loop-position-init c =
    let group = c.group-group.result in
    let timed : Timed group = subst Timed (sym c.group-group.ensures.group) (group_timed c.args.cells.now c.args.index.now.members) in record {
      least = omega arith;
      most = inl (omega arith);
      keys = sym (append-nil c.args.keys.now.items) ∙ ap (λ (members : List Member). c.args.keys.now.items ++ keys_of members) (sym (none_first (to_z w64 (of_z w64 c.args.from)) c.args.until group timed c.count_below-start.result c.count_below-start.ensures));
    }

pub key_at-requires : goal.key_at-requires
key_at-requires c =
    let few : c.count_until-end.result ≤ length c.group-group.result = subst (λ n. n ≤ length c.group-group.result) (sym c.count_until-end.ensures) (count_within c.args.until c.group-group.result) in
    omega (arith, few)

pub loop-position-preserved : goal.loop-position-preserved
loop-position-preserved c =
    let group = c.group-group.result in
    let timed : Timed group = subst Timed (sym c.group-group.ensures.group) (group_timed c.args.cells.now c.args.index.now.members) in
    let few : c.count_until-end.result ≤ length group = subst (λ n. n ≤ length group) (sym c.count_until-end.ensures) (count_within c.args.until group) in
    let within : c.loop-position.position < length group = omega (arith, few) in record {
      least = omega (arith, c.loop-position.invariant.least);
      most = inr (omega arith);
      keys =
          c.in_ok-push.ensures.items
          ∙ one_after (to_z w64 (of_z w64 c.args.from)) c.args.until group timed c.count_below-start.result c.loop-position.position c.key_at.result c.args.keys.now.items c.loop-position.keys.items c.count_below-start.ensures c.loop-position.invariant.least within c.key_at.ensures c.loop-position.invariant.keys;
    }

pub returns : goal.returns
returns c =
    let group = c.group-group.result in
    let timed : Timed group = subst Timed (sym c.group-group.ensures.group) (group_timed c.args.cells.now c.args.index.now.members) in
    c.loop-position.invariant.keys
    ∙ ap (λ (members : List Member). c.args.keys.now.items ++ keys_of members) (all_done (to_z w64 (of_z w64 c.args.from)) c.args.until group timed c.count_below-start.result c.count_until-end.result c.loop-position.position c.count_below-start.ensures c.count_until-end.ensures c.loop-position.invariant.least (omega arith) c.loop-position.invariant.most)
    ∙ ap₂ (λ from (group : List Member). c.args.keys.now.items ++ keys_of (filter (during from c.args.until) group)) (to_z-of_z w64 c.args.from c.ranges.from) c.group-group.ensures.group
