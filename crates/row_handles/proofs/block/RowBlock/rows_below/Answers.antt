use Rattle.std.proofs.Common.{◌-◌, ◌<◌, ◌≤◌, arith, drop, ltb, map, rules, subst, sym, take}
use Rattle.std.{specs.List.AllByRecursion, proofs.lemmas.List.Sorted.IsPartitionPoint-from_clause}
use Rattle.key_lists.proofs.Parts.{every-take}
use Rattle.row_handles.{specs.Entries.Ascend, specs.Blocks.entry_at, proofs.Listings.{keys_parted, keys_below, keys_from, keys_rise, until_last}}
use Rattle.row_handles.proofs.block.RowBlock.rows_below.Goals as goal

pub returns-in-Some-clause-below : goal.returns-in-Some-clause-below
returns-in-Some-clause-below c =
    let ceiling = c.args.self.now.ceiling in
    let rows = c.deref.result.now in
    let ascend = subst (λ rs. Ascend (map (entry_at ceiling) rs)) (sym c.deref.ensures.value) c.requires in
    every-take (λ row. ceiling - row.depth < c.args.key) c.len.result c.args.self.now.rows.items
    (subst (AllByRecursion (λ row. ceiling - row.depth < c.args.key)) c.deref.ensures.value
    (until_last (λ row. ceiling - row.depth) (λ row. ceiling - row.depth < c.args.key) (λ x y le lt. omega (arith, le, lt)) rows c.in-Some.last.now (keys_rise ceiling rows ascend) (sym c.in-Some.ensures.value) (subst (λ k. k < c.args.key) c.key.ensures c.if-key.true)))

pub returns-in_default-clause-below : goal.returns-in_default-clause-below
returns-in_default-clause-below c =
    let ceiling = c.args.self.now.ceiling in
    let rows = c.deref-in_default.result.now in
    let place = c.partition_point.result in
    let ascend = subst (λ rs. Ascend (map (entry_at ceiling) rs)) (sym c.deref-in_default.ensures.value) c.requires in
    subst (λ rs. AllByRecursion (λ row. ceiling - row.depth < c.args.key) (take place rs)) c.deref-in_default.ensures.value
    (keys_below ceiling c.args.key rows place (IsPartitionPoint-from_clause (λ row. ltb (ceiling - row.depth) c.args.key) rows place c.partition_point.ensures.partitioned (keys_parted ceiling c.args.key rows ascend) (λ a r f h. search rules)))

pub returns-in_default-clause-others : goal.returns-in_default-clause-others
returns-in_default-clause-others c =
    let ceiling = c.args.self.now.ceiling in
    let rows = c.deref-in_default.result.now in
    let place = c.partition_point.result in
    let ascend = subst (λ rs. Ascend (map (entry_at ceiling) rs)) (sym c.deref-in_default.ensures.value) c.requires in
    subst (λ rs. AllByRecursion (λ row. c.args.key ≤ ceiling - row.depth) (drop place rs)) c.deref-in_default.ensures.value
    (keys_from ceiling c.args.key rows place (IsPartitionPoint-from_clause (λ row. ltb (ceiling - row.depth) c.args.key) rows place c.partition_point.ensures.partitioned (keys_parted ceiling c.args.key rows ascend) (λ a r f h. search rules)))
