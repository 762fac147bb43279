use Rattle.std.proofs.Common.{◌≡◌, ◌+◌, ap, arith, length, true, false, refl, subst, sym, ◌∙◌}
use Rattle.std.{specs.List.Sorted.{IsPartitionPoint, IsPartitionedBy}, proofs.lemmas.Fn.called}
use Rattle.chunk_list.{specs.Chunked.joined, proofs.Joined.{length-counts, start_summed}, proofs.Searches.{answers_next, last_passes, none_passes}}
use Rattle.chunk_list.proofs.list.ChunkList.partition_point.Goals as goal

pub returns-then-pred-clause-partitioned : goal.returns-then-pred-clause-partitioned
returns-then-pred-clause-partitioned g c =
    let k = called g.P.FnMut c.if-pred.ensures refl in
    λ p h first. last_passes p (joined c.args.self.now) c.len.result c.in-Some.last.now c.len.ensures.count (sym c.in-Some.ensures) (sym (answers_next g.P.FnMut _ _ _ _ _ k h).0) first

pub before-requires : goal.before-requires
before-requires g c = omega (arith, c.partition_point-place.ensures.index, ap length c.self.invariant.counted, length-counts c.self.inside.chunks)

pub overflow_add-result : goal.overflow_add-result
overflow_add-result g c =
    omega (arith, c.before-else-pred.ensures, start_summed c.self.inside.chunks c.self.inside.counts c.partition_point-place.result.index c.self.invariant.counted, c.partition_point-place.ensures.within, c.self.invariant.few)

pub returns-else-pred-clause-within : goal.returns-else-pred-clause-within
returns-else-pred-clause-within g c =
    omega (arith, c.before-else-pred.ensures, start_summed c.self.inside.chunks c.self.inside.counts c.partition_point-place.result.index c.self.invariant.counted, c.partition_point-place.ensures.within, ap (λ ls. length (joined ls)) c.self.view_is)

pub returns-else-pred-clause-partitioned : goal.returns-else-pred-clause-partitioned
returns-else-pred-clause-partitioned g c =
    let k = called g.P.FnMut c.if-pred.ensures refl in
    let offset = c.partition_point-place.result.offset in
    let position = ap (λ n. n + offset) (c.before-else-pred.ensures ∙ start_summed c.self.inside.chunks c.self.inside.counts c.partition_point-place.result.index c.self.invariant.counted) in
    λ p h first.
    let n = answers_next g.P.FnMut _ _ _ _ _ k h in
    subst (λ ls. IsPartitionPoint (λ y. p y ≡ true) (λ y. p y ≡ false) (joined ls) (c.before-else-pred.result + offset)) c.self.view_is
    (subst (IsPartitionPoint (λ y. p y ≡ true) (λ y. p y ≡ false) (joined c.self.inside.chunks)) (sym position)
    (c.partition_point-place.ensures.partitioned p n.1 (subst (λ ls. IsPartitionedBy p (joined ls)) (sym c.self.view_is) first)))

pub returns-in-None-clause-partitioned : goal.returns-in-None-clause-partitioned
returns-in-None-clause-partitioned g c = λ p h first. none_passes p (joined c.args.self.now) (sym c.in-None.ensures)
