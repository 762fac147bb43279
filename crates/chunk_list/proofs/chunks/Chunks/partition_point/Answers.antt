use Rattle.std.proofs.Common.{◌≡◌, ◌+◌, ◌-◌, ◌/◌, ◌<◌, ap, length, true, false, arith, refl, subst, sym, ◌∙◌, ℕ}
use Rattle.std.{specs.Prelude.slice_get, specs.List.Sorted.{IsPartitionPoint, IsPartitionedBy}, proofs.lemmas.Fn.called, proofs.lemmas.Option.slice_get_read}
use borrow.Author.Rules.{of_calls}
use Rattle.chunk_list.{specs.Chunked.{joined, list_at}, proofs.Searches.{answers_next, begun, failed, first_got, found, holds_at, own_parted, passed, start, within_all}}
use Rattle.chunk_list.proofs.chunks.Chunks.partition_point.Goals as goal

pub loop-size-init : goal.loop-size-init
loop-size-init g c = (omega arith, omega (arith, c.len-size.ensures), search of_calls, λ p h. (h, begun p c.args.self.now c.len-size.result c.len-size.ensures))

pub loop-size-preserved-then-pred : goal.loop-size-preserved-then-pred
loop-size-preserved-then-pred g c =
    let base = c.loop-size.base in
    let size = c.loop-size.size in
    let middle : ℕ = base + size / 2 in
    let ls = c.args.self.now in
    let k = called g.P.FnMut c.if-pred.ensures refl in
    let first = ap (λ xs. slice_get xs 0) (sym c.chunk.ensures.items) ∙ slice_get_read c.chunk.result.now (length c.chunk.result.now) 0 c.index-chunk-0.result refl c.chunk.ensures.some c.index-chunk-0.is in
    (omega arith, omega arith, search of_calls, λ p h. let i = c.loop-size.invariant.3 p h in let n = answers_next g.P.FnMut _ _ _ _ _ k i.0 in (n.1, passed p ls base size middle (size - size / 2) (omega arith) i.1 (holds_at (λ y. p y ≡ true) (joined ls) (start ls middle) c.index-chunk-0.result (first_got ls middle c.index-chunk-0.result first) (sym n.0))))

pub loop-size-preserved : goal.loop-size-preserved
loop-size-preserved g c =
    let base = c.loop-size.base in
    let size = c.loop-size.size in
    let middle : ℕ = base + size / 2 in
    let ls = c.args.self.now in
    let k = called g.P.FnMut c.if-pred.ensures refl in
    let first = ap (λ xs. slice_get xs 0) (sym c.chunk.ensures.items) ∙ slice_get_read c.chunk.result.now (length c.chunk.result.now) 0 c.index-chunk-0.result refl c.chunk.ensures.some c.index-chunk-0.is in
    (omega arith, omega arith, search of_calls, λ p h. let i = c.loop-size.invariant.3 p h in let n = answers_next g.P.FnMut _ _ _ _ _ k i.0 in (n.1, failed p ls base size middle (size - size / 2) (omega arith) i.1 (holds_at (λ y. p y ≡ false) (joined ls) (start ls middle) c.index-chunk-0.result (first_got ls middle c.index-chunk-0.result first) (sym n.0))))

pub returns-clause-within : goal.returns-clause-within
returns-clause-within g c =
    let base = c.loop-size.base in
    let lt : base < length c.args.self.now = omega (arith, c.loop-size.invariant.0, c.loop-size.invariant.1) in
    within_all (λ y. true) c.args.self.now base lt c.partition_point.result (omega (arith, c.partition_point.ensures.bound, ap length c.chunk-2.ensures.items))

pub returns-clause-partitioned : goal.returns-clause-partitioned
returns-clause-partitioned g c =
    let ls = c.args.self.now in
    let base = c.loop-size.base in
    let lt : base < length ls = omega (arith, c.loop-size.invariant.0, c.loop-size.invariant.1) in
    let here : c.chunk-2.result.now ≡ list_at base ls = c.chunk-2.ensures.items in
    λ p h first.
    let i = c.loop-size.invariant.3 p h in
    let point = c.partition_point.ensures.partitioned p i.0 (subst (IsPartitionedBy p) (sym here) (own_parted p ls base lt first)) in
    found p ls base lt c.loop-size.size c.partition_point.result (omega arith) (omega (arith, c.chunk-2.ensures.some, ap length here)) (omega (arith, c.partition_point.ensures.bound, ap length here)) i.1 first
    (subst (λ xs. IsPartitionPoint (λ y. p y ≡ true) (λ y. p y ≡ false) xs c.partition_point.result) here point)
