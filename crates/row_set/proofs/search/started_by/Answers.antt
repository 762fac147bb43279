use Rattle.std.proofs.Common.{leb, leb-true, leb-false, rules}
use Rattle.std.proofs.lemmas.List.Sorted.{IsPartitionPoint-from_clause, IsPartitionedBy-leb}
use Rattle.row_set.proofs.search.started_by.Goals as goal

pub returns-clause-cut : goal.returns-clause-cut
returns-clause-cut c =
    let cut = IsPartitionPoint-from_clause (λ start. leb start c.args.position) c.args.starts.now c.partition_point.result c.partition_point.ensures.partitioned (IsPartitionedBy-leb (λ start. start) c.args.starts.now c.args.position c.requires) (λ a r f h. search rules) in
    (λ k d low high. leb-true _ _ (cut.0 k d low high), λ k d low high. leb-false _ _ (cut.1 k d low high))
