use Rattle.std.proofs.Common.{◌≡◌, ◌+◌, ℕ, List, ◌++◌, take, drop, map, length}
use Rattle.std.specs.List.{zip}
use Rattle.feed_reader.{specs.Coding.ranks_among, proofs.CodingLemmas.coded_at}
use Rattle.feed_reader.proofs.coding.code_row.Given as goal

abbrev pub invariant-loop-place : goal.invariant-loop-place
invariant-loop-place l = record {
  len : length l.cells ≡ length l.fn.cells;
  left : drop (l.start + l.place) l.cells ≡ drop (l.start + l.place) l.fn.cells;
  coded : (texts own : List (List ℕ)) → l.ranks ≡ ranks_among texts own → take (l.start + l.place) l.cells ≡ take l.start l.fn.cells ++ map (coded_at texts own) (take l.place (zip l.kinds (drop l.start l.fn.cells)));
}
