use Rattle.std.proofs.Common.{ap, arith, drop, length, ◌∙◌, length-drop}
use Rattle.std.proofs.lemmas.List.{take_rest}
use Rattle.chunk_list.{specs.Chunked.list_at, proofs.Joined.run_got}
use Rattle.chunk_list.proofs.list.ChunkList.run_at.Goals as goal

pub slice_bounds-result-count : goal.slice_bounds-result-count
slice_bounds-result-count g c =
    omega (arith, c.find-place.ensures.offset, ap length c.chunk.ensures.items, ap (λ ls. length (list_at c.find-place.result.index ls)) c.self.view_is)

pub returns-clause-some : goal.returns-clause-some
returns-clause-some g c =
    omega (arith, c.find-place.ensures.offset, ap length c.chunk.ensures.items, ap (λ ls. length (list_at c.find-place.result.index ls)) c.self.view_is, ap length (take_rest c.chunk.result.now c.find-place.result.offset), length-drop c.find-place.result.offset c.chunk.result.now)

pub returns-clause-run : goal.returns-clause-run
returns-clause-run g c =
    run_got c.args.self.now c.args.position c.find-place.result _ c.find-place.ensures
    (take_rest c.chunk.result.now c.find-place.result.offset ∙ ap (drop c.find-place.result.offset) (c.chunk.ensures.items ∙ ap (list_at c.find-place.result.index) c.self.view_is))
