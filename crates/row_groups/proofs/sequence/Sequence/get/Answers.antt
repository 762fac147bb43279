use Rattle.std.proofs.Common.{ap, arith, length, sym, ◌∙◌, ◌<◌}
use Rattle.std.{specs.Prelude.slice_get, proofs.lemmas.Option.slice_get-get_or}
use Rattle.chunk_list.{specs.Chunked.joined, proofs.Joined.item_got}
use Rattle.row_groups.proofs.sequence.Sequence.get.Goals as goal

pub find-spot-requires : goal.find-spot-requires
find-spot-requires c = omega (arith, c.requires, ap length c.self.view_is)

pub returns : goal.returns
returns c =
    let spot = c.find-spot.result in
    let at = c.find-spot.ensures in
    let within : spot.offset < length c.chunk.result.now = omega (arith, at.offset, ap length c.chunk.ensures.items) in
    ap (λ rows. slice_get rows c.args.position) (sym c.self.view_is)
    ∙ ap (slice_get (joined c.self.inside.chunks)) (sym at.position_is)
    ∙ item_got c.self.inside.chunks spot at.index at.offset
    ∙ ap (λ rows. slice_get rows spot.offset) (sym c.chunk.ensures.items)
    ∙ slice_get-get_or c.chunk.result.now spot.offset _ within
