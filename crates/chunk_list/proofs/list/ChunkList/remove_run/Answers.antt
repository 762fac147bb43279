use Rattle.std.proofs.Common.{◌≡◌, ◌+◌, ◌-◌, ◌≤◌, ◌++◌, ap, arith, length, set, slice_range, subst, sym, ◌∙◌}
use Rattle.std.{specs.Prelude.remove, specs.List.remove_range}
use Rattle.chunk_list.{specs.Chunked.{AreChunks, joined, list_at}, proofs.Edits.{gone_kept, taken_kept}, proofs.Runs.{chunk_out, length-left, next_is, next_out, run_is, run_out}}
use Rattle.chunk_list.proofs.list.ChunkList.remove_run.Goals as goal

pub overflow_add-count : goal.overflow_add-count
overflow_add-count g c = omega (arith, c.requires, c.self.invariant.few, ap (λ ls. length (joined ls)) c.self.view_is)

pub invariant_of-self : goal.invariant_of-self
invariant_of-self g c =
    let ls = c.self-in-loop-rest.inside.chunks in
    let i = c.find-place.result.index in
    let all : c.min-some.result ≡ length (list_at i ls) = c.if-some-len.true ∙ ap length c.chunk-len.ensures.items in
    subst (λ ks. AreChunks ks c.remove.new.self) (sym (c.remove_run.ensures.gone all))
    (subst (AreChunks (remove ls i)) (sym c.remove.ensures) (gone_kept ls c.self-in-loop-rest.inside.counts i c.self-in-loop-rest.invariant (omega (arith, c.find-place.ensures.index, ap length c.self-in-loop-rest.view_is))))

pub invariant_of-self-else-some-len : goal.invariant_of-self-else-some-len
invariant_of-self-else-some-len g c =
    let ls = c.self-in-loop-rest.inside.chunks in
    let place = c.find-place.result in
    let own = list_at place.index ls in
    let some = c.min-some.result in
    let within : place.offset + some ≤ length own = omega (arith, c.min-some.ensures, c.find-place.ensures.offset, ap (λ ks. length (list_at place.index ks)) c.self-in-loop-rest.view_is, ap length c.chunk-len.ensures.items) in
    let fewer = length-left own place.offset some within in
    subst (λ ks. AreChunks ks c.sub.new.self) (sym (c.remove_run.ensures.left (λ e. c.if-some-len.false (omega (arith, e, ap length c.chunk-len.ensures.items)))))
    (subst (AreChunks (set ls place.index (remove_range own place.offset (place.offset + some)))) (sym c.sub.ensures)
    (taken_kept ls c.self-in-loop-rest.inside.counts place.index some (remove_range own place.offset (place.offset + some)) c.self-in-loop-rest.invariant (omega (arith, c.find-place.ensures.index, ap length c.self-in-loop-rest.view_is)) fewer (omega (arith, fewer, c.if-some-len.false, ap length c.chunk-len.ensures.items, within))))

pub loop-rest-preserved-then-some-len : goal.loop-rest-preserved-then-some-len
loop-rest-preserved-then-some-len g c =
    let old = joined c.args.self.now in
    let now = c.loop-rest.self in
    let place = c.find-place.result in
    let some = c.min-some.result in
    let position = c.args.position in
    let taken = c.args.count - c.loop-rest.rest in
    let all : taken + some ≡ c.args.count - (c.loop-rest.rest - some) = omega (arith, c.min-some.ensures, c.loop-rest.invariant.most) in
    let most : position + taken ≤ length old = omega (arith, c.requires) in
    let within : place.offset + some ≤ length (list_at place.index now) = omega (arith, c.min-some.ensures, c.find-place.ensures.offset, ap (λ ks. length (list_at place.index ks)) c.self-in-loop-rest.view_is, ap length c.chunk-len.ensures.items) in record {
      most = omega (arith, c.loop-rest.invariant.most);
      items =
          ap joined (c.remove_run.ensures.gone (c.if-some-len.true ∙ ap length c.chunk-len.ensures.items) ∙ ap (λ ks. remove ks place.index) c.self-in-loop-rest.view_is)
          ∙ chunk_out now place position some c.find-place.ensures (c.if-some-len.true ∙ ap length c.chunk-len.ensures.items ∙ ap (λ ks. length (list_at place.index ks)) c.self-in-loop-rest.view_is) within
          ∙ next_out old (joined now) position taken some (c.args.count - (c.loop-rest.rest - some)) most all c.loop-rest.invariant.items;
      out =
          c.remove_run.ensures.out
          ∙ ap (λ those. c.loop-rest.out.items ++ those) (ap (λ ks. slice_range (list_at place.index ks) place.offset (place.offset + some)) c.self-in-loop-rest.view_is ∙ run_is now place position some c.find-place.ensures within)
          ∙ next_is old (joined now) c.args.out.now.items c.loop-rest.out.items position taken some (c.args.count - (c.loop-rest.rest - some)) most all c.loop-rest.invariant.items c.loop-rest.invariant.out;
      room = omega (arith, c.loop-rest.invariant.room, c.remove_run.ensures.capacity);
    }

pub loop-rest-preserved : goal.loop-rest-preserved
loop-rest-preserved g c =
    let old = joined c.args.self.now in
    let now = c.loop-rest.self in
    let place = c.find-place.result in
    let some = c.min-some.result in
    let position = c.args.position in
    let taken = c.args.count - c.loop-rest.rest in
    let all : taken + some ≡ c.args.count - (c.loop-rest.rest - some) = omega (arith, c.min-some.ensures, c.loop-rest.invariant.most) in
    let most : position + taken ≤ length old = omega (arith, c.requires) in
    let within : place.offset + some ≤ length (list_at place.index now) = omega (arith, c.min-some.ensures, c.find-place.ensures.offset, ap (λ ks. length (list_at place.index ks)) c.self-in-loop-rest.view_is, ap length c.chunk-len.ensures.items) in record {
      most = omega (arith, c.loop-rest.invariant.most);
      items =
          ap joined (c.remove_run.ensures.left (λ e. c.if-some-len.false (omega (arith, e, ap length c.chunk-len.ensures.items))) ∙ ap (λ ks. set ks place.index (remove_range (list_at place.index ks) place.offset (place.offset + some))) c.self-in-loop-rest.view_is)
          ∙ run_out now place position some c.find-place.ensures within
          ∙ next_out old (joined now) position taken some (c.args.count - (c.loop-rest.rest - some)) most all c.loop-rest.invariant.items;
      out =
          c.remove_run.ensures.out
          ∙ ap (λ those. c.loop-rest.out.items ++ those) (ap (λ ks. slice_range (list_at place.index ks) place.offset (place.offset + some)) c.self-in-loop-rest.view_is ∙ run_is now place position some c.find-place.ensures within)
          ∙ next_is old (joined now) c.args.out.now.items c.loop-rest.out.items position taken some (c.args.count - (c.loop-rest.rest - some)) most all c.loop-rest.invariant.items c.loop-rest.invariant.out;
      room = omega (arith, c.loop-rest.invariant.room, c.remove_run.ensures.capacity);
    }
