use Rattle.std.proofs.Common.{◌≡◌, ◌+◌, ◌-◌, ◌*◌, ◌∷◌, [], ◌++◌, cond, is_ok, true, ap, sym, ◌∙◌, subst, drop, length, length-append, arith}
use Rattle.row_set.{specs.Ranges.keys_before, specs.Runs.{AreStarts, start_of}, proofs.Counts.few_before, proofs.Starts.start_more}
use Rattle.row_set.proofs.blocks.count_rest.Goals as goal

pub loop-block-init : goal.loop-block-init
loop-block-init c =
    let size : c.len-block.result ≡ length c.args.starts.now.items = omega (arith, c.len-block.ensures, c.args.starts.now.ok.0) in (
      c.requires.starts,
      size,
      c.keys_before_block-next.ensures ∙ ap (λ those. start_of those c.len-block.result) c.deref.ensures.value ∙ c.requires.starts.counted c.len-block.result (omega (arith, size)),
      omega arith,
    )

pub overflow_add-next : goal.overflow_add-next
overflow_add-next c =
    let ranges = drop c.args.front c.args.all.now in
    omega (arith, c.loop-block.invariant.2, c.keys_in_block-next.ensures, few_before (16 * c.loop-block.block + 16 - c.args.front) ranges c.requires.ranges)

pub loop-block-preserved : goal.loop-block-preserved
loop-block-preserved c =
    let block = c.loop-block.block in
    let front = c.args.front in
    let all = c.args.all.now in
    let starts = c.loop-block.starts.items in
    let next = c.loop-block.next + c.keys_in_block-next.result in
    let is = c.loop-block.invariant in
    let more : next ≡ keys_before (16 * block + 16 - front) (drop front all) = omega (arith, is.2, c.keys_in_block-next.ensures) in
    let here : 16 * block + 16 - front ≡ 16 * length starts + 16 - front = omega (arith, is.1) in
    let place : 16 * block + 16 - front ≡ 16 * (block + 1) - front = omega arith in
    let ok : is_ok c.push.result ≡ true = c.push.ensures.succeeds (omega (arith, c.loop-block.starts.ok.0, c.requires.room, is.1, is.3, c.loop-block-test.true)) in
    let pushed : c.push.new.self.items ≡ starts ++ next ∷ [] = c.push.ensures.items ∙ ap (λ b. cond b (starts ++ next ∷ []) starts) ok in (
      subst (AreStarts front all) (sym pushed) (start_more front next all starts is.0 (more ∙ ap (λ n. keys_before n (drop front all)) here) (omega (arith, is.1, c.loop-block-test.true))),
      omega (arith, is.1, ap length pushed, length-append starts (next ∷ [])),
      more ∙ ap (λ n. keys_before n (drop front all)) place,
      omega (arith, c.push.ensures.capacity, is.3),
    )
