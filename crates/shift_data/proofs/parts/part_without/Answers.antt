use Rattle.std.proofs.Common.{leb, w64, sym, ◌∙◌}
use Rattle.std.proofs.lemmas.Int.{to_z-of_z}
use Rattle.key_lists.specs.Keys.{without}
use Rattle.shift_data.{proofs.Keys.{find_none, find_key}, proofs.Kept.kept_set, proofs.Segments.{fits_delta, part_made, key_small}}
use Rattle.shift_data.proofs.parts.part_without.Goals as goal

pub returns-in_err-first-clause-none : goal.returns-in_err-first-clause-none
returns-in_err-first-clause-none c =
    rw c.from_residual.ensures (find_none (leb c.args.from) (without c.args.left_out.now c.args.keys.now) (sym c.next_kept.ensures.key ∙ c.in_err-first.was))

pub segment_at-segment-requires-clause-key : goal.segment_at-segment-requires-clause-key
segment_at-segment-requires-clause-key c =
    let kept = without c.args.left_out.now c.args.keys.now in
    key_small c.in_ok-first.first kept (kept_set c.args.left_out.now c.args.keys.now c.next_kept.ensures.keys) (find_key (leb c.args.from) kept c.in_ok-first.first (sym c.next_kept.ensures.key ∙ c.in_ok-first.was)).0

pub returns-clause-part : goal.returns-clause-part
returns-clause-part c =
    let s = c.segment_at-segment in
    let kept = without c.args.left_out.now c.args.keys.now in
    rw (to_z-of_z w64 s.result.delta (fits_delta s.result.delta s.ensures.up s.ensures.down))
    (part_made _ kept c.args.from c.in_ok-first.first s.result c.last_kept.result c.unwrap_or-last.result (kept_set c.args.left_out.now c.args.keys.now c.next_kept.ensures.keys) (sym c.next_kept.ensures.key ∙ c.in_ok-first.was) s.ensures.segment c.last_kept.ensures c.unwrap_or-last.ensures)
