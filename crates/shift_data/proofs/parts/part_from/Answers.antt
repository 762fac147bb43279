use Rattle.std.proofs.Common.{leb, w64, sym, ◌∙◌}
use Rattle.std.proofs.lemmas.Int.{to_z-of_z}
use Rattle.shift_data.{proofs.Keys.{find_none, find_key}, proofs.Segments.{fits_delta, part_made, key_small}}
use Rattle.shift_data.proofs.parts.part_from.Goals as goal

pub returns-in_err-first-clause-none : goal.returns-in_err-first-clause-none
returns-in_err-first-clause-none c =
    rw c.from_residual.ensures (find_none (leb c.args.from) c.args.keys.now (sym c.next_from.ensures.next ∙ c.in_err-first.was))

pub segment_at-segment-requires-clause-key : goal.segment_at-segment-requires-clause-key
segment_at-segment-requires-clause-key c =
    key_small c.in_ok-first.first c.args.keys.now c.next_from.ensures.keys (find_key (leb c.args.from) c.args.keys.now c.in_ok-first.first (sym c.next_from.ensures.next ∙ c.in_ok-first.was)).0

pub returns-clause-part : goal.returns-clause-part
returns-clause-part c =
    let s = c.segment_at-segment in
    rw (to_z-of_z w64 s.result.delta (fits_delta s.result.delta s.ensures.up s.ensures.down))
    (part_made _ c.args.keys.now c.args.from c.in_ok-first.first s.result c.last_up_to.result c.unwrap_or-last.result c.next_from.ensures.keys (sym c.next_from.ensures.next ∙ c.in_ok-first.was) s.ensures.segment c.last_up_to.ensures.last c.unwrap_or-last.ensures)
