use Rattle.std.proofs.Common.{◌∙◌, ap, sym}
use Rattle.std.{specs.Prelude.{insert, nat_lt}, specs.List.position_or_len}
use Rattle.script_reader.proofs.Places.{in_order_at}
use Rattle.script_reader.proofs.known.put_in_order.Goals as goal

pub returns : goal.returns
returns c =
    let old = c.args.printed.now.items in
    c.in_ok-insert.ensures.items ∙ ap (λ n. insert old n c.args.node) (c.place_in_order-place.ensures.place ∙ ap (position_or_len (λ other. nat_lt c.args.node other)) c.as_slice.ensures.value)
    ∙ sym (in_order_at c.args.node old)
