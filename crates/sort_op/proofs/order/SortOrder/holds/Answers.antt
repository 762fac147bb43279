use Rattle.std.proofs.Common.{◌∙◌, ap, subst, sym, false}
use Rattle.std.{specs.Prelude.slice_get, specs.Option.option_map_or}
use Rattle.key_lists.proofs.Parts.{every_got}
use Rattle.chunk_list.specs.Chunked.{joined}
use Rattle.sort_op.{specs.Entries.{entries, entry_cmp, is_same, IsWhole, Order}, proofs.Comparing.tied_is_same}
use Rattle.sort_op.proofs.order.SortOrder.holds.Goals as goal

pub returns-in-Some : goal.returns-in-Some
returns-in-Some c =
    let by = c.self.inside.by in
    let other = c.in-Some.other.now in
    let whole = every_got (IsWhole by) (joined c.self.inside.entries) c.args.position other (sym c.in-Some.ensures) c.self.invariant.whole in
    let own : IsWhole by c.args.entry.now = subst (λ (order : Order). IsWhole order.by c.args.entry.now) (sym c.self.view_is) c.requires in
    c.eq.ensures
    ∙ tied_is_same by other c.args.entry.now c.compare.result whole own (c.compare.ensures ∙ ap (λ sorts. entry_cmp sorts other c.args.entry.now) c.as_slice.ensures)
    ∙ ap (λ o. option_map_or (λ other. is_same other c.args.entry.now) o false) (c.in-Some.ensures ∙ ap (λ (order : Order). slice_get (entries order) c.args.position) c.self.view_is)

pub returns-in-None : goal.returns-in-None
returns-in-None c = ap (λ o. option_map_or (λ other. is_same other c.args.entry.now) o false) (c.in-None.ensures ∙ ap (λ (order : Order). slice_get (entries order) c.args.position) c.self.view_is)
