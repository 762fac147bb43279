use Rattle.std.proofs.Common.{refl, ap, sym, ◌≡◌, ◌∷◌, ◌+◌, ◌∙◌, length, arith}
use Rattle.atomic_table.specs.Table.{rest}
use Rattle.graph_words.{specs.declared.table.Slot.TheVariants.{Empty, Done}, specs.declared.table.Mark.TheVariants.{Drawn, PutBack}, specs.Views.{mark_node, tells}, proofs.Asks.{empty_lifts, node_lays, ticket_draws}, proofs.Twice.{drawn_after, item_of, node_after, tells_marked, tells_plan}}
use Rattle.graph_words.proofs.claims.Claims.draw_back.Goals as goal

pub load-requires : goal.load-requires
load-requires g c =
    let of = rw (← c.self.view_is, ← c.seat.view_is) at c.requires.of in
    let node = rw (← c.self.view_is) at c.requires.node in
    let taken = rw (← c.seat.view_is) at c.requires.taken in (
      of.0,
      omega (arith, node, c.self.invariant.counted.0),
      empty_lifts _ _ _ _ c.self.invariant.counted.1 _ _ _ _ c.seat.invariant node taken,
    )

pub fetch_add-ticket-requires : goal.fetch_add-ticket-requires
fetch_add-ticket-requires g c =
    let of = rw (← c.self.view_is, ← c.seat.view_is) at c.requires.of in
    let node = rw (← c.self.view_is) at c.requires.node in
    let lifted = drawn_after c.seat.inside.seat.me.0 c.load.new.seat.me c.args.node Empty c.load.ensures.2 in
    let long : length c.self.inside.edges.items ≡ length c.self.inside.table.shared.key.edges.items = ap length c.self.invariant.keyed.1 in
    let word : c.self.inside.nodes + c.len.result ≡ c.self.inside.table.shared.key.nodes + length c.self.inside.table.shared.key.edges.items = omega (arith, c.len.ensures, c.self.inside.edges.ok, long, c.self.invariant.keyed.0) in (
      c.load.ensures.0 ∙ of.0,
      omega (arith, word, c.self.invariant.counted.0),
      ticket_draws _ _ _ _ c.self.invariant.counted.1 _ _ g.T.Telling.told _ _ c.args.node Empty (ap (λ m. m.1) c.load.ensures.2) word c.self.invariant.populated.1 node lifted.0,
    )

pub exchange-found-requires : goal.exchange-found-requires
exchange-found-requires g c =
    let of = rw (← c.self.view_is, ← c.seat.view_is) at c.requires.of in
    let held = c.fetch_add-ticket.ensures.2.0 ∙ ap (λ m. m.1) c.load.ensures.2 in (
      c.fetch_add-ticket.ensures.0 ∙ (c.load.ensures.0 ∙ of.0),
      (Empty, held ∙ ap (λ t. (c.args.node, Empty) ∷ rest t) (sym held)),
    )

pub unreachable-requires : goal.unreachable-requires
unreachable-requires g c = c.in_default.not-Empty (item_of c.fetch_add-ticket.new.seat.me.1 (rest c.fetch_add-ticket.new.seat.me.1) c.args.node c.args.node Empty c.exchange-found.result (c.fetch_add-ticket.ensures.2.0 ∙ ap (λ m. m.1) c.load.ensures.2) c.exchange-found.ensures.2)

pub load-requires-2 : goal.load-requires-2
load-requires-2 g c =
    let of = rw (← c.self.view_is, ← c.seat.view_is) at c.requires.of in
    let node = rw (← c.self.view_is) at c.requires.node in
    let tag = rw (← c.self.view_is) at c.requires.tag in
    let follows = rw (← c.self.view_is) at c.requires.follows in
    let held = ap (λ m. m.1) c.load.ensures.2 in
    let drawn = (drawn_after c.seat.inside.seat.me.0 c.load.new.seat.me c.args.node Empty c.load.ensures.2).1 g.T.Telling.told c.fetch_add-ticket.result c.fetch_add-ticket.new.seat.me.0 (c.fetch_add-ticket.ensures.2.1 c.args.node Empty held) in
    let after = node_after (tells g.T.Telling.told c.args.node c.fetch_add-ticket.result c.seat.inside.seat.me.0) c.fetch_add-ticket.new.seat.me c.exchange-found.new.seat.me c.args.node (Drawn c.fetch_add-ticket.result) (Done c.args.work c.fetch_add-ticket.result) Empty drawn (c.fetch_add-ticket.ensures.2.0 ∙ held) c.exchange-found.ensures.3 in (
      c.exchange-found.ensures.0 ∙ (c.fetch_add-ticket.ensures.0 ∙ (c.load.ensures.0 ∙ of.0)),
      omega (arith, node, c.self.invariant.counted.0),
      node_lays _ _ _ _ c.self.invariant.counted.1 _ _ _ _ (Drawn c.fetch_add-ticket.result) PutBack (Done c.args.work c.fetch_add-ticket.result) after.2 node after.0 (λ e. cc) refl (λ q h is. (_, refl, (c.args.work, ap (Done c.args.work) is.0, tag, follows))),
    )

pub returns-clause-view : goal.returns-clause-view
returns-clause-view g c =
    let held = ap (λ m. m.1) c.load.ensures.2 in
    let drawn = (drawn_after c.seat.inside.seat.me.0 c.load.new.seat.me c.args.node Empty c.load.ensures.2).1 g.T.Telling.told c.fetch_add-ticket.result c.fetch_add-ticket.new.seat.me.0 (c.fetch_add-ticket.ensures.2.1 c.args.node Empty held) in
    let after = node_after (tells g.T.Telling.told c.args.node c.fetch_add-ticket.result c.seat.inside.seat.me.0) c.fetch_add-ticket.new.seat.me c.exchange-found.new.seat.me c.args.node (Drawn c.fetch_add-ticket.result) (Done c.args.work c.fetch_add-ticket.result) Empty drawn (c.fetch_add-ticket.ensures.2.0 ∙ held) c.exchange-found.ensures.3 in
    after.3 PutBack c.load-2.new.seat.me c.load-2.ensures.2 ∙ (sym (tells_marked g.T.Telling.told c.args.node c.fetch_add-ticket.result c.seat.inside.seat.me.0 PutBack) ∙ ap (λ s. tells g.T.Telling.told c.args.node c.fetch_add-ticket.result (mark_node s.view c.args.node PutBack)) c.seat.view_is)

pub returns-clause-of : goal.returns-clause-of
returns-clause-of g c = (
  c.load-2.ensures.0 ∙ (c.exchange-found.ensures.0 ∙ (c.fetch_add-ticket.ensures.0 ∙ (c.load.ensures.0 ∙ (ap (λ s. s.table) c.seat.view_is ∙ c.requires.of.0)))),
  ap (λ v. v.plan) (returns-clause-view g c) ∙ (tells_plan g.T.Telling.told c.args.node c.fetch_add-ticket.result (mark_node c.args.seat.now.view c.args.node PutBack) ∙ c.requires.of.1),
)
