use Rattle.std.proofs.Common.{rules, ◌≡◌, ◌∙◌, ap, refl, inl, true, false}
use Rattle.std.specs.Prelude.{◌⊎◌}
use Rattle.graph_words.{specs.declared.table.Mark.TheVariants.Unmarked, specs.Views.{gets, mark_node}}
use Rattle.steal_workers.{specs.Lists.IsListed, proofs.Holding.{kept_held, offered_held, offered_on, taken_back_held, taken_back_on}, proofs.Listing.{listed_where, not_either}}
use Rattle.steal_workers.proofs.hand.pass_node.Goals as goal

pub offer_node-requires-clause-ready : goal.offer_node-requires-clause-ready
offer_node-requires-clause-ready g c κs within = c.requires.held.ready c.args.node (inl refl)

pub returns-then-is_empty-clause-held : goal.returns-then-is_empty-clause-held
returns-then-is_empty-clause-held g c =
    kept_held c.args.claims.now.plan c.args.seat.now.view c.args.kept.now.nodes.items c.add.new.self.nodes.items c.args.node (IsListed c.args.found.now.nodes.items) c.add.ensures c.requires.held

pub returns-then-is_empty-clause-kept : goal.returns-then-is_empty-clause-kept
returns-then-is_empty-clause-kept g c = listed_where c.args.kept.now.nodes.items c.add.new.self.nodes.items c.args.node c.add.ensures

pub returns-then-not-offer_node-clause-held : goal.returns-then-not-offer_node-clause-held
returns-then-not-offer_node-clause-held g c =
    let kept = c.args.kept.now.nodes.items in
    let found = c.args.found.now.nodes.items in
    let n = c.args.node in
    let u = c.args.seat.now.view in
    let gone : c.offer_node.result ≡ false = search rules in
    offered_held c.args.claims.now.plan u c.offer_node.new.seat.view n (λ m. IsListed kept m ⊎ IsListed found m) (not_either kept found n c.requires.apart.0 c.requires.apart.1) c.requires.held
    (c.offer_node.ensures.view ∙ ap (λ b. gets b n (mark_node u n Unmarked)) gone)

pub returns-then-not-offer_node-clause-on : goal.returns-then-not-offer_node-clause-on
returns-then-not-offer_node-clause-on g c =
    let kept = c.args.kept.now.nodes.items in
    let found = c.args.found.now.nodes.items in
    let n = c.args.node in
    let u = c.args.seat.now.view in
    let gone : c.offer_node.result ≡ false = search rules in
    offered_on c.args.claims.now.plan u c.offer_node.new.seat.view n (λ m. IsListed kept m ⊎ IsListed found m) (not_either kept found n c.requires.apart.0 c.requires.apart.1) c.requires.held
    (c.offer_node.ensures.view ∙ ap (λ b. gets b n (mark_node u n Unmarked)) gone)

pub returns-clause-held : goal.returns-clause-held
returns-clause-held g c =
    let kept = c.args.kept.now.nodes.items in
    let found = c.args.found.now.nodes.items in
    let n = c.args.node in
    let u = c.args.seat.now.view in
    let plan = c.args.claims.now.plan in
    let back : c.offer_node.result ≡ true = search rules in
    let still = taken_back_held plan u c.offer_node.new.seat.view n (λ m. IsListed kept m ⊎ IsListed found m) (not_either kept found n c.requires.apart.0 c.requires.apart.1) c.requires.held (c.offer_node.ensures.view ∙ ap (λ b. gets b n (mark_node u n Unmarked)) back) in
    kept_held plan c.offer_node.new.seat.view kept c.add-2.new.self.nodes.items n (IsListed found) c.add-2.ensures still

pub returns-clause-kept : goal.returns-clause-kept
returns-clause-kept g c = listed_where c.args.kept.now.nodes.items c.add-2.new.self.nodes.items c.args.node c.add-2.ensures

pub returns-clause-on : goal.returns-clause-on
returns-clause-on g c =
    let kept = c.args.kept.now.nodes.items in
    let found = c.args.found.now.nodes.items in
    let n = c.args.node in
    let u = c.args.seat.now.view in
    let back : c.offer_node.result ≡ true = search rules in
    taken_back_on c.args.claims.now.plan u c.offer_node.new.seat.view n (λ m. IsListed kept m ⊎ IsListed found m) (not_either kept found n c.requires.apart.0 c.requires.apart.1) c.requires.held (c.offer_node.ensures.view ∙ ap (λ b. gets b n (mark_node u n Unmarked)) back)
