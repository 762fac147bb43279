use Rattle.std.proofs.Common.{◌≡◌, ◌∙◌, ap, sym, ◌^◌, ◌<◌, List, ℕ, ◌++◌, ◌∷◌, []}
use Rattle.std.{specs.Prelude.slice_index, specs.List.All, proofs.lemmas.List.Elements.All-push}
use Rattle.tick_model.{specs.declared.plan.Node.Node, specs.Plans.key_bounds, specs.Operators.bound_of}
use Rattle.script_reader.{specs.Checks.{names_of, with_text}, proofs.Placing.{room_for, named_more, bounded_more}}
use Rattle.script_reader.proofs.nodes.Nodes.with.Goals as goal

pub invariant_of-result : goal.invariant_of-result
invariant_of-result c =
    let self = c.args.self in
    let of : List ℕ → Node = λ name. record { name = name; columns = c.args.draft.columns; op = c.args.draft.op } in
    let nodes_are : c.push-2.new.self.items ≡ self.nodes.items ++ of c.args.name.now ∷ [] =
    c.in_ok-push-2.ensures.items ∙ ap (λ name. self.nodes.items ++ of name ∷ []) (c.in_ok-name.ensures ∙ c.as_str-2.ensures) in
    let own : c.bound-bound.result ≡ bound_of c.args.draft.op (slice_index self.bounds.items) =
    c.bound-bound.ensures ∙ ap (λ bounds. bound_of c.args.draft.op (slice_index bounds)) c.as_slice.ensures.value in
    let roomy : All (λ bound. bound < 2 ^ 62) (self.bounds.items ++ c.bound-bound.result ∷ []) =
    All-push (λ bound. bound < 2 ^ 62) self.bounds.items c.bound-bound.result self.roomy (room_for self.nodes.items c.args.name.now c.args.draft c.requires self.bounds.items c.bound-bound.result self.bounded own) in
    record {
      named =
          c.in_ok-number.ensures.ok ∙ ap (with_text self.names) c.as_str.ensures ∙ named_more self.nodes.items c.args.name.now c.args.draft c.requires self.names self.named ∙ ap names_of (sym nodes_are);
      bounded = c.in_ok-push.ensures.items ∙ bounded_more self.nodes.items (of c.args.name.now) self.bounds.items c.bound-bound.result self.bounded own ∙ ap key_bounds (sym nodes_are);
      roomy = rw c.in_ok-push.ensures.items roomy;
    }
