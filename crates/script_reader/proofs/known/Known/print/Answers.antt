use Rattle.std.proofs.Common.{◌≡◌, ◌∙◌, ap, sym, true, false, ℕ, List, Ok, Err, refl}
use Rattle.std.proofs.lemmas.Result.{err_from_is_err_and}
use Rattle.script_lines.specs.declared.fault.ScriptKind.TheVariants.{TakenName}
use Rattle.script_reader.{specs.declared.script.Script.Script, specs.Checks.{printed, is_among, in_order}, specs.SoFar.so_far, proofs.Saying.{named_plain, unnamed_plain}}
use Rattle.script_reader.proofs.known.Known.print.Goals as goal

pub returns-in_err-node : goal.returns-in_err-node
returns-in_err-node c =
    let p = err_from_is_err_and c.from_residual.result c.from_residual.ensures.1 in
    rw (p.1, p.2) (unnamed_plain c.args.self.nodes.nodes.items c.args.name.now (printed (so_far c.args.self)) c.in_err-node.field-0.0 c.in_err-node.ensures)

pub returns-then-is_among : goal.returns-then-is_among
returns-then-is_among c =
    let among : is_among c.in_ok-node.node c.args.self.printed.items ≡ true = ap (is_among c.in_ok-node.node) (sym c.as_slice.ensures.value) ∙ sym c.is_among.ensures ∙ c.if-is_among.true in
    let taken : printed (so_far c.args.self) c.in_ok-node.node ≡ Err TakenName = rw among refl in
    named_plain c.args.self.nodes.nodes.items c.args.name.now (printed (so_far c.args.self)) c.in_ok-node.node c.in_ok-node.ensures ∙ taken

pub returns : goal.returns
returns c =
    let start = so_far c.args.self in
    let whole : List ℕ → Script =
    λ nodes. record { plan = record { nodes = start.plan.nodes; printed = nodes; published = start.plan.published }; literals = start.literals; files = start.files } in
    let among : is_among c.in_ok-node.node c.args.self.printed.items ≡ false = ap (is_among c.in_ok-node.node) (sym c.as_slice.ensures.value) ∙ sym c.is_among.ensures ∙ c.if-is_among.false in
    let done : printed start c.in_ok-node.node ≡ Ok (whole (in_order c.in_ok-node.node c.args.self.printed.items)) = rw among refl in
    named_plain c.args.self.nodes.nodes.items c.args.name.now (printed start) c.in_ok-node.node c.in_ok-node.ensures ∙ done ∙ ap (λ nodes. Ok (whole nodes)) (sym c.in_ok-put_in_order.ensures)
