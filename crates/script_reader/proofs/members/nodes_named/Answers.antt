use Rattle.std.proofs.Common.{Ok, ap, ◌∙◌, sym, arith}
use Rattle.std.proofs.lemmas.Result.{err_from_is_err_and}
use Rattle.script_reader.{specs.Checks.{node_named, names_of}, proofs.Each.{each_more, each_fails, each_all, each_none}}
use Rattle.script_reader.proofs.members.nodes_named.Goals as goal

pub loop-name-init : goal.loop-name-init
loop-name-init c = each_none (node_named (names_of c.args.nodes.now.nodes.items)) ∙ ap Ok (sym c.new-inputs.ensures)

pub returns-in_err-input : goal.returns-in_err-input
returns-in_err-input c =
    let p = err_from_is_err_and c.from_residual.result c.from_residual.ensures.1 in
    rw (p.1, p.2) (each_fails (node_named (names_of c.args.nodes.now.nodes.items)) c.in_err-input.field-0.0 c.args.names.now c.loop-name.name-index c.name-item.result c.loop-name.inputs (omega arith) c.name-item.is c.loop-name.invariant c.in_err-input.ensures)

pub loop-name-preserved : goal.loop-name-preserved
loop-name-preserved c =
    each_more (node_named (names_of c.args.nodes.now.nodes.items)) c.args.names.now c.loop-name.name-index c.name-item.result c.loop-name.inputs c.in_ok-input.input (omega arith) c.name-item.is c.loop-name.invariant c.in_ok-input.ensures
    ∙ ap Ok (sym c.in_ok-push.ensures.ok)

pub returns : goal.returns
returns c = each_all (node_named (names_of c.args.nodes.now.nodes.items)) c.args.names.now c.loop-name.name-index c.loop-name.inputs c.loop-name-test.false c.loop-name.invariant
