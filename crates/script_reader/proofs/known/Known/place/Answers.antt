use Rattle.std.proofs.Common.{◌++◌, [], ◌∙◌, ap, Ok, List, map}
use Rattle.std.{proofs.lemmas.List.append-nil, proofs.lemmas.Result.err_from_is_err_and}
use Rattle.tick_model.specs.declared.plan.Node.{Node}
use Rattle.script_reader.{specs.declared.script.Script.Script, specs.declared.script.SourceFile.SourceFile, specs.Plain.plain_node, proofs.Placing.{placing_fails, placing_gives}}
use Rattle.script_reader.proofs.known.Known.place.Goals as goal

pub returns-in_err-nodes : goal.returns-in_err-nodes
returns-in_err-nodes c =
    let p = err_from_is_err_and c.from_residual.result c.from_residual.ensures.1 in
    rw (p.1, p.2) (placing_fails c.args.self.nodes.nodes.items c.args.name.now c.args.draft c.in_err-nodes.field-0.0 c.args.self.literals _ c.in_err-nodes.ensures)

pub returns : goal.returns
returns c =
    let self = c.args.self in
    let whole : List Node → List SourceFile → Script =
    λ nodes files. record { plan = record { nodes = nodes; printed = self.printed.items; published = self.published }; literals = self.literals; files = files } in
    placing_gives self.nodes.nodes.items c.args.name.now c.args.draft c.in_ok-nodes.nodes.nodes.items self.literals (λ nodes. whole nodes (self.files ++ [])) c.in_ok-nodes.ensures
    ∙ ap (λ files. Ok (whole (map plain_node c.in_ok-nodes.nodes.nodes.items) files)) (append-nil self.files)
