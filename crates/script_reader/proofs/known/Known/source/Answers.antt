use Rattle.std.proofs.Common.{◌≡◌, ◌++◌, ◌∷◌, [], ◌∙◌, ap, subst, sym, List, ℕ, true, Result, Option, length}
use Rattle.std.proofs.lemmas.List.{length-map}
use Rattle.tick_model.{specs.declared.plan.ColumnSpec.ColumnSpec, specs.declared.plan.Op.TheVariants.Source}
use Rattle.script_lines.{specs.declared.fault.ScriptKind.ScriptKind, specs.Answers.Gives}
use Rattle.script_reader.{specs.declared.script.Script.Script, specs.declared.script.SourceFile.SourceFile, specs.Checks.{placed, draft_of, source_draft}, specs.Plain.plain_node, specs.SoFar.so_far, proofs.Saying.placed_with_file}
use Rattle.script_reader.proofs.known.Known.source.Goals as goal

pub returns : goal.returns
returns c =
    let self = c.args.self in
    let start = so_far self in
    let made : ℕ → Option (List ℕ) → SourceFile = λ node file. record { node = node; file = file } in
    let with : List SourceFile → List ColumnSpec → Result Script ScriptKind =
    λ files columns. placed (record { plan = start.plan; literals = start.literals; files = files }) c.args.name.now (draft_of Source columns true self.literals) [] in
    let told : SourceFile → Result Script ScriptKind = λ file. placed start c.args.name.now (source_draft c.args.declared.now self.literals) (file ∷ []) in
    let number : c.in_ok-node.node ≡ length start.plan.nodes = c.in_ok-node.ensures.ok ∙ c.len.ensures ∙ sym (length-map self.nodes.nodes.items plain_node) in
    subst (Gives so_far c.place.result)
    (ap (λ files. with files c.in_ok-columns.columns) c.in_ok-push.ensures.ok ∙ ap (with (self.files ++ made c.in_ok-node.node c.in_ok-file.file ∷ [])) c.in_ok-columns.ensures
    ∙ placed_with_file start c.args.name.now (source_draft c.args.declared.now self.literals) (made c.in_ok-node.node c.in_ok-file.file)
    ∙ ap (λ node. told (made node c.in_ok-file.file)) number ∙ ap (λ file. told (made (length start.plan.nodes) file)) c.in_ok-file.ensures)
    c.place.ensures
