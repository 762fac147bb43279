use Rattle.std.proofs.Common.{◌∙◌, ap, subst, ℕ, Option}
use Rattle.std.{specs.Prelude.position, specs.Str.bytes_eq}
use Rattle.script_lines.{specs.declared.fault.ScriptKind.TheVariants.UnknownName, specs.Answers.Gives}
use Rattle.script_reader.specs.Checks.{node_named, or_refused}
use Rattle.script_reader.proofs.nodes.Nodes.named.Goals as goal

pub returns : goal.returns
unfolding node_named
returns c =
    let self = c.args.self.now in
    subst (λ (place : Option ℕ). Gives (λ (node : ℕ). node) c.found.result (or_refused UnknownName place))
    (c.place.ensures ∙ ap (λ text. position (bytes_eq text) self.names) c.as_str.ensures ∙ ap (position (bytes_eq c.args.name.now)) self.named) c.found.ensures
