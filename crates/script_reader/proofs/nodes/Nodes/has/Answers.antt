use Rattle.std.proofs.Common.{◌∙◌, ap, is_some}
use Rattle.std.{specs.Prelude.position, specs.List.list_any, specs.Str.bytes_eq}
use Rattle.script_reader.proofs.Places.{is_some-position}
use Rattle.script_reader.proofs.nodes.Nodes.has.Goals as goal

pub returns : goal.returns
returns c =
    let self = c.args.self.now in
    c.is_some.ensures ∙ ap is_some (c.place.ensures ∙ ap (λ text. position (bytes_eq text) self.names) c.as_str.ensures)
    ∙ is_some-position (bytes_eq c.args.name.now) self.names ∙ ap (list_any (bytes_eq c.args.name.now)) self.named
