use Rattle.std.proofs.Common.{◌∙◌, sym, ap}
use Rattle.std.{specs.Prelude.position, specs.Str.bytes_eq, specs.String.string_bytes}
use Rattle.script_reader.proofs.Places.{position-map}
use Rattle.script_reader.proofs.texts.Texts.place.Goals as goal

pub returns : goal.returns
returns c =
    c.get_index_of.ensures.index ∙ sym (position-map (bytes_eq c.args.text.now) string_bytes c.self.inside.texts.keys) ∙ ap (position (bytes_eq c.args.text.now)) c.self.view_is
