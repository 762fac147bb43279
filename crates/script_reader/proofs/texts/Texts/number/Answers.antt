use Rattle.std.proofs.Common.{◌∙◌, sym, ap, map}
use Rattle.std.specs.String.{string_bytes}
use Rattle.script_reader.{specs.Checks.{place_of, with_text}, proofs.Places.{numbered_there, numbered_last}}
use Rattle.script_reader.proofs.texts.Texts.number.Goals as goal

pub returns-in-Some-clause-place : goal.returns-in-Some-clause-place
returns-in-Some-clause-place c =
    (numbered_there string_bytes c.self.inside.texts.keys c.args.text.now c.in-Some.place c.in-Some.ensures.index).0 ∙ ap (place_of c.args.text.now) c.self.view_is

pub returns-in-Some-clause-ok : goal.returns-in-Some-clause-ok
returns-in-Some-clause-ok c =
    sym c.self.view_is ∙ sym (numbered_there string_bytes c.self.inside.texts.keys c.args.text.now c.in-Some.place c.in-Some.ensures.index).1 ∙ ap (λ texts. with_text texts c.args.text.now) c.self.view_is

pub returns-in_ok-place-in-None-clause-place : goal.returns-in_ok-place-in-None-clause-place
returns-in_ok-place-in-None-clause-place c =
    (numbered_last string_bytes c.self.inside.texts.keys c.args.text.now c.in_ok-copy-in-None.copy c.in_ok-place-in-None.place c.in-None.ensures.index c.in_ok-copy-in-None.ensures.ok c.in_ok-place-in-None.ensures.index).0
    ∙ ap (place_of c.args.text.now) c.self.view_is

pub returns-in_ok-place-in-None-clause-ok : goal.returns-in_ok-place-in-None-clause-ok
returns-in_ok-place-in-None-clause-ok c =
    ap (map string_bytes) c.in_ok-place-in-None.ensures.keys
    ∙ sym (numbered_last string_bytes c.self.inside.texts.keys c.args.text.now c.in_ok-copy-in-None.copy c.in_ok-place-in-None.place c.in-None.ensures.index c.in_ok-copy-in-None.ensures.ok c.in_ok-place-in-None.ensures.index).1
    ∙ ap (λ texts. with_text texts c.args.text.now) c.self.view_is
