use Rattle.std.proofs.Common.{◌≡◌, refl, ap, sym, ◌∙◌, Option, None, Some, option_copied}
use Rattle.std.{specs.Prelude.is_some, proofs.lemmas.Option.{get_or_from_slice_get, slice_get-get_or}}
use denote.Ref.{Bor}
use Rattle.chunk_list.specs.Chunked.{joined}
use Rattle.tick_table.proofs.placed.slot_at.Goals as goal

copied_some : {X : Type 0} (o : Option (Bor X)) → is_some o ≡ is_some (option_copied o)
copied_some None = refl
copied_some (Some x) = refl

pub unwrap-requires : goal.unwrap-requires
unwrap-requires c = copied_some c.get.result ∙ ap is_some (c.get.ensures ∙ slice_get-get_or (joined c.args.places.now) c.args.position 0 c.requires)

pub returns : goal.returns
returns c = sym (get_or_from_slice_get (joined c.args.places.now) c.args.position c.unwrap.result.now 0 (sym c.get.ensures ∙ ap option_copied c.unwrap.ensures))
