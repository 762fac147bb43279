use Rattle.std.proofs.Common.{◌-◌, ap, sym, ◌∙◌, subst, Some, IsSome, refl}
use Rattle.std.proofs.lemmas.Option.{same_Some}
use Rattle.slab.specs.Slab.{get}
use Rattle.row_handles.{specs.Blocks.rows, proofs.Places.{located, found_key}}
use Rattle.row_handles.proofs.index.HandleIndex.key_at.Goals as goal

pub index-place-requires : goal.index-place-requires
index-place-requires c =
    let index = c.args.self.now in
    let found = found_key index.ceilings index.places c.args.handle (rows index.blocks.items) (located index.ceilings index.places index.blocks.items c.requires.sound.placed) c.requires.there in
    subst IsSome (sym found.2.placed) refl

pub index-requires : goal.index-requires
index-requires c =
    let index = c.args.self.now in
    let found = found_key index.ceilings index.places c.args.handle (rows index.blocks.items) (located index.ceilings index.places index.blocks.items c.requires.sound.placed) c.requires.there in
    let same = same_Some found.2.place c.index-place.result.now (sym found.2.placed ∙ c.index-place.ensures) in
    subst IsSome (sym (ap (λ place. get index.ceilings place.block) (sym same) ∙ found.2.held)) refl

pub returns : goal.returns
returns c =
    let index = c.args.self.now in
    let found = found_key index.ceilings index.places c.args.handle (rows index.blocks.items) (located index.ceilings index.places index.blocks.items c.requires.sound.placed) c.requires.there in
    let same = same_Some found.2.place c.index-place.result.now (sym found.2.placed ∙ c.index-place.ensures) in
    let ceiling = same_Some found.2.ceiling c.index.result.now (sym found.2.held ∙ ap (λ place. get index.ceilings place.block) same ∙ c.index.ensures) in
    found.1 ∙ ap Some (sym found.2.is ∙ ap (λ n. n - found.2.place.depth) ceiling ∙ ap (λ place. c.index.result.now - place.depth) same ∙ sym c.saturating_sub.ensures)
