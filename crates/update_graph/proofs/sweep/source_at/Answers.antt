use Rattle.std.proofs.Common.{sym, ◌∙◌, subst, ◌<◌, length}
use Rattle.std.proofs.lemmas.Bool.{not-false}
use Rattle.tick_model.specs.Evaluation.{is_source}
use Rattle.update_graph.{specs.Tags.node_at, proofs.Sweeping.{place_there, source_defined, source_shown}}
use Rattle.update_graph.proofs.sweep.source_at.Goals as goal

pub bounds-sources-place : goal.bounds-sources-place
bounds-sources-place c =
    subst (λ k. k < length c.args.sources.now) (sym c.requires.place)
    (place_there c.args.run.now c.args.step c.requires.entered c.args.sources.now c.requires.sources c.args.node c.requires.node (not-false (is_source (node_at c.args.run.now c.args.node)) c.requires.source))

pub of_source-work-requires-clause-defined : goal.of_source-work-requires-clause-defined
of_source-work-requires-clause-defined c =
    source_defined c.args.run.now c.args.step c.requires.entered c.args.sources.now c.requires.sources c.args.node c.requires.node (not-false (is_source (node_at c.args.run.now c.args.node)) c.requires.source)

pub new-share-requires : goal.new-share-requires
new-share-requires c =
    let is = not-false (is_source (node_at c.args.run.now c.args.node)) c.requires.source in
    let own = source_shown c.args.run.now c.args.step c.requires.entered c.args.sources.now c.requires.sources c.args.node c.requires.node is c.args.place c.index-sources-place.result c.requires.place c.index-sources-place.is in
    (source_defined c.args.run.now c.args.step c.requires.entered c.args.sources.now c.requires.sources c.args.node c.requires.node is, c.in_ok-table.ensures.cases ∙ own)
