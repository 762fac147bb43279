use Rattle.std.proofs.Common.{◌≡◌, List, [], ℕ, ◌∙◌, ap, sym, subst}
use Rattle.std.specs.Prelude.{IfOk}
use Rattle.tick_model.specs.LawfulRuns.{AreTexts}
use Rattle.feed_reader.{specs.Coding.with_texts, proofs.OrderLemmas.all_kept, proofs.TextLemmas.all_noted}
use Rattle.feed_reader.proofs.texts.texts_of.Goals as goal

pub note_tables-requires : goal.note_tables-requires
note_tables-requires c =
    subst AreTexts (sym (c.in_ok-note_names.ensures ∙ ap (λ (texts : List (List ℕ)). with_texts texts c.args.literals.now) c.new-texts.ensures)) (all_kept [] c.args.literals.now tt)

pub returns : goal.returns
returns c =
    subst (λ (all : List (List ℕ)). IfOk c.names.result (λ texts. texts ≡ all))
    (all_noted c.args.literals.now c.args.tables.now c.args.feed.now c.note_names.new.texts c.note_tables.new.texts c.note_names-2.new.texts c.cell_texts.result.now
    (c.in_ok-note_names.ensures ∙ ap (λ (texts : List (List ℕ)). with_texts texts c.args.literals.now) c.new-texts.ensures)
    c.in_ok-note_tables.ensures c.in_ok-note_names-2.ensures c.cell_texts.ensures.told c.cell_texts.ensures.all)
    c.names.ensures
