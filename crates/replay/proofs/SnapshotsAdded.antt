-- The snapshots that are written after the updates are those of a choice.
use Rattle.std.proofs.Common.{◌≡◌, refl, sym, ap, ◌∙◌, subst, ℕ, zero, suc, ◌+◌, ◌<◌, ◌≤◌, arith, length, List, [], ◌∷◌, Option, replicate}
use Rattle.std.{specs.Io.KnownBytes.append_known, proofs.lemmas.List.nil_from_length}
use Rattle.tick_io.specs.Written.{AppendsPrefix}
use Rattle.tick_model.{specs.declared.feed.Run.Run, specs.declared.plan.Published.Published, specs.Choices.IsChoice, specs.Texts.{callers_records, records_text, snapshots_text, some_published}}
use Rattle.replay.{specs.declared.outcome.Knobs.Knobs, specs.declared.readers.KeptSnapshot.KeptSnapshot, specs.Snapshots.{AreLast, all_steps, callers_of}, specs.Wholes.{AddsPrefix, AddsWhole}, proofs.CallTexts.callers_text, proofs.ChoicesMade.{choice_kept, may_be_last}, proofs.Exits.none_written}

-- how many callers there are
pub callers_few : (tables : List Published) (callers : ℕ) → callers_of tables callers ≤ callers
callers_few [] callers = omega arith
callers_few (table ∷ tables) callers = omega arith

pub callers_call : (tables : List Published) (callers : ℕ) → 0 < callers_of tables callers → 0 < length tables
callers_call [] callers some = some
callers_call (table ∷ tables) callers some = omega arith

pub callers_none : (tables : List Published) (callers : ℕ) → length tables ≡ 0 → 0 ≡ callers_of tables callers
callers_none [] callers none = refl
callers_none (table ∷ tables) callers none = absurd (omega (arith, none))

pub callers_all : (tables : List Published) (callers : ℕ) → 0 < length tables → callers ≡ callers_of tables callers
callers_all [] callers some = absurd (omega (arith, some))
callers_all (table ∷ tables) callers some = refl

-- the text of what was kept is that of its steps
pub kept_text : (run : Run) (callers : ℕ) (all : List (List KeptSnapshot)) → length all ≡ callers_of run.plan.published callers → callers_text run 0 all ≡ snapshots_text run (all_steps all)
kept_text run callers all count = go run.plan.published refl count
  where
    go : (tables : List Published) → run.plan.published ≡ tables → length all ≡ callers_of tables callers → callers_text run 0 all ≡ snapshots_text run (all_steps all)
    go [] is none = ap (callers_text run 0) (nil_from_length all none) ∙ sym (ap (λ (tables : List Published). records_text (some_published tables (callers_records run 0 (all_steps all)))) is)
    go (table ∷ tables) is some = sym (ap (λ (tables : List Published). records_text (some_published tables (callers_records run 0 (all_steps all)))) is)

module _ (run : Run) (knobs : Knobs) (last : ℕ) where
  -- a choice with the text of what was kept
  record IsMade (all : List (List KeptSnapshot)) : Type 0 where
    choice : List (List ℕ)
    lawful : IsChoice knobs.callers knobs.snaps last choice
    text : callers_text run 0 all ≡ snapshots_text run choice

  made : (all : List (List KeptSnapshot)) → length all ≡ callers_of run.plan.published knobs.callers → AreLast run knobs.snaps last 0 all → IsMade all
  made all count ends = go run.plan.published refl count
    where
      go : (tables : List Published) → run.plan.published ≡ tables → length all ≡ callers_of tables knobs.callers → IsMade all
      go [] is none = record {
        choice = replicate knobs.callers (replicate (knobs.snaps + 1) last);
        lawful = may_be_last knobs.callers knobs.snaps last;
        text = ap (callers_text run 0) (nil_from_length all none)
            ∙ sym (ap (λ (tables : List Published). records_text (some_published tables (callers_records run 0 (replicate knobs.callers (replicate (knobs.snaps + 1) last))))) is);
      }
      go (table ∷ tables) is some = record {
        choice = all_steps all;
        lawful = choice_kept run knobs.callers knobs.snaps last all some ends;
        text = kept_text run knobs.callers all count;
      }

  module _ (all : List (List KeptSnapshot)) (count : length all ≡ callers_of run.plan.published knobs.callers) (ends : AreLast run knobs.snaps last 0 all) (old new : Option (List ℕ)) where
    pub adds_whole : new ≡ append_known old (callers_text run 0 all) → AddsWhole run knobs last old new
    adds_whole written =
        let m = made all count ends in
        record { choice = m.choice; lawful = m.lawful; written = written ∙ ap (append_known old) m.text }

    pub adds_some : AppendsPrefix old new (callers_text run 0 all) → AddsPrefix run knobs last old new
    adds_some written =
        let m = made all count ends in
        record { choice = m.choice; lawful = m.lawful; written = subst (AppendsPrefix old new) m.text written }

  pub adds_none : (old : Option (List ℕ)) → AddsPrefix run knobs last old old
  adds_none old =
      let choice = replicate knobs.callers (replicate (knobs.snaps + 1) last) in
      record { choice = choice; lawful = may_be_last knobs.callers knobs.snaps last; written = none_written old (snapshots_text run choice) }
