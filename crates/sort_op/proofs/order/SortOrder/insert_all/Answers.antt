use Rattle.std.proofs.Common.{◌≡◌, ◌||◌, ◌∙◌, ◌∷◌, [], false, refl, ap, arith, sym, subst}
use Rattle.std.{specs.List.AllByRecursion, proofs.lemmas.List.nil_from_length}
use Rattle.key_lists.{proofs.Booleans.or_false, proofs.Parts.every_front}
use Rattle.sort_op.{specs.Entries.{entries, is_in, is_same, AreDistinct, IsWhole, Order}, proofs.Inserted.{distinct_front, distinct_permuted, every_permuted, in_insert, in_permuted, in_step, last_has, out_step, place_out}}
use Rattle.sort_op.proofs.order.SortOrder.insert_all.Goals as goal

pub loop-entry-init : goal.loop-entry-init
loop-entry-init c = record {
  kept = λ x. refl;
  stay = λ x is. is;
  out = every_permuted (λ x. is_in x (entries c.args.self.now) ≡ false) c.args.coming.items c.sort_backward.new.entries.items c.sort_backward.ensures.permutation c.requires.absent;
  distinct = distinct_permuted c.args.coming.items c.sort_backward.new.entries.items c.sort_backward.ensures.permutation c.requires.distinct;
  whole = every_permuted (IsWhole c.args.self.now.by) c.args.coming.items c.sort_backward.new.entries.items c.sort_backward.ensures.permutation c.requires.whole;
  by = refl;
  order = c.by.ensures.order;
}

pub insert-requires : goal.insert-requires
insert-requires c = record {
  whole = last_has (IsWhole c.loop-entry.self.by) c.pop.new.self.items c.in-Some.entry (subst (AllByRecursion (IsWhole c.loop-entry.self.by)) c.in-Some.ensures.items c.loop-entry.invariant.whole);
  absent =
      place_out c.in-Some.entry (entries c.loop-entry.self)
      (last_has (λ x. is_in x (entries c.loop-entry.self) ≡ false) c.pop.new.self.items c.in-Some.entry (subst (AllByRecursion (λ x. is_in x (entries c.loop-entry.self) ≡ false)) c.in-Some.ensures.items c.loop-entry.invariant.out));
}

pub loop-entry-preserved : goal.loop-entry-preserved
loop-entry-preserved c =
    let old = entries c.loop-entry.self in
    let rest = c.pop.new.self.items in
    let entry = c.in-Some.entry in
    let place = c.in_ok-insert.field-0 in
    let distinct = subst AreDistinct c.in-Some.ensures.items c.loop-entry.invariant.distinct in
    record {
      kept = λ x.
          ap (λ now. is_in x now || is_in x rest) c.in_ok-insert.ensures.entries
          ∙ in_step x old place entry rest
          ∙ ap (λ items. is_in x old || is_in x items) (sym c.in-Some.ensures.items)
          ∙ c.loop-entry.invariant.kept x;
      stay = λ x is. ap (is_in x) c.in_ok-insert.ensures.entries ∙ in_insert x old place entry ∙ ap (λ b. b || is_same entry x) (c.loop-entry.invariant.stay x is);
      out =
          subst (λ now. AllByRecursion (λ x. is_in x now ≡ false) rest) (sym c.in_ok-insert.ensures.entries)
          (out_step old place entry rest distinct (subst (AllByRecursion (λ x. is_in x old ≡ false)) c.in-Some.ensures.items c.loop-entry.invariant.out));
      distinct = distinct_front rest entry distinct;
      whole =
          subst (λ by. AllByRecursion (IsWhole by) rest) (sym c.in_ok-insert.ensures.by)
          (every_front (IsWhole c.loop-entry.self.by) rest (entry ∷ []) (subst (AllByRecursion (IsWhole c.loop-entry.self.by)) c.in-Some.ensures.items c.loop-entry.invariant.whole));
      by = c.in_ok-insert.ensures.by ∙ c.loop-entry.invariant.by;
      order = c.in_ok-insert.ensures.order;
    }

pub returns-in_err-insert-clause-stay : goal.returns-in_err-insert-clause-stay
returns-in_err-insert-clause-stay c = λ x is. ap (λ (order : Order). is_in x (entries order)) c.in_err-insert.ensures.refused ∙ c.loop-entry.invariant.stay x is

pub returns-in_err-insert-clause-no_others : goal.returns-in_err-insert-clause-no_others
returns-in_err-insert-clause-no_others c = λ x is.
    sym (c.loop-entry.invariant.kept x ∙ ap (λ b. is_in x (entries c.args.self.now) || b) (in_permuted c.args.coming.items c.sort_backward.new.entries.items c.sort_backward.ensures.permutation x))
    ∙ ap (λ b. b || is_in x c.loop-entry.coming.items) (sym (ap (λ (order : Order). is_in x (entries order)) c.in_err-insert.ensures.refused) ∙ is)

pub returns-clause-entries : goal.returns-clause-entries
returns-clause-entries c = λ x.
    let none = nil_from_length c.loop-entry.coming.items (omega (arith, c.in_default.ensures.cases.0, c.loop-entry.coming.ok.0)) in
    sym (or_false (is_in x (entries c.loop-entry.self)))
    ∙ ap (λ items. is_in x (entries c.loop-entry.self) || is_in x items) (sym none)
    ∙ c.loop-entry.invariant.kept x
    ∙ ap (λ b. is_in x (entries c.args.self.now) || b) (in_permuted c.args.coming.items c.sort_backward.new.entries.items c.sort_backward.ensures.permutation x)

pub returns-clause-stay : goal.returns-clause-stay
returns-clause-stay c = c.loop-entry.invariant.stay

pub returns-clause-no_others : goal.returns-clause-no_others
returns-clause-no_others c = λ x is. sym (returns-clause-entries c x) ∙ is
