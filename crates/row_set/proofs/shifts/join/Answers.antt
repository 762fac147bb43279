use Rattle.std.proofs.Common.{◌≡◌, refl, ℕ, ◌-◌, ◌+◌, List, ◌∷◌, ◌++◌, length, ap, ap₂, sym, ◌∙◌, subst, take, take-take, length-take-le, drop, get_or, arith}
use Rattle.std.proofs.lemmas.List.{take-append-le}
use Rattle.key_lists.{proofs.Every.every-append, proofs.Parts.{every-take, every-drop}}
use Rattle.row_set.{specs.declared.ranges.Range.Range, specs.Ranges.{AreRanges, IsRangeFrom}, specs.Runs.lying, proofs.Counts.blank, proofs.Middles.span, proofs.Joined.{AreBoth, gap_apart, left_is, right_rest, touch_apart, touch_keys}}
use Rattle.row_set.proofs.shifts.join.Goals as goal

-- the ranges with one in the place of two of them
abbrev made : ℕ → List Range → Range → Range → List Range
made i ranges left right = take (i - 1) ranges ++ (span left.first right.last ∷ drop (i + 1) ranges)

made_ranges : (from i : ℕ) (ranges : List Range) → AreRanges ranges → AreBoth ranges from i → (get_or ranges (i - 1) blank).last + 1 ≡ (get_or ranges i blank).first → AreRanges (made i ranges (get_or ranges (i - 1) blank) (get_or ranges i blank))
made_ranges from i ranges h both touch =
    let left = get_or ranges (i - 1) blank in
    let right = get_or ranges i blank in
    let begins = left_is ranges from i both in
    let ends = (right_rest ranges from i both).0 in
    record {
      each = every-append (IsRangeFrom 0) (take (i - 1) ranges) (span left.first right.last ∷ drop (i + 1) ranges)
          (every-take (IsRangeFrom 0) (i - 1) ranges h.each)
          (record { above = omega arith; ascends = omega (arith, begins.ascends, ends.ascends, touch); small = ends.small }, every-drop (IsRangeFrom 0) (i + 1) ranges h.each);
      few = omega (arith, h.few, ap length (touch_keys ranges (made i ranges left right) from i both touch refl));
    }

pub replace-requires-clause-new : goal.replace-requires-clause-new
replace-requires-clause-new c =
    let ranges = lying c.args.runs.now in
    let i = c.args.index in
    let is = c.as_slice-ranges.ensures in
    let both : AreBoth ranges c.args.from i = record { some = omega (arith, c.requires.order, c.if-from-index.false); within = omega (arith, c.requires.within, c.if-index-ranges.false, ap length is); before = c.requires.before; after = c.requires.after; rising = c.requires.rising } in
    let left = ap (λ those. get_or those (i - 1) blank) is in
    let right = ap (λ those. get_or those i blank) is in
    subst AreRanges (sym (ap₂ (made i ranges) left right))
    (made_ranges c.args.from i ranges c.requires.ranges both (sym (ap (λ (range : Range). range.last + 1) left) ∙ c.if-left-right.true ∙ ap (λ (range : Range). range.first) right))

pub returns-then-left-right : goal.returns-then-left-right
returns-then-left-right c =
    let ranges = lying c.args.runs.now in
    let i = c.args.index in
    let is = c.as_slice-ranges.ensures in
    let both : AreBoth ranges c.args.from i = record { some = omega (arith, c.requires.order, c.if-from-index.false); within = omega (arith, c.requires.within, c.if-index-ranges.false, ap length is); before = c.requires.before; after = c.requires.after; rising = c.requires.rising } in
    let left = ap (λ those. get_or those (i - 1) blank) is in
    let right = ap (λ those. get_or those i blank) is in
    let from = c.args.from in
    let new = c.replace.ensures.ranges in
    let same = new ∙ ap₂ (made i ranges) left right in
    let touch = sym (ap (λ (range : Range). range.last + 1) left) ∙ c.if-left-right.true ∙ ap (λ (range : Range). range.first) right in
    record {
      counted = c.replace.ensures.counted;
      ranges = subst AreRanges (sym same) (made_ranges from i ranges c.requires.ranges both touch);
      apart = touch_apart ranges (lying c.replace.new.self) from i both same;
      keys = touch_keys ranges (lying c.replace.new.self) from i both touch same;
      front = ap (take from) new ∙ take-append-le from (take (i - 1) ranges) _ (omega (arith, length-take-le (i - 1) ranges (omega (arith, both.within)), both.some)) ∙ take-take from (i - 1) ranges (omega (arith, both.some));
    }

pub returns-else-left-right-clause-apart : goal.returns-else-left-right-clause-apart
returns-else-left-right-clause-apart c =
    let ranges = lying c.args.runs.now in
    let i = c.args.index in
    let is = c.as_slice-ranges.ensures in
    let both : AreBoth ranges c.args.from i = record { some = omega (arith, c.requires.order, c.if-from-index.false); within = omega (arith, c.requires.within, c.if-index-ranges.false, ap length is); before = c.requires.before; after = c.requires.after; rising = c.requires.rising } in
    let left = ap (λ those. get_or those (i - 1) blank) is in
    let right = ap (λ those. get_or those i blank) is in
    gap_apart ranges c.args.from i both (λ touch. c.if-left-right.false (ap (λ (range : Range). range.last + 1) left ∙ touch ∙ sym (ap (λ (range : Range). range.first) right)))
