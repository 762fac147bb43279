-- Keys that move twice.
use Rattle.std.proofs.Common.{◌≡◌, ap, sym, ◌∙◌, subst, true, ℕ, ◌+◌, ◌-◌, ◌^◌, ◌<◌, ◌≤◌, arith, List, Some, None, Option, pos, negsuc, ℤ, ◌+ℤ◌, min, w64, SFits}
use Rattle.std.{specs.Prelude.{IfSome, unwrap_or, ◌<ℤ◌}, proofs.lemmas.Int.ints}
use Rattle.key_lists.specs.Keys.{is_among}
use Rattle.row_set.specs.Sets.{IsKeySet}
use Rattle.tick_model.{specs.declared.update.ShiftRange.ShiftRange, specs.Shifts.{moved, as_key, delta_at}}
use Rattle.shift_data.{specs.declared.parts.Part.Part, specs.declared.parts.Segment.Segment, specs.Moves.delta_through, specs.Parts.{IsSegment, IsPart, IsLastUpTo}, proofs.Applied.lands_at, proofs.Segments.key_small}

pub fits_sum : (a b : ℤ) → a <ℤ pos (2 ^ 62) → negsuc (2 ^ 62 - 1) <ℤ a → b <ℤ pos (2 ^ 62) → negsuc (2 ^ 62 - 1) <ℤ b → SFits w64 (a +ℤ b)
fits_sum a b up down over under = go (a +ℤ b) (omega (arith, ints, up, over)) (omega (arith, ints, down, under))
  where
    go : (z : ℤ) → z <ℤ pos (2 ^ 63) → negsuc (2 ^ 63 - 1) <ℤ z → SFits w64 z
    go (pos n) p q = record { sfits = omega (arith, ints, p) }
    go (negsuc n) p q = record { sfits = omega (arith, ints, q) }

module _ (shifts next : List ShiftRange) (keys : List ℕ) (from : ℕ) (part : Part) (place : ℕ) (further : Segment) (set : IsKeySet keys) (h : IsPart (delta_at shifts) keys from part) (at : pos part.first +ℤ part.delta ≡ pos place) (s : IsSegment (delta_at next) place further) where
  goes_by : (key : ℕ) → part.first ≤ key → key ≤ part.last → key ≤ part.first + (further.last - place) → delta_through shifts next key ≡ part.delta +ℤ further.delta
  goes_by key above below until =
      ap (λ d. d +ℤ delta_at next (as_key (moved shifts key))) (h.same key above below)
      ∙ ap (λ k. part.delta +ℤ delta_at next k) (lands_at shifts part.delta part.first key place (h.same key above below) at above)
      ∙ ap (λ d. part.delta +ℤ d) (s.same (place + (key - part.first)) (omega arith) (omega (arith, s.order)))

  pub part_further : (o : Option ℕ) (last : ℕ) → IfSome o (IsLastUpTo keys (min part.last (part.first + (further.last - place)))) → last ≡ unwrap_or o part.first → let both : Part = record { first = part.first; last = last; delta = part.delta +ℤ further.delta } in IsPart (delta_through shifts next) keys from both
  part_further None last u is = record {
    above = h.above;
    order = omega arith;
    small = omega (arith, h.small, h.order);
    first = h.first;
    last = subst (λ k. is_among k keys ≡ true) (sym is) h.first;
    none_before = h.none_before;
    same = λ key above below. goes_by key above (omega (arith, h.order)) (omega arith);
  }
  part_further (Some other) last u is = record {
    above = h.above;
    order = omega (arith, u.greatest part.first h.first (omega (arith, h.order)));
    small = subst (λ k. k < 2 ^ 62) (sym is) (key_small other keys set u.key);
    first = h.first;
    last = subst (λ k. is_among k keys ≡ true) (sym is) u.key;
    none_before = h.none_before;
    same = λ key above below. goes_by key above (omega (arith, u.below)) (omega (arith, u.below));
  }
