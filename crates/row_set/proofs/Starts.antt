-- How many keys come before each block.
use Rattle.std.proofs.Common.{◌≡◌, refl, ap, ap₂, sym, ◌∙◌, subst, ℕ, zero, suc, ◌+◌, ◌-◌, ◌*◌, ◌<◌, ◌≤◌, max, arith, List, [], ◌∷◌, ◌++◌, length, take, drop, slice_range, set, get_or, length-append, inl, inr}
use Rattle.std.{proofs.lemmas.Bool.cases_lt, proofs.lemmas.List.{drop-drop, get_or-take, get_or-set_same, get_or-set_other, get_or_append_left, length-set, length-take}, proofs.Math.Seq.get_or-append_seam}
use Rattle.row_set.{specs.declared.ranges.Range.Range, specs.Ranges.{keys_before, keys_of}, specs.Runs.{AreStarts, start_of}, proofs.Counts.keys_before_to}

-- the ranges between two places
pub part_of : (front from to : ℕ) (all : List Range) → slice_range all (front + from) (front + to) ≡ slice_range (drop front all) from to
part_of front from to all =
    let size : front + to - (front + from) ≡ to - from = omega arith in
    ap (λ n. take n (drop (front + from) all)) size ∙ ap (take (to - from)) (sym (drop-drop from front all))

pub block_part : (front begin end : ℕ) (all : List Range) → slice_range all (max begin front) (max end front) ≡ slice_range (drop front all) (begin - front) (end - front)
block_part front begin end all =
    let low : max begin front ≡ front + (begin - front) = omega arith in
    let high : max end front ≡ front + (end - front) = omega arith in
    ap₂ (slice_range all) low high ∙ part_of front (begin - front) (end - front) all

pub block_keys : (front begin end count : ℕ) (all : List Range) → begin ≤ end → count ≡ length (keys_of (slice_range all (max begin front) (max end front))) → keys_before (begin - front) (drop front all) + count ≡ keys_before (end - front) (drop front all)
block_keys front begin end count all le is =
    omega (arith, is, ap (λ those. length (keys_of those)) (block_part front begin end all), keys_before_to (begin - front) (end - front) (drop front all) (omega (arith, le)))

-- one start more
pub start_more : (front next : ℕ) (all : List Range) (starts : List ℕ) → AreStarts front all starts → next ≡ keys_before (16 * length starts + 16 - front) (drop front all) → 16 * length starts + 16 < length all → AreStarts front all (starts ++ next ∷ [])
start_more front next all starts h is lt = record {
  counted = λ block few. elim (cases_lt block (length starts + 1)) [
    | inl before ↦ get_or_append_left (0 ∷ starts) (next ∷ []) 0 block (omega (arith, before)) ∙ h.counted block (omega (arith, before))
    | inr at_end ↦
        let here : block ≡ length starts + 1 = omega (arith, at_end, few, length-append starts (next ∷ [])) in
        let place : 16 * length starts + 16 - front ≡ 16 * block - front = omega (arith, here) in
        let index : block ≡ length (0 ∷ starts) = omega (arith, here) in
        ap (λ n. get_or ((0 ∷ starts) ++ next ∷ []) n 0) index
        ∙ get_or-append_seam (0 ∷ starts) next [] 0
        ∙ is
        ∙ ap (λ n. keys_before n (drop front all)) place
  ];
  within = omega (arith, lt, length-append starts (next ∷ []));
}

-- fewer starts
pub starts_cut : (k from front : ℕ) (all : List Range) (starts : List ℕ) → ((block : ℕ) → block ≤ length starts → 16 * block < from → start_of starts block ≡ keys_before (16 * block - front) (drop front all)) → 16 * k ≤ from - 1 → from ≤ length all → AreStarts front all (take k starts)
starts_cut k from front all starts h le within = record {
  counted = λ block few. elim block as (λ b. b ≤ length (take k starts) → start_of (take k starts) b ≡ keys_before (16 * b - front) (drop front all)) [
    | zero ↦ λ none. let first : 0 ≡ 16 * 0 - front = omega arith in ap (λ n. keys_before n (drop front all)) first
    | suc b ↦ λ some.
        get_or-take (suc k) (0 ∷ starts) (suc b) 0 (omega (arith, some, length-take k starts))
        ∙ h (suc b) (omega (arith, some, length-take k starts)) (omega (arith, some, length-take k starts, le))
  ] few;
  within = omega (arith, length-take k starts, le, within);
}

-- the starts of the blocks after the first one, up to one of them, are written anew
pub record AreWritten (value : ℕ → ℕ → Type 0) (old new : List ℕ) (first upto : ℕ) : Type 0 where
  pub len : length new ≡ length old
  pub written : (block : ℕ) → first < block → block ≤ upto → value block (start_of new block)
  pub before : (block : ℕ) → block ≤ first → start_of new block ≡ start_of old block
  pub after : (block : ℕ) → upto < block → start_of new block ≡ start_of old block

pub none_written : (value : ℕ → ℕ → Type 0) (starts : List ℕ) (first : ℕ) → AreWritten value starts starts first first
none_written value starts first = record { len = refl; written = λ block past le. absurd (omega (arith, past, le)); before = λ block le. refl; after = λ block lt. refl }

start_other : (starts : List ℕ) (i next block : ℕ) → (block ≡ i + 1 → ⊥) → start_of (set starts i next) block ≡ start_of starts block
start_other starts i next zero other = refl
start_other starts i next (suc block) other = get_or-set_other starts i block next 0 (λ same. other (omega (arith, same)))

pub written_more : (value : ℕ → ℕ → Type 0) (old new : List ℕ) (first upto next : ℕ) → AreWritten value old new first upto → first ≤ upto → upto < length new → value (upto + 1) next → AreWritten value old (set new upto next) first (upto + 1)
written_more value old new first upto next h order lt is = record {
  len = length-set new upto next ∙ h.len;
  written = λ block past le. elim (cases_lt block (upto + 1)) [
    | inl under ↦ subst (value block) (sym (start_other new upto next block (λ same. omega (arith, same, under)))) (h.written block past (omega (arith, under)))
    | inr at ↦
        let here : upto + 1 ≡ block = omega (arith, at, le) in
        let place : suc upto ≡ upto + 1 = omega arith in
        let read : next ≡ start_of (set new upto next) (upto + 1) = sym (get_or-set_same new upto next 0 lt) ∙ ap (start_of (set new upto next)) place in
        subst (λ (b : ℕ). value b (start_of (set new upto next) b)) here (subst (value (upto + 1)) read is)
  ];
  before = λ block le. start_other new upto next block (λ same. omega (arith, same, le, order)) ∙ h.before block le;
  after = λ block past. start_other new upto next block (λ same. omega (arith, same, past)) ∙ h.after block (omega (arith, past));
}

-- the start that is read at an index is that of the block after
pub start_after : (starts : List ℕ) (i : ℕ) → get_or starts i 0 ≡ start_of starts (i + 1)
start_after starts i = let place : suc i ≡ i + 1 = omega arith in ap (start_of starts) place
