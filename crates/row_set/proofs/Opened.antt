-- What stands around a gap.
use Rattle.std.proofs.Common.{◌≡◌, ap, ap₂, sym, ◌∙◌, ℕ, ◌+◌, ◌-◌, ◌≤◌, arith, List, ◌++◌, length, take, drop, length-drop, length-take-le, append_assoc, take-append-drop}
use Rattle.std.{proofs.Math.Seq.paste, proofs.lemmas.List.{take_at, drop_at, drop-drop}, proofs.lemmas.List.Edits.{take-paste, drop-paste}, specs.Prelude.{Option, None, Some}}
use Rattle.row_set.{specs.declared.ranges.Range.Range, specs.Gaps.listed}

-- the parts of a list on both sides of a gap
pub front_of : {X : Type 0} (start end : ℕ) (xs : List X) → start ≤ length xs → take start (take start xs ++ drop end xs) ≡ take start xs
front_of start end xs le = take_at (take start xs) (drop end xs) start (length-take-le start xs le)

pub back_of : {X : Type 0} (start end count : ℕ) (xs : List X) → start ≤ length xs → drop (start + count) (take start xs ++ drop end xs) ≡ drop (end + count) xs
back_of start end count xs le =
    sym (drop-drop count start (take start xs ++ drop end xs))
    ∙ ap (drop count) (drop_at (take start xs) (drop end xs) start (length-take-le start xs le))
    ∙ drop-drop count end xs

-- the gap is moved on over the next elements
pub passed : {X : Type 0} (start end count : ℕ) (xs : List X) → start ≤ end → end + count ≤ length xs → take (start + count) (paste xs start (drop end xs) count) ++ drop (end + count) (paste xs start (drop end xs) count) ≡ take start xs ++ drop end xs
passed start end count xs order within =
    let new = paste xs start (drop end xs) count in
    let some : count ≤ length (drop end xs) = omega (arith, length-drop end xs) in
    let whole : start + count + (end - start) ≡ end + count = omega arith in
    let rest : drop (end + count) new ≡ drop (end + count) xs =
    ap (λ n. drop n new) (sym whole)
    ∙ sym (drop-drop (end - start) (start + count) new)
    ∙ ap (drop (end - start)) (drop-paste xs start (drop end xs) count (omega arith) some)
    ∙ drop-drop (end - start) (start + count) xs
    ∙ ap (λ n. drop n xs) whole in
    ap₂ ◌++◌ (take-paste xs start (drop end xs) count (omega arith) some) rest
    ∙ append_assoc (take start xs) (take count (drop end xs)) (drop (end + count) xs)
    ∙ ap (λ back. take start xs ++ (take count (drop end xs) ++ back)) (sym (drop-drop count end xs))
    ∙ ap (λ back. take start xs ++ back) (take-append-drop count (drop end xs))

pub listed_few : (range : Option Range) → length (listed range) ≤ 1
listed_few None = omega arith
listed_few (Some range) = omega arith
