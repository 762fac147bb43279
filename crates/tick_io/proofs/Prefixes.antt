-- Pieces that are written one after another, of the last of which maybe a prefix alone.
use Rattle.std.proofs.Common.{◌≡◌, ◌+◌, ℕ, List, ◌++◌, length, take, drop, Option, Some, None, refl, ap, sym, subst, ◌∙◌, arith, append_assoc, length-append}
use Rattle.std.{proofs.Math.Seq.{take-add, take-append-add}, proofs.lemmas.List.take-append-le, specs.Io.KnownBytes.append_known}
use Rattle.tick_io.specs.Written.{AppendsPrefix}

-- what was appended in two parts
pub append_known-append_known : (known : Option (List ℕ)) (a b : List ℕ) → append_known (append_known known a) b ≡ append_known known (a ++ b)
append_known-append_known None a b = refl
append_known-append_known (Some bytes) a b = ap Some (append_assoc bytes a b)

-- a prefix of a piece, and more of it
pub append_known-take : (known : Option (List ℕ)) (n m : ℕ) (piece : List ℕ) → append_known (append_known known (take n piece)) (take m (drop n piece)) ≡ append_known known (take (n + m) piece)
append_known-take known n m piece =
    append_known-append_known known (take n piece) (take m (drop n piece)) ∙ ap (append_known known) (sym (take-add n m piece))

-- a prefix of the second piece, after the whole first, is a prefix of both
pub prefix_after : (old mid new : Option (List ℕ)) (first second : List ℕ) → mid ≡ append_known old first → AppendsPrefix mid new second → AppendsPrefix old new (first ++ second)
prefix_after old mid new first second whole (count, within, prefix) = (
  length first + count,
  omega (arith, length-append first second),
  prefix ∙ ap (λ known. append_known known (take count second)) whole ∙ append_known-append_known old first (take count second) ∙ ap (append_known old) (sym (take-append-add first second count)),
)

-- a prefix of a piece is one of all that begins with the piece
pub prefix_longer : (old new : Option (List ℕ)) (piece later : List ℕ) → AppendsPrefix old new piece → AppendsPrefix old new (piece ++ later)
prefix_longer old new piece later (count, within, prefix) =
    (count, omega (arith, length-append piece later), prefix ∙ ap (append_known old) (sym (take-append-le count piece later within)))

-- a prefix of a piece, after all that stands before the piece, is a prefix of the whole text
pub prefix_within : (old mid new : Option (List ℕ)) (before piece later whole : List ℕ) → (before ++ piece) ++ later ≡ whole → mid ≡ append_known old before → AppendsPrefix mid new piece → AppendsPrefix old new whole
prefix_within old mid new before piece later whole e written prefix =
    subst (AppendsPrefix old new) e (prefix_longer old new (before ++ piece) later (prefix_after old mid new before piece written prefix))
