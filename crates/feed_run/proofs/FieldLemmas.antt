-- Fields that are put to others, one after the other.
use Rattle.std.proofs.Common.{◌≡◌, List, [], ◌∷◌, ◌++◌, Result, Ok, Err, ap, ◌∙◌, append_assoc}
use Rattle.std.specs.Prelude.{IfOk}

-- one field more, after others
pub one_more : {X E : Type 0} (made : Result (List X) E) (before told : List X) (x : X) → before ++ x ∷ [] ≡ told → IfOk made (λ own. own ≡ before ++ x ∷ []) → IfOk made (λ own. own ≡ told)
one_more (Ok own) before told x is made = made ∙ is
one_more (Err error) before told x is made = tt

pub two : {X : Type 0} (fields before : List X) (a b : X) → before ≡ fields ++ a ∷ [] → before ++ b ∷ [] ≡ fields ++ a ∷ b ∷ []
two fields before a b is = ap (λ front. front ++ b ∷ []) is ∙ append_assoc fields (a ∷ []) (b ∷ [])

pub three : {X : Type 0} (fields before first : List X) (a b c : X) → before ≡ first ++ b ∷ [] → first ≡ fields ++ a ∷ [] → before ++ c ∷ [] ≡ fields ++ a ∷ b ∷ c ∷ []
three fields before first a b c is was = ap (λ front. front ++ c ∷ []) (is ∙ two fields first a b was) ∙ append_assoc fields (a ∷ b ∷ []) (c ∷ [])

pub four : {X : Type 0} (fields before second first : List X) (a b c d : X) → before ≡ second ++ c ∷ [] → second ≡ first ++ b ∷ [] → first ≡ fields ++ a ∷ [] → before ++ d ∷ [] ≡ fields ++ a ∷ b ∷ c ∷ d ∷ []
four fields before second first a b c d is was then = ap (λ front. front ++ d ∷ []) (is ∙ three fields second first a b c was then) ∙ append_assoc fields (a ∷ b ∷ c ∷ []) (d ∷ [])
