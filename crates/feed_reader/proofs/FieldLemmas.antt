-- The fields of a record by their places.
use Rattle.std.proofs.Common.{◌≡◌, ℕ, zero, suc, List, [], ◌∷◌, ◌++◌, true, false, Option, Some, None, refl, ap, ◌∙◌, get_or}
use Rattle.std.{specs.Prelude.{OnSome, option_copied, option_map, unwrap_or}, specs.Borrow.Bor, specs.Str.{IsUtf8, is_utf8}, proofs.lemmas.Str.{IsUtf8-from_is_utf8, is_utf8-from_IsUtf8}, proofs.lemmas.Bool.{and_from, and_parts, false_from_ne_true}, proofs.lemmas.List.map_push, proofs.lemmas.List.Folds.list_all-append}
use Rattle.csv.specs.Records.{field_at, AllText}
use Rattle.feed_reader.specs.Records.{are_texts, field_texts}

field_or : (fields : List (List ℕ)) (place : ℕ) → unwrap_or (field_at fields place) [] ≡ get_or fields place []
unfolding field_at
field_or [] place = refl
field_or (x ∷ fields) zero = refl
field_or (x ∷ fields) (suc place) = field_or fields place

now_or : (field : Option (Bor (List ℕ))) (none : Bor (List ℕ)) → (unwrap_or field none).now ≡ unwrap_or (option_map (λ (f : Bor (List ℕ)). f.now) field) none.now
now_or None none = refl
now_or (Some field) none = refl

copied_now : {X : Type 0} (o : Option (Bor X)) → option_copied o ≡ option_map (λ (x : Bor X). x.now) o
copied_now None = refl
copied_now (Some x) = refl

text_or : (fields : List (Bor (List ℕ))) (place : ℕ) (none : Bor (List ℕ)) → (get_or fields place none).now ≡ get_or (field_texts fields) place none.now
text_or [] place none = refl
text_or (field ∷ fields) zero none = refl
text_or (field ∷ fields) (suc place) none = text_or fields place none

module _ (place : ℕ) (field none : Bor (List ℕ)) (found : Option (Bor (List ℕ))) (empty : none.now ≡ []) (is : field ≡ unwrap_or found none) where
  pub plain_field : (from : Option (Bor (Bor (List ℕ)))) (slice fields : List (Bor (List ℕ))) → found ≡ option_copied from
      → ((d : Bor (List ℕ)) → unwrap_or (option_map (λ (f : Bor (Bor (List ℕ))). f.now) from) d ≡ get_or slice place d) → slice ≡ fields → field.now ≡ get_or (field_texts fields) place []
  plain_field from slice fields copied at same =
      ap (λ (f : Bor (List ℕ)). f.now)
      (is ∙ ap (λ (o : Option (Bor (List ℕ))). unwrap_or o none) (copied ∙ copied_now from) ∙ at none ∙ ap (λ (all : List (Bor (List ℕ))). get_or all place none) same)
      ∙ text_or fields place none
      ∙ ap (get_or (field_texts fields) place) empty

  pub quoted_field : (fields : List (List ℕ)) → option_map (λ (f : Bor (List ℕ)). f.now) found ≡ field_at fields place → field.now ≡ get_or fields place []
  quoted_field fields at =
      ap (λ (f : Bor (List ℕ)). f.now) is ∙ now_or found none ∙ ap (unwrap_or (option_map (λ (f : Bor (List ℕ)). f.now) found)) empty ∙ ap (λ (o : Option (List ℕ)). unwrap_or o []) at ∙ field_or fields place

pub texts_are : (fields : List (List ℕ)) → AllText fields → are_texts fields ≡ true
unfolding AllText
texts_are [] all = refl
texts_are (field ∷ fields) all = and_from (is_utf8 field) (are_texts fields) (is_utf8-from_IsUtf8 field all.0) (texts_are fields all.1)

from_texts : (fields : List (List ℕ)) → are_texts fields ≡ true → AllText fields
unfolding AllText
from_texts [] e = tt
from_texts (field ∷ fields) e = let parts = and_parts (is_utf8 field) (are_texts fields) e in (IsUtf8-from_is_utf8 field parts.0, from_texts fields parts.1)

pub texts_are_not : (fields : List (List ℕ)) → ¬ (AllText fields) → are_texts fields ≡ false
texts_are_not fields not = false_from_ne_true (are_texts fields) (λ e. not (from_texts fields e))

pub pushed : (fields new : List (Bor (List ℕ))) (field : Bor (List ℕ)) → new ≡ fields ++ field ∷ [] → field_texts new ≡ field_texts fields ++ field.now ∷ []
pushed fields new field is = ap field_texts is ∙ map_push (λ (f : Bor (List ℕ)). f.now) fields field

pub texts_push : (fields new : List (Bor (List ℕ))) (field : Bor (List ℕ)) → field_texts new ≡ field_texts fields ++ field.now ∷ [] → are_texts (field_texts fields) ≡ true → IsUtf8 field.now → are_texts (field_texts new) ≡ true
texts_push fields new field put texts utf8 =
    ap are_texts put
    ∙ list_all-append is_utf8 (field_texts fields) (field.now ∷ [])
    ∙ and_from (are_texts (field_texts fields)) (are_texts (field.now ∷ [])) texts (and_from (is_utf8 field.now) true (is_utf8-from_IsUtf8 field.now utf8) refl)

pub on_some : {X : Type 0} (o : Option X) (P : Type 0) → P → OnSome o P
on_some None P p = tt
on_some (Some x) P p = p
