-- The arguments of `watch`.
use Rattle.std.proofs.Common.{◌≡◌, ◌∙◌, ◌+◌, ℕ, zero, suc, true, false, refl, sym, ap, subst, arith, List, [], ◌∷◌, Some, None, codes, bytes_eq, slice_get, if◌then◌else◌}
use Rattle.std.proofs.lemmas.Option.{same_Some}
use Rattle.clap.specs.Walk.{Text, arg_by_id, arg_by_index, arg_by_long}
use Rattle.command_words.{specs.Commands.is_known, proofs.PartLemmas.{IsOption, Known, is_name, workers, callers, snaps, attempts, every}, proofs.LeafRules.{IsLeaf, differs, option_taker, watch_rules, word_taker}}

abbrev pub watch_places : List Text
watch_places = codes "script" ∷ codes "feed" ∷ codes "name" ∷ codes "first" ∷ codes "count" ∷ []

long_of : (name : Text) → Known name → is_known (codes "watch") name ≡ true → arg_by_long watch_rules name ≡ Some (option_taker name)
long_of name workers is = refl
long_of name callers is = cc
long_of name snaps is = cc
long_of name attempts is = cc
long_of name every is = refl

by_long : (name : Text) → IsOption (codes "watch") name → arg_by_long watch_rules name ≡ Some (option_taker name)
by_long name is = long_of name is.named is.taken

no_long : (name : Text) → is_known (codes "watch") name ≡ false → arg_by_long watch_rules name ≡ None
no_long name none = rw (differs (codes "watch") name (codes "workers") refl none, differs (codes "watch") name (codes "every") refl none) refl

name_of : (name : Text) → Known name → is_known (codes "watch") name ≡ true → arg_by_id watch_rules name ≡ Some (option_taker name)
name_of name workers is = refl
name_of name callers is = cc
name_of name snaps is = cc
name_of name attempts is = cc
name_of name every is = refl

by_name : (name : Text) → IsOption (codes "watch") name → arg_by_id watch_rules name ≡ Some (option_taker name)
by_name name is = name_of name is.named is.taken

by_word : (i : ℕ) (name : Text) → slice_get watch_places i ≡ Some name → arg_by_id watch_rules name ≡ Some (word_taker (i + 1) name)
by_word zero name e = subst (λ (n : Text). arg_by_id watch_rules n ≡ Some (word_taker 1 n)) (same_Some (codes "script") name e) refl
by_word (suc zero) name e = subst (λ (n : Text). arg_by_id watch_rules n ≡ Some (word_taker 2 n)) (same_Some (codes "feed") name e) refl
by_word (suc (suc zero)) name e = subst (λ (n : Text). arg_by_id watch_rules n ≡ Some (word_taker 3 n)) (same_Some (codes "name") name e) refl
by_word (suc (suc (suc zero))) name e = subst (λ (n : Text). arg_by_id watch_rules n ≡ Some (word_taker 4 n)) (same_Some (codes "first") name e) refl
by_word (suc (suc (suc (suc zero)))) name e = subst (λ (n : Text). arg_by_id watch_rules n ≡ Some (word_taker 5 n)) (same_Some (codes "count") name e) refl
by_word (suc (suc (suc (suc (suc i))))) name e = cc

by_place : (i : ℕ) (name : Text) → slice_get watch_places i ≡ Some name → arg_by_index watch_rules (i + 1) ≡ Some (word_taker (i + 1) name)
by_place zero name e = ap (λ (n : Text). Some (word_taker 1 n)) (same_Some (codes "script") name e)
by_place (suc zero) name e = ap (λ (n : Text). Some (word_taker 2 n)) (same_Some (codes "feed") name e)
by_place (suc (suc zero)) name e = ap (λ (n : Text). Some (word_taker 3 n)) (same_Some (codes "name") name e)
by_place (suc (suc (suc zero))) name e = ap (λ (n : Text). Some (word_taker 4 n)) (same_Some (codes "first") name e)
by_place (suc (suc (suc (suc zero)))) name e = ap (λ (n : Text). Some (word_taker 5 n)) (same_Some (codes "count") name e)
by_place (suc (suc (suc (suc (suc i))))) name e = cc

unknown : (i : ℕ) (name : Text) → slice_get watch_places i ≡ Some name → is_name name ≡ false
unknown zero name e = subst (λ (n : Text). is_name n ≡ false) (same_Some (codes "script") name e) refl
unknown (suc zero) name e = subst (λ (n : Text). is_name n ≡ false) (same_Some (codes "feed") name e) refl
unknown (suc (suc zero)) name e = subst (λ (n : Text). is_name n ≡ false) (same_Some (codes "name") name e) refl
unknown (suc (suc (suc zero))) name e = subst (λ (n : Text). is_name n ≡ false) (same_Some (codes "first") name e) refl
unknown (suc (suc (suc (suc zero)))) name e = subst (λ (n : Text). is_name n ≡ false) (same_Some (codes "count") name e) refl
unknown (suc (suc (suc (suc (suc i))))) name e = cc

-- the place of a name
abbrev place_of : Text → ℕ
place_of name =
    if bytes_eq name (codes "script") then 0
    else (if bytes_eq name (codes "feed") then 1
    else (if bytes_eq name (codes "name") then 2
    else (if bytes_eq name (codes "first") then 3 else 4)))

placed : (i : ℕ) (name : Text) → slice_get watch_places i ≡ Some name → place_of name ≡ i
placed zero name e = ap place_of (sym (same_Some (codes "script") name e))
placed (suc zero) name e = ap place_of (sym (same_Some (codes "feed") name e))
placed (suc (suc zero)) name e = ap place_of (sym (same_Some (codes "name") name e))
placed (suc (suc (suc zero))) name e = ap place_of (sym (same_Some (codes "first") name e))
placed (suc (suc (suc (suc zero)))) name e = ap place_of (sym (same_Some (codes "count") name e))
placed (suc (suc (suc (suc (suc i))))) name e = cc

apart : (i j : ℕ) (name : Text) → slice_get watch_places i ≡ Some name → slice_get watch_places j ≡ Some name → i ≡ j
apart i j name e f = sym (placed i name e) ∙ placed j name f

pub watch_leaf : IsLeaf (codes "watch") watch_rules watch_places
watch_leaf = record {
  by_long = by_long;
  no_long = no_long;
  no_short = λ char. refl;
  by_name = by_name;
  by_word = by_word;
  by_place = by_place;
  past = refl;
  defaults = (refl, (refl, (refl, (refl, (refl, (refl, (refl, tt)))))));
  required = λ rows. refl;
  unknown = unknown;
  apart = apart;
  few = omega arith;
}
