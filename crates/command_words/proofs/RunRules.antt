-- The arguments of `run`.
use Rattle.std.proofs.Common.{◌≡◌, ◌+◌, ℕ, zero, suc, true, false, refl, sym, ap, subst, arith, List, [], ◌∷◌, Some, None, codes, bytes_eq, slice_get}
use Rattle.std.proofs.lemmas.Option.{same_Some}
use Rattle.clap.specs.Walk.{Text, arg_by_id, arg_by_index, arg_by_long}
use Rattle.command_words.{specs.Commands.is_known, proofs.PartLemmas.{IsOption, Known, is_name, workers, callers, snaps, attempts, every}, proofs.LeafRules.{IsLeaf, differs, option_taker, run_rules, word_taker}}

abbrev pub run_places : List Text
run_places = codes "script" ∷ codes "feed" ∷ []

long_of : (name : Text) → Known name → is_known (codes "run") name ≡ true → arg_by_long run_rules name ≡ Some (option_taker name)
long_of name workers is = refl
long_of name callers is = refl
long_of name snaps is = refl
long_of name attempts is = refl
long_of name every is = cc

by_long : (name : Text) → IsOption (codes "run") name → arg_by_long run_rules name ≡ Some (option_taker name)
by_long name is = long_of name is.named is.taken

no_long : (name : Text) → is_known (codes "run") name ≡ false → arg_by_long run_rules name ≡ None
no_long name none =
    rw (
      differs (codes "run") name (codes "workers") refl none,
      differs (codes "run") name (codes "callers") refl none,
      differs (codes "run") name (codes "snaps") refl none,
      differs (codes "run") name (codes "attempts") refl none,
    ) refl

name_of : (name : Text) → Known name → is_known (codes "run") name ≡ true → arg_by_id run_rules name ≡ Some (option_taker name)
name_of name workers is = refl
name_of name callers is = refl
name_of name snaps is = refl
name_of name attempts is = refl
name_of name every is = cc

by_name : (name : Text) → IsOption (codes "run") name → arg_by_id run_rules name ≡ Some (option_taker name)
by_name name is = name_of name is.named is.taken

by_word : (i : ℕ) (name : Text) → slice_get run_places i ≡ Some name → arg_by_id run_rules name ≡ Some (word_taker (i + 1) name)
by_word zero name e = subst (λ (n : Text). arg_by_id run_rules n ≡ Some (word_taker 1 n)) (same_Some (codes "script") name e) refl
by_word (suc zero) name e = subst (λ (n : Text). arg_by_id run_rules n ≡ Some (word_taker 2 n)) (same_Some (codes "feed") name e) refl
by_word (suc (suc i)) name e = cc

by_place : (i : ℕ) (name : Text) → slice_get run_places i ≡ Some name → arg_by_index run_rules (i + 1) ≡ Some (word_taker (i + 1) name)
by_place zero name e = ap (λ (n : Text). Some (word_taker 1 n)) (same_Some (codes "script") name e)
by_place (suc zero) name e = ap (λ (n : Text). Some (word_taker 2 n)) (same_Some (codes "feed") name e)
by_place (suc (suc i)) name e = cc

unknown : (i : ℕ) (name : Text) → slice_get run_places i ≡ Some name → is_name name ≡ false
unknown zero name e = subst (λ (n : Text). is_name n ≡ false) (same_Some (codes "script") name e) refl
unknown (suc zero) name e = subst (λ (n : Text). is_name n ≡ false) (same_Some (codes "feed") name e) refl
unknown (suc (suc i)) name e = cc

script_apart : codes "script" ≡ codes "feed" → ⊥
script_apart e = let same : bytes_eq (codes "feed") (codes "feed") ≡ bytes_eq (codes "script") (codes "feed") = ap (λ (n : Text). bytes_eq n (codes "feed")) (sym e) in cc

apart : (i j : ℕ) (name : Text) → slice_get run_places i ≡ Some name → slice_get run_places j ≡ Some name → i ≡ j
apart zero zero name e f = refl
apart zero (suc zero) name e f = absurd (script_apart (cc))
apart zero (suc (suc j)) name e f = cc
apart (suc zero) zero name e f = absurd (script_apart (cc))
apart (suc zero) (suc zero) name e f = refl
apart (suc zero) (suc (suc j)) name e f = cc
apart (suc (suc i)) j name e f = cc

pub run_leaf : IsLeaf (codes "run") run_rules run_places
run_leaf = record {
  by_long = by_long;
  no_long = no_long;
  no_short = λ char. refl;
  by_name = by_name;
  by_word = by_word;
  by_place = by_place;
  past = refl;
  defaults = (refl, (refl, (refl, (refl, (refl, (refl, tt))))));
  required = λ rows. refl;
  unknown = unknown;
  apart = apart;
  few = omega arith;
}
