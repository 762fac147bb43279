-- The arguments of `demo`.
use Rattle.std.proofs.Common.{◌≡◌, ◌+◌, ℕ, zero, suc, true, false, refl, ap, subst, arith, List, [], ◌∷◌, Some, None, codes, slice_get}
use Rattle.std.proofs.lemmas.Option.{same_Some}
use Rattle.clap.specs.Walk.{Text, arg_by_id, arg_by_index, arg_by_long}
use Rattle.command_words.{specs.Commands.is_known, proofs.PartLemmas.{IsOption, Known, is_name, workers, callers, snaps, attempts, every}, proofs.LeafRules.{IsLeaf, differs, option_taker, demo_rules, word_taker}}

abbrev pub demo_places : List Text
demo_places = codes "steps" ∷ []

long_of : (name : Text) → Known name → is_known (codes "demo") name ≡ true → arg_by_long demo_rules name ≡ Some (option_taker name)
long_of name workers is = refl
long_of name callers is = refl
long_of name snaps is = refl
long_of name attempts is = refl
long_of name every is = cc

by_long : (name : Text) → IsOption (codes "demo") name → arg_by_long demo_rules name ≡ Some (option_taker name)
by_long name is = long_of name is.named is.taken

no_long : (name : Text) → is_known (codes "demo") name ≡ false → arg_by_long demo_rules name ≡ None
no_long name none =
    rw (
      differs (codes "demo") name (codes "workers") refl none,
      differs (codes "demo") name (codes "callers") refl none,
      differs (codes "demo") name (codes "snaps") refl none,
      differs (codes "demo") name (codes "attempts") refl none,
    ) refl

name_of : (name : Text) → Known name → is_known (codes "demo") name ≡ true → arg_by_id demo_rules name ≡ Some (option_taker name)
name_of name workers is = refl
name_of name callers is = refl
name_of name snaps is = refl
name_of name attempts is = refl
name_of name every is = cc

by_name : (name : Text) → IsOption (codes "demo") name → arg_by_id demo_rules name ≡ Some (option_taker name)
by_name name is = name_of name is.named is.taken

by_word : (i : ℕ) (name : Text) → slice_get demo_places i ≡ Some name → arg_by_id demo_rules name ≡ Some (word_taker (i + 1) name)
by_word zero name e = subst (λ (n : Text). arg_by_id demo_rules n ≡ Some (word_taker 1 n)) (same_Some (codes "steps") name e) refl
by_word (suc i) name e = cc

by_place : (i : ℕ) (name : Text) → slice_get demo_places i ≡ Some name → arg_by_index demo_rules (i + 1) ≡ Some (word_taker (i + 1) name)
by_place zero name e = ap (λ (n : Text). Some (word_taker 1 n)) (same_Some (codes "steps") name e)
by_place (suc i) name e = cc

unknown : (i : ℕ) (name : Text) → slice_get demo_places i ≡ Some name → is_name name ≡ false
unknown zero name e = subst (λ (n : Text). is_name n ≡ false) (same_Some (codes "steps") name e) refl
unknown (suc i) name e = cc

apart : (i j : ℕ) (name : Text) → slice_get demo_places i ≡ Some name → slice_get demo_places j ≡ Some name → i ≡ j
apart zero zero name e f = refl
apart zero (suc j) name e f = cc
apart (suc i) j name e f = cc

pub demo_leaf : IsLeaf (codes "demo") demo_rules demo_places
demo_leaf = record {
  by_long = by_long;
  no_long = no_long;
  no_short = λ char. refl;
  by_name = by_name;
  by_word = by_word;
  by_place = by_place;
  past = refl;
  defaults = (refl, (refl, (refl, (refl, (refl, tt)))));
  required = λ rows. refl;
  unknown = unknown;
  apart = apart;
  few = omega arith;
}
