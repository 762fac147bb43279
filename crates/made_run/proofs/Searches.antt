-- Searches that find nothing, and faults that do not come.
use Rattle.std.proofs.Common.{◌≡◌, refl, ap, sym, ◌∙◌, true, List, [], ◌∷◌, Option, None}
use Rattle.std.{specs.Prelude.{option_map, filter_map}, specs.List.cons_option, specs.Option.option_or}

pub or_none : {X : Type 0} (a b : Option X) → a ≡ None → b ≡ None → option_or a b ≡ None
or_none a b first second = ap (λ o. option_or o b) first ∙ second

pub mapped_none : {X Y : Type 0} (f : X → Y) (o : Option X) → o ≡ None → option_map f o ≡ None
mapped_none f o none = ap (option_map f) none

pub filter_map_none : {X Y : Type 0} (f : X → Option Y) (xs : List X) → ((x : X) → f x ≡ None) → filter_map f xs ≡ []
filter_map_none f [] h = refl
filter_map_none f (x ∷ xs) h = ap (λ first. cons_option first (filter_map f xs)) (h x) ∙ filter_map_none f xs h
