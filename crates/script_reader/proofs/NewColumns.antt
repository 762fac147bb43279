-- New columns, one behind the other.
use Rattle.std.proofs.Common.{◌≡◌, refl, ap, sym, ◌∙◌, ℕ, zero, suc, ◌+◌, ◌<◌, min, arith, List, [], ◌∷◌, ◌++◌, length, map, take, get_or, Option, append_assoc}
use Rattle.std.{specs.Prelude.unwrap_or, proofs.lemmas.List.{take_more, map_push, length-map, length-take-le}}
use Rattle.tick_model.{specs.declared.plan.ColumnSpec.ColumnSpec, specs.declared.plan.Kind.Kind, specs.declared.plan.Kind.TheVariants.Long}
use Rattle.script_reader.specs.Checks.{named_columns}

named_push : (names : List (List ℕ)) (kinds : List (Option Kind)) (name : List ℕ) (kind : Option Kind) → length names ≡ length kinds
    → named_columns (names ++ name ∷ []) (kinds ++ kind ∷ []) ≡ named_columns names kinds ++ record { name = name; kind = unwrap_or kind Long } ∷ []
named_push [] [] name kind h = refl
named_push [] (k ∷ kinds) name kind h = absurd (omega arith)
named_push (n ∷ names) [] name kind h = absurd (omega arith)
named_push (n ∷ names) (k ∷ kinds) name kind h = ap (λ columns. record { name = n; kind = unwrap_or k Long } ∷ columns) (named_push names kinds name kind (omega arith))

module _ {X : Type 0} (name : X → List ℕ) where
  -- one more
  pub named_more : (start columns : List ColumnSpec) (column : ColumnSpec) (xs : List X) (kinds : List (Option Kind)) (n : ℕ) (x : X) (kind : Option Kind) → n < length xs → n < length kinds → x ≡ get_or xs n x → kind ≡ get_or kinds n kind
      → column.name ≡ name x → column.kind ≡ unwrap_or kind Long → columns ≡ start ++ named_columns (map name (take n xs)) (take n kinds)
      → columns ++ column ∷ [] ≡ start ++ named_columns (map name (take (n + 1) xs)) (take (n + 1) kinds)
  named_more start columns column xs kinds n x kind in_xs in_kinds is_x is_kind named kinded so_far =
      let own : column ≡ record { name = name x; kind = unwrap_or kind Long } =
      ap (λ n. let c : ColumnSpec = record { name = n; kind = column.kind } in c) named ∙ ap (λ k. let c : ColumnSpec = record { name = name x; kind = k } in c) kinded in
      let names : map name (take (n + 1) xs) ≡ map name (take n xs) ++ name x ∷ [] =
      ap (map name) (take_more xs n x in_xs ∙ ap (λ last. take n xs ++ last ∷ []) (sym is_x)) ∙ map_push name (take n xs) x in
      let others : take (n + 1) kinds ≡ take n kinds ++ kind ∷ [] = take_more kinds n kind in_kinds ∙ ap (λ last. take n kinds ++ last ∷ []) (sym is_kind) in
      let long : length (map name (take n xs)) ≡ length (take n kinds) = length-map (take n xs) name ∙ length-take-le n xs (omega arith) ∙ sym (length-take-le n kinds (omega arith)) in
      ap (λ columns. columns ++ column ∷ []) so_far ∙ append_assoc start (named_columns (map name (take n xs)) (take n kinds)) (column ∷ [])
      ∙ ap (λ rest. start ++ rest) (ap (λ (c : ColumnSpec). named_columns (map name (take n xs)) (take n kinds) ++ c ∷ []) own
      ∙ sym (ap (λ names. named_columns names (take (n + 1) kinds)) names ∙ ap (named_columns (map name (take n xs) ++ name x ∷ [])) others ∙ named_push (map name (take n xs)) (take n kinds) (name x) kind long))

  -- the last one
  pub named_all : (n : ℕ) (xs : List X) (kinds : List (Option Kind)) → n ≡ min (length xs) (length kinds) → named_columns (map name (take n xs)) (take n kinds) ≡ named_columns (map name xs) kinds
  named_all zero [] kinds h = refl
  named_all zero (x ∷ xs) [] h = refl
  named_all zero (x ∷ xs) (k ∷ kinds) h = absurd (omega arith)
  named_all (suc n) [] kinds h = absurd (omega arith)
  named_all (suc n) (x ∷ xs) [] h = absurd (omega arith)
  named_all (suc n) (x ∷ xs) (k ∷ kinds) h = ap (λ columns. record { name = name x; kind = unwrap_or k Long } ∷ columns) (named_all n xs kinds (omega arith))
