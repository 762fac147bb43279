-- The record of the modified columns, read back.
use Rattle.std.proofs.Common.{◌≡◌, refl, ap, sym, ◌∙◌, true, false, true≢false, cond, ℕ, ◌<◌, arith, List, [], ◌∷◌, ◌++◌, length, map, get_or}
use Rattle.std.{specs.Prelude.{nat_eq, Option, Some, None, Result, nat_lt, Ok, Err}, specs.Cmp.Lexicographic.{pointwise, bytes_decides}, specs.List.position_or_len, proofs.lemmas.Bool.lt-ltb, proofs.lemmas.List.{append-nil, get_or-map, length-map}, proofs.lemmas.List.Sums.position_or_len_is}
use Rattle.tick_model.{specs.declared.plan.ColumnSpec.ColumnSpec, specs.declared.plan.Kind.TheVariants.Long, specs.Names.are_distinct, specs.Texts.{column_name, columns_record, records_text, record_text}}
use Rattle.update_text.{specs.declared.printed.PrintedFault.PrintedFault, specs.Reading.{Gives, has_comma, has_tag, next_fields}, proofs.Apart.names_apart, proofs.Backwards.place_same, proofs.ReadRows.tagged_text}

abbrev pub blank : ColumnSpec
blank = record { name = []; kind = Long }

pub name_at : (columns : List ColumnSpec) (k : ℕ) → k < length columns → column_name columns k ≡ (get_or columns k blank).name
name_at columns k less = get_or-map (λ (spec : ColumnSpec). spec.name) columns k blank [] less

-- the place of a name is its own
pub place_found : {X : Type 0} (name_of : X → List ℕ) (xs : List X) (d : X) (place : ℕ) (name : List ℕ) → are_distinct (map name_of xs) ≡ true → place < length xs → name ≡ name_of (get_or xs place d) →
    cond (nat_lt (position_or_len (λ x. pointwise nat_eq (name_of x) name) xs) (length xs)) (Some (position_or_len (λ x. pointwise nat_eq (name_of x) name) xs)) None ≡ Some place
place_found name_of xs d place name distinct less named =
    let found = position_or_len_is (λ x. pointwise nat_eq (name_of x) name) xs place d (omega arith) below (λ _. (bytes_decides (name_of (get_or xs place d)) name).1 (sym named)) in
    ap (λ n. let o : Option ℕ = cond (nat_lt n (length xs)) (Some n) None in o) found
    ∙ ap (λ b. let o : Option ℕ = cond b (Some place) None in o) (lt-ltb place (length xs) less)
  where
    named_at : (k : ℕ) → k < length xs → get_or (map name_of xs) k [] ≡ name_of (get_or xs k d)
    named_at k within = get_or-map name_of xs k d [] within

    below : (k : ℕ) → k < place → pointwise nat_eq (name_of (get_or xs k d)) name ≡ false
    below k before =
        (elim (pointwise nat_eq (name_of (get_or xs k d)) name) as (λ b. pointwise nat_eq (name_of (get_or xs k d)) name ≡ b → b ≡ false) [
          | true ↦ λ e.
              let count : length (map name_of xs) ≡ length xs = length-map xs name_of in
              let own : k < length xs = omega arith in
              let same : k ≡ place = place_same (map name_of xs) k place [] (names_apart (map name_of xs) distinct) (omega arith) (omega arith) (named_at k own ∙ (bytes_decides (name_of (get_or xs k d)) name).0 e ∙ named ∙ sym (named_at place less)) in
              absurd (omega arith)
          | false ↦ λ e. refl
        ]) refl

-- the names that are still to come
pub names_ahead : (columns : List ColumnSpec) (todo : List ℕ) (rest bytes : List ℕ) → bytes ≡ next_fields (map (column_name columns) todo) rest → has_comma bytes ≡ true →
    (place : ℕ) × (later : List ℕ) × (todo ≡ place ∷ later) × (bytes ≡ next_fields (column_name columns place ∷ map (column_name columns) later) rest)
names_ahead columns [] rest bytes e comma = absurd (true≢false (sym comma ∙ ap has_comma e))
names_ahead columns (place ∷ later) rest bytes e comma = (place, later, refl, e)

pub names_done : (columns : List ColumnSpec) (todo : List ℕ) (rest bytes : List ℕ) → bytes ≡ next_fields (map (column_name columns) todo) rest → has_comma bytes ≡ false → (todo ≡ []) × (bytes ≡ next_fields [] rest)
names_done columns [] rest bytes e none = (refl, e)
names_done columns (place ∷ later) rest bytes e none = absurd (true≢false (sym (ap has_comma e) ∙ none))

columns_text : (columns : List ColumnSpec) (place : ℕ) (later : List ℕ) (rest : List ℕ) → records_text (columns_record columns (place ∷ later)) ++ rest ≡ 99 ∷ next_fields (map (column_name columns) (place ∷ later)) rest
columns_text columns place later rest =
    ap (λ (text : List ℕ). text ++ rest) (append-nil (record_text ((99 ∷ []) ∷ map (column_name columns) (place ∷ later))))
    ∙ tagged_text 99 (column_name columns place) (map (column_name columns) later) rest refl

pub columns_ahead : (columns : List ColumnSpec) (places : List ℕ) (rest bytes : List ℕ) → bytes ≡ records_text (columns_record columns places) ++ rest → has_tag 99 rest ≡ false → has_tag 99 bytes ≡ true →
    bytes ≡ 99 ∷ next_fields (map (column_name columns) places) rest
columns_ahead columns [] rest bytes e ends here = absurd (true≢false (sym here ∙ ap (has_tag 99) e ∙ ends))
columns_ahead columns (place ∷ later) rest bytes e ends here = e ∙ columns_text columns place later rest

pub columns_absent : (columns : List ColumnSpec) (places : List ℕ) (rest bytes : List ℕ) → bytes ≡ records_text (columns_record columns places) ++ rest → has_tag 99 bytes ≡ false → (places ≡ []) × (bytes ≡ rest)
columns_absent columns [] rest bytes e none = (refl, e)
columns_absent columns (place ∷ later) rest bytes e none =
    absurd (true≢false (sym (ap (has_tag 99) (e ∙ columns_text columns place later rest)) ∙ none))

pub gives_both : {T : Type 0} (result : Result T PrintedFault) (P : T → Type 0) (Q : Type 0) → Gives result P → Q → Gives result (λ x. P x × Q)
gives_both (Ok x) P Q h q = (h, q)
gives_both (Err fault) P Q h q = h
