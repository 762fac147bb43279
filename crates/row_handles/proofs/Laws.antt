-- Keys and handles after rows came, left and moved, for those who keep lists of handles.
use Rattle.std.proofs.Common.{◌≡◌, ◌≢◌, refl, ap, sym, ◌∙◌, Bool, true, false, cond, not, ℕ, ◌<◌, arith, List, [], ◌∷◌, inl, inr, ltb, ltb-true, ◌==◌, Option, Some, None}
use Rattle.std.{specs.List.AllByRecursion, proofs.lemmas.Bool.{ne_eqb, eq-eqb, eqb-true, cases_eq}, proofs.lemmas.Option.same_Some}
use Rattle.key_lists.{specs.Keys.is_among, proofs.Every.{every_weaker, every_unmapped}}
use Rattle.row_handles.{specs.Entries.{Entry, entry_of, handles_of, handle_under, key_with, with_row, left_rows, AreDistinct, AreHandled}, proofs.Lists.none_some, proofs.EntryLists.none_with}

-- the handle of a row that came, and those of the others
pub handle_under-with_row : (other key handle : ℕ) (xs : List Entry) → handle_under other (with_row key handle xs) ≡ cond (key == other) (Some handle) (handle_under other xs)
handle_under-with_row other key handle [] = refl
handle_under-with_row other key handle (x ∷ xs) =
    (elim (ltb x.key key) as (λ b. ltb x.key key ≡ b → handle_under other (cond b (x ∷ with_row key handle xs) (entry_of key handle ∷ x ∷ xs)) ≡ cond (key == other) (Some handle) (handle_under other (x ∷ xs))) [
      | true ↦ λ e. (elim (x.key == other) as (λ b. (x.key == other) ≡ b → cond b (Some x.handle) (handle_under other (with_row key handle xs)) ≡ cond (key == other) (Some handle) (cond b (Some x.handle) (handle_under other xs))) [
        | true ↦ λ same. sym (ap (λ b. cond b (Some handle) (Some x.handle)) (ne_eqb key other (λ d. apart x.key key other (ltb-true x.key key e) (eqb-true x.key other same) d)))
        | false ↦ λ differs. handle_under-with_row other key handle xs
      ]) refl
      | false ↦ λ e. refl
    ]) refl
  where
    apart : (a b c : ℕ) → a < b → a ≡ c → b ≡ c → ⊥
    apart a b c lt e f = omega arith

-- the handles after rows left
pub handle_under-left : (key : ℕ) (gone : List ℕ) (xs : List Entry) → handle_under key (left_rows gone xs) ≡ cond (is_among key gone) None (handle_under key xs)
handle_under-left key gone [] = either_none (is_among key gone)
  where
    either_none : (b : Bool) → ◌≡◌ {A = Option ℕ} None (cond b None None)
    either_none true = refl
    either_none false = refl
handle_under-left key gone (x ∷ xs) =
    elim (cases_eq x.key key) [
      | inl same ↦ here same (handle_under-left key gone xs)
      | inr other ↦ there other (handle_under-left key gone xs)
    ]
  where
    here : x.key ≡ key → handle_under key (left_rows gone xs) ≡ cond (is_among key gone) None (handle_under key xs) → handle_under key (left_rows gone (x ∷ xs)) ≡ cond (is_among key gone) None (handle_under key (x ∷ xs))
    here same rest =
        (elim (is_among x.key gone) as (λ b. is_among x.key gone ≡ b → handle_under key (cond (not b) (x ∷ left_rows gone xs) (left_rows gone xs)) ≡ cond (is_among key gone) None (handle_under key (x ∷ xs))) [
          | true ↦ λ e.
              let out : is_among key gone ≡ true = ap (λ k. is_among k gone) (sym same) ∙ e in
              rest ∙ ap (λ b. cond b None (handle_under key xs)) out ∙ sym (ap (λ b. cond b None (handle_under key (x ∷ xs))) out)
          | false ↦ λ e.
              let stays : is_among key gone ≡ false = ap (λ k. is_among k gone) (sym same) ∙ e in
              ap (λ b. cond b (Some x.handle) (handle_under key (left_rows gone xs))) (eq-eqb x.key key same)
              ∙ sym (ap (λ b. cond b (Some x.handle) (handle_under key xs)) (eq-eqb x.key key same))
              ∙ sym (ap (λ b. cond b None (handle_under key (x ∷ xs))) stays)
        ]) refl

    there : x.key ≢ key → handle_under key (left_rows gone xs) ≡ cond (is_among key gone) None (handle_under key xs) → handle_under key (left_rows gone (x ∷ xs)) ≡ cond (is_among key gone) None (handle_under key (x ∷ xs))
    there other rest =
        (elim (is_among x.key gone) as (λ b. handle_under key (cond (not b) (x ∷ left_rows gone xs) (left_rows gone xs)) ≡ handle_under key (left_rows gone xs)) [
          | true ↦ refl
          | false ↦ ap (λ b. cond b (Some x.handle) (handle_under key (left_rows gone xs))) (ne_eqb x.key key other)
        ])
        ∙ rest
        ∙ ap (λ handle. cond (is_among key gone) None handle) (sym (ap (λ b. cond b (Some x.handle) (handle_under key xs)) (ne_eqb x.key key other)))

-- keys and handles are one to one
key_of_handle : (key handle : ℕ) (xs : List Entry) → AreDistinct (handles_of xs) → handle_under key xs ≡ Some handle → key_with handle xs ≡ Some key
key_of_handle key handle [] apart e = absurd (none_some handle e)
key_of_handle key handle (x ∷ xs) apart e =
    elim (cases_eq x.key key) [
      | inl same ↦
          let own : x.handle ≡ handle = same_Some x.handle handle (sym (ap (λ b. cond b (Some x.handle) (handle_under key xs)) (eq-eqb x.key key same)) ∙ e) in
          ap (λ b. cond b (Some x.key) (key_with handle xs)) (eq-eqb x.handle handle own) ∙ ap Some same
      | inr other ↦
          let later : handle_under key xs ≡ Some handle = sym (ap (λ b. cond b (Some x.handle) (handle_under key xs)) (ne_eqb x.key key other)) ∙ e in
          let rest = key_of_handle key handle xs apart.1 later in
          ap (λ b. cond b (Some x.key) (key_with handle xs)) (ne_eqb x.handle handle (λ d. not_there rest (every_weaker (λ y. x.handle ≢ y.handle) (λ y. y.handle ≢ handle) xs (λ y ne f. ne (d ∙ sym f)) (every_unmapped (λ h. x.handle ≢ h) (λ y. y.handle) xs apart.0))))
          ∙ rest
    ]
  where
    not_there : key_with handle xs ≡ Some key → AllByRecursion (λ y. y.handle ≢ handle) xs → ⊥
    not_there rest none = none_some key (sym (none_with handle xs none) ∙ rest)

pub key_under_handle : (key handle : ℕ) (xs : List Entry) → AreHandled xs → handle_under key xs ≡ Some handle → key_with handle xs ≡ Some key
key_under_handle key handle xs handled = key_of_handle key handle xs handled.handles
