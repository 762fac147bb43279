-- What `clap` answers is what is found in the words.
use Rattle.std.proofs.Common.{◌≡◌, ◌∙◌, inl, inr, Bool, true, false, refl, sym, ap, subst, arith, List, [], ◌∷◌, length, Option, Some, None, if◌then◌else◌}
use Rattle.std.proofs.lemmas.Bool.{ne_eqb}
use Rattle.clap.{specs.Walk.{Row, Text, is_empty}, specs.Simple.{App, is_simple, subcommand_of}, specs.Faults.{fault_of, is_simple_and_free}, specs.Kinds.{HasKind, Kinds}, specs.Values.kind_of, specs.declared.error.Error.Error}
use Rattle.clap.specs.declared.error.kind.ErrorKind.TheVariants as kind
use Rattle.command_words.specs.Program.{found_in, program_app}

abbrev found_by : List Text → Kinds → Option (Option (Text × List Row))
found_by words fault = if is_empty fault then Some (subcommand_of program_app words) else None

module _ (app : App) (words : List Text) (same : app ≡ program_app) where
  pub matches_found : (rows : Option (Text × List Row)) → (is_simple app ≡ true → rows ≡ subcommand_of app words) → (is_simple_and_free app ≡ true → fault_of app words ≡ []) → Some rows ≡ found_in words
  matches_found rows matches kinds =
      let rows_are : rows ≡ subcommand_of program_app words = subst (λ (a : App). is_simple a ≡ true → rows ≡ subcommand_of a words) same matches refl in
      let none : fault_of program_app words ≡ [] = subst (λ (a : App). is_simple_and_free a ≡ true → fault_of a words ≡ []) same kinds refl in
      ap (λ (found : Option (Text × List Row)). Some found) rows_are ∙ sym (ap (found_by words) none)

  none_by : (error : Error) (fault : Kinds) → (kind_of error ≡ kind.OutOfMemory → ⊥) → HasKind fault error → None ≡ found_by words fault
  none_by error [] other has = elim has [ inl memory ↦ absurd (other memory) | inr among ↦ absurd among ]
  none_by error (k ∷ ks) other has =
      let full : is_empty (k ∷ ks) ≡ false = ne_eqb (length (k ∷ ks)) 0 (λ none. absurd (omega arith)) in
      sym (ap (λ (b : Bool). if b then Some (subcommand_of program_app words) else None) full)

  pub fault_found : (error : Error) → (is_simple_and_free app ≡ true → HasKind (fault_of app words) error) → (kind_of error ≡ kind.OutOfMemory → ⊥) → None ≡ found_in words
  fault_found error kinds other =
      none_by error (fault_of program_app words) other (subst (λ (a : App). is_simple_and_free a ≡ true → HasKind (fault_of a words) error) same kinds refl)
