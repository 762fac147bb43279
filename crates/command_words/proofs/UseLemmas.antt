-- The uses of arguments, each with one value, and what `clap` keeps of them.
use Rattle.std.proofs.Common.{◌≡◌, ◌∙◌, ℕ, Bool, true, false, refl, sym, ap, List, [], ◌∷◌, ◌++◌, map, Option, Some, None, is_some, bytes_eq, cond}
use Rattle.std.{proofs.lemmas.Bool.{false_from_ne_true, or_parts}, proofs.lemmas.Slice.Eq.bytes_eq-Decides, proofs.lemmas.List.{append-nil, map-append}}
use Rattle.clap.{specs.Walk.{Row, Rule, Text, at_row, first_of, has_row, more_values, used}, specs.Simple.new_rule, specs.Takes.is_given, specs.Faults.use_fault, specs.declared.builder.action.ArgAction.TheVariants.Set, specs.declared.builder.value_parser.Reading.TheVariants.AsWritten, specs.declared.parser.matches.ValueSource.TheVariants.CommandLine}
use Rattle.clap.specs.declared.builder.value_parser.ValueParser.TheVariants as vp
use Rattle.clap.specs.declared.error.kind.ErrorKind.TheVariants as kind

-- a name with a value
abbrev pub Use : Type 0
Use = Text × Text

-- what `clap` keeps of a use
abbrev pub row_of_use : Use → Row
row_of_use u = record { id = u.0; values = u.1 ∷ []; count = None; source = Some CommandLine; reading = AsWritten }

abbrev pub rows_of_uses : List Use → List Row
rows_of_uses = map row_of_use

-- the first value of a name
abbrev pub value_in : Text → List Use → Option Text
value_in name [] = None
value_in name (u ∷ uses) = cond (bytes_eq u.0 name) (Some u.1) (value_in name uses)

pub bytes_same : (xs ys : Text) → bytes_eq xs ys ≡ true → xs ≡ ys
bytes_same xs ys e = (bytes_eq-Decides xs ys).0 e

pub bytes_self : (xs : Text) → bytes_eq xs xs ≡ true
bytes_self xs = (bytes_eq-Decides xs xs).1 refl

pub bytes_apart : (xs ys : Text) → (xs ≡ ys → ⊥) → bytes_eq xs ys ≡ false
bytes_apart xs ys apart = false_from_ne_true (bytes_eq xs ys) (λ same. apart (bytes_same xs ys same))

-- ---- rows

pub first_of-rows : (name : Text) (uses : List Use) → first_of name (rows_of_uses uses) ≡ value_in name uses
first_of-rows name [] = refl
first_of-rows name (u ∷ uses) = go (bytes_eq u.0 name) refl (first_of-rows name uses)
  where
    go : (t : Bool) → bytes_eq u.0 name ≡ t → first_of name (rows_of_uses uses) ≡ value_in name uses → first_of name (rows_of_uses (u ∷ uses)) ≡ value_in name (u ∷ uses)
    go true e h = rw e refl
    go false e h = rw e h

pub has_row-rows : (name : Text) (uses : List Use) → has_row name (rows_of_uses uses) ≡ is_some (value_in name uses)
has_row-rows name [] = refl
has_row-rows name (u ∷ uses) = go (bytes_eq u.0 name) refl (has_row-rows name uses)
  where
    go : (t : Bool) → bytes_eq u.0 name ≡ t → has_row name (rows_of_uses uses) ≡ is_some (value_in name uses) → has_row name (rows_of_uses (u ∷ uses)) ≡ is_some (value_in name (u ∷ uses))
    go true e h = rw e refl
    go false e h = rw e h

pub is_given-rows : (name : Text) (uses : List Use) → is_given name (rows_of_uses uses) ≡ is_some (value_in name uses)
is_given-rows name [] = refl
is_given-rows name (u ∷ uses) = go (bytes_eq u.0 name) refl (is_given-rows name uses)
  where
    go : (t : Bool) → bytes_eq u.0 name ≡ t → is_given name (rows_of_uses uses) ≡ is_some (value_in name uses) → is_given name (rows_of_uses (u ∷ uses)) ≡ is_some (value_in name (u ∷ uses))
    go true e h = rw e refl
    go false e h = rw e h

-- ---- one more use

pub value_in-push : (name other value : Text) (uses : List Use) → bytes_eq name other ≡ true → value_in other uses ≡ None
    → value_in other (uses ++ (name, value) ∷ []) ≡ Some value
value_in-push name other value [] same none = rw same refl
value_in-push name other value (u ∷ uses) same none = go (bytes_eq u.0 other) refl (λ later. value_in-push name other value uses same later)
  where
    go : (t : Bool) → bytes_eq u.0 other ≡ t → (value_in other uses ≡ None → value_in other (uses ++ (name, value) ∷ []) ≡ Some value)
        → value_in other (u ∷ (uses ++ (name, value) ∷ [])) ≡ Some value
    go true e h = let some : Some u.1 ≡ None = (rw e at none) in cc
    go false e h = rw e (h (rw e at none))

pub value_in-push_other : (name other value : Text) (uses : List Use) → bytes_eq name other ≡ false
    → value_in other (uses ++ (name, value) ∷ []) ≡ value_in other uses
value_in-push_other name other value [] apart = rw apart refl
value_in-push_other name other value (u ∷ uses) apart = ap (cond (bytes_eq u.0 other) (Some u.1)) (value_in-push_other name other value uses apart)

at_row-none : (name : Text) (change : Row → List Row) (missing rows : List Row) → has_row name rows ≡ false → at_row name change missing rows ≡ rows ++ missing
at_row-none name change missing [] none = refl
at_row-none name change missing (r ∷ rows) none =
    let parts = or_parts (bytes_eq r.id name) (has_row name rows) none in
    rw parts.0 (ap (λ rs. r ∷ rs) (at_row-none name change missing rows parts.1))

-- ---- a use of a rule that takes one value

abbrev pub taker : Text → Option Text → Option ℕ → Bool → Rule
taker name long index required = record (new_rule name) {
  long = long;
  index = index;
  required = required;
  action = Some Set;
  parser = Some vp.String;
  range = Some (record { start_inclusive = 1; end_inclusive = 1 });
}

module _ (name value : Text) (long : Option Text) (index : Option ℕ) (required : Bool) (uses : List Use) where
  pub used_new : value_in name uses ≡ None → used (taker name long index required) (value ∷ []) (rows_of_uses uses) ≡ rows_of_uses (uses ++ (name, value) ∷ [])
  used_new none =
      let rows = rows_of_uses uses in
      let lacks : has_row name rows ≡ false = has_row-rows name uses ∙ ap is_some none in
      let gone : at_row name (λ _. []) [] rows ≡ rows = at_row-none name (λ _. []) [] rows lacks ∙ append-nil rows in
      rw gone (at_row-none name (more_values CommandLine (value ∷ [])) (row_of_use (name, value) ∷ []) rows lacks ∙ sym (map-append row_of_use uses ((name, value) ∷ [])))

  pub use_passes : value_in name uses ≡ None → use_fault false (taker name long index required) (value ∷ []) (rows_of_uses uses) ≡ []
  use_passes none =
      let lacks : has_row name (rows_of_uses uses) ≡ false = has_row-rows name uses ∙ ap is_some none in
      rw lacks refl

  pub use_repeats : (other : Text) → value_in name uses ≡ Some other → use_fault false (taker name long index required) (value ∷ []) (rows_of_uses uses) ≡ kind.ArgumentConflict ∷ []
  use_repeats other some =
      let has : has_row name (rows_of_uses uses) ≡ true = has_row-rows name uses ∙ ap is_some some in
      rw has refl
