-- What a word looks like, to `clap` and by the rules of the words. The two agree.
use Rattle.std.proofs.Common.{◌≡◌, ◌∙◌, ◌+◌, ◌==◌, ◌⊎◌, inl, inr, ℕ, suc, Bool, true, false, refl, sym, ap, ap₂, arith, List, [], ◌∷◌, Option, Some, None, take, drop, if◌then◌else◌, codes, bytes_eq, IsUtf8, chars, encode_utf8_all, slice_get}
use Rattle.std.{specs.Char.encode_utf8, specs.Str.chars as chars_of, specs.List.{list_any, position_or_len}, proofs.lemmas.Bool.Decides.nat_tests, proofs.lemmas.Str.encodes-chars}
use Rattle.clap.specs.Lexer.{long_of, short_of, name_and_value as clap_parts}
use Rattle.command_words.specs.Words.{before_byte, is_positional, name_and_value, option_of}

-- both cut a text at its first equals sign
pub same_parts : (text : List ℕ) → clap_parts text ≡ name_and_value text
same_parts [] = refl
same_parts (b ∷ bs) = go (b == 61) refl (same_parts bs)
  where
    go : (t : Bool) → (b == 61) ≡ t → clap_parts bs ≡ name_and_value bs → clap_parts (b ∷ bs) ≡ name_and_value (b ∷ bs)
    go true e h = rw e refl
    go false e h =
        let n = position_or_len (λ x. x == 61) bs in
        let one : 1 + n ≡ suc n = omega arith in
        let next : (1 + n) + 1 ≡ suc (n + 1) = omega arith in
        rw e (ap₂ (λ (j k : ℕ). (take j (b ∷ bs), if list_any (λ x. x == 61) bs then Some (drop k (b ∷ bs)) else None)) one next ∙ ap (before_byte b) h)

-- two minus signs
pub record IsEnd (word : List ℕ) : Type 0 where
  pub is : bytes_eq word (codes "--") ≡ true
  pub positional : is_positional word ≡ false

-- a word that stands for itself
pub record IsPlain (word : List ℕ) : Type 0 where
  pub differs : bytes_eq word (codes "--") ≡ false
  pub positional : is_positional word ≡ true
  pub long : long_of word ≡ None
  pub short : short_of word ≡ None

-- a minus sign, and then another byte
pub record IsBundle (word : List ℕ) : Type 0 where
  pub differs : bytes_eq word (codes "--") ≡ false
  pub positional : is_positional word ≡ false
  pub option : option_of word ≡ None
  pub long : long_of word ≡ None
  pub byte : ℕ
  pub bytes : List ℕ
  pub short : short_of word ≡ Some (byte ∷ bytes)
  pub char : ℕ
  pub first : slice_get (chars (byte ∷ bytes)) 0 ≡ Some char

-- two minus signs, and then a name, maybe with a value
pub record IsLong (word : List ℕ) : Type 0 where
  pub differs : bytes_eq word (codes "--") ≡ false
  pub positional : is_positional word ≡ false
  pub name : List ℕ
  pub value : Option (List ℕ)
  pub option : option_of word ≡ Some (name, value)
  pub long : long_of word ≡ Some (name, value)

-- past a minus sign a text has a character, unless it ends there
minus_alone : encode_utf8_all (45 ∷ []) ≡ 45 ∷ []
unfolding encode_utf8
minus_alone = refl

chars_past_minus : (bytes : List ℕ) → chars (45 ∷ bytes) ≡ 45 ∷ chars bytes
unfolding chars_of
chars_past_minus [] = refl
chars_past_minus (b ∷ bs) = refl

first_char : (b : ℕ) (bs : List ℕ) → IsUtf8 (45 ∷ b ∷ bs) → (c : ℕ) × (slice_get (chars (b ∷ bs)) 0 ≡ Some c)
first_char b bs text = go (chars (b ∷ bs)) refl
  where
    go : (cs : List ℕ) → chars (b ∷ bs) ≡ cs → (c : ℕ) × (slice_get (chars (b ∷ bs)) 0 ≡ Some c)
    go [] e =
        let whole : 45 ∷ [] ≡ 45 ∷ b ∷ bs = sym minus_alone ∙ ap (λ cs. encode_utf8_all (45 ∷ cs)) (sym e) ∙ ap encode_utf8_all (sym (chars_past_minus (b ∷ bs))) ∙ encodes-chars (45 ∷ b ∷ bs) text in
        cc
    go (c ∷ cs) e = (c, ap (λ xs. slice_get xs 0) e)

abbrev pub Look : List ℕ → Type 0
Look word = IsEnd word ⊎ (IsPlain word ⊎ (IsBundle word ⊎ IsLong word))

after_two : (rest : List ℕ) → Look (45 ∷ 45 ∷ rest)
after_two [] = inl (record { is = refl; positional = refl })
after_two (b ∷ bs) = inr (inr (inr (record {
  differs = refl;
  positional = refl;
  name = (name_and_value (b ∷ bs)).0;
  value = (name_and_value (b ∷ bs)).1;
  option = refl;
  long = ap Some (same_parts (b ∷ bs));
})))

after_one : (b : ℕ) (bs : List ℕ) → IsUtf8 (45 ∷ b ∷ bs) → Look (45 ∷ b ∷ bs)
after_one b bs text = go (b == 45) refl
  where
    go : (t : Bool) → (b == 45) ≡ t → Look (45 ∷ b ∷ bs)
    go true e = let same : b ≡ 45 = grind (arith, nat_tests) in rw same (after_two bs)
    go false e =
        let first = first_char b bs text in
        inr (inr (inl (record {
          differs = rw e refl;
          positional = refl;
          option = rw e refl;
          long = rw e refl;
          byte = b;
          bytes = bs;
          short = rw e refl;
          char = first.0;
          first = first.1;
        })))

pub look : (word : List ℕ) → IsUtf8 word → Look word
look [] text = inr (inl (record { differs = refl; positional = refl; long = refl; short = refl }))
look (a ∷ []) text = go (a == 45) refl
  where
    go : (t : Bool) → (a == 45) ≡ t → Look (a ∷ [])
    go true e = inr (inl (record { differs = rw e refl; positional = refl; long = rw e refl; short = rw e refl }))
    go false e = inr (inl (record { differs = rw e refl; positional = refl; long = rw e refl; short = rw e refl }))
look (a ∷ b ∷ bs) text = go (a == 45) refl
  where
    go : (t : Bool) → (a == 45) ≡ t → Look (a ∷ b ∷ bs)
    go true e =
        let same : a ≡ 45 = grind (arith, nat_tests) in
        rw same (after_one b bs (rw same at text))
    go false e = inr (inl (record { differs = rw e refl; positional = rw e refl; long = rw e refl; short = rw e refl }))
