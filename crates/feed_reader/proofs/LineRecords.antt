-- The records of a text without quotes: its lines, cut at their commas.
use Rattle.std.proofs.Common.{◌≡◌, ℕ, zero, suc, ◌+◌, ◌<◌, List, [], ◌∷◌, ◌++◌, take, drop, get_or, Bool, true, false, cond, eqb, Option, Some, None, refl, sym, ap, ◌∙◌, subst, length, length-drop, ⊎_elim, add-zero, arith}
use Rattle.std.{specs.Prelude.{◌&&◌, not, is_some, option_copied, slice_get}, specs.Option.option_eq, specs.Borrow.Bor, specs.Str.{IsUtf8, IsCharBoundary}, proofs.Math.Numerals.one-add, proofs.lemmas.Bool.{and_parts, eqb-true, false_from_ne_true, or_parts, or_right, cases_lt, cond-true, cond-false, cond_both, not-true, not-false}, proofs.lemmas.Bool.Decides.nat_tests, proofs.lemmas.List.{append-nil, append_assoc, get_or-drop, get_or_default, nil_from_length}, proofs.lemmas.List.Folds.list_any_none, proofs.lemmas.List.Sums.prefix_len_stops, proofs.lemmas.Option.same_Some, proofs.lemmas.Str.{IsCharBoundary-before_ascii, IsCharBoundary-after_ascii, IsCharBoundary-end, IsUtf8-take, IsUtf8-drop}}
use Rattle.csv.{specs.Machine.{Read, next_record, is_end, step, start_field, start_record, in_field, after_end, fields_after, field_after}, specs.Reading.{records_from, records_next, default_config, is_bom, strip_bom}, specs.declared.parser.Action.Action, specs.declared.parser.State.State}
use Rattle.csv.specs.declared.parser.Action.TheVariants as act
use Rattle.csv.specs.declared.parser.State.TheVariants as st
use Rattle.csv.specs.declared.parser.Terminator.TheVariants as term
use Rattle.memchr.specs.Find.{IsFirstByte, is_byte}
use Rattle.script_lines.{specs.Tokens.run_len, proofs.LexemeLemmas.{run_within, run_boundary}}
use Rattle.feed_reader.{specs.Records.{has_quote, ends_line, is_field_byte, plain_left}, proofs.RecordLemmas.{as_left, enough, left_more, nothing_left}}

-- tests
both_not : (a b : Bool) → (not a && not b) ≡ true → (a ≡ false) × (b ≡ false)
both_not a b e = let parts = and_parts (not a) (not b) e in (not-true a parts.0, not-true b parts.1)

second_of : (a b : Bool) → (not a && not b) ≡ false → a ≡ false → b ≡ true
second_of true b e first = cc first
second_of false b e first = not-false b e

twice_not : (b : Bool) → not (not b) ≡ true → b ≡ true
twice_not b e = not-false b (not-true (not b) e)

twice_not_false : (b : Bool) → not (not b) ≡ false → b ≡ false
twice_not_false b e = not-true b (not-false (not b) e)

pub quote_behind : (n : ℕ) (text : List ℕ) → has_quote text ≡ false → has_quote (drop n text) ≡ false
quote_behind zero text none = none
quote_behind (suc n) [] none = none
quote_behind (suc n) (byte ∷ text) none = quote_behind n text (or_parts (eqb byte 34) (has_quote text) none).1

-- a run ends at a byte that fails, or with the text
run_stops : (passes : ℕ → Bool) (text : List ℕ) (n : ℕ) → n ≡ run_len passes text → n < length text → passes (get_or text n 0) ≡ false
run_stops passes text n is before =
    twice_not_false (passes (get_or text n 0))
    (ap (λ (k : ℕ). not (not (passes (get_or text k 0)))) is ∙ prefix_len_stops (λ (byte : ℕ). not (not (passes byte))) text 0 (subst (λ (k : ℕ). k < length text) is before))

-- where a text may be cut
ends_line-ascii : (byte : ℕ) → ends_line byte ≡ true → byte < 128
ends_line-ascii byte ends = grind (arith, nat_tests)

field_end-ascii : (byte : ℕ) → is_field_byte byte ≡ false → byte < 128
field_end-ascii byte ends = grind (arith, nat_tests)

pub line_ends_boundary : (text : List ℕ) (n : ℕ) → IsUtf8 text → n ≡ run_len ends_line text → IsCharBoundary text n
line_ends_boundary text n utf8 is = run_boundary ends_line text n ends_line-ascii utf8 is

pub field_boundary : (text : List ℕ) (n : ℕ) → n ≡ run_len is_field_byte text → IsCharBoundary text n
field_boundary text n is =
    let run = run_within is_field_byte text in
    ⊎_elim
    (λ before. IsCharBoundary-before_ascii text n before (field_end-ascii (get_or text n 0) (run_stops is_field_byte text n is before)))
    (λ all. let whole : length text ≡ n = omega (arith, is, run) in subst (IsCharBoundary text) whole (IsCharBoundary-end text))
    (cases_lt n (length text))

pub field_text : (rest field : List ℕ) (n : ℕ) → n ≡ run_len is_field_byte rest → field ≡ take n rest → IsUtf8 rest → IsUtf8 field
field_text rest field n run front utf8 = subst IsUtf8 (sym front) (IsUtf8-take rest n utf8 (field_boundary rest n run))

pub behind_text : (rest behind : List ℕ) (n : ℕ) → n ≡ run_len is_field_byte rest → behind ≡ drop n rest → IsUtf8 rest → IsUtf8 behind
behind_text rest behind n run back utf8 = subst IsUtf8 (sym back) (IsUtf8-drop rest n utf8 (field_boundary rest n run))

pub comma_boundary : (text : List ℕ) → IsUtf8 text → text ≡ 44 ∷ drop 1 text → IsCharBoundary text 1
comma_boundary text utf8 is =
    IsCharBoundary-after_ascii text 0 utf8 (omega (arith, ap length is)) (omega (arith, ap (λ (all : List ℕ). get_or all 0 0) is))

-- the first byte
abbrev first_is : Option (Bor ℕ) → Bor ℕ → Bool
first_is first byte = option_eq (λ (x y : Bor ℕ). eqb x.now y.now) first (Some byte)

same_first : (byte : ℕ) (later : List ℕ) (first : Option (Bor ℕ)) (other : Bor ℕ) → option_copied first ≡ slice_get (byte ∷ later) 0 → first_is first other ≡ eqb byte other.now
same_first byte later None other at = cc at
same_first byte later (Some x) other at = ap (λ (b : ℕ). eqb b other.now) (same_Some x.now byte at)

pub comma_first : (text : List ℕ) (first : Option (Bor ℕ)) (comma : Bor ℕ) → comma.now ≡ 44 → option_copied first ≡ slice_get text 0 → first_is first comma ≡ true → text ≡ 44 ∷ drop 1 text
comma_first [] None comma is at same = cc same
comma_first [] (Some x) comma is at same = cc at
comma_first (byte ∷ later) first comma is at same = ap (λ (b : ℕ). b ∷ later) (eqb-true byte comma.now (sym (same_first byte later first comma at) ∙ same) ∙ is)

-- a text that begins with another byte than a byte order mark does
no_mark : (first second third : ℕ) → eqb first 239 ≡ false → is_bom first second third ≡ false
no_mark first second third other = ap (λ (b : Bool). (b && eqb second 187) && eqb third 191) other

unmarked : (byte : ℕ) (rest : List ℕ) → eqb byte 239 ≡ false → strip_bom (byte ∷ rest) ≡ byte ∷ rest
unfolding strip_bom
unmarked byte [] other = refl
unmarked byte (second ∷ []) other = refl
unmarked byte (second ∷ third ∷ rest) other = cond-false (is_bom byte second third) rest (byte ∷ second ∷ third ∷ rest) (no_mark byte second third other)

pub no_mark_first : (text : List ℕ) (first : Option (Bor ℕ)) (mark : Bor ℕ) → mark.now ≡ 239 → option_copied first ≡ slice_get text 0 → first_is first mark ≡ false → strip_bom text ≡ text
unfolding strip_bom
no_mark_first [] first mark is at other = refl
no_mark_first (byte ∷ rest) first mark is at other = unmarked byte rest (ap (eqb byte) (sym is) ∙ sym (same_first byte rest first mark at) ∙ other)

-- a search for a quote that finds none
pub no_quote : (text : List ℕ) (found : Option ℕ) → IsFirstByte (is_byte 34) text found → is_some found ≡ false → has_quote text ≡ false
no_quote text (Some place) is none = cc none
no_quote text None is none =
    list_any_none (λ (byte : ℕ). eqb byte 34) text
    (λ (k d : ℕ) within. false_from_ne_true (eqb (get_or text k d) 34) (λ here. is k (omega arith) within (ap (λ (byte : ℕ). eqb byte 34) (get_or_default text k 0 d within) ∙ here)))

-- one byte
abbrev stepped : List (List ℕ) → List ℕ → ℕ → List ℕ → State × Action → Option Read
stepped fields field byte rest to =
    cond (is_end to.1) (Some (fields_after to.1 fields field, to.0, rest)) (next_record default_config to.0 (fields_after to.1 fields field) (field_after to.1 byte field) rest)

by_step : (s : State) (fields : List (List ℕ)) (field : List ℕ) (byte : ℕ) (rest : List ℕ) (to : State × Action) → step default_config s byte ≡ to → next_record default_config s fields field (byte ∷ rest) ≡ stepped fields field byte rest to
unfolding next_record
by_step s fields field byte rest to is = ap (stepped fields field byte rest) is

plain_start : (byte : ℕ) → eqb byte 34 ≡ false → start_field default_config byte ≡ in_field default_config byte
plain_start byte none = cond-false (eqb byte 34) (st.InQuoted, act.Skip) (in_field default_config byte) none

record_start : (byte : ℕ) → ends_line byte ≡ false → eqb byte 34 ≡ false → start_record default_config byte ≡ in_field default_config byte
record_start byte begins none = cond-false (ends_line byte) (st.StartRecord, act.Skip) (start_field default_config byte) begins ∙ plain_start byte none

ended : (byte : ℕ) → eqb byte 44 ≡ false → ends_line byte ≡ true → in_field default_config byte ≡ (after_end term.CRLF byte, act.EndRecord)
ended byte no_comma ends =
    let end : State × Action = (after_end term.CRLF byte, act.EndRecord) in
    let other = cond (ends_line byte) end (st.InField, act.Copy) in
    cond-false (eqb byte 44) (st.StartField, act.EndField) other no_comma ∙ cond-true (ends_line byte) end (st.InField, act.Copy) ends

copied : (byte : ℕ) → is_field_byte byte ≡ true → in_field default_config byte ≡ (st.InField, act.Copy)
copied byte is =
    let end : State × Action = (after_end term.CRLF byte, act.EndRecord) in
    let other = cond (ends_line byte) end (st.InField, act.Copy) in
    let none = both_not (eqb byte 44) (ends_line byte) is in
    cond-false (eqb byte 44) (st.StartField, act.EndField) other none.0 ∙ cond-false (ends_line byte) end (st.InField, act.Copy) none.1

-- a field begins
field_begins : (fields : List (List ℕ)) (text : List ℕ) → has_quote text ≡ false → next_record default_config st.StartField fields [] text ≡ next_record default_config st.InField fields [] text
unfolding next_record
field_begins fields [] none = refl
field_begins fields (byte ∷ rest) none =
    let first = (or_parts (eqb byte 34) (has_quote rest) none).0 in
    by_step st.StartField fields [] byte rest (in_field default_config byte) (plain_start byte first)
    ∙ sym (by_step st.InField fields [] byte rest (in_field default_config byte) refl)

pub record_begins : (fields : List (List ℕ)) (text : List ℕ) → fields ≡ [] → has_quote text ≡ false → 0 < length text → ((byte : ℕ) (later : List ℕ) → text ≡ byte ∷ later → ends_line byte ≡ false) → next_record default_config st.InField fields [] text ≡ next_record default_config st.StartRecord [] [] text
record_begins fields [] empty none some begins = absurd (omega arith)
record_begins fields (byte ∷ rest) empty none some begins =
    let first = (or_parts (eqb byte 34) (has_quote rest) none).0 in
    ap (λ (all : List (List ℕ)). next_record default_config st.InField all [] (byte ∷ rest)) empty
    ∙ by_step st.InField [] [] byte rest (in_field default_config byte) refl
    ∙ sym (by_step st.StartRecord [] [] byte rest (in_field default_config byte) (record_start byte (begins byte rest refl) first))

-- a field
field_read : (fields : List (List ℕ)) (field text : List ℕ) → next_record default_config st.InField fields field text ≡ next_record default_config st.InField fields (field ++ take (run_len is_field_byte text) text) (drop (run_len is_field_byte text) text)
field_read fields field [] = ap (λ (all : List ℕ). next_record default_config st.InField fields all []) (sym (append-nil field))
field_read fields field (byte ∷ rest) =
    let n = run_len is_field_byte rest in
    let P : ℕ → Type 0 = λ len. next_record default_config st.InField fields field (byte ∷ rest) ≡ next_record default_config st.InField fields (field ++ take len (byte ∷ rest)) (drop len (byte ∷ rest)) in
    cond_both (not (not (is_field_byte byte))) (1 + n) 0 P
    (λ is.
    subst P (sym (one-add n))
    (by_step st.InField fields field byte rest (st.InField, act.Copy) (copied byte (twice_not (is_field_byte byte) is))
    ∙ field_read fields (field ++ byte ∷ []) rest
    ∙ ap (λ (all : List ℕ). next_record default_config st.InField fields all (drop n rest)) (append_assoc field (byte ∷ []) (take n rest))))
    (λ _. ap (λ (all : List ℕ). next_record default_config st.InField fields all (byte ∷ rest)) (sym (append-nil field)))

-- the byte that a run stops before
pub stops : (passes : ℕ → Bool) (text : List ℕ) (byte : ℕ) (later : List ℕ) → drop (run_len passes text) text ≡ byte ∷ later → passes byte ≡ false
stops passes text byte later is =
    let n = run_len passes text in
    let longer : length (drop n text) ≡ suc (length later) = ap length is in
    let at : get_or text n 0 ≡ byte = ap (λ (k : ℕ). get_or text k 0) (sym (add-zero n)) ∙ sym (get_or-drop n text 0 0) ∙ ap (λ (all : List ℕ). get_or all 0 0) is in
    subst (λ (b : ℕ). passes b ≡ false) at (run_stops passes text n refl (omega (arith, longer, length-drop n text)))

-- line ends before a record
abbrev left_in : State → List ℕ → List (List (List ℕ))
left_in s text = records_from default_config (suc (length text)) s text

skipped_one : (byte : ℕ) (rest : List ℕ) → ends_line byte ≡ true → left_in st.StartRecord (byte ∷ rest) ≡ left_in st.StartRecord rest
unfolding records_from
skipped_one byte rest ends =
    let skip : start_record default_config byte ≡ (st.StartRecord, act.Skip) = cond-true (ends_line byte) (st.StartRecord, act.Skip) _ ends in
    ap (records_next (records_from default_config (length (byte ∷ rest)))) (by_step st.StartRecord [] [] byte rest (st.StartRecord, act.Skip) skip)
    ∙ enough (suc (length (byte ∷ rest))) (suc (length rest)) st.StartRecord rest (omega arith) (omega arith)

after_return : (text : List ℕ) → next_record default_config st.AfterCr [] [] text ≡ next_record default_config st.StartRecord [] [] text
unfolding next_record
after_return [] = refl
after_return (byte ∷ rest) =
    let to = start_record default_config byte in
    by_step st.AfterCr [] [] byte rest to
    (cond_both (eqb byte 10) (st.StartRecord, act.Skip) to (λ (next : State × Action). next ≡ to)
    (λ feed. sym (cond-true (ends_line byte) (st.StartRecord, act.Skip) _ (or_right (eqb byte 13) (eqb byte 10) feed))) (λ _. refl))
    ∙ sym (by_step st.StartRecord [] [] byte rest to refl)

left_same : (byte : ℕ) (later : List ℕ) → ends_line byte ≡ true → left_in (after_end term.CRLF byte) later ≡ left_in st.StartRecord (byte ∷ later)
unfolding records_from
left_same byte later ends =
    cond_both (eqb byte 13) st.AfterCr st.StartRecord (λ (s : State). left_in s later ≡ left_in st.StartRecord (byte ∷ later))
    (λ _. ap (records_next (records_from default_config (length later))) (after_return later) ∙ sym (skipped_one byte later ends)) (λ _. sym (skipped_one byte later ends))

skipped : (text : List ℕ) → plain_left text ≡ plain_left (drop (run_len ends_line text) text)
skipped [] = refl
skipped (byte ∷ rest) =
    let n = run_len ends_line rest in
    let P : ℕ → Type 0 = λ len. plain_left (byte ∷ rest) ≡ plain_left (drop len (byte ∷ rest)) in
    cond_both (not (not (ends_line byte))) (1 + n) 0 P
    (λ is.
    subst P (sym (one-add n))
    (as_left st.StartRecord (byte ∷ rest) ∙ skipped_one byte rest (twice_not (ends_line byte) is) ∙ sym (as_left st.StartRecord rest) ∙ skipped rest))
    (λ _. refl)

pub begun : (n : ℕ) (text begin : List ℕ) → n ≡ run_len ends_line text → begin ≡ drop n text → plain_left text ≡ plain_left begin
begun n text begin run back = skipped text ∙ ap plain_left (sym (back ∙ ap (λ (len : ℕ). drop len text) run))

pub none_left : (text : List ℕ) → length text ≡ 0 → plain_left text ≡ []
none_left text none = ap plain_left (nil_from_length text none) ∙ as_left st.StartRecord [] ∙ nothing_left 1

-- a field is read, and what ends it is at hand
module _ (text rest field behind : List ℕ) (fields more : List (List ℕ)) (n : ℕ) (run : n ≡ run_len is_field_byte rest) (front : field ≡ take n rest) (back : behind ≡ drop n rest) (put : more ≡ fields ++ field ∷ []) (read : next_record default_config st.InField fields [] rest ≡ next_record default_config st.StartRecord [] [] text) where
  behind_is : drop (run_len is_field_byte rest) rest ≡ behind
  behind_is = sym (back ∙ ap (λ (len : ℕ). drop len rest) run)

  at_end : next_record default_config st.InField fields field behind ≡ next_record default_config st.StartRecord [] [] text
  at_end =
      ap (λ (all : List ℕ). next_record default_config st.InField fields field all) (sym behind_is)
      ∙ ap (λ (own : List ℕ). next_record default_config st.InField fields own (drop (run_len is_field_byte rest) rest)) (front ∙ ap (λ (len : ℕ). take len rest) run)
      ∙ sym (field_read fields [] rest)
      ∙ read

  -- a comma, and the next field
  pub next_field : (later : List ℕ) → behind ≡ 44 ∷ later → has_quote later ≡ false → next_record default_config st.InField more [] later ≡ next_record default_config st.StartRecord [] [] text
  next_field later is none =
      ap (λ (all : List (List ℕ)). next_record default_config st.InField all [] later) put
      ∙ sym (field_begins (fields ++ field ∷ []) later none)
      ∙ sym (by_step st.InField fields field 44 later (st.StartField, act.EndField) refl)
      ∙ ap (λ (all : List ℕ). next_record default_config st.InField fields field all) (sym is)
      ∙ at_end

  -- the end of the text
  last_at_end : length behind ≡ 0 → plain_left text ≡ more ∷ plain_left behind
  unfolding next_record
  last_at_end none =
      let is : behind ≡ [] = nil_from_length behind none in
      let found : next_record default_config st.StartRecord [] [] text ≡ Some (more, st.StartRecord, []) =
      sym at_end ∙ ap (λ (all : List ℕ). next_record default_config st.InField fields field all) is ∙ ap (λ (all : List (List ℕ)). Some (all, st.StartRecord, [])) (sym put) in
      as_left st.StartRecord text
      ∙ left_more st.StartRecord text (more, st.StartRecord, []) found
      ∙ ap (λ (left : List (List (List ℕ))). more ∷ left) (sym (as_left st.StartRecord []))
      ∙ ap (λ (all : List ℕ). more ∷ plain_left all) (sym is)

  -- the end of a line
  last_before : (byte : ℕ) (later : List ℕ) → behind ≡ byte ∷ later → eqb byte 44 ≡ false → plain_left text ≡ more ∷ plain_left behind
  last_before byte later is no_comma =
      let ends = second_of (eqb byte 44) (ends_line byte) (stops is_field_byte rest byte later (behind_is ∙ is)) no_comma in
      let to = after_end term.CRLF byte in
      let found : next_record default_config st.StartRecord [] [] text ≡ Some (more, to, later) =
      sym at_end
      ∙ ap (λ (all : List ℕ). next_record default_config st.InField fields field all) is
      ∙ by_step st.InField fields field byte later (to, act.EndRecord) (ended byte no_comma ends)
      ∙ ap (λ (all : List (List ℕ)). Some (all, to, later)) (sym put) in
      as_left st.StartRecord text
      ∙ left_more st.StartRecord text (more, to, later) found
      ∙ ap (λ (left : List (List (List ℕ))). more ∷ left) (left_same byte later ends ∙ sym (as_left st.StartRecord (byte ∷ later)))
      ∙ ap (λ (all : List ℕ). more ∷ plain_left all) (sym is)

  last_of : (rest : List ℕ) (first : Option (Bor ℕ)) (comma : Bor ℕ) → behind ≡ rest → comma.now ≡ 44 → option_copied first ≡ slice_get rest 0 → first_is first comma ≡ false → plain_left text ≡ more ∷ plain_left behind
  last_of [] first comma is own at other = last_at_end (ap length is)
  last_of (byte ∷ later) first comma is own at other = last_before byte later is (ap (eqb byte) (sym own) ∙ sym (same_first byte later first comma at) ∙ other)

  pub last_field : (first : Option (Bor ℕ)) (comma : Bor ℕ) → comma.now ≡ 44 → option_copied first ≡ slice_get behind 0 → first_is first comma ≡ false → plain_left text ≡ more ∷ plain_left behind
  last_field first comma own at other = last_of behind first comma refl own at other
