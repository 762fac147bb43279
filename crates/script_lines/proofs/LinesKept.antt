-- What is read of a line keeps its rules.
use Rattle.std.proofs.Common.{◌≡◌, ℕ, zero, suc, ◌^◌, cond, eqb, ltb, List, [], ◌∷◌, length, take, Option, Some, None, Result, Ok, Err, pos}
use Rattle.std.{specs.Prelude.{◌&&◌, ◌||◌, not, IfOk, IfSome}, specs.List.{AllByRecursion, position_or_len}, specs.Int.w64, specs.Str.is_utf8, specs.Str.Parse.digits_value, proofs.lemmas.Bool.{cond_both, ltb-true}, proofs.lemmas.Int.fits_signed_from_abs, proofs.lemmas.Result.IfOk-at_ok}
use Rattle.tick_model.specs.Names.{is_letter, is_name_byte}
use Rattle.script_lines.{specs.declared.fault.ScriptKind.ScriptKind, specs.declared.fault.ScriptKind.TheVariants.{BadLine, NumberRange, NotUtf8}, specs.declared.line.Line.Line, specs.declared.line.Line.TheVariants.Skipped, specs.declared.lists.Separator.TheVariants.Nothing, specs.declared.token.Token.Token, specs.Answers.◌>>=◌, specs.Formulas.Reading, specs.Grammar.{KeepsRules, node_at, file_name_at, file_at, source_at, print_at, publish_at, form_at, alone, line_at}, specs.Kept.DeclaredKeeps, specs.Lines.{is_skipped, line_of}, specs.Members.declared_at, specs.Tokens.{Lexeme, is_blank, is_digit, run_len, word_at, number_at, text_at, is_single_mark, is_order_mark, begins_with_equal, mark_of, mark_at, lexeme_at, onto, tokens_after, at_most_512, tokens_of}, proofs.MakingsKept.making-keeps, proofs.PartsKept.{TokenFits, Fit, Read, Keeps, Any, done, refused, then, behind, choose, later, word, mark_after, name-keeps, list-keeps, declared-keeps, digits-keep}}
use Rattle.script_lines.specs.declared.token.Token.TheVariants as tokens

-- lines
node-keeps : Keeps KeepsRules node_at
unfolding node_at
node-keeps ts fit = then (name-keeps ts fit) _ (λ name ts is fit. behind (mark_after _ fit) _ (λ ts fit. then (making-keeps ts fit) _ (λ making ts good. done (is, good))))

file_name-keeps : Keeps (Any {X = Option (List ℕ)}) file_name_at
unfolding file_name_at
file_name-keeps [] fit = refused
file_name-keeps (tokens.Text (byte ∷ bytes) ∷ rest) fit = done tt (later fit)
file_name-keeps (token ∷ rest) fit = refused

file-keeps : Keeps (Any {X = Option (List ℕ)}) file_at
unfolding file_at
file-keeps ts fit = choose (word _ fit) file_name-keeps (done tt fit)

source-keeps : Keeps KeepsRules source_at
unfolding source_at
source-keeps ts fit =
    then (name-keeps ts fit) _ (λ name ts is fit. then (list-keeps DeclaredKeeps declared_at declared-keeps Nothing ts fit) _ (λ columns ts good fit. then (file-keeps ts fit) _ (λ file ts _. done (is, good))))

print-keeps : Keeps KeepsRules print_at
unfolding print_at
print-keeps ts fit = then (name-keeps ts fit) _ (λ name ts. done)

publish-keeps : Keeps KeepsRules publish_at
unfolding publish_at
publish-keeps ts fit = then (name-keeps ts fit) _ (λ name ts is fit. then (digits-keep ts fit) _ (λ rows ts _. done is))

form-keeps : Keeps KeepsRules form_at
unfolding form_at
form-keeps ts fit = choose (word _ fit) source-keeps (choose (word _ fit) print-keeps (choose (word _ fit) publish-keeps (node-keeps ts fit)))

line-keeps : (ts : List Token) → Fit ts → IfOk (line_at ts) KeepsRules
unfolding line_at
line-keeps ts fit = said (form_at ts) (form-keeps ts fit)
  where
    said : (read : Reading Line) → Read KeepsRules read → IfOk (read >>= alone) KeepsRules
    said (Ok read) keeps = cond_both (eqb (length read.1) 0) (Ok read.0) (Err BadLine) (λ r. IfOk r KeepsRules) (λ _. keeps.keeps.0) (λ _. tt)
    said (Err kind) keeps = tt

-- tokens
abbrev LexemeFits : Lexeme → Type 0
LexemeFits lexeme = IfOk lexeme.what (λ token. IfSome token TokenFits)

mark_at-fits : (first : ℕ) (others : List ℕ) → LexemeFits (mark_at first others)
mark_at-fits first others =
    cond_both (is_single_mark first) (mark_of (first ∷ []) 0) (cond (begins_with_equal others && (is_order_mark first || eqb first 33)) (mark_of (first ∷ 61 ∷ []) 1) (cond (is_order_mark first) (mark_of (first ∷ []) 0) (record { what = Err BadLine; more = 0 }))) LexemeFits (λ _. tt)
    (λ _. cond_both (begins_with_equal others && (is_order_mark first || eqb first 33)) (mark_of (first ∷ 61 ∷ []) 1) (cond (is_order_mark first) (mark_of (first ∷ []) 0) (record { what = Err BadLine; more = 0 })) LexemeFits (λ _. tt)
    (λ _. cond_both (is_order_mark first) (mark_of (first ∷ []) 0) (record { what = Err BadLine; more = 0 }) LexemeFits (λ _. tt) (λ _. tt)))

abbrev WhatFits : Result (Option Token) ScriptKind → Type 0
WhatFits what = IfOk what (λ token. IfSome token TokenFits)

word_at-fits : (first : ℕ) (others : List ℕ) → LexemeFits (word_at first others)
word_at-fits first others =
    let more = run_len is_name_byte others in
    cond_both (ltb 31 more) (Err BadLine) (Ok (Some (tokens.Word (first ∷ take more others)))) WhatFits (λ _. tt) (λ _. tt)

number_at-fits : (first : ℕ) (others : List ℕ) → LexemeFits (number_at first others)
number_at-fits first others =
    let value = digits_value 10 (first ∷ take (run_len is_digit others) others) in
    cond_both (ltb value (2 ^ 63)) (Ok (Some (tokens.Number (pos value)))) (Err NumberRange) WhatFits (λ e. fits_signed_from_abs w64 (pos value) (ltb-true value (2 ^ 63) e)) (λ _. tt)

text_at-fits : (others : List ℕ) → LexemeFits (text_at others)
text_at-fits others =
    let before = position_or_len (λ byte. eqb byte 34) others in
    cond_both (ltb before (length others)) (Ok (Some (tokens.Text (take before others)))) (Err BadLine) WhatFits (λ _. tt) (λ _. tt)

lexeme-fits : (first : ℕ) (others : List ℕ) → LexemeFits (lexeme_at first others)
lexeme-fits first others =
    cond_both (is_blank first) (record { what = Ok None; more = 0 }) _ LexemeFits (λ _. tt)
    (λ _. cond_both (is_letter first) (word_at first others) _ LexemeFits (λ _. word_at-fits first others)
    (λ _. cond_both (is_digit first) (number_at first others) _ LexemeFits (λ _. number_at-fits first others)
    (λ _. cond_both (eqb first 34) (text_at others) (mark_at first others) LexemeFits (λ _. text_at-fits others) (λ _. mark_at-fits first others))))

abbrev AllFit : Result (List Token) ScriptKind → Type 0
AllFit read = IfOk read (AllByRecursion TokenFits)

onto-fit : (what : Result (Option Token) ScriptKind) (after : Result (List Token) ScriptKind) → WhatFits what → AllFit after → AllFit (onto what after)
onto-fit (Err kind) after fits fit = tt
onto-fit (Ok None) after fits fit = fit
onto-fit (Ok (Some token)) (Err kind) fits fit = tt
onto-fit (Ok (Some token)) (Ok later) fits fit = (fits, fit)

tokens_after-fit : (skipped : ℕ) (bytes : List ℕ) → AllFit (tokens_after skipped bytes)
tokens_after-fit zero [] = tt
tokens_after-fit (suc skipped) [] = tt
tokens_after-fit (suc skipped) (byte ∷ bytes) = tokens_after-fit skipped bytes
tokens_after-fit zero (byte ∷ bytes) =
    onto-fit (lexeme_at byte bytes).what (tokens_after (lexeme_at byte bytes).more bytes) (lexeme-fits byte bytes) (tokens_after-fit (lexeme_at byte bytes).more bytes)

few-keep : (read : Result (List Token) ScriptKind) → AllFit read → IfOk (at_most_512 read >>= line_at) KeepsRules
few-keep (Err kind) fit = tt
few-keep (Ok ts) fit = cond_both (ltb 512 (length ts)) (Err BadLine) (Ok ts) (λ r. IfOk (r >>= line_at) KeepsRules) (λ _. tt) (λ _. line-keeps ts (record { each = fit }))

line_of-keeps : (bytes : List ℕ) → IfOk (line_of bytes) KeepsRules
unfolding line_of
line_of-keeps bytes =
    cond_both (not (is_utf8 bytes)) (Err NotUtf8) (cond (is_skipped bytes) (Ok Skipped) (tokens_of bytes >>= line_at)) (λ r. IfOk r KeepsRules) (λ _. tt)
    (λ _. cond_both (is_skipped bytes) (Ok Skipped) (tokens_of bytes >>= line_at) (λ r. IfOk r KeepsRules) (λ _. tt) (λ _. few-keep (tokens_after 0 bytes) (tokens_after-fit 0 bytes)))

pub line_keeps_rules : (bytes : List ℕ) (line : Line) → line_of bytes ≡ Ok line → KeepsRules line
line_keeps_rules bytes line read = IfOk-at_ok KeepsRules read (line_of-keeps bytes)
