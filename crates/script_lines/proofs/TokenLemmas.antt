-- One token after another, as a loop reads them.
use Rattle.std.proofs.Common.{◌≡◌, ℕ, zero, suc, ◌<◌, eqb, false, List, [], ◌∷◌, ◌++◌, length, drop, Option, Some, None, Result, Ok, Err, refl, sym, ap, ◌∙◌, arith}
use Rattle.std.proofs.lemmas.List.{append_assoc, length-drop}
use Rattle.script_lines.{specs.declared.fault.ScriptKind.ScriptKind, specs.declared.token.Token.Token, specs.Answers.◌>>=◌, specs.Tokens.{front_by, lexeme_at, onto, tokens_after, at_most_512, tokens_of}}

tokens_after-drop : (n : ℕ) (text : List ℕ) → tokens_after n text ≡ tokens_after 0 (drop n text)
tokens_after-drop zero text = refl
tokens_after-drop (suc n) [] = refl
tokens_after-drop (suc n) (byte ∷ bytes) = tokens_after-drop n bytes

-- the parts of what was read
abbrev before : Result (Option Token) ScriptKind → List ℕ → Result (Option Token × List ℕ) ScriptKind
before what after = what >>= (λ token. Ok (token, after))

abbrev token_in : Option Token → Result (Option Token × List ℕ) ScriptKind → Option Token
token_in other (Ok front) = front.0
token_in other (Err kind) = other

abbrev rest_in : List ℕ → Result (Option Token × List ℕ) ScriptKind → List ℕ
rest_in other (Ok front) = front.1
rest_in other (Err kind) = other

parts_at_ok : (what : Result (Option Token) ScriptKind) (after rest : List ℕ) (token : Option Token) → before what after ≡ Ok (token, rest) → (what ≡ Ok token) × (after ≡ rest)
parts_at_ok (Ok t) after rest token read = (ap (λ r. Ok (token_in token r)) read, ap (rest_in rest) read)
parts_at_ok (Err kind) after rest token read = cc read

part_at_err : (what : Result (Option Token) ScriptKind) (after : List ℕ) (kind : ScriptKind) → before what after ≡ Err kind → what ≡ Err kind
part_at_err (Ok t) after kind read = cc read
part_at_err (Err other) after kind read = cc read

read_on : (text rest : List ℕ) (token : Option Token) → front_by lexeme_at text ≡ Ok (token, rest) → tokens_after 0 text ≡ onto (Ok token) (tokens_after 0 rest)
read_on [] rest token read = cc read
read_on (first ∷ others) rest token read =
    let lexeme = lexeme_at first others in
    let parts = parts_at_ok lexeme.what (drop lexeme.more others) rest token read in
    ap (λ what. onto what (tokens_after lexeme.more others)) parts.0 ∙ ap (onto (Ok token)) (tokens_after-drop lexeme.more others ∙ ap (tokens_after 0) parts.1)

read_none : (text : List ℕ) (kind : ScriptKind) → 0 < length text → front_by lexeme_at text ≡ Err kind → tokens_after 0 text ≡ Err kind
read_none [] kind some read = absurd (omega arith)
read_none (first ∷ others) kind some read =
    let lexeme = lexeme_at first others in
    ap (λ what. onto what (tokens_after lexeme.more others)) (part_at_err lexeme.what (drop lexeme.more others) kind read)

pub rest_shorter : (text rest : List ℕ) (token : Option Token) → front_by lexeme_at text ≡ Ok (token, rest) → length rest < length text
rest_shorter [] rest token read = cc read
rest_shorter (first ∷ others) rest token read =
    let lexeme = lexeme_at first others in
    let parts = parts_at_ok lexeme.what (drop lexeme.more others) rest token read in
    omega (arith, length-drop lexeme.more others, ap length parts.1)

-- the tokens so far, and those that are still to be read
abbrev pub behind : List Token → Result (List Token) ScriptKind → Result (List Token) ScriptKind
behind tokens (Ok later) = Ok (tokens ++ later)
behind tokens (Err kind) = Err kind

behind-onto : (tokens : List Token) (token : Token) (read : Result (List Token) ScriptKind) → behind tokens (onto (Ok (Some token)) read) ≡ behind (tokens ++ token ∷ []) read
behind-onto tokens token (Ok later) = ap Ok (sym (append_assoc tokens (token ∷ []) later))
behind-onto tokens token (Err kind) = refl

pub reads_token : (line text rest : List ℕ) (tokens : List Token) (token : Token) → tokens_after 0 line ≡ behind tokens (tokens_after 0 text) → front_by lexeme_at text ≡ Ok (Some token, rest) → tokens_after 0 line ≡ behind (tokens ++ token ∷ []) (tokens_after 0 rest)
reads_token line text rest tokens token so_far read = so_far ∙ ap (behind tokens) (read_on text rest (Some token) read) ∙ behind-onto tokens token (tokens_after 0 rest)

pub reads_blank : (line text rest : List ℕ) (tokens : List Token) → tokens_after 0 line ≡ behind tokens (tokens_after 0 text) → front_by lexeme_at text ≡ Ok (None, rest) → tokens_after 0 line ≡ behind tokens (tokens_after 0 rest)
reads_blank line text rest tokens so_far read = so_far ∙ ap (behind tokens) (read_on text rest None read)

pub reads_bad : (line text : List ℕ) (tokens : List Token) (kind : ScriptKind) → tokens_after 0 line ≡ behind tokens (tokens_after 0 text) → 0 < length text → front_by lexeme_at text ≡ Err kind → tokens_of line ≡ Err kind
reads_bad line text tokens kind so_far some read = ap at_most_512 (so_far ∙ ap (behind tokens) (read_none text kind some read))

pub not_empty : (n : ℕ) → eqb n 0 ≡ false → 0 < n
not_empty zero none = cc none
not_empty (suc n) none = omega arith
