-- What a read of a record does to what is left.
use Rattle.std.proofs.Common.{◌≡◌, ℕ, zero, suc, ◌+◌, ◌<◌, ◌≤◌, List, [], ◌∷◌, ◌++◌, Bool, true, false, Option, Some, None, refl, sym, ap, ◌∙◌, subst, length, cond, arith, add-one, inl}
use Rattle.std.{specs.Prelude.IsSome, specs.Borrow.Bor}
use Rattle.csv.{specs.Machine.{Read, next_record, ends_at_end, is_end, step, fields_after, field_after}, specs.Reading.{records_from, records_next, default_config, NextIs, strip_bom, is_bom, ReadsNext, ReadRecord, TookRecord, took_first, pending_of, ExplainsRead}, specs.declared.error.ErrorKind.ErrorKind, specs.declared.error.Utf8Error.Utf8Error, specs.declared.record.Position.Position, specs.declared.parser.Config.Config, specs.declared.parser.State.State, specs.declared.reader.Reader.Reader}
use Rattle.csv.specs.declared.error.ErrorKind.TheVariants as kind
use Rattle.csv.specs.declared.parser.State.TheVariants as st
use Rattle.feed_reader.{specs.Records.{records_left, quoted_left, unread, records_of, IsQuoted, IsNext, are_texts}, specs.declared.records.Next.Next, specs.declared.records.Next.TheVariants.Record, proofs.FieldLemmas.texts_are_not}

-- a read from nothing ends at the start of a record, and any other takes a byte at least
by_test : {X : Type 0} (P : X → Type 0) (b : Bool) (x : X) (o : Option X) (p : X) → cond b (Some x) o ≡ Some p → P x → (o ≡ Some p → P p) → P p
by_test P true x o p e here other = let is : x ≡ p = cc in subst P is here
by_test P false x o p e here other = other e

IsDone : Read → Type 0
IsDone p = (p.1 ≡ st.StartRecord) × (p.2 ≡ [])

at_end : (s : State) (fields : List (List ℕ)) (field : List ℕ) (p : Read) → next_record default_config s fields field [] ≡ Some p → IsDone p
unfolding next_record IsDone
at_end s fields field p e = by_test IsDone (ends_at_end s) (fields ++ (field ∷ []), st.StartRecord, []) None p e (refl, refl) (λ none. cc)

shorter : (s : State) (fields : List (List ℕ)) (field : List ℕ) (c : ℕ) (rest : List ℕ) (p : Read) → next_record default_config s fields field (c ∷ rest) ≡ Some p → length p.2 ≤ length rest
unfolding next_record IsDone
shorter s fields field c [] p e =
    let act = (step default_config s c).1 in
    by_test (λ (q : Read). length q.2 ≤ 0) (is_end act) (fields_after act fields field, (step default_config s c).0, []) _ p e (omega arith)
    (λ next. let done = at_end _ _ _ p next in omega (arith, ap length done.1))
shorter s fields field c (d ∷ rest) p e =
    let act = (step default_config s c).1 in
    by_test (λ (q : Read). length q.2 ≤ length (d ∷ rest)) (is_end act) (fields_after act fields field, (step default_config s c).0, d ∷ rest) _ p e (omega arith)
    (λ next. let less = shorter (step default_config s c).0 (fields_after act fields field) (field_after act c field) d rest p next in omega arith)

-- more turns than bytes give all records
pub nothing_left : (n : ℕ) → records_from default_config n st.StartRecord [] ≡ []
unfolding records_from next_record
nothing_left zero = refl
nothing_left (suc n) = refl

same_next : (f g : State → List ℕ → List (List (List ℕ))) (o : Option Read) → ((p : Read) → o ≡ Some p → f p.1 p.2 ≡ g p.1 p.2) → records_next f o ≡ records_next g o
same_next f g None same = refl
same_next f g (Some p) same = ap (λ more. p.0 ∷ more) (same p refl)

later_same : (n m : ℕ) → ((s : State) (ys : List ℕ) → length ys < n → length ys < m → records_from default_config n s ys ≡ records_from default_config m s ys) → (s : State) (xs : List ℕ) (p : Read) → length xs < suc n → length xs < suc m → next_record default_config s [] [] xs ≡ Some p → records_from default_config n p.1 p.2 ≡ records_from default_config m p.1 p.2
unfolding IsDone
later_same n m same s [] p a b e = let done = at_end s [] [] p e in rw (done.0, done.1) (nothing_left n ∙ sym (nothing_left m))
later_same n m same s (c ∷ rest) p a b e = let less = shorter s [] [] c rest p e in same p.1 p.2 (omega arith) (omega arith)

pub enough : (n m : ℕ) (s : State) (xs : List ℕ) → length xs < n → length xs < m → records_from default_config n s xs ≡ records_from default_config m s xs
unfolding records_from
enough zero m s xs a b = absurd (omega arith)
enough (suc n) zero s xs a b = absurd (omega arith)
enough (suc n) (suc m) s xs a b =
    same_next (records_from default_config n) (records_from default_config m) (next_record default_config s [] [] xs) (λ p e. later_same n m (enough n m) s xs p a b e)

pub left_more : (s : State) (xs : List ℕ) (p : Read) → next_record default_config s [] [] xs ≡ Some p → records_from default_config (suc (length xs)) s xs ≡ p.0 ∷ records_from default_config (suc (length p.2)) p.1 p.2
unfolding records_from IsDone
left_more s [] p e =
    let done = at_end s [] [] p e in
    ap (records_next (records_from default_config 0)) e ∙ ap (λ more. p.0 ∷ more) (sym (rw (done.0, done.1) (nothing_left 1)))
left_more s (c ∷ rest) p e =
    let less = shorter s [] [] c rest p e in
    ap (records_next (records_from default_config (length (c ∷ rest)))) e
    ∙ ap (λ more. p.0 ∷ more) (enough (length (c ∷ rest)) (suc (length p.2)) p.1 p.2 (omega arith) (omega arith))

left_none : (s : State) (xs : List ℕ) → next_record default_config s [] [] xs ≡ None → records_from default_config (suc (length xs)) s xs ≡ []
unfolding records_from
left_none s xs e = ap (records_next (records_from default_config (length xs))) e

-- the same in the words of a read
pub as_left : (s : State) (xs : List ℕ) → records_left s (Some xs) ≡ records_from default_config (suc (length xs)) s xs
as_left s xs = ap (λ n. records_from default_config n s xs) (add-one (length xs))

next_found : (o : Option Read) (fields : List (List ℕ)) (s : State) (rest : List ℕ) → NextIs o true fields s rest → (p : Read) × (o ≡ Some p) × (fields ≡ p.0) × (s ≡ p.1) × (rest ≡ p.2)
next_found None fields s rest is = cc is
next_found (Some p) fields s rest is = (p, refl, is.1, is.2, is.3)

next_ended : (o : Option Read) (fields : List (List ℕ)) (s : State) (rest : List ℕ) → NextIs o false fields s rest → o ≡ None
next_ended None fields s rest is = refl
next_ended (Some p) fields s rest is = cc is.0

Found : State → Option (List ℕ) → List (List ℕ) → State → Option (List ℕ) → Type 0
Found s before fields s2 after = (records_left s before ≡ fields ∷ records_left s2 after) × IsSome after

found : (config : Config) (s s2 : State) (before after : Option (List ℕ)) (fields : List (List ℕ)) → config ≡ default_config → IsSome before → ReadsNext config s before after true fields s2 → Found s before fields s2 after
unfolding Found
found config s s2 None after fields set known reads = cc known
found config s s2 (Some xs) None fields set known reads = absurd reads
found config s s2 (Some xs) (Some ys) fields set known reads =
    let next = next_found (next_record default_config s [] [] xs) fields s2 ys (rw set at reads) in
    (as_left s xs ∙ left_more s xs next.0 next.1 ∙ rw (← next.2, ← next.3, ← next.4) (ap (λ more. fields ∷ more) (sym (as_left s2 ys))), refl)

ended : (config : Config) (s s2 : State) (before after : Option (List ℕ)) (fields : List (List ℕ)) → config ≡ default_config → ReadsNext config s before after false fields s2 → records_left s before ≡ []
ended config s s2 None after fields set reads = refl
ended config s s2 (Some xs) None fields set reads = absurd reads
ended config s s2 (Some xs) (Some ys) fields set reads =
    as_left s xs ∙ left_none s xs (next_ended (next_record default_config s [] [] xs) fields s2 ys (rw set at reads))

abbrev told : Bor (List ℕ) → Option (List ℕ)
told text = Some text.now

-- a record was read: it is the first of what was left, and the reader reads on
unread-after : (a b : Reader (Bor (List ℕ))) (fields : List (List ℕ)) (found : Bool) → ReadRecord told a b found fields → unread b ≡ pending_of (told b.rdr) b
unread-after a b fields found reads = rw reads.1 refl

pub read_next : (a b : Reader (Bor (List ℕ))) (fields : List (List ℕ)) → IsQuoted a → ReadRecord told a b true fields → (quoted_left a ≡ fields ∷ quoted_left b) × IsSome (unread b)
unfolding Found
read_next a b fields reading reads =
    let is = found a.config a.state b.state (unread a) (pending_of (told b.rdr) b) fields reading.config reading.known reads.0 in
    rw (unread-after a b fields true reads) is

pub reads_on : (a b : Reader (Bor (List ℕ))) (fields : List (List ℕ)) → IsQuoted a → ReadRecord told a b true fields → took_first b ≡ true → IsQuoted b
reads_on a b fields reading reads first = record {
  config = reads.2 ∙ reading.config;
  trim = reads.3 ∙ reading.trim;
  ready = inl first;
  known = (read_next a b fields reading reads).1;
}

pub read_ended : (a b : Reader (Bor (List ℕ))) (fields : List (List ℕ)) → IsQuoted a → ReadRecord told a b false fields → quoted_left a ≡ []
read_ended a b fields reading reads = ended a.config a.state b.state (unread a) (pending_of (told b.rdr) b) fields reading.config reads.0

-- a record was taken that is no text
took_next : (a b : Reader (Bor (List ℕ))) (fields : List (List ℕ)) → IsQuoted a → TookRecord told a b fields → quoted_left a ≡ fields ∷ records_left b.state (pending_of (told b.rdr) b)
unfolding Found
took_next a b fields reading took = (found a.config a.state b.state (unread a) (pending_of (told b.rdr) b) fields reading.config reading.known took).0

pub no_text : (a b : Reader (Bor (List ℕ))) (why : ErrorKind) (pos : Option Position) (err : Utf8Error) → IsQuoted a → why ≡ kind.Utf8 pos err → ExplainsRead told a b true why → (refused : List (List ℕ)) × (others : List (List (List ℕ))) × (quoted_left a ≡ refused ∷ others) × (are_texts refused ≡ false)
no_text a b why pos err reading is explains =
    let P : ErrorKind → Type 0 = λ k. ExplainsRead told a b true k in
    let is_text = subst P is explains in
    (is_text.1, records_left b.state (pending_of (told b.rdr) b), took_next a b is_text.1 reading is_text.2, texts_are_not is_text.1 is_text.3)

-- what comes next, by its kind
pub next_is : (next : Next) (left : List (List (List ℕ))) (fields : List (List ℕ)) (rest : List (List (List ℕ))) → next ≡ Record → IsNext next left fields rest → left ≡ fields ∷ rest
next_is next left fields rest is found = let P : Next → Type 0 = λ n. IsNext n left fields rest in (subst P is found).0

-- there are no more records than bytes, but one
few_next : (n : ℕ) → ((s : State) (xs : List ℕ) → length (records_from default_config n s xs) ≤ n) → (o : Option Read) → length (records_next (records_from default_config n) o) ≤ suc n
few_next n few None = omega arith
few_next n few (Some p) = let more = few p.1 p.2 in omega arith

few_from : (n : ℕ) (s : State) (xs : List ℕ) → length (records_from default_config n s xs) ≤ n
unfolding records_from
few_from zero s xs = omega arith
few_from (suc n) s xs = few_next n (few_from n) (next_record default_config s [] [] xs)

stripped : (b : Bool) (xs ys : List ℕ) → length xs ≤ length ys → length (cond b xs ys) ≤ length ys
stripped true xs ys less = less
stripped false xs ys less = omega arith

no_longer : (xs : List ℕ) → length (strip_bom xs) ≤ length xs
unfolding strip_bom
no_longer [] = omega arith
no_longer (a ∷ []) = omega arith
no_longer (a ∷ b ∷ []) = omega arith
no_longer (a ∷ b ∷ c ∷ rest) = stripped (is_bom a b c) rest (a ∷ b ∷ c ∷ rest) (omega arith)

pub few_records : (bytes : List ℕ) → length (records_of bytes) ≤ length bytes + 1
few_records bytes = let few = few_from (length (strip_bom bytes) + 1) st.StartRecord (strip_bom bytes) in let less = no_longer bytes in omega arith
