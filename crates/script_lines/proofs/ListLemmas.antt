-- Reading one member after another, as a loop does.
use Rattle.std.proofs.Common.{◌≡◌, ℕ, suc, ◌-◌, ◌+◌, ◌≤◌, ◌<◌, List, [], ◌∷◌, ◌++◌, Some, None, Result, Ok, Err, refl, sym, ap, ◌∙◌, subst, arith}
use Rattle.script_lines.{specs.declared.fault.Misread.Misread, specs.declared.fault.ScriptKind.ScriptKind, specs.declared.fault.ScriptKind.TheVariants.BadLine, specs.declared.lists.Separator.Separator, specs.declared.token.Token.Token, specs.Answers.{◌>>=◌, Misses}, specs.Formulas.Reading, specs.Members.{next_at, more_at}}
use Rattle.script_lines.specs.declared.fault.Misread.TheVariants as misses

pub misses_bind : {X Y : Type 0} (miss : Misread) (r : Result X ScriptKind) (f : X → Result Y ScriptKind) → Misses miss r → Misses miss (r >>= f)
misses_bind misses.Memory r f h = tt
misses_bind misses.BadLine r f h = ap (λ x. x >>= f) h

module _ {X : Type 0} (item : List Token → Reading X) (separator : Separator) where
  one_more : (i : ℕ) (members : List X) (ts rest : List Token) → i < 512 → Some rest ≡ next_at separator ts → more_at item (512 - i) separator members ts ≡ item rest >>= (λ member. more_at item (512 - (i + 1)) separator (members ++ member.0 ∷ []) member.1)
  unfolding more_at
  one_more i members ts rest lt e =
      let k : 512 - i ≡ suc (512 - (i + 1)) = omega arith in
      rw (k, ← e) refl

  -- the loop goes on
  pub goes_on : (i : ℕ) (members : List X) (ts rest after : List Token) (x : X) (total : Reading (List X)) → i < 512 → Some rest ≡ next_at separator ts → item rest ≡ Ok (x, after)
      → more_at item (512 - i) separator members ts ≡ total → more_at item (512 - (i + 1)) separator (members ++ x ∷ []) after ≡ total
  goes_on i members ts rest after x total lt e h so_far =
      sym (one_more i members ts rest lt e ∙ ap (λ r. r >>= (λ member. more_at item (512 - (i + 1)) separator (members ++ member.0 ∷ []) member.1)) h) ∙ so_far

  -- a member is none
  pub ends : (miss : Misread) (i : ℕ) (members : List X) (ts rest : List Token) (total : Reading (List X)) → i < 512 → Some rest ≡ next_at separator ts → Misses miss (item rest)
      → more_at item (512 - i) separator members ts ≡ total → Misses miss total
  ends miss i members ts rest total lt e h so_far =
      subst (Misses miss) (sym (one_more i members ts rest lt e) ∙ so_far) (misses_bind miss (item rest) _ h)

  -- there is no further member
  pub is_done : (i : ℕ) (members : List X) (ts : List Token) (total : Reading (List X)) → i < 512 → None ≡ next_at separator ts → more_at item (512 - i) separator members ts ≡ total → total ≡ Ok (members, ts)
  unfolding more_at
  is_done i members ts total lt e so_far =
      let k : 512 - i ≡ suc (512 - (i + 1)) = omega arith in
      let one : more_at item (512 - i) separator members ts ≡ Ok (members, ts) = rw (k, ← e) refl in
      sym so_far ∙ one

  -- there are too many
  pub runs_out : (i : ℕ) (members : List X) (ts : List Token) (total : Reading (List X)) → 512 ≤ i → more_at item (512 - i) separator members ts ≡ total → total ≡ Err BadLine
  unfolding more_at
  runs_out i members ts total le so_far =
      let k : 512 - i ≡ 0 = omega arith in
      let one : more_at item (512 - i) separator members ts ≡ Err BadLine = rw k refl in
      sym so_far ∙ one
