-- Each step on a deque keeps its rule.
use Rattle.std.proofs.Common.{◌≡◌, ◌≢◌, ℕ, zero, suc, ◌+◌, ◌-◌, ◌<◌, ◌≤◌, List, [], ◌∷◌, ◌++◌, length, set, sym, refl, ap, ◌∙◌, subst, arith, ⊎_elim, ◌==◌, cond}
use Rattle.std.proofs.lemmas.List.{nil_from_length}
use mathlib.Core.Logic.{dite}
use native.Mathlib.Decide.{ℕ_discrete}
use mathlib.Core.Option.{some, some-injective, some-ne-none}
use lib.ListN.{get_elem?}
use Rattle.crossbeam_deque.{specs.Tasks.{Pushes, Takes, Pops, Finds, Forks, Merges, Learns}, proofs.Lists.{at_set, at_snoc}}
use Rattle.steal_workers.{specs.declared.deques.Log.Log, specs.Deques.{AllBlank, AllIdle, IsBalanced, IsBlank, IsEven, IsIdle, IsTakenOnce, IsTallied, log, total, weigh}}

total_set : (f : Log → ℕ) (logs : List Log) (port : ℕ) (v w : Log) → get_elem? logs port ≡ some v → total f (set logs port w) + f v ≡ total f logs + f w
total_set f [] port v w there = absurd (some-ne-none v (sym there))
total_set f (x ∷ xs) zero v w there = let same : f x ≡ f v = ap f (some-injective x v there) in omega (arith, same)
total_set f (x ∷ xs) (suc port) v w there = let rest = total_set f xs port v w there in omega (arith, rest)

total_push : (f : Log → ℕ) (logs : List Log) (w : Log) → total f (logs ++ w ∷ []) ≡ total f logs + f w
total_push f [] w = omega arith
total_push f (x ∷ xs) w = let rest = total_push f xs w in omega (arith, rest)

total_part : (f : Log → ℕ) (logs : List Log) (port : ℕ) (v : Log) → get_elem? logs port ≡ some v → f v ≤ total f logs
total_part f [] port v there = absurd (some-ne-none v (sym there))
total_part f (x ∷ xs) zero v there = let same : f x ≡ f v = ap f (some-injective x v there) in omega (arith, same)
total_part f (x ∷ xs) (suc port) v there = let rest = total_part f xs port v there in omega (arith, rest)

weigh_append : (h : ℕ → ℕ) (xs ys : List ℕ) → weigh h (xs ++ ys) ≡ weigh h xs + weigh h ys
weigh_append h [] ys = omega arith
weigh_append h (x ∷ xs) ys = let rest = weigh_append h xs ys in omega (arith, rest)

weigh_length : (xs : List ℕ) → weigh (λ n. 1) xs ≡ length xs
weigh_length [] = refl
weigh_length (x ∷ xs) = let rest = weigh_length xs in omega (arith, rest)

abbrev parts_of : Log → ℕ
parts_of v = v.parts

-- where no log has parts, none has anything
total_none : (f : Log → ℕ) (logs : List Log) → ((v : Log) → v.pushed ≡ [] → v.taken ≡ [] → f v ≡ 0) → AllIdle logs → total parts_of logs ≡ 0 → total f logs ≡ 0
total_none f [] empty idle none = refl
total_none f (x ∷ xs) empty idle none =
    let own : x.parts ≡ 0 = omega (arith, none) in
    let others : total parts_of xs ≡ 0 = omega (arith, none) in
    let clear = idle 0 x refl own in
    let here = empty x clear.0 clear.1 in
    let rest = total_none f xs empty (λ port v there. idle (suc port) v there) others in
    omega (arith, here, rest)

-- where one log has all parts, the others have nothing
total_alone : (f : Log → ℕ) (logs : List Log) (port : ℕ) (v : Log) → ((u : Log) → u.pushed ≡ [] → u.taken ≡ [] → f u ≡ 0) → AllIdle logs → get_elem? logs port ≡ some v → total parts_of logs ≡ v.parts → total f logs ≡ f v
total_alone f [] port v empty idle there all = absurd (some-ne-none v (sym there))
total_alone f (x ∷ xs) zero v empty idle there all =
    let same : f x ≡ f v = ap f (some-injective x v there) in
    let parts : x.parts ≡ v.parts = ap parts_of (some-injective x v there) in
    let others : total parts_of xs ≡ 0 = omega (arith, parts, all) in
    let rest = total_none f xs empty (λ k u at. idle (suc k) u at) others in
    omega (arith, same, rest)
total_alone f (x ∷ xs) (suc port) v empty idle there all =
    let most = total_part parts_of xs port v there in
    let own : x.parts ≡ 0 = omega (arith, most, all) in
    let others : total parts_of xs ≡ v.parts = omega (arith, most, all) in
    let clear = idle 0 x refl own in
    let here = empty x clear.0 clear.1 in
    let rest = total_alone f xs port v empty (λ k u at. idle (suc k) u at) there others in
    omega (arith, here, rest)

idle_set : (logs : List Log) (port : ℕ) (w : Log) → AllIdle logs → IsIdle w → AllIdle (set logs port w)
idle_set logs port w all own j v there = ⊎_elim (λ (x : (j ≡ port) × (w ≡ v)). subst IsIdle x.1 own) (λ (x : (j ≢ port) × (get_elem? logs j ≡ some v)). all j v x.1) (at_set logs port j w v there)

idle_push : (logs : List Log) (w : Log) → AllIdle logs → IsIdle w → AllIdle (logs ++ w ∷ [])
idle_push logs w all own j v there = ⊎_elim (λ (x : get_elem? logs j ≡ some v). all j v x) (λ (x : w ≡ v). subst IsIdle x own) (at_snoc logs w v j there)

some_parts : (w : Log) → 0 < w.parts → IsIdle w
some_parts w some_part none = absurd (omega (arith, some_part, none))

pub pushes : (port : ℕ) (v : Log) (xs : List ℕ) → 0 < v.parts → Pushes IsTallied port v xs (λ w. w ≡ log v.parts (v.pushed ++ xs) v.taken)
pushes port v xs some_part items logs kept there =
    let w : Log = log v.parts (v.pushed ++ xs) v.taken in (
      w,
      record {
        parts = let moved = total_set parts_of logs port v w there in let all = kept.parts in omega (arith, moved, all);
        balance = λ h.
            let pushed = total_set (λ u. weigh h u.pushed) logs port v w there in
            let taken = total_set (λ u. weigh h u.taken) logs port v w there in
            let before = kept.balance h in
            omega (arith, pushed, taken, before, weigh_append h v.pushed xs, weigh_append h items xs);
        idle = idle_set logs port w kept.idle (some_parts w some_part);
      },
      refl,
    )

pub takes : (port : ℕ) (v : Log) → 0 < v.parts → Takes IsTallied port v 1 (λ xs w. w ≡ log v.parts v.pushed (v.taken ++ xs))
takes port v some_part xs items logs many few kept there =
    let w : Log = log v.parts v.pushed (v.taken ++ xs) in (
      w,
      record {
        parts = let moved = total_set parts_of logs port v w there in let all = kept.parts in omega (arith, moved, all);
        balance = λ h.
            let pushed = total_set (λ u. weigh h u.pushed) logs port v w there in
            let taken = total_set (λ u. weigh h u.taken) logs port v w there in
            let before = kept.balance h in
            omega (arith, pushed, taken, before, weigh_append h v.taken xs, weigh_append h xs items);
        idle = idle_set logs port w kept.idle (some_parts w some_part);
      },
      refl,
    )

pub pops : (port : ℕ) (v : Log) → 0 < v.parts → Pops IsTallied port v (λ xs w. w ≡ log v.parts v.pushed (v.taken ++ xs))
pops port v some_part x items logs kept there =
    let w : Log = log v.parts v.pushed (v.taken ++ x ∷ []) in (
      w,
      record {
        parts = let moved = total_set parts_of logs port v w there in let all = kept.parts in omega (arith, moved, all);
        balance = λ h.
            let pushed = total_set (λ u. weigh h u.pushed) logs port v w there in
            let taken = total_set (λ u. weigh h u.taken) logs port v w there in
            let before = kept.balance h in
            omega (arith, pushed, taken, before, weigh_append h v.taken (x ∷ []), weigh_append h items (x ∷ []));
        idle = idle_set logs port w kept.idle (some_parts w some_part);
      },
      refl,
    )

-- the log with all parts knows the whole
whole : (port : ℕ) (v : Log) (items : List ℕ) (logs : List Log) → v.parts ≡ 1024 → IsTallied items logs → get_elem? logs port ≡ some v → (h : ℕ → ℕ) → weigh h v.pushed ≡ weigh h v.taken + weigh h items
whole port v items logs all kept there h =
    let every = kept.parts ∙ sym all in
    let pushed = total_alone (λ u. weigh h u.pushed) logs port v (λ u no_push no_take. ap (weigh h) no_push) kept.idle there every in
    let taken = total_alone (λ u. weigh h u.taken) logs port v (λ u no_push no_take. ap (weigh h) no_take) kept.idle there every in
    let before = kept.balance h in
    omega (arith, pushed, taken, before)

pub whole_length : (port : ℕ) (v : Log) → v.parts ≡ 1024 → Learns IsTallied port v (λ items. length v.pushed ≡ length v.taken + length items)
whole_length port v all items logs kept there =
    let sum = whole port v items logs all kept there (λ n. 1) in
    omega (arith, sum, weigh_length v.pushed, weigh_length v.taken, weigh_length items)

pub finds : (port : ℕ) (v : Log) → Finds IsTallied port v (v.parts ≡ 1024 → IsEven v)
finds port v logs kept there all = let sum = whole_length port v all [] logs kept there in omega (arith, sum)

-- where as many were taken as were pushed, nothing is there
pub nothing_left : (port : ℕ) (v : Log) → v.parts ≡ 1024 → IsEven v → Learns IsTallied port v (λ items. items ≡ [])
nothing_left port v all even items logs kept there = let sum = whole_length port v all items logs kept there in nil_from_length items (omega (arith, sum, even))

pub cuts : (port : ℕ) (v : Log) → 1 < v.parts → Forks IsTallied port v (log (v.parts - 1) v.pushed v.taken) (log 1 [] [])
cuts port v some_part items logs kept there =
    let left : Log = log (v.parts - 1) v.pushed v.taken in
    let right : Log = log 1 [] [] in
    record {
      parts = let moved = total_set parts_of logs port v left there in let more = total_push parts_of (set logs port left) right in let all = kept.parts in omega (arith, moved, more, all, some_part);
      balance = λ h.
          let pushed = total_set (λ u. weigh h u.pushed) logs port v left there in
          let taken = total_set (λ u. weigh h u.taken) logs port v left there in
          let pushed' = total_push (λ u. weigh h u.pushed) (set logs port left) right in
          let taken' = total_push (λ u. weigh h u.taken) (set logs port left) right in
          let before = kept.balance h in
          omega (arith, pushed, taken, pushed', taken', before);
      idle = idle_push (set logs port left) right (idle_set logs port left kept.idle (some_parts left (omega (arith, some_part)))) (some_parts right (omega arith));
    }

pub renews : (port : ℕ) (v : Log) → v.parts ≡ 1024 → IsEven v → Forks IsTallied port v (log v.parts [] []) (log 0 [] [])
renews port v all even items logs kept there =
    let left : Log = log v.parts [] [] in
    let right : Log = log 0 [] [] in
    let none = nothing_left port v all even items logs kept there in
    record {
      parts = let moved = total_set parts_of logs port v left there in let more = total_push parts_of (set logs port left) right in let every = kept.parts in omega (arith, moved, more, every);
      balance = λ h.
          let every = kept.parts ∙ sym all in
          let pushed = total_set (λ u. weigh h u.pushed) logs port v left there in
          let taken = total_set (λ u. weigh h u.taken) logs port v left there in
          let pushed' = total_push (λ u. weigh h u.pushed) (set logs port left) right in
          let taken' = total_push (λ u. weigh h u.taken) (set logs port left) right in
          let mine = total_alone (λ u. weigh h u.pushed) logs port v (λ u no_push no_take. ap (weigh h) no_push) kept.idle there every in
          let theirs = total_alone (λ u. weigh h u.taken) logs port v (λ u no_push no_take. ap (weigh h) no_take) kept.idle there every in
          let empty : weigh h items ≡ 0 = ap (weigh h) none in
          omega (arith, pushed, taken, pushed', taken', mine, theirs, empty);
      idle = idle_push (set logs port left) right (idle_set logs port left kept.idle (some_parts left (omega (arith, all)))) (λ e. (refl, refl));
    }

pub joins : (port : ℕ) (v : Log) (other : ℕ) (w : Log) → 0 < v.parts → Merges IsTallied port v other w (log (v.parts + w.parts) (v.pushed ++ w.pushed) (v.taken ++ w.taken)) (log 0 [] [])
joins port v other w some_part items logs kept there apart beside =
    let both : Log = log (v.parts + w.parts) (v.pushed ++ w.pushed) (v.taken ++ w.taken) in
    let spent : Log = log 0 [] [] in
    let mid = set logs port both in
    record {
      parts = let moved = total_set parts_of logs port v both there in let more = total_set parts_of mid other w spent beside in let every = kept.parts in omega (arith, moved, more, every);
      balance = λ h.
          let pushed = total_set (λ u. weigh h u.pushed) logs port v both there in
          let taken = total_set (λ u. weigh h u.taken) logs port v both there in
          let pushed' = total_set (λ u. weigh h u.pushed) mid other w spent beside in
          let taken' = total_set (λ u. weigh h u.taken) mid other w spent beside in
          let before = kept.balance h in
          omega (arith, pushed, taken, pushed', taken', before, weigh_append h v.pushed w.pushed, weigh_append h v.taken w.taken);
      idle = idle_set mid other spent (idle_set logs port both kept.idle (some_parts both (omega (arith, some_part)))) (λ e. (refl, refl));
    }

pub begins : IsTallied [] (log 1024 [] [] ∷ [])
begins = record {
  parts = refl;
  balance = λ h. refl;
  idle = λ port v there. begun port v there;
}
  where
    begun : (port : ℕ) (v : Log) → get_elem? (log 1024 [] [] ∷ []) port ≡ some v → IsIdle v
    begun zero v there none = let all : 1024 ≡ v.parts = ap parts_of (some-injective (log 1024 [] []) v there) in absurd (omega (arith, all, none))
    begun (suc port) v there none = absurd (some-ne-none v (sym there))

pub balanced : (items : List ℕ) (logs : List Log) → IsTallied items logs → IsBalanced items logs
balanced items logs kept n = kept.balance (λ m. cond (m == n) 1 0)

pub taken_once : (items : List ℕ) (logs : List Log) → IsTallied items logs → IsTakenOnce logs
taken_once items logs kept n = let sum = balanced items logs kept n in omega (arith, sum)

-- beside a log with all parts no other has any
alone : (logs : List Log) (port j : ℕ) (v u : Log) → total parts_of logs ≡ v.parts → get_elem? logs port ≡ some v → get_elem? logs j ≡ some u → j ≢ port → u.parts ≡ 0
alone [] port j v u all there at apart = absurd (some-ne-none v (sym there))
alone (x ∷ xs) zero zero v u all there at apart = absurd (apart refl)
alone (x ∷ xs) zero (suc j) v u all there at apart =
    let same : x.parts ≡ v.parts = ap parts_of (some-injective x v there) in
    let part = total_part parts_of xs j u at in
    omega (arith, same, part, all)
alone (x ∷ xs) (suc port) zero v u all there at apart =
    let same : x.parts ≡ u.parts = ap parts_of (some-injective x u at) in
    let part = total_part parts_of xs port v there in
    omega (arith, same, part, all)
alone (x ∷ xs) (suc port) (suc j) v u all there at apart =
    let part = total_part parts_of xs port v there in
    alone xs port j v u (omega (arith, part, all)) there at (λ e. apart (ap suc e))

pub nothing_before : (items : List ℕ) (logs : List Log) (port : ℕ) → IsTallied items logs → get_elem? logs port ≡ some (log 1024 [] []) → (items ≡ []) × AllBlank logs
nothing_before items logs port kept there = (nothing_left port (log 1024 [] []) refl refl items logs kept there, blank)
  where
    blank : (j : ℕ) (v : Log) → get_elem? logs j ≡ some v → IsBlank v
    blank j v at = dite (ℕ_discrete j port)
        (λ e. let same : log 1024 [] [] ≡ v = some-injective (log 1024 [] []) v (sym there ∙ (ap (get_elem? logs) (sym e) ∙ at)) in subst IsBlank same (refl, refl))
        (λ ne. kept.idle j v at (alone logs port j (log 1024 [] []) v kept.parts there at ne))
