-- The longest runs of keys are of one list of keys.
use Rattle.std.proofs.Common.{◌≡◌, refl, ap, sym, ◌∙◌, true, false, cond, ℕ, suc, ◌+◌, ◌-◌, ◌<◌, ◌≤◌, arith, List, [], ◌∷◌, ◌++◌}
use Rattle.std.{specs.Prelude.{flat_map, ◌==◌}, specs.List.{range_with_len, AllByRecursion}, proofs.lemmas.Bool.eqb-true}
use Rattle.key_lists.specs.Keys.{run_with, runs}

abbrev pub IsOrdered : (ℕ × ℕ) → Type 0
IsOrdered run = run.0 ≤ run.1

abbrev pub keys_of : (ℕ × ℕ) → List ℕ
keys_of run = range_with_len run.0 (run.1 + 1 - run.0)

-- a fact of a key and the pairs that a run is put together of
run_with_all : (P : (ℕ × ℕ) → Type 0) (key : ℕ) (rs : List (ℕ × ℕ)) → P (key, key) → ((next : ℕ × ℕ) → next.0 ≡ key + 1 → P next → P (key, next.1)) → AllByRecursion P rs → AllByRecursion P (run_with key rs)
run_with_all P key [] one longer h = (one, tt)
run_with_all P key (next ∷ others) one longer h =
    (elim (next.0 == key + 1) as (λ b. (next.0 == key + 1) ≡ b → AllByRecursion P (cond b ((key, next.1) ∷ others) ((key, key) ∷ next ∷ others))) [
      | true ↦ λ e. (longer next (eqb-true next.0 (key + 1) e) h.0, h.1)
      | false ↦ λ e. (one, h)
    ]) refl

pub runs_ordered : (ks : List ℕ) → AllByRecursion IsOrdered (runs ks)
runs_ordered [] = tt
runs_ordered (key ∷ ks) = run_with_all IsOrdered key (runs ks) (omega arith) (λ next e h. omega (arith, e, h)) (runs_ordered ks)

-- the ends of runs are keys
pub runs_below : (limit : ℕ) (ks : List ℕ) → AllByRecursion (λ key. key < limit) ks → AllByRecursion (λ (run : ℕ × ℕ). (run.0 < limit) × (run.1 < limit)) (runs ks)
runs_below limit [] h = tt
runs_below limit (key ∷ ks) h = run_with_all (λ (run : ℕ × ℕ). (run.0 < limit) × (run.1 < limit)) key (runs ks) (h.0, h.0) (λ next e below. (h.0, below.1)) (runs_below limit ks h.1)

range_first : (first last : ℕ) → first + 1 ≤ last → range_with_len first (last + 1 - first) ≡ first ∷ range_with_len (first + 1) (last + 1 - (first + 1))
range_first first last h = let e : last + 1 - first ≡ suc (last + 1 - (first + 1)) = omega arith in ap (range_with_len first) e

range_one : (key : ℕ) → range_with_len key (key + 1 - key) ≡ key ∷ []
range_one key = let e : key + 1 - key ≡ suc 0 = omega arith in ap (range_with_len key) e

keys_of-run_with : (key : ℕ) (rs : List (ℕ × ℕ)) → AllByRecursion IsOrdered rs → flat_map keys_of (run_with key rs) ≡ key ∷ flat_map keys_of rs
keys_of-run_with key [] h = ap (λ ks. ks ++ []) (range_one key)
keys_of-run_with key (next ∷ others) h =
    (elim (next.0 == key + 1) as (λ b. (next.0 == key + 1) ≡ b → flat_map keys_of (cond b ((key, next.1) ∷ others) ((key, key) ∷ next ∷ others)) ≡ key ∷ flat_map keys_of (next ∷ others)) [
      | true ↦ λ e.
          let same = eqb-true next.0 (key + 1) e in
          ap (λ ks. ks ++ flat_map keys_of others) (range_first key next.1 (omega (arith, same, h.0)) ∙ ap (λ first. key ∷ range_with_len first (next.1 + 1 - first)) (sym same))
      | false ↦ λ e. ap (λ ks. ks ++ flat_map keys_of (next ∷ others)) (range_one key)
    ]) refl

pub keys_of-runs : (ks : List ℕ) → flat_map keys_of (runs ks) ≡ ks
keys_of-runs [] = refl
keys_of-runs (key ∷ ks) = keys_of-run_with key (runs ks) (runs_ordered ks) ∙ ap (λ others. key ∷ others) (keys_of-runs ks)

pub runs_same : (ks ls : List ℕ) → runs ks ≡ runs ls → ks ≡ ls
runs_same ks ls e = sym (keys_of-runs ks) ∙ ap (flat_map keys_of) e ∙ keys_of-runs ls
