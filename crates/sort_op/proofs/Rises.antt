-- Lists of entries that rise: their parts, an entry more and an entry less.
use Rattle.std.proofs.Common.{◌≡◌, true, ℕ, zero, suc, arith, List, [], ◌∷◌, ◌++◌, get_or}
use Rattle.std.{specs.Prelude.remove, specs.List.AllByRecursion, specs.List.Sorted.IsPartitionedBy}
use Rattle.key_lists.{proofs.Every.{every-append, all_from}, proofs.Parts.{every_front, every_back, every_remove}}
use Rattle.tick_model.specs.declared.plan.SortBy.{SortBy}
use Rattle.sort_op.{specs.declared.entry.Entry.Entry, specs.Entries.{comes_before, Rises}, proofs.Comparing.before_trans}

module _ (by : List SortBy) where
  pub rises_back : (xs ys : List Entry) → Rises by (xs ++ ys) → Rises by ys
  rises_back [] ys r = r
  rises_back (x ∷ xs) ys r = rises_back xs ys r.1

  pub rises_with : (entry : Entry) (xs ys : List Entry) → Rises by (xs ++ ys) → AllByRecursion (λ x. comes_before by x entry ≡ true) xs → AllByRecursion (λ y. comes_before by entry y ≡ true) ys → Rises by (xs ++ entry ∷ ys)
  rises_with entry [] ys r h k = (k, r)
  rises_with entry (x ∷ xs) ys r h k =
      (every-append (λ y. comes_before by x y ≡ true) xs (entry ∷ ys) (every_front (λ y. comes_before by x y ≡ true) xs ys r.0) (h.0, every_back (λ y. comes_before by x y ≡ true) xs ys r.0), rises_with entry xs ys r.1 h.1 k)

  pub rises_without : (xs : List Entry) (i : ℕ) → Rises by xs → Rises by (remove xs i)
  rises_without [] zero r = tt
  rises_without [] (suc i) r = tt
  rises_without (x ∷ xs) zero r = r.1
  rises_without (x ∷ xs) (suc i) r = (every_remove (λ y. comes_before by x y ≡ true) xs i r.0, rises_without xs i r.1)

  module _ (entry : Entry) where
    -- the entries before another come first
    pub parted : (xs : List Entry) → Rises by xs → IsPartitionedBy (λ x. comes_before by x entry) xs
    parted [] r i j d le lt h = absurd (omega arith)
    parted (x ∷ xs) r zero zero d le lt h = h
    parted (x ∷ xs) r zero (suc j) d le lt h = before_trans by x (get_or xs j d) entry (all_from (λ y. comes_before by x y ≡ true) xs r.0 j d (omega arith)) h
    parted (x ∷ xs) r (suc i) zero d le lt h = absurd (omega arith)
    parted (x ∷ xs) r (suc i) (suc j) d le lt h = parted xs r.1 i j d (omega arith) (omega arith) h
