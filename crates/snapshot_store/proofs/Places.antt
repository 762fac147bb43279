-- Where the words of a bank stand, and lines that are whole rows.
use Rattle.std.proofs.Common.{◌≡◌, ℕ, zero, suc, ◌+◌, ◌-◌, ◌*◌, ◌<◌, ◌≤◌, List, [], ◌∷◌, ◌++◌, length, get_or, set, true, sym, refl, ap, ◌∙◌, subst, arith, mul-le-mul_right, ext_get_or, length-append}
use mathlib.Core.Logic.{dite}
use mathlib.Core.Option.{some, some-injective, some-ne-none}
use lib.ListN.{get_elem?}
use Rattle.atomic_table.proofs.Lists.{set_else}
use Rattle.snapshot_store.{specs.declared.board.StoreView.StoreView, specs.Lines.{below, count, width, size, total, spot, line_of, IsWhole}, specs.Views.Begins}
use native.Mathlib.Decide.{ℕ_discrete, dec_le}
use Rattle.tick_model.specs.declared.feed.Run.{Run}
use Rattle.std.{proofs.Math.Seq.get_or-append_right, proofs.Math.ListN.get_or-append}

pub below_less : (f : ℕ → ℕ) (n p i : ℕ) → p < n → i < f p → below f p + i < below f n
below_less f zero p i h l = absurd (omega arith)
below_less f (suc n) p i h l = dite (ℕ_discrete p n)
    (λ e. let same : below f p ≡ below f n = ap (below f) e in let now : f p ≡ f n = ap f e in omega arith)
    (λ other. let q : p < n = omega arith in let r = below_less f n p i q l in omega arith)

pub place_unique : (f : ℕ → ℕ) (p q i j : ℕ) → i < f p → j < f q → below f p + i ≡ below f q + j → (p ≡ q) × (i ≡ j)
place_unique f p q i j a b e = dite (ℕ_discrete p q)
    (λ same. let s : below f p ≡ below f q = ap (below f) same in (same, omega arith))
    (λ other. dite (dec_le p q)
    (λ le. let less : p < q = omega arith in let r = below_less f q p i less a in absurd (omega arith))
    (λ gt. let less : q < p = omega arith in let r = below_less f p q j less b in absurd (omega arith)))

pub spot_high : (run : Run) (bank p i : ℕ) → 2 ≤ spot run bank p i
unfolding spot
spot_high run bank p i = omega arith

bank_times : (bank t : ℕ) → bank < 2 → bank * t ≤ t
bank_times bank t h = let a : bank * t ≤ 1 * t = mul-le-mul_right t (omega arith) in omega arith

pub spot_bound : (run : Run) (bank p i : ℕ) → bank < 2 → p < count run → i < size run p → spot run bank p i < 2 + 2 * total run
unfolding spot
spot_bound run bank p i b l h = let r = below_less (size run) (count run) p i l h in let t = bank_times bank (total run) b in omega arith

bank_unique : (t a b x y : ℕ) → a < 2 → b < 2 → x < t → y < t → a * t + x ≡ b * t + y → (a ≡ b) × (x ≡ y)
bank_unique t a b x y la lb lx ly e = dite (ℕ_discrete a 0)
    (λ a0. dite (ℕ_discrete b 0)
    (λ b0. let p : a * t ≡ 0 * t = ap (λ n. n * t) a0 in let q : b * t ≡ 0 * t = ap (λ n. n * t) b0 in (omega arith, omega arith))
    (λ b1. let one : b ≡ 1 = omega arith in let p : a * t ≡ 0 * t = ap (λ n. n * t) a0 in let q : b * t ≡ 1 * t = ap (λ n. n * t) one in absurd (omega arith)))
    (λ a1. let aone : a ≡ 1 = omega arith in let p : a * t ≡ 1 * t = ap (λ n. n * t) aone in dite (ℕ_discrete b 0)
    (λ b0. let q : b * t ≡ 0 * t = ap (λ n. n * t) b0 in absurd (omega arith))
    (λ b1. let one : b ≡ 1 = omega arith in let q : b * t ≡ 1 * t = ap (λ n. n * t) one in (omega arith, omega arith)))

pub spot_unique : (run : Run) (a b p q i j : ℕ) → a < 2 → b < 2 → p < count run → q < count run → i < size run p → j < size run q → spot run a p i ≡ spot run b q j → (a ≡ b) × (p ≡ q) × (i ≡ j)
unfolding spot
spot_unique run a b p q i j la lb lp lq li lj e =
    let x = below_less (size run) (count run) p i lp li in let y = below_less (size run) (count run) q j lq lj in
    let h = bank_unique (total run) a b (below (size run) p + i) (below (size run) q + j) la lb x y (omega arith) in
    let g = place_unique (size run) p q i j li lj h.1 in (h.0, g.0, g.1)

-- words that begin a line, and are as many as their first word says, are the line
pub whole_line : (run : Run) (s p : ℕ) (read : List ℕ) → IsWhole run s p → length read ≡ 1 + get_or read 0 0 * (1 + width run p) → Begins read (line_of run s p) → read ≡ line_of run s p
whole_line run s p read shape long begins = let first : get_or read 0 0 ≡ get_or (line_of run s p) 0 0 = (begins 0 (omega arith)).1 in
    let same : length read ≡ length (line_of run s p) = long ∙ (ap (λ (n : ℕ). 1 + n * (1 + width run p)) first ∙ sym shape) in
    ext_get_or 0 read (line_of run s p) same (λ i h. (begins i h).1)

-- a word further is within the line, where the first one says so
pub within_line : (run : Run) (s p : ℕ) (read : List ℕ) → IsWhole run s p → 0 < length read → length read < 1 + get_or read 0 0 * (1 + width run p) → Begins read (line_of run s p) → length read < length (line_of run s p)
within_line run s p read shape has_one less begins = let first : get_or read 0 0 ≡ get_or (line_of run s p) 0 0 = (begins 0 has_one).1 in
    let same : 1 + get_or read 0 0 * (1 + width run p) ≡ length (line_of run s p) = ap (λ (n : ℕ). 1 + n * (1 + width run p)) first ∙ sym shape in omega arith

-- one more word read
pub begins_more : (read line : List ℕ) (r : ℕ) → Begins read line → length read < length line → r ≡ get_or line (length read) 0 → Begins (read ++ r ∷ []) line
begins_more read line r old inside new i h = let len = length-append read (r ∷ []) in dite (ℕ_discrete i (length read))
    (λ e. let at : get_or (read ++ r ∷ []) i 0 ≡ r = get_or-append_right read (r ∷ []) i 0 (omega arith) ∙ ap (λ (k : ℕ). get_or (r ∷ []) k 0) (let z : i - length read ≡ 0 = omega arith in z) in
    ((omega arith), at ∙ (new ∙ ap (λ (k : ℕ). get_or line k 0) (sym e))))
    (λ other. let o = old i (omega arith) in (o.0, get_or-append read (r ∷ []) 0 i (omega arith) ∙ o.1))

module _ {A : Type 0} where
  pub set_at : (l : List A) (i : ℕ) (a b : A) → get_elem? l i ≡ some a → get_elem? (set l i b) i ≡ some b
  set_at [] i a b e = absurd (some-ne-none a (sym e))
  set_at (x ∷ xs) zero a b e = refl
  set_at (x ∷ xs) (suc i) a b e = set_at xs i a b e

-- who had the turn has it still, where a seat keeps its own
pub held_on : (vs : List StoreView) (holder me : ℕ) (v w : StoreView) → get_elem? vs me ≡ some v → w.turn ≡ v.turn → (x : StoreView) × (get_elem? vs holder ≡ some x) × (x.turn ≡ true)
    → (x : StoreView) × (get_elem? (set vs me w) holder ≡ some x) × (x.turn ≡ true)
held_on vs holder me v w at same h = dite (ℕ_discrete holder me)
    (λ e. let here : get_elem? vs holder ≡ some v = subst (λ (k : ℕ). get_elem? vs k ≡ some v) (sym e) at in
    let is : h.0 ≡ v = some-injective h.0 v (sym h.1 ∙ here) in (w, subst (λ (k : ℕ). get_elem? (set vs me w) k ≡ some w) (sym e) (set_at vs me v w at), same ∙ (ap (λ z. z.turn) (sym is) ∙ h.2)))
    (λ other. (h.0, set_else vs me holder w other ∙ h.1, h.2))
