-- The words with which a store begins.
use Rattle.std.proofs.Common.{◌≡◌, ℕ, zero, suc, ⊎_elim, ◌+◌, ◌-◌, ◌*◌, ◌<◌, ◌≤◌, ◌⊎◌, List, [], ◌∷◌, length, take, ◌++◌, get_or, set, replicate, sym, refl, ap, ◌∙◌, subst, inl, inr, arith, length-set, get_or-set_other, get_or-set_same}
use mathlib.Core.Logic.{dite}
use mathlib.Core.Option.{some, some-injective, some-ne-none}
use native.Mathlib.Decide.{ℕ_discrete, dec_le}
use lib.ListN.{get_elem?}
use Rattle.atomic_table.specs.Table.{opening}
use Rattle.tick_model.{specs.declared.feed.Run.Run, specs.declared.table.PlainTable.PlainTable, specs.Tables.no_table, specs.LawfulRuns.IsLawfulRun, specs.Words.words, specs.Clock.completed}
use Rattle.snapshot_store.{specs.declared.board.StoreView.StoreView, specs.Lines.{count, limit, size, total, spot, line_of, IsWhole}, specs.Rule.{Stands, Holds, Knows, KeepsRule}, specs.Views.first_view, specs.Opening.{IsLaying, AreOpening, AreFirst}, proofs.Places.{spot_high, spot_bound, spot_unique}, proofs.Calls.{spot_from, line_fits}, proofs.Published.{line_named, line_rows, line_whole, opening_keeps}}
use Rattle.std.{specs.Prelude.map, specs.Arc.arc_value, specs.declared.alloc.Global.Global, specs.declared.sync.Arc.Arc, proofs.lemmas.List.get_or-map}
use Rattle.key_lists.proofs.Parts.{take_front}
use Rattle.tick_table.specs.Ticking.{Ticking}

zeros : (o n i : ℕ) → get_or (replicate n o) i o ≡ o
zeros o zero i = refl
zeros o (suc n) zero = refl
zeros o (suc n) (suc i) = zeros o n i

pub laid_first : (run : Run) (words : List ℕ) → words ≡ set (replicate (2 + 2 * total run) 0) 0 1 → length words ≡ 2 + 2 * total run → IsLaying run words 0
laid_first run words is long = record {
  long = long;
  clock = ap (λ (z : List ℕ). get_or z 0 0) is ∙ get_or-set_same (replicate (2 + 2 * total run) 0) 0 1 0 (let same : length words ≡ length (replicate (2 + 2 * total run) 0) = ap length is ∙ length-set (replicate (2 + 2 * total run) 0) 0 1 in omega arith);
  free = ap (λ (z : List ℕ). get_or z 1 0) is ∙ (get_or-set_other (replicate (2 + 2 * total run) 0) 0 1 1 0 (λ e. omega arith) ∙ zeros 0 (2 + 2 * total run) 1);
  done = λ p i l _ _. absurd (omega arith);
  whole = λ p l _. absurd (omega arith);
  few = λ bank p _ _. let h = spot_high run bank p 0 in
      let z : get_or words (spot run bank p 0) 0 ≡ 0 = ap (λ (z : List ℕ). get_or z (spot run bank p 0) 0) is ∙ (get_or-set_other (replicate (2 + 2 * total run) 0) 0 (spot run bank p 0) 1 0 (λ e. omega arith) ∙ zeros 0 (2 + 2 * total run) (spot run bank p 0)) in omega arith;
}

module _ (run : Run) (ws ws' table : List ℕ) (p start : ℕ) (inside : p < count run) (is : table ≡ line_of run 0 p) (fits : length table ≤ size run p) (rows : get_or table 0 0 ≤ limit run p) (from : start ≡ spot run 0 p 0)
    (shape : IsWhole run 0 p) (in_it : (i : ℕ) → i < length table → get_or ws' (start + i) 0 ≡ get_or table i 0) (out_of_it : (k : ℕ) → (k < start) ⊎ (start + length table ≤ k) → get_or ws' k 0 ≡ get_or ws k 0) where
  -- a word of a bank is one of the table that was written, or as it was
  word_of : (b q j : ℕ) → b < 2 → q < count run → j < size run q
      → ((b ≡ 0) × (q ≡ p) × (j < length table) × (get_or ws' (spot run b q j) 0 ≡ get_or table j 0)) ⊎ (get_or ws' (spot run b q j) 0 ≡ get_or ws (spot run b q j) 0)
  word_of b q j lb lq lj = let k : ℕ = spot run b q j in dite (dec_le start k)
      (λ lo. dite (dec_le (start + length table) k)
      (λ hi. inr (out_of_it k (inr hi)))
      (λ less. let i : ℕ = k - start in let at : start + i ≡ k = omega arith in let e = spot_from run 0 p i in
      let place : spot run 0 p i ≡ spot run b q j = omega arith in
      let u = spot_unique run 0 b p q i j (omega arith) lb inside lq (omega arith) lj place in
      inl (
        sym u.0,
        sym u.1,
        (let w = u.2 in omega arith),
        ap (λ (z : ℕ). get_or ws' z 0) (sym at) ∙ (in_it i (omega arith) ∙ ap (λ (z : ℕ). get_or table z 0) u.2),
      )))
      (λ gt. inr (out_of_it k (inl (omega arith))))

  pub laid_more : length ws' ≡ length ws → IsLaying run ws p → IsLaying run ws' (p + 1)
  laid_more same old = record {
    long = same ∙ old.long;
    clock = (let h = spot_high run 0 p 0 in out_of_it 0 (inl (omega arith))) ∙ old.clock;
    free = (let h = spot_high run 0 p 0 in out_of_it 1 (inl (omega arith))) ∙ old.free;
    done = λ q i l lq li. dite (ℕ_discrete q p)
        (λ e. let e' : p ≡ q = sym e in subst (λ (z : ℕ). Stands run ws' 0 z i) e' (
        let li' : i < length (line_of run 0 p) = subst (λ (z : ℕ). i < length (line_of run 0 z)) e li in
        let long : length table ≡ length (line_of run 0 p) = ap length is in
        let at = spot_from run 0 p i in
        ((omega arith), ap (λ (z : ℕ). get_or ws' z 0) (let a : spot run 0 p i ≡ start + i = omega arith in a) ∙ (in_it i (omega arith) ∙ ap (λ (z : List ℕ). get_or z i 0) is))))
        (λ other. let st = old.done q i (omega arith) lq li in (
          st.0,
          ⊎_elim (λ t. absurd (other t.1)) (λ t. t ∙ st.1) (word_of 0 q i (omega arith) lq st.0),
        ));
    whole = λ q l lq. dite (ℕ_discrete q p) (λ e. subst (λ (z : ℕ). IsWhole run 0 z) (sym e) shape) (λ other. old.whole q (omega arith) lq);
    few = λ b q lb lq. ⊎_elim
        (λ t. let w = t.3 in let r : get_or table 0 0 ≤ limit run q = subst (λ (z : ℕ). get_or table 0 0 ≤ limit run z) (sym t.1) rows in omega arith)
        (λ t. let o = old.few b q lb lq in omega arith) (word_of b q 0 lb lq (omega arith));
  }

pub laid_all : (run : Run) (words : List ℕ) (n : ℕ) → n ≡ count run → IsLaying run words n → AreOpening run words
laid_all run words n e old = record {
  long = old.long;
  clock = old.clock;
  free = old.free;
  holds = λ p i lp li. old.done p i (omega arith) lp li;
  whole = λ p lp. old.whole p (omega arith) lp;
  few = old.few;
}

pub opens : (run : Run) (words : List ℕ) → AreOpening run words → KeepsRule run (opening words [] (first_view run))
opens run words o = let clock = o.clock in record {
  holder = 0;
  writer = 0;
  stored = 0;
  wide = o.long;
  bit = (let z = o.free in omega arith);
  held = λ e. let z = o.free in absurd (omega arith);
  started = omega arith;
  live = λ c lo hi. let z : c ≡ 0 = omega arith in subst (λ (k : ℕ). Holds run words k) (sym z) o.holds;
  whole = λ c p lo hi lp. let z : c ≡ 0 = omega arith in subst (λ (k : ℕ). IsWhole run k p) (sym z) (o.whole p lp);
  filled = λ c e. absurd (omega arith);
  counted = o.few;
  each_seat = seats;
}
  where
    seats : (j : ℕ) (v : StoreView) → get_elem? (first_view run ∷ []) j ≡ some v → Knows run (get_or words 0 0) (get_or words 1 0) 0 0 0 j v
    seats zero v e = subst (Knows run (get_or words 0 0) (get_or words 1 0) 0 0 0 0) (some-injective (first_view run) v e) record {
      names = λ r named. cc;
      below_clock = omega arith;
      looks_below = λ i d l. absurd (omega arith);
      has_turn = λ e. absurd (cc);
      does = (refl, sym o.clock, (let k : completed (get_or words 0 0) ≡ 0 = omega arith in k), refl);
    }
    seats (suc j) v e = absurd (some-ne-none v (sym e))

pub front : (a b : List ℕ) (n : ℕ) → n ≡ length a → take n (a ++ b) ≡ a
front a b n e = ap (λ (k : ℕ). take k (a ++ b)) e ∙ take_front a b

-- the table that is shared, at its place
pub shared_table : (tables : List (Arc Ticking Global)) (p : ℕ) (shared : Arc Ticking Global) (table : Ticking) → p < length tables → shared ≡ get_or tables p shared → table ≡ arc_value shared
    → table.new ≡ get_or (map (λ (shared : Arc Ticking Global). (arc_value {X = Ticking} shared).new) tables) p no_table
shared_table tables p shared table h is value =
    ap (λ (t : Ticking). t.new) value
    ∙ (ap (λ (s : Arc Ticking Global). (arc_value {X = Ticking} s).new) is ∙ sym (get_or-map (λ (shared : Arc Ticking Global). (arc_value {X = Ticking} shared).new) tables p shared no_table h))

pub table_is : (run : Run) (tables : List PlainTable) (p : ℕ) (s : List ℕ) → IsLawfulRun run → AreFirst run tables → p < count run → s ≡ words (get_or tables p no_table)
    → (s ≡ line_of run 0 p) × (length s ≤ size run p) × (get_or s 0 0 ≤ limit run p)
table_is run tables p s lawful first inside is =
    let line_is : s ≡ line_of run 0 p = is ∙ (ap words (first.each p inside) ∙ sym (line_named run 0 p)) in
    let few : get_or s 0 0 ≤ limit run p = (let f = first.few p inside in let r = line_rows run 0 p lawful (opening_keeps run) inside in let e : get_or s 0 0 ≡ get_or (line_of run 0 p) 0 0 = ap (λ (z : List ℕ). get_or z 0 0) line_is in omega arith) in
    (line_is, (line_fits run 0 p s (line_whole run 0 p lawful (opening_keeps run) inside) line_is).1 few, few)

pub table_ends : (run : Run) (p start long : ℕ) → p < count run → start ≡ spot run 0 p 0 → long ≤ size run p → start + long ≤ 2 + 2 * total run
table_ends run p start long inside from fits = dite (ℕ_discrete long 0)
    (λ z. let b = spot_bound run 0 p 0 (omega arith) inside (omega arith) in omega arith)
    (λ some. let b = spot_bound run 0 p (long - 1) (omega arith) inside (omega arith) in let e = spot_from run 0 p (long - 1) in omega arith)
