-- The change of a tick may be applied to the tick's old table.
use Rattle.std.proofs.Common.{◌≡◌, ap, ap₂, sym, ◌∙◌, subst, ℕ, ◌+◌, ◌*◌, ◌^◌, ◌<◌, ◌≤◌, arith, List, [], ◌∷◌, ◌++◌, map, take, length, get_or, None}
use Rattle.std.{specs.Arc.arc_value, specs.List.{AllByRecursion, zip}, specs.declared.alloc.Global.Global, specs.declared.sync.Arc.Arc, proofs.lemmas.List.{get_or-map, length-map, map-append, map_more, take_all}, proofs.lemmas.Slice.Zip.{get_or-zip, length-zip}}
use Rattle.key_lists.proofs.Every.{all_from}
use Rattle.table_operator.specs.Inputs.{news, tables}
use Rattle.tick_model.{specs.declared.table.PlainTable.PlainTable, specs.Changes.{Change, change_of, told_keys}, specs.Tables.{no_table, keys}, specs.Rules.update_fault, specs.Sources.no_tick, specs.Updates.{IsTick, Tick}}
use Rattle.tick_table.{specs.Exact.ticking, specs.Ticking.Ticking, proofs.ExactAgain.{change_whole, exact_again, exact_lawful}}

pub change_lawful : (tick : Tick) → IsTick tick → (table : PlainTable) → table ≡ tick.old → (change : Change) → change ≡ change_of tick → update_fault (2 ^ 62) (keys table.rows) change.update ≡ None
change_lawful tick h table e change f = ap₂ (λ (t : PlainTable) (c : Change). update_fault (2 ^ 62) (keys t.rows) c.update) e f ∙ exact_lawful (ticking tick) (exact_again tick h)

pub change_fits : (tick : Tick) → IsTick tick → (table : PlainTable) → table ≡ tick.old → (change : Change) → change ≡ change_of tick → length change.cells ≡ length (told_keys change.update) * table.width
change_fits tick h table e change f =
    ap (λ (c : Change). length c.cells) f ∙ change_whole tick h ∙ sym (ap₂ (λ (t : PlainTable) (c : Change). length (told_keys c.update) * t.width) e f)

-- a table and a change at one place, where the tables are the old ones of ticks and the changes theirs
pub record IsTurn (ticks : List Tick) (k : ℕ) (source : Arc Ticking Global) (change : Change) : Type 0 where
  pub within : k < length ticks
  pub old : (arc_value {X = Ticking} source).new ≡ (get_or ticks k no_tick).old
  pub own : change ≡ change_of (get_or ticks k no_tick)

pub length_pairs : (ticks : List Tick) (sources : List (Arc Ticking Global)) (changes : List Change) → news (tables sources) ≡ map (λ (tick : Tick). tick.old) ticks → changes ≡ map change_of ticks → length (zip sources changes) ≡ length ticks
length_pairs ticks sources changes s c =
    let a = length-map sources (λ (x : Arc Ticking Global). arc_value {X = Ticking} x) in
    let b = length-map (tables sources) (λ (t : Ticking). t.new) in
    let d = ap length s in
    let e = length-map ticks (λ (tick : Tick). tick.old) in
    let f = ap length c in
    let g = length-map ticks change_of in
    let h = length-zip sources changes in
    omega arith

pub turn_at : (ticks : List Tick) (sources : List (Arc Ticking Global)) (changes : List Change) → news (tables sources) ≡ map (λ (tick : Tick). tick.old) ticks → changes ≡ map change_of ticks
    → (k : ℕ) (pair : Arc Ticking Global × Change) → k < length (zip sources changes) → pair ≡ get_or (zip sources changes) k pair → IsTurn ticks k pair.0 pair.1
turn_at ticks sources changes s c k pair within e =
    let all = length_pairs ticks sources changes s c in
    let g = ap length c in
    let l = length-map ticks change_of in
    let m = length-zip sources changes in
    let shown = length-map sources (λ (x : Arc Ticking Global). arc_value {X = Ticking} x) in
    let under : k < length sources = omega arith in
    let below : k < length changes = omega arith in
    let here : k < length ticks = omega arith in
    let there : k < length (tables sources) = omega arith in
    let both = e ∙ get_or-zip sources changes k pair under below in
    record {
      within = here;
      old =
          ap (λ (p : Arc Ticking Global × Change). (arc_value {X = Ticking} p.0).new) both
          ∙ ap (λ (t : Ticking). t.new) (sym (get_or-map (λ (x : Arc Ticking Global). arc_value {X = Ticking} x) sources k pair.0 (arc_value {X = Ticking} pair.0) under))
          ∙ sym (get_or-map (λ (t : Ticking). t.new) (tables sources) k (arc_value {X = Ticking} pair.0) no_table there)
          ∙ ap (λ olds. get_or olds k no_table) s
          ∙ get_or-map (λ (tick : Tick). tick.old) ticks k no_tick no_table here;
      own =
          ap (λ (p : Arc Ticking Global × Change). p.1) both
          ∙ ap (λ all. get_or all k pair.1) c
          ∙ get_or-map change_of ticks k no_tick pair.1 here;
    }

-- one more table at its tick
pub turned : (ticks : List Tick) (k n : ℕ) (changed after : List (Arc Ticking Global)) (next : Arc Ticking Global) → k < length ticks → n ≡ k + 1 → after ≡ changed ++ next ∷ []
    → tables changed ≡ map ticking (take k ticks) → arc_value {X = Ticking} next ≡ ticking (get_or ticks k no_tick) → tables after ≡ map ticking (take n ticks)
turned ticks k n changed after next within count pushed so_far own =
    ap tables pushed
    ∙ map-append (λ (x : Arc Ticking Global). arc_value {X = Ticking} x) changed (next ∷ [])
    ∙ ap₂ (λ (these : List Ticking) (last : Ticking). these ++ last ∷ []) so_far own
    ∙ sym (map_more ticking ticks k no_tick within)
    ∙ ap (λ m. map ticking (take m ticks)) (sym count)

pub all_turned : (ticks : List Tick) (k : ℕ) (changed : List (Arc Ticking Global)) → length ticks ≤ k → tables changed ≡ map ticking (take k ticks) → tables changed ≡ map ticking ticks
all_turned ticks k changed all so_far = so_far ∙ ap (map ticking) (take_all k ticks all)

-- an element has what all have
pub at_place : {X : Type 0} (P : X → Type 0) (xs ys : List X) → AllByRecursion P xs → ys ≡ xs → (k : ℕ) (y : X) → k < length ys → y ≡ get_or ys k y → P y
at_place P xs ys h same k y within e = subst P (sym e) (all_from P ys (subst (AllByRecursion P) (sym same) h) k y within)
