-- A merge makes what its operator of a plan makes, and steps as this one.
use Rattle.std.proofs.Common.{◌≡◌, refl, ap, ap₂, sym, ◌∙◌, subst, ℕ, zero, suc, ◌+◌, ◌*◌, ◌<◌, ◌≤◌, inl, inr, arith, cond, ltb, List, [], ◌∷◌, map, length, Option, Some, None}
use Rattle.std.{specs.Prelude.{Err, Ok, Result, replicate, slice_index, slice_index_or, sum_by}, specs.List.{AllByRecursion, range_with_len}, proofs.lemmas.Bool.{cases_lt, lt-ltb, le-ltb}, proofs.lemmas.List.{ext_get_or, length-map, length-replicate}, proofs.lemmas.List.FromFn.{length-map-range_with_len, get_or-map-range_with_len}, proofs.lemmas.List.Folds.sum_by-replicate, proofs.lemmas.List.Sums.sum_by-cons}
use Rattle.key_lists.proofs.Every.{map_map}
use Rattle.tick_model.{specs.declared.plan.Op.TheVariants.Merge, specs.declared.table.NodeFault.NodeFault, specs.declared.table.NodeFault.TheVariants.TooManyRows as ManyRows, specs.declared.table.PlainTable.PlainTable, specs.Changes.change_of, specs.Tables.{no_table, keys}, specs.Merge.{merge_fault, merge_pairs, merge_table, merged_rows, region}, specs.Updates.Tick}
use Rattle.tick_laws.specs.Operated.{operated}
use Rattle.tick_table.{specs.Exact.{counted, tick_of}, specs.Ticking.{Ticking, no_rows}}
use Rattle.table_operator.{specs.Inputs.{counted_in, news, tick_in}, specs.Made.{IsCause, IsMadeOf, own_fault, own_tick, room_for}, proofs.Rooms.count_is as as_many}
use Rattle.merge_op.{specs.declared.fault.MergeFault.MergeFault, specs.declared.fault.MergeFault.TheVariants.{Memory, TooManyRows}, specs.Made.{merge_made, of_merge}, specs.Merged.{Merging, merged, rows_in}}

-- the members of a list by their numbers are the list
numbered : {X : Type 0} (none : X) (xs : List X) (count : ℕ) → length xs ≡ count → map (λ n. slice_index_or xs n none) (range_with_len 0 count) ≡ xs
numbered none xs count long =
    let at = λ (n : ℕ). slice_index_or xs n none in
    let many = length-map-range_with_len at 0 count in
    ext_get_or none (map at (range_with_len 0 count)) xs (many ∙ sym long) (λ i less. get_or-map-range_with_len at 0 count i i none (omega (arith, less, many)) (omega arith))

-- the tick of a merge is that of its inputs' ticks, whatever their numbers
ticks_merged : List Tick → Tick
ticks_merged ticks = record { old = merge_table (map (λ (t : Tick). t.old) ticks); new = merge_table (map (λ (t : Tick). t.new) ticks); kept = merge_pairs ticks }

merges : (numbers : List ℕ) (tick : ℕ → Tick) (ticks : List Tick) → map tick numbers ≡ ticks → operated (Merge numbers) tick ≡ ticks_merged ticks
unfolding ticks_merged
merges numbers tick ticks e =
    ap₂ (λ (old new : List PlainTable). let made : Tick = record { old = merge_table old; new = merge_table new; kept = merge_pairs (map tick numbers) } in made)
    (sym (map_map (λ (t : Tick). t.old) tick numbers)) (sym (map_map (λ (t : Tick). t.new) tick numbers))
    ∙ ap (λ (ticks : List Tick). ticks_merged ticks) e

in_order : (ticks : List Tick) (count : ℕ) → length ticks ≡ count → operated (Merge (range_with_len 0 count)) (tick_in ticks) ≡ ticks_merged ticks
in_order ticks count long = merges (range_with_len 0 count) (tick_in ticks) ticks (numbered (record { old = no_table; new = no_table; kept = [] }) ticks count long)

pub own_is : (merge : Merging) (inputs : List Ticking) → length inputs ≡ merge.count → own_tick (merge_made merge) inputs ≡ merged inputs
unfolding ticks_merged
own_is merge inputs long =
    in_order (map tick_of inputs) merge.count (length-map inputs tick_of ∙ long)
    ∙ ap₂ (λ (old new : List PlainTable). let made : Tick = record { old = merge_table old; new = merge_table new; kept = merge_pairs (map tick_of inputs) } in made)
    (map_map (λ (t : Tick). t.old) tick_of inputs) (map_map (λ (t : Tick). t.new) tick_of inputs)

pub merge_is : (inputs : List ℕ) (merge : Merging) → merge.count ≡ length inputs → IsMadeOf (Merge inputs) (merge_made merge)
merge_is inputs merge count = record {
  tick = λ tick. merges inputs tick (map tick inputs) refl ∙ sym (in_order (map tick inputs) merge.count (length-map inputs tick ∙ sym count));
  fault = λ table. ap merge_fault (sym (numbered no_table (map table inputs) merge.count (length-map inputs table ∙ sym count)));
  width = refl;
  keys = λ tables keys. keys;
}

-- the rows of the tables of now
rows_of_news : (inputs : List Ticking) → sum_by (λ (table : PlainTable). length table.rows) (news inputs) ≡ rows_in inputs
rows_of_news [] = refl
rows_of_news (input ∷ inputs) =
    let rest = rows_of_news inputs in
    let first = sum_by-cons (λ (table : PlainTable). length table.rows) input.new (news inputs) in
    let also = sum_by-cons (λ (input : Ticking). length input.new.rows) input inputs in
    omega (arith, rest, first, also)

own_over : (merge : Merging) (inputs : List Ticking) → length inputs ≡ merge.count → own_fault (merge_made merge) inputs ≡ cond (ltb 4194304 (rows_in inputs)) (Some (ManyRows (rows_in inputs))) None
own_over merge inputs long =
    ap merge_fault (numbered no_table (news inputs) merge.count (length-map inputs (λ (input : Ticking). input.new) ∙ long))
    ∙ ap (λ count. cond (ltb 4194304 count) (let over : Option NodeFault = Some (ManyRows count) in over) None) (rows_of_news inputs)

pub not_over : (merge : Merging) (inputs : List Ticking) → length inputs ≡ merge.count → rows_in inputs ≤ 4194304 → own_fault (merge_made merge) inputs ≡ None
not_over merge inputs long few =
    own_over merge inputs long ∙ ap (λ b. cond b (let over : Option NodeFault = Some (ManyRows (rows_in inputs)) in over) None) (le-ltb 4194304 (rows_in inputs) few)

pub is_over : (merge : Merging) (inputs : List Ticking) → length inputs ≡ merge.count → 4194304 < rows_in inputs → own_fault (merge_made merge) inputs ≡ Some (ManyRows (rows_in inputs))
is_over merge inputs long many =
    own_over merge inputs long ∙ ap (λ b. cond b (let over : Option NodeFault = Some (ManyRows (rows_in inputs)) in over) None) (lt-ltb 4194304 (rows_in inputs) many)

-- the width of the rows is that of the first input
some_alike : (count n : ℕ) → 1 ≤ count → slice_index (replicate count n) 0 ≡ n
some_alike zero n h = absurd (omega (arith, h))
some_alike (suc count) n h = refl

err_is : {T E : Type 0} (e f : E) → (let err : Result T E = Err e in err) ≡ Err f → e ≡ f
err_is {T} {E} e f h = ap go h
  where
    go : Result T E → E
    go (Ok x) = e
    go (Err other) = other

pub cause_is : {T : Type 0} (merge : Merging) (inputs : List Ticking) (fault : MergeFault) → length inputs ≡ merge.count → (4194304 < rows_in inputs → (let err : Result T MergeFault = Err fault in err) ≡ Err (TooManyRows (rows_in inputs)))
    → (rows_in inputs ≤ 4194304 → fault ≡ Memory) → IsCause (of_merge fault) (own_fault (merge_made merge) inputs)
cause_is merge inputs fault long many few =
    elim (cases_lt 4194304 (rows_in inputs)) [
      | inl over ↦ subst (λ (fault : MergeFault). IsCause (of_merge fault) (own_fault (merge_made merge) inputs)) (sym (err_is fault (TooManyRows (rows_in inputs)) (many over))) (is_over merge inputs long over)
      | inr within ↦ subst (λ (fault : MergeFault). IsCause (of_merge fault) (own_fault (merge_made merge) inputs)) (sym (few within)) tt
    ]

room_is : (merge : Merging) (inputs : List Ticking) → length inputs ≡ merge.count → 1 ≤ merge.count
    → 4 * (merge.count * merge.width + merge.width) * (counted_in inputs + counted (change_of (merged inputs)).update) ≡ room_for (merge_made merge) inputs
room_is merge inputs long some =
    ap₂ (λ (wide : ℕ) (own : Tick). 4 * wide * (counted_in inputs + counted (change_of own).update))
    (ap₂ ◌+◌ (sym (sum_by-replicate (λ n. n) merge.count merge.width)) (sym (some_alike merge.count merge.width some)))
    (sym (own_is merge inputs long))

-- without inputs there is nothing to read
pub reads_within : (merge : Merging) (inputs : List Ticking) → length inputs ≡ merge.count → (reads first : ℕ)
    → reads ≤ first + 4 * (merge.count * merge.width + merge.width) * (counted_in inputs + counted (change_of (merged inputs)).update) → reads ≤ first + room_for (merge_made merge) inputs
reads_within merge [] long reads first h =
    let none : counted_in [] + counted (change_of (merged [])).update ≡ 0 = refl in
    omega (arith, subst (λ count. reads ≤ first + 4 * (merge.count * merge.width + merge.width) * count) none h)
reads_within merge (input ∷ inputs) long reads first h = subst (λ room. reads ≤ first + room) (room_is merge (input ∷ inputs) long (omega (arith, long))) h

pub count_is : (merge : Merging) (inputs : List Ticking) → map (λ (input : Ticking). input.new.width) inputs ≡ replicate merge.count merge.width → length inputs ≡ merge.count
count_is merge inputs e = as_many inputs (replicate merge.count merge.width) e ∙ length-replicate merge.count merge.width

-- what is answered where too many rows are refused has few
pub ok_is_within : {T E : Type 0} (count : ℕ) (x : T) (e : E) → (4194304 < count → (let ok : Result T E = Ok x in ok) ≡ Err e) → count ≤ 4194304
ok_is_within {T} {E} count x e h =
    elim (cases_lt 4194304 count) [
      | inl over ↦ absurd (let P : Result T E → Type 0 = λ r. elim r [ Ok _ ↦ Unit {0} | Err _ ↦ ⊥ ] in subst P (h over) tt)
      | inr within ↦ within
    ]

-- inputs of one width
pub alike : (n : ℕ) (widths : List ℕ) → AllByRecursion (λ width. width ≡ n) widths → replicate (length widths) n ≡ widths
alike n [] h = refl
alike n (width ∷ widths) h = ap₂ (λ first rest. first ∷ rest) (sym h.0) (alike n widths h.1)

rest_of : List ℕ → List ℕ
rest_of [] = []
rest_of (n ∷ ns) = ns

pub one_width : (inputs : List Ticking) (count n : ℕ) → map (λ (input : Ticking). input.new.width) inputs ≡ replicate count n → AllByRecursion (λ (input : Ticking). input.new.width ≡ n) inputs
unfolding rest_of
one_width [] count n e = tt
one_width (input ∷ inputs) zero n e = absurd (omega (arith, ap length e))
one_width (input ∷ inputs) (suc count) n e = (ap (λ ns. slice_index ns 0) e, one_width inputs count n (ap rest_of e))

pub none_merged : (offset : ℕ) (widths : List ℕ) → merged_rows offset (map no_rows widths) ≡ []
none_merged offset [] = refl
none_merged offset (width ∷ widths) = none_merged (offset + region (no_rows width)) widths
