-- The cells of slots: as the cells of one are written, and as a new one comes.
use Rattle.std.proofs.Common.{◌≡◌, refl, ap, ap₂, sym, zero, suc, map, ◌∙◌, ℕ, ◌+◌, ◌*◌, ◌<◌, ◌≤◌, arith, List, [], ◌∷◌, ◌++◌, length, take, drop, get_or, set, ℤ, inl, inr, length-append, length-drop}
use Rattle.std.{specs.List.range_with_len, proofs.Math.Nat.{add-mul, mul-suc}, proofs.Math.Seq.drop-append-add, proofs.lemmas.Bool.cases_lt, proofs.lemmas.Nat.row_fits, proofs.lemmas.List.{drop-take, drop_at, take_at, take_all, take-append-le, length-map, length-set, map-append, length-take-le, get_or-set_same, get_or-set_other, same_lists}, proofs.lemmas.List.FromFn.{length-range_with_len, get_or-map-range_with_len}, proofs.lemmas.Slice.{take-put_mid_below, drop-put_mid}}
use Rattle.key_lists.{proofs.Every.{every_weaker, map_same}, proofs.Ranges.{each_from, range-append, range_last}}
use borrow.Rule.Slice.PartMut.{put_mid}
use Rattle.tick_table.specs.Slots.{IsFilled, IsSlotList, SlotCells, slot_cells, slot_list}

-- a slot ends where the next begins or before
pub slot_fits : (slot count width : ℕ) → slot < count → slot * width + width ≤ count * width
slot_fits slot count width h = row_fits slot width count width h (omega arith)

pub length-slot_list : (width count : ℕ) (cells : List ℤ) → length (slot_list width count cells) ≡ count
length-slot_list width count cells = length-map (range_with_len 0 count) (slot_cells width cells) ∙ length-range_with_len 0 count

pub at-slot_list : (width count : ℕ) (cells : List ℤ) (slot : ℕ) (d : List ℤ) → slot < count → get_or (slot_list width count cells) slot d ≡ slot_cells width cells slot
at-slot_list width count cells slot d h = get_or-map-range_with_len (slot_cells width cells) 0 count slot slot d h (omega arith)

pub slot_list-next : (width count : ℕ) (cells : List ℤ) → slot_list width (count + 1) cells ≡ slot_list width count cells ++ slot_cells width cells count ∷ []
slot_list-next width count cells =
    let last : 0 + count ≡ count = omega arith in
    ap (map (slot_cells width cells)) (range_last 0 count ∙ ap (λ n. range_with_len 0 count ++ n ∷ []) last) ∙ map-append (slot_cells width cells) (range_with_len 0 count) (count ∷ [])

-- the place at which the cells of a slot begin
pub slot_within : (width count : ℕ) (cells : List ℤ) (view : SlotCells) (slot : ℕ) → length cells ≡ count * width → slot_list width count cells ≡ view.rows → slot < length view.rows
    → (slot < count) × (slot * width + width ≤ length cells)
slot_within width count cells view slot whole shown own =
    let below : slot < count = omega (arith, own, ap length shown, length-slot_list width count cells) in
    let ends = slot_fits slot count width below in
    (below, omega (arith, ends, whole))

-- the cells of a slot are written
module _ (width count : ℕ) (cells row : List ℤ) (slot : ℕ) (whole : length cells ≡ count * width) (fits : length row ≡ width) (h : slot < count) where
  abbrev written : List ℤ
  written = put_mid (slot * width) width cells row

  inside : slot * width + width ≤ length cells
  inside = let own = slot_fits slot count width h in omega (arith, own, whole)

  here : slot_cells width written slot ≡ row
  here =
      ap (take width) (drop_at (take (slot * width) cells) _ (slot * width) (length-take-le (slot * width) cells (omega (arith, inside))))
      ∙ take_at row _ width fits

  before : (other : ℕ) → other < slot → slot_cells width written other ≡ slot_cells width cells other
  before other less =
      let ends = slot_fits other slot width less in
      sym (drop-take (other * width) width written)
      ∙ ap (drop (other * width)) (take-put_mid_below (slot * width) width cells row (other * width + width) ends (omega (arith, inside)))
      ∙ drop-take (other * width) width cells

  after : (other : ℕ) → slot < other → slot_cells width written other ≡ slot_cells width cells other
  after other more =
      let begins = slot_fits slot other width more in
      ap (take width) (drop-put_mid (slot * width) width cells row (other * width) begins (omega (arith, inside)) fits)

  pub slot_list-set : slot_list width count written ≡ set (slot_list width count cells) slot row
  slot_list-set =
      same_lists (slot_list width count written) (set (slot_list width count cells) slot row)
      (length-slot_list width count written ∙ sym (length-set (slot_list width count cells) slot row ∙ length-slot_list width count cells))
      (λ k d less.
      let below : k < count = omega (arith, less, length-slot_list width count written) in
      at-slot_list width count written k d below
      ∙ (elim (cases_lt k slot) [
        | inl first ↦ before k first ∙ sym (get_or-set_other (slot_list width count cells) slot k row d (λ same. omega (arith, first, same)) ∙ at-slot_list width count cells k d below)
        | inr not_first ↦ elim (cases_lt slot k) [
          | inl later ↦ after k later ∙ sym (get_or-set_other (slot_list width count cells) slot k row d (λ same. omega (arith, later, same)) ∙ at-slot_list width count cells k d below)
          | inr not_later ↦
              let same : k ≡ slot = omega arith in
              ap (slot_cells width written) same ∙ here ∙ sym (ap (λ n. get_or (set (slot_list width count cells) slot row) n d) same ∙ get_or-set_same (slot_list width count cells) slot row d (omega (arith, h, length-slot_list width count cells)))
        ]
      ]))

  pub length-written : length written ≡ length cells
  length-written =
      length-append (take (slot * width) cells) _
      ∙ omega (arith, length-take-le (slot * width) cells (omega (arith, inside)), length-append row (drop width (drop (slot * width) cells)), length-drop width (drop (slot * width) cells), length-drop (slot * width) cells, fits, inside)

-- new slots come behind the others
module _ (width count n : ℕ) (cells rows : List ℤ) (whole : length cells ≡ count * width) where
  pub slot_list-append : slot_list width (count + n) (cells ++ rows) ≡ slot_list width count cells ++ slot_list width n rows
  slot_list-append =
      let slot = slot_cells width in
      ap (map (slot (cells ++ rows))) (range-append 0 count n)
      ∙ map-append (slot (cells ++ rows)) (range_with_len 0 count) (range_with_len (0 + count) n)
      ∙ ap₂ (λ (front back : List (List ℤ)). front ++ back)
      (map_same (slot (cells ++ rows)) (slot cells) (range_with_len 0 count) (each_from (λ k. slot (cells ++ rows) k ≡ slot cells k) 0 count (λ k most below. first k (omega (arith, below)))))
      (back n (0 + count) 0 (omega arith))
    where
      first : (k : ℕ) → k < count → slot_cells width (cells ++ rows) k ≡ slot_cells width cells k
      first k below =
          let ends = slot_fits k count width below in
          sym (drop-take (k * width) width (cells ++ rows))
          ∙ ap (drop (k * width)) (take-append-le (k * width + width) cells rows (omega (arith, ends, whole)))
          ∙ drop-take (k * width) width cells

      here : (a b : ℕ) → a ≡ count + b → slot_cells width (cells ++ rows) a ≡ slot_cells width rows b
      here a b e =
          let place : a * width ≡ length cells + b * width = omega (arith, ap (λ k. k * width) e, add-mul count b width, whole) in
          ap (λ k. take width (drop k (cells ++ rows))) place ∙ ap (take width) (drop-append-add cells rows (b * width))

      back : (n a b : ℕ) → a ≡ count + b → map (slot_cells width (cells ++ rows)) (range_with_len a n) ≡ map (slot_cells width rows) (range_with_len b n)
      back zero a b e = refl
      back (suc n) a b e = ap₂ (λ (row : List ℤ) (rest : List (List ℤ)). row ∷ rest) (here a b e) (back n (a + 1) (b + 1) (omega (arith, e)))

pub slot_list-open : (width count : ℕ) (cells row : List ℤ) → length cells ≡ count * width → length row ≡ width → slot_list width (count + 1) (cells ++ row) ≡ slot_list width count cells ++ row ∷ []
slot_list-open width count cells row whole fits =
    let start : 0 * width ≡ 0 = omega arith in
    slot_list-append width count 1 cells row whole ∙ ap (λ (row : List ℤ). slot_list width count cells ++ row ∷ []) (ap (λ n. take width (drop n row)) start ∙ take_all width row (omega (arith, fits)))

-- there are no more slots than cells
pub count_fits : (count width cells : ℕ) → 1 ≤ width → cells ≡ count * width → count ≤ cells
count_fits count zero cells some e = absurd (omega arith)
count_fits count (suc width) cells some e = omega (arith, e, mul-suc count width)

pub more_slots : (width count n : ℕ) (cells rows : List ℤ) (vacant : List ℕ) → IsSlotList width count cells vacant → length rows ≡ n * width → IsSlotList width (count + n) (cells ++ rows) vacant
more_slots width count n cells rows vacant are e = record {
  wide = are.wide;
  whole = omega (arith, length-append cells rows, are.whole, e, add-mul count n width);
  free = every_weaker (λ slot. slot < count) (λ slot. slot < count + n) vacant (λ slot own. omega (arith, own)) are.free;
}

-- a row was put into a slot that was free, or into a new one
pub filled_over : (row : List ℤ) (old new : SlotCells) (slot : ℕ) → new.width ≡ old.width → new.rows ≡ set old.rows slot row → old.free ≡ new.free ++ slot ∷ [] → slot < length old.rows → IsFilled row old new slot
filled_over row old new slot w rows free own =
    let same : length new.rows ≡ length old.rows = ap length rows ∙ length-set old.rows slot row in record {
      width = w;
      more = omega (arith, same);
      inside = omega (arith, same, own);
      here = ap (λ (rows : List (List ℤ)). get_or rows slot []) rows ∙ get_or-set_same old.rows slot row [] own;
      others = λ other below apart. ap (λ (rows : List (List ℤ)). get_or rows other []) rows ∙ get_or-set_other old.rows slot other row [] apart;
      source = inl free;
    }
