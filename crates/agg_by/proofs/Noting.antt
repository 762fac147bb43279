-- The rows that are noted of the touched groups.
use Rattle.std.proofs.Common.{◌≡◌, refl, ap, ap₂, sym, ◌∙◌, Bool, true, false, ℕ, zero, suc, ◌+◌, ◌-◌, ◌*◌, ◌<◌, ◌≤◌, zero-add, arith, List, [], ◌∷◌, ◌++◌, length, take, drop, Some, ℤ, slice_range, if◌then◌else◌, Ok, Err}
use Rattle.std.{specs.List.AllByRecursion, specs.Prelude.{flat_map, slice_get}, specs.Result.result_ok, proofs.Math.Nat.mul-le-mul_left, proofs.lemmas.List.length-append, proofs.lemmas.Option.{none-some, same_Some}}
use Rattle.key_lists.{specs.Keys.{is_among, IsRising}, proofs.Parts.take_front}
use Rattle.row_set.{specs.Sets.{count_below, found}, proofs.Lookups.count_at}
use Rattle.tick_model.{specs.declared.table.PlainTable.PlainTable, specs.Tables.{cells_at, keys}}
use Rattle.agg_by.{specs.declared.notes.PriorRows.PriorRows, specs.Notes.IsNoted}

-- all of them together
pub length_noted : (f : ℕ → List ℤ) (width : ℕ) (keys : List ℕ) → AllByRecursion (λ key. length (f key) ≡ width) keys → length (flat_map f keys) ≡ length keys * width
length_noted f width [] h = nothing
  where
    nothing : 0 ≡ 0 * width
    nothing = omega arith
length_noted f width (key ∷ keys) h = length-append (f key) (flat_map f keys) ∙ more (length (f key)) (length (flat_map f keys)) (length keys) h.0 (length_noted f width keys h.1)
  where
    more : (a b n : ℕ) → a ≡ width → b ≡ n * width → a + b ≡ suc n * width
    more a b n e h = omega (arith, e, h)

drop_past : (n : ℕ) (xs ys : List ℤ) → drop (length xs + n) (xs ++ ys) ≡ drop n ys
drop_past n [] ys = ap (λ m. drop m ys) (zero-add n)
drop_past n (x ∷ xs) ys = ap (λ m. drop m (x ∷ xs ++ ys)) (next (length xs) n) ∙ drop_past n xs ys
  where
    next : (a b : ℕ) → suc a + b ≡ suc (a + b)
    next a b = omega arith

part_of : (f : ℕ → List ℤ) (width : ℕ) (keys : List ℕ) (place key : ℕ) → AllByRecursion (λ key. length (f key) ≡ width) keys → slice_get keys place ≡ Some key → take width (drop (place * width) (flat_map f keys)) ≡ f key
part_of f width [] place key h e = absurd (none-some key e)
part_of f width (other ∷ keys) zero key h e =
    ap₂ (λ count from. take count (drop from (f other ++ flat_map f keys))) (sym h.0) nothing ∙ take_front (f other) (flat_map f keys) ∙ ap f (same_Some _ _ e)
  where
    nothing : 0 * width ≡ 0
    nothing = omega arith
part_of f width (other ∷ keys) (suc place) key h e =
    ap (λ from. take width (drop from (f other ++ flat_map f keys))) (past place (length (f other)) h.0)
    ∙ ap (take width) (drop_past (place * width) (f other) (flat_map f keys)) ∙ part_of f width keys place key h.1 e
  where
    past : (n a : ℕ) → a ≡ width → suc n * width ≡ a + n * width
    past n a e = omega (arith, e)

-- the cells of the row at a place
pub noted_at : (notes : PriorRows) (table : PlainTable) (place key : ℕ) → IsNoted notes table → slice_get notes.keys place ≡ Some key → slice_range notes.cells.items (place * notes.width) (place * notes.width + notes.width) ≡ cells_at key table.rows
noted_at notes table place key noted here =
    ap₂ (λ count (cells : List ℤ). take count (drop (place * notes.width) cells)) (less (place * notes.width) notes.width) noted.cells
    ∙ part_of (λ key. cells_at key table.rows) notes.width notes.keys place key noted.whole here
  where
    less : (a b : ℕ) → a + b - a ≡ b
    less a b = omega arith

pub noted_room : (notes : PriorRows) (table : PlainTable) → IsNoted notes table → length notes.cells.items ≡ length notes.keys * notes.width
noted_room notes table noted = ap length noted.cells ∙ length_noted (λ key. cells_at key table.rows) notes.width notes.keys noted.whole

pub found_ok : (key : ℕ) (set : List ℕ) (place : ℕ) → result_ok (found key set) ≡ Some place → (is_among key set ≡ true) × (count_below key set ≡ place)
found_ok key set place e = by (is_among key set) refl e
  where
    by : (b : Bool) → is_among key set ≡ b → result_ok {T = ℕ} {E = ℕ} (if b then Ok (count_below key set) else Err (count_below key set)) ≡ Some place → (is_among key set ≡ true) × (count_below key set ≡ place)
    by true own e = (own, same_Some _ _ e)
    by false own e = absurd (none-some place e)

pub place_of_found : (key : ℕ) (keys : List ℕ) (place : ℕ) → IsRising keys → result_ok (found key keys) ≡ Some place → slice_get keys place ≡ Some key
place_of_found key keys place rising e = let own = found_ok key keys place e in ap (slice_get keys) (sym own.1) ∙ count_at key keys rising own.0

-- there is room for a row at a place
pub room_at : (place width count all : ℕ) → place < count → count * width ≤ all → place * width + width ≤ all
room_at place width count all below room = omega (arith, below, room, mul-le-mul_left width below)
