-- Lists of blocks: where a key is found in them.
use Rattle.std.proofs.Common.{◌≡◌, ◌≢◌, refl, ap, sym, ◌∙◌, subst, true, false, cond, ℕ, zero, suc, ◌-◌, ◌<◌, ◌≤◌, arith, List, [], ◌∷◌, ◌++◌, map, length, take, drop, get_or, Option, Some, None, ltb, ltb-true, ltb-false, take-append-drop, take_all}
use Rattle.std.{specs.Option.option_or, specs.Prelude.slice_get, specs.List.AllByRecursion, specs.List.Sorted.{IsPartitionPoint, IsPartitionedBy, IsNonDecreasingBy}, proofs.lemmas.Bool.eq-eqb, proofs.lemmas.List.Sorted.{IsPartitionedBy-ltb}, proofs.lemmas.List.map-append, proofs.lemmas.List.Elements.recursion_from_All, proofs.lemmas.Option.get_or_from_slice_get, proofs.lemmas.Grind.flat_map-append}
use Rattle.key_lists.{proofs.Every.{every_weaker, every-append, every-map, every_unmapped}, proofs.Parts.{every_front, every_back, front_part, back_part, every_at, around, last_taken}}
use Rattle.row_handles.{specs.declared.block.RowBlock.RowBlock, specs.declared.block.BlockRow.BlockRow, specs.Entries.{handle_under, Ascend}, specs.Blocks.{IsBlock, entry_at, rows_of, rows}, proofs.EntryLists.{handle_under-append, handle_under-above, handle_under-below, ascend_front, ascend_back, begin_has, from_begin, begin_below, below_begin}}

-- what holds of the last holds of those that are no greater
pub until_last : {X : Type 0} (f : X → ℕ) (P : X → Type 0) → ((x y : X) → f x ≤ f y → P y → P x) → (xs : List X) (last : X) → IsNonDecreasingBy f xs → slice_get xs (length xs - 1) ≡ Some last → P last → AllByRecursion P xs
until_last f P down xs last rise at p =
    recursion_from_All P xs
    (λ k d lt. down (get_or xs k d) (get_or xs (length xs - 1) d) (rise k (length xs - 1) d (omega arith) (omega arith)) (subst P (sym (get_or_from_slice_get xs (length xs - 1) last d at)) p))

-- rows within a block
lt_le : (a b : ℕ) → a < b → a ≤ b
lt_le a b h = omega arith

pub keys_rise : (ceiling : ℕ) (xs : List BlockRow) → Ascend (map (entry_at ceiling) xs) → IsNonDecreasingBy (λ row. ceiling - row.depth) xs
keys_rise ceiling [] ascend i j d le lt = absurd (omega arith)
keys_rise ceiling (x ∷ xs) ascend zero zero d le lt = omega arith
keys_rise ceiling (x ∷ xs) ascend zero (suc j) d le lt =
    lt_le (ceiling - x.depth) (ceiling - (get_or xs j d).depth) (every_at (λ row. ceiling - x.depth < ceiling - row.depth) xs j d (omega arith) (every_unmapped (λ y. ceiling - x.depth < y.key) (entry_at ceiling) xs ascend.0))
keys_rise ceiling (x ∷ xs) ascend (suc i) zero d le lt = absurd (omega arith)
keys_rise ceiling (x ∷ xs) ascend (suc i) (suc j) d le lt = keys_rise ceiling xs ascend.1 i j d (omega arith) (omega arith)

pub keys_parted : (ceiling key : ℕ) (xs : List BlockRow) → Ascend (map (entry_at ceiling) xs) → IsPartitionedBy (λ row. ltb (ceiling - row.depth) key) xs
keys_parted ceiling key xs ascend = IsPartitionedBy-ltb (λ row. ceiling - row.depth) xs key (keys_rise ceiling xs ascend)

pub keys_below : (ceiling key : ℕ) (xs : List BlockRow) (i : ℕ) → IsPartitionPoint (λ row. ltb (ceiling - row.depth) key ≡ true) (λ row. ltb (ceiling - row.depth) key ≡ false) xs i → AllByRecursion (λ row. ceiling - row.depth < key) (take i xs)
keys_below ceiling key xs i h = every_weaker (λ row. ltb (ceiling - row.depth) key ≡ true) (λ row. ceiling - row.depth < key) (take i xs) (λ row e. ltb-true (ceiling - row.depth) key e) (front_part (λ row. ltb (ceiling - row.depth) key) xs i h)

pub keys_from : (ceiling key : ℕ) (xs : List BlockRow) (i : ℕ) → IsPartitionPoint (λ row. ltb (ceiling - row.depth) key ≡ true) (λ row. ltb (ceiling - row.depth) key ≡ false) xs i → AllByRecursion (λ row. key ≤ ceiling - row.depth) (drop i xs)
keys_from ceiling key xs i h = every_weaker (λ row. ltb (ceiling - row.depth) key ≡ false) (λ row. key ≤ ceiling - row.depth) (drop i xs) (λ row e. ltb-false (ceiling - row.depth) key e) (back_part (λ row. ltb (ceiling - row.depth) key) xs i h)

-- the rows in two parts
pub parts : (ceiling : ℕ) (xs : List BlockRow) (i : ℕ) → map (entry_at ceiling) xs ≡ map (entry_at ceiling) (take i xs) ++ map (entry_at ceiling) (drop i xs)
parts ceiling xs i = ap (map (entry_at ceiling)) (sym (take-append-drop i xs)) ∙ map-append (entry_at ceiling) (take i xs) (drop i xs)

pub handle_past : (ceiling key : ℕ) (xs : List BlockRow) (i : ℕ) → AllByRecursion (λ row. ceiling - row.depth < key) (take i xs) → handle_under key (map (entry_at ceiling) xs) ≡ handle_under key (map (entry_at ceiling) (drop i xs))
handle_past ceiling key xs i h =
    ap (handle_under key) (parts ceiling xs i)
    ∙ handle_under-append key (map (entry_at ceiling) (take i xs)) (map (entry_at ceiling) (drop i xs))
    ∙ ap (λ handle. option_or handle (handle_under key (map (entry_at ceiling) (drop i xs)))) (handle_under-below key (map (entry_at ceiling) (take i xs)) (every-map (λ x. x.key < key) (entry_at ceiling) (take i xs) h))

pub handle_none : (ceiling key : ℕ) (xs : List BlockRow) (i : ℕ) → AllByRecursion (λ row. ceiling - row.depth < key) (take i xs) → length xs ≤ i → handle_under key (map (entry_at ceiling) xs) ≡ None
handle_none ceiling key xs i h end =
    handle_under-below key (map (entry_at ceiling) xs) (every-map (λ x. x.key < key) (entry_at ceiling) xs (subst (AllByRecursion (λ row. ceiling - row.depth < key)) (take_all i xs end) h))

dropped : {X : Type 0} (xs : List X) (i : ℕ) (x : X) → i < length xs → x ≡ get_or xs i x → drop i xs ≡ x ∷ drop (suc i) xs
dropped [] i x lt is = absurd (omega arith)
dropped (y ∷ xs) zero x lt is = ap (λ z. z ∷ xs) (sym is)
dropped (y ∷ xs) (suc i) x lt is = dropped xs i x (omega arith) is

pub handle_here : (ceiling key : ℕ) (xs : List BlockRow) (i : ℕ) (row : BlockRow) → i < length xs → row ≡ get_or xs i row → AllByRecursion (λ row. ceiling - row.depth < key) (take i xs) → ceiling - row.depth ≡ key → handle_under key (map (entry_at ceiling) xs) ≡ Some row.handle
handle_here ceiling key xs i row lt is h same =
    handle_past ceiling key xs i h
    ∙ ap (λ rs. handle_under key (map (entry_at ceiling) rs)) (dropped xs i row lt is)
    ∙ ap (λ b. cond b (Some row.handle) (handle_under key (map (entry_at ceiling) (drop (suc i) xs)))) (eq-eqb (ceiling - row.depth) key same)

pub handle_not_here : (ceiling key : ℕ) (xs : List BlockRow) (i : ℕ) (row : BlockRow) → Ascend (map (entry_at ceiling) xs) → i < length xs → row ≡ get_or xs i row → AllByRecursion (λ row. ceiling - row.depth < key) (take i xs) → key ≤ ceiling - row.depth → ceiling - row.depth ≢ key → handle_under key (map (entry_at ceiling) xs) ≡ None
handle_not_here ceiling key xs i row ascend lt is h le other =
    handle_past ceiling key xs i h
    ∙ ap (λ rs. handle_under key (map (entry_at ceiling) rs)) (dropped xs i row lt is)
    ∙ handle_under-above key (entry_at ceiling row ∷ map (entry_at ceiling) (drop (suc i) xs)) (above, every_weaker (λ y. ceiling - row.depth < y.key) (λ y. key < y.key) (map (entry_at ceiling) (drop (suc i) xs)) (λ y b. omega (arith, b, above)) tail.0)
  where
    above : key < ceiling - row.depth
    above = omega arith

    tail : Ascend (entry_at ceiling row ∷ map (entry_at ceiling) (drop (suc i) xs))
    tail = subst (λ rs. Ascend (map (entry_at ceiling) rs)) (dropped xs i row lt is) (ascend_back (map (entry_at ceiling) (take i xs)) (map (entry_at ceiling) (drop i xs)) (subst Ascend (parts ceiling xs i) ascend))

-- the rows before one have smaller keys
pub rows_before_row : (ceiling : ℕ) (xs : List BlockRow) (i : ℕ) (d : BlockRow) → Ascend (map (entry_at ceiling) xs) → i < length xs → AllByRecursion (λ row. ceiling - row.depth < ceiling - (get_or xs i d).depth) (take i xs)
rows_before_row ceiling [] i d ascend lt = absurd (omega arith)
rows_before_row ceiling (x ∷ xs) zero d ascend lt = tt
rows_before_row ceiling (x ∷ xs) (suc i) d ascend lt =
    (every_at (λ row. ceiling - x.depth < ceiling - row.depth) xs i d (omega arith) (every_unmapped (λ y. ceiling - x.depth < y.key) (entry_at ceiling) xs ascend.0), rows_before_row ceiling xs i d ascend.1 (omega arith))

pub handle_found : (ceiling key : ℕ) (xs : List BlockRow) (i : ℕ) (row : BlockRow) → Ascend (map (entry_at ceiling) xs) → i < length xs → row ≡ get_or xs i row → ceiling - row.depth ≡ key → handle_under key (map (entry_at ceiling) xs) ≡ Some row.handle
handle_found ceiling key xs i row ascend lt is same =
    handle_here ceiling key xs i row lt is (subst (λ k. AllByRecursion (λ other. ceiling - other.depth < k) (take i xs)) (ap (λ other. ceiling - other.depth) (sym is) ∙ same) (rows_before_row ceiling xs i row ascend lt)) same

-- rows above a bound are in blocks that begin above it
pub firsts_above : (bound : ℕ) (blocks : List RowBlock) → AllByRecursion IsBlock blocks → AllByRecursion (λ x. bound < x.key) (rows blocks) → AllByRecursion (λ block. bound < block.first) blocks
firsts_above bound [] sound h = tt
firsts_above bound (block ∷ blocks) sound h =
    (begin_has (λ key. bound < key) block.first (rows_of block) sound.0.begun (every_front (λ x. bound < x.key) (rows_of block) (rows blocks) h), firsts_above bound blocks sound.1 (every_back (λ x. bound < x.key) (rows_of block) (rows blocks) h))

-- blocks that begin above a bound have their rows above it
pub rows_above : (bound : ℕ) (blocks : List RowBlock) → AllByRecursion IsBlock blocks → Ascend (rows blocks) → AllByRecursion (λ block. bound < block.first) blocks → AllByRecursion (λ x. bound < x.key) (rows blocks)
rows_above bound [] sound ascend h = tt
rows_above bound (block ∷ blocks) sound ascend h =
    every-append (λ x. bound < x.key) (rows_of block) (rows blocks) (every_weaker (λ x. block.first ≤ x.key) (λ x. bound < x.key) (rows_of block) (λ x le. omega (arith, h.0)) (from_begin block.first (rows_of block) sound.0.begun (ascend_front (rows_of block) (rows blocks) ascend))) (rows_above bound blocks sound.1 (ascend_back (rows_of block) (rows blocks) ascend) h.1)

pub later_firsts : (block : RowBlock) (blocks : List RowBlock) → AllByRecursion IsBlock (block ∷ blocks) → Ascend (rows (block ∷ blocks)) → AllByRecursion (λ other. block.first < other.first) blocks
later_firsts block blocks sound ascend = firsts_above block.first blocks sound.1 (begin_below block.first (rows_of block) (rows blocks) sound.0.begun ascend)

pub firsts_rise : (blocks : List RowBlock) → AllByRecursion IsBlock blocks → Ascend (rows blocks) → IsNonDecreasingBy (λ block. block.first) blocks
firsts_rise [] sound ascend i j d le lt = absurd (omega arith)
firsts_rise (block ∷ blocks) sound ascend zero zero d le lt = omega arith
firsts_rise (block ∷ blocks) sound ascend zero (suc j) d le lt = lt_le block.first (get_or blocks j d).first (every_at (λ other. block.first < other.first) blocks j d (omega arith) (later_firsts block blocks sound ascend))
firsts_rise (block ∷ blocks) sound ascend (suc i) zero d le lt = absurd (omega arith)
firsts_rise (block ∷ blocks) sound ascend (suc i) (suc j) d le lt = firsts_rise blocks sound.1 (ascend_back (rows_of block) (rows blocks) ascend) i j d (omega arith) (omega arith)

-- the blocks up to one that begins at the key or before it, and those from one that begins behind it
pub begun_to : (key : ℕ) (blocks : List RowBlock) (i : ℕ) (d : RowBlock) → AllByRecursion IsBlock blocks → Ascend (rows blocks) → i < length blocks → (get_or blocks i d).first ≤ key → AllByRecursion (λ block. block.first ≤ key) (take (suc i) blocks)
begun_to key [] i d sound ascend lt le = absurd (omega arith)
begun_to key (block ∷ blocks) zero d sound ascend lt le = (le, tt)
begun_to key (block ∷ blocks) (suc i) d sound ascend lt le =
    (omega (arith, le, every_at (λ other. block.first < other.first) blocks i d (omega arith) (later_firsts block blocks sound ascend)), begun_to key blocks i d sound.1 (ascend_back (rows_of block) (rows blocks) ascend) (omega arith) le)

pub others_from : (key : ℕ) (blocks : List RowBlock) (i : ℕ) (d : RowBlock) → AllByRecursion IsBlock blocks → Ascend (rows blocks) → i < length blocks → key < (get_or blocks i d).first → AllByRecursion (λ block. key < block.first) (drop i blocks)
others_from key [] i d sound ascend lt above = absurd (omega arith)
others_from key (block ∷ blocks) zero d sound ascend lt above =
    (above, every_weaker (λ other. block.first < other.first) (λ other. key < other.first) blocks (λ other later. omega (arith, above, later)) (later_firsts block blocks sound ascend))
others_from key (block ∷ blocks) (suc i) d sound ascend lt above = others_from key blocks i d sound.1 (ascend_back (rows_of block) (rows blocks) ascend) (omega arith) above

-- the rows before a block are below it
pub rows_before : (front : List RowBlock) (block : RowBlock) (back : List RowBlock) → IsBlock block → Ascend (rows (front ++ block ∷ back)) → AllByRecursion (λ x. x.key < block.first) (rows front)
rows_before front block back is ascend = below_begin block.first (rows front) (rows_of block) (rows back) is.begun (subst Ascend (flat_map-append rows_of front (block ∷ back)) ascend)

or_none : (handle : Option ℕ) → option_or handle None ≡ handle
or_none None = refl
or_none (Some handle) = refl

-- the handle under a key is in the last block that begins at it or before it
found_in : (key : ℕ) (front : List RowBlock) (block : RowBlock) (back : List RowBlock) → AllByRecursion IsBlock (front ++ block ∷ back) → Ascend (rows (front ++ block ∷ back)) → block.first ≤ key → AllByRecursion (λ other. key < other.first) back → handle_under key (rows (front ++ block ∷ back)) ≡ handle_under key (rows_of block)
found_in key front block back sound ascend le above =
    ap (handle_under key) (flat_map-append rows_of front (block ∷ back))
    ∙ handle_under-append key (rows front) (rows_of block ++ rows back)
    ∙ ap (λ handle. option_or handle (handle_under key (rows_of block ++ rows back))) (handle_under-below key (rows front) (every_weaker (λ x. x.key < block.first) (λ x. x.key < key) (rows front) (λ x lt. omega arith) (rows_before front block back own.0 ascend)))
    ∙ handle_under-append key (rows_of block) (rows back)
    ∙ ap (λ handle. option_or (handle_under key (rows_of block)) handle) (handle_under-above key (rows back) (rows_above key back own.1 (ascend_back (rows_of block) (rows back) late) above))
    ∙ or_none (handle_under key (rows_of block))
  where
    own : AllByRecursion IsBlock (block ∷ back)
    own = every_back IsBlock front (block ∷ back) sound

    late : Ascend (rows_of block ++ rows back)
    late = ascend_back (rows front) (rows_of block ++ rows back) (subst Ascend (flat_map-append rows_of front (block ∷ back)) ascend)

pub found_nowhere : (key : ℕ) (blocks : List RowBlock) → AllByRecursion IsBlock blocks → Ascend (rows blocks) → AllByRecursion (λ other. key < other.first) blocks → handle_under key (rows blocks) ≡ None
found_nowhere key blocks sound ascend above = handle_under-above key (rows blocks) (rows_above key blocks sound ascend above)

pub found_at : (key : ℕ) (blocks : List RowBlock) (next : ℕ) (block : RowBlock) → next ≢ 0 → next ≤ length blocks → block ≡ get_or blocks (next - 1) block → AllByRecursion IsBlock blocks → Ascend (rows blocks) → AllByRecursion (λ other. other.first ≤ key) (take next blocks) → AllByRecursion (λ other. key < other.first) (drop next blocks) → handle_under key (rows blocks) ≡ handle_under key (rows_of block)
found_at key blocks next block some le is sound ascend begun above =
    ap (λ bs. handle_under key (rows bs)) whole
    ∙ found_in key (take (next - 1) blocks) block (drop (suc (next - 1)) blocks) (subst (AllByRecursion IsBlock) whole sound) (subst (λ bs. Ascend (rows bs)) whole ascend) (last_taken (λ other. other.first ≤ key) blocks next block some le is begun) (subst (λ n. AllByRecursion (λ other. key < other.first) (drop n blocks)) same above)
  where
    whole : blocks ≡ take (next - 1) blocks ++ block ∷ drop (suc (next - 1)) blocks
    whole = around blocks (next - 1) block (omega arith) is

    same : next ≡ suc (next - 1)
    same = omega arith

-- the rows of a block of a list that ascends
pub own_ascend : (blocks : List RowBlock) (i : ℕ) (block : RowBlock) → i < length blocks → block ≡ get_or blocks i block → Ascend (rows blocks) → Ascend (rows_of block)
own_ascend [] i block lt is ascend = absurd (omega arith)
own_ascend (other ∷ blocks) zero block lt is ascend = subst (λ b. Ascend (rows_of b)) (sym is) (ascend_front (rows_of other) (rows blocks) ascend)
own_ascend (other ∷ blocks) (suc i) block lt is ascend = own_ascend blocks i block (omega arith) is (ascend_back (rows_of other) (rows blocks) ascend)

pub own_block : (P : RowBlock → Type 0) (blocks : List RowBlock) (i : ℕ) (block : RowBlock) → i < length blocks → block ≡ get_or blocks i block → AllByRecursion P blocks → P block
own_block P blocks i block lt is h = subst P (sym is) (every_at P blocks i block lt h)
