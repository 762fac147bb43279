-- Walks over keys, notes and pairs: one element more.
use Rattle.std.proofs.Common.{◌≡◌, refl, ap, ap₂, sym, ◌∙◌, subst, Bool, true, false, cond, ◌||◌, ◌==◌, ℕ, zero, suc, ◌+◌, ◌*◌, ◌<◌, ◌≤◌, arith, List, [], ◌∷◌, ◌++◌, map, take, length, Option, Some, ℤ, pos, true≢false}
use Rattle.std.{specs.Prelude.{find, flat_map, fold, is_some, option_map, slice_get, slice_index_or, unwrap_or}, specs.List.AllByRecursion, proofs.lemmas.Bool.eqb-true, proofs.lemmas.Grind.flat_map-append, proofs.lemmas.List.{append-nil, length-map, map-append}, proofs.lemmas.List.Sums.fold-append, proofs.lemmas.Option.{none-some, same_Some}}
use Rattle.key_lists.{specs.Keys.is_among, proofs.Among.among-append, proofs.Every.{every_weaker, map_same}}
use Rattle.lookup_join.{specs.declared.keyed.Side.Side, specs.declared.keyed.Side.TheVariants.Right, specs.declared.pick.Pick.Pick, specs.Duplicates.cells_under, specs.Keyed.{column_of, indexed, key_cells, keyed, member_at, time_of}, specs.Notes.{Note, NoteList, Spot, fresh_note, noting, spot_under, with_note}, specs.Taken.spot_at}
use Rattle.row_groups.specs.Members.{Grouped, Member, keys_of, member_of, member_under}
use Rattle.shown_rows.proofs.Walks.{take_next}
use Rattle.tick_model.{specs.declared.table.PlainTable.PlainTable, specs.declared.plan.OnPair.OnPair, specs.declared.table.PlainRow.PlainRow, specs.Tables.{cell, cells_at, keys}}

-- a note is what is told of it
pub note_at : (notes : List Note) (n : ℕ) (cells : List ℤ) (at : ℤ) (before : Option ℕ) → slice_get (map (λ (note : Note). note.cells) notes) n ≡ Some cells → slice_get (map (λ (note : Note). note.at) notes) n ≡ Some at → slice_get (map (λ (note : Note). note.before) notes) n ≡ Some before
    → slice_get notes n ≡ (let note : Note = record { cells = cells; at = at; before = before } in Some note)
note_at [] n cells at before e f g = absurd (none-some cells e)
note_at (note ∷ notes) zero cells at before e f g = whole note.cells cells note.at at note.before before (same_Some _ _ e) (same_Some _ _ f) (same_Some _ _ g)
  where
    whole : (cells cells' : List ℤ) (at at' : ℤ) (before before' : Option ℕ) → cells ≡ cells' → at ≡ at' → before ≡ before'
        → ◌≡◌ {A = Option Note} (let note : Note = record { cells = cells; at = at; before = before } in Some note) (let note : Note = record { cells = cells'; at = at'; before = before' } in Some note)
    whole cells cells' at at' before before' c t b = ap₂ (λ cells at. let note : Note = record { cells = cells; at = at; before = before } in Some note) c t ∙ ap (λ before. let note : Note = record { cells = cells'; at = at'; before = before } in Some note) b
note_at (note ∷ notes) (suc n) cells at before e f g = note_at notes n cells at before e f g

-- one element more of what all tell
pub told_next : {X Y : Type 0} (f : X → List Y) (xs : List X) (n : ℕ) (x : X) (told : List Y) → slice_get xs n ≡ Some x → told ≡ flat_map f (take n xs) → told ++ f x ≡ flat_map f (take (n + 1) xs)
told_next f xs n x told e so_far = ap₂ (λ ys zs. ys ++ zs) so_far (sym (append-nil (f x))) ∙ sym (ap (flat_map f) (take_next xs n x e) ∙ flat_map-append f (take n xs) (x ∷ []))

pub fold_next : {X Y : Type 0} (f : Y → X → Y) (start : Y) (xs : List X) (n : ℕ) (x : X) → slice_get xs n ≡ Some x → fold f start (take (n + 1) xs) ≡ f (fold f start (take n xs)) x
fold_next f start xs n x e = ap (fold f start) (take_next xs n x e) ∙ fold-append f start (take n xs) (x ∷ [])

-- two places more
pub noting_two : {X : Type 0} (pick : Pick) (members : List Member) (start : List Note) (first second : X → Spot) (some : List X) (x : X)
    → with_note (fresh_note pick members (second x)) (with_note (fresh_note pick members (first x)) (noting pick members start (flat_map (λ x. first x ∷ second x ∷ []) some)))
    ≡ noting pick members start (flat_map (λ x. first x ∷ second x ∷ []) (some ++ x ∷ []))
noting_two pick members start first second some x =
    sym (ap (noting pick members start) (flat_map-append (λ x. first x ∷ second x ∷ []) some (x ∷ []))
    ∙ fold-append (λ (notes : List Note) spot. with_note (fresh_note pick members spot) notes) start (flat_map (λ x. first x ∷ second x ∷ []) some) (first x ∷ second x ∷ []))

-- a note that is put, of what was known before
pub note_put : (pick : Pick) (members : List Member) (first before after : NoteList) (notes : List Note) (own spot : Spot) → before ≡ (record first { notes = notes }) → own ≡ spot
    → after ≡ (record before { notes = with_note (fresh_note pick members own) before.notes })
    → after ≡ (record first { notes = with_note (fresh_note pick members spot) notes })
note_put pick members first before after notes own spot b c a =
    a ∙ ap (λ (noted : NoteList). let more : NoteList = record noted { notes = with_note (fresh_note pick members own) noted.notes } in more) b
    ∙ ap (λ (spot : Spot). let more : NoteList = record first { notes = with_note (fresh_note pick members spot) notes } in more) c

-- one place more is noted
pub noted_next : {X : Type 0} (pick : Pick) (members : List Member) (first before after : NoteList) (place : X → Spot) (some : List X) (x : X) (own : Spot)
    → before ≡ (record first { notes = noting pick members first.notes (map place some) }) → own ≡ place x → after ≡ (record before { notes = with_note (fresh_note pick members own) before.notes })
    → after ≡ (record first { notes = noting pick members first.notes (map place (some ++ x ∷ [])) })
noted_next pick members first before after place some x own b o a =
    note_put pick members first before after (noting pick members first.notes (map place some)) own (place x) b o a
    ∙ ap (λ (notes : List Note). let noted : NoteList = record first { notes = notes } in noted)
    (sym (ap (noting pick members first.notes) (map-append place some (x ∷ [])) ∙ fold-append (λ (notes : List Note) spot. with_note (fresh_note pick members spot) notes) first.notes (map place some) (place x ∷ [])))

-- what a reader of a table gives is of the table
pub reader_has : (table reader : PlainTable) (key : ℕ) → reader ≡ table → is_among key (keys table.rows) ≡ true → is_among key (keys reader.rows) ≡ true
reader_has table reader key same there = subst (λ (t : PlainTable). is_among key (keys t.rows) ≡ true) (sym same) there

pub row_given : (table reader : PlainTable) (key : ℕ) {row : List ℤ} → reader ≡ table → row ≡ cells_at key reader.rows → row ≡ cells_at key table.rows
row_given table reader key same is = is ∙ ap (λ (t : PlainTable). cells_at key t.rows) same

pub row_read : {table reader : PlainTable} (so_far : ℕ) {more : ℕ} → reader ≡ table → more ≡ so_far + reader.width → more ≤ so_far + table.width
row_read so_far same e = omega (arith, e, ap (λ (t : PlainTable). t.width) same)

-- the row under a key, as the index has it
pub member_known : (side : Side) (on : List OnPair) (pick : Pick) (rows : List PlainRow) (key : ℕ) → is_among key (keys rows) ≡ true → member_under key (keyed side on pick rows) ≡ Some (member_at side on pick rows key)
member_known side on pick [] key h = absurd (true≢false (sym h))
member_known side on pick (row ∷ rows) key h = by (row.key == key) refl (λ k. member_known side on pick rows key k)
  where
    by : (b : Bool) → (row.key == key) ≡ b → (is_among key (keys rows) ≡ true → member_under key (keyed side on pick rows) ≡ Some (member_at side on pick rows key))
        → cond b (Some (member_of row.key (key_cells side on row.cells) (time_of side pick row.cells))) (member_under key (keyed side on pick rows))
        ≡ (let cells = unwrap_or (option_map (λ (row : PlainRow). row.cells) (cond b (Some row) (find (λ row. row.key == key) rows))) [] in Some (member_of key (key_cells side on cells) (time_of side pick cells)))
    by true e rest = ap (λ k. Some (member_of k (key_cells side on row.cells) (time_of side pick row.cells))) (eqb-true row.key key e)
    by false e rest = rest (sym (ap (λ b. b || is_among key (keys rows)) e) ∙ h)

pub length-key_cells : (side : Side) (on : List OnPair) (cells : List ℤ) → length (key_cells side on cells) ≡ length on
length-key_cells side on cells = length-map on (λ pair. cell cells (column_of side pair))

-- one row more is read, and one note more
pub reads_more : (width so_far more first n : ℕ) → so_far ≤ first + width * n → more ≤ so_far + width → more ≤ first + width * (n + 1)
reads_more width so_far more first n h e = omega (arith, h, e)

-- one key more among those that came and those that were there
pub came_next : (key other : ℕ) (came own some : List ℕ) → is_among key own ≡ (is_among key some || is_among key came) → ((other == key) || is_among key own) ≡ (is_among key (some ++ other ∷ []) || is_among key came)
came_next key other came own some so_far =
    ap (λ b. (other == key) || b) so_far
    ∙ swapped (other == key) (is_among key some) (is_among key came)
    ∙ ap (λ b. b || is_among key came) (sym (among-append key some (other ∷ [])))
  where
    swapped : (a b c : Bool) → (a || (b || c)) ≡ ((b || (a || false)) || c)
    swapped true true c = refl
    swapped true false c = refl
    swapped false true c = refl
    swapped false false c = refl

-- an element that is there, and one that is read
pub get_index : {X : Type 0} (xs : List X) (n : ℕ) (other : X) → n < length xs → slice_get xs n ≡ Some (slice_index_or xs n other)
get_index [] n other h = absurd (omega arith)
get_index (x ∷ xs) zero other h = refl
get_index (x ∷ xs) (suc n) other h = get_index xs n other (omega arith)

-- the place of a row that the index has
pub spot_known : (on : List OnPair) (pick : Pick) (rows : List PlainRow) (index : Grouped) (key : ℕ) → index ≡ indexed Right on pick rows → is_among key (keys rows) ≡ true → spot_under key index.members ≡ spot_at on pick rows key
spot_known on pick rows index key is there = ap (λ (index : Grouped). spot_under key index.members) is ∙ ap (λ (o : Option Member). unwrap_or (option_map (λ (member : Member). let spot : Spot = record { cells = member.cells; at = member.at } in spot) o) (record { cells = []; at = pos 0 })) (member_known Right on pick rows key there)

pub member_is : (side : Side) (on : List OnPair) (pick : Pick) (rows : List PlainRow) (index : Grouped) (key : ℕ) → index ≡ indexed side on pick rows → is_among key (keys rows) ≡ true → is_some (member_under key index.members) ≡ true
member_is side on pick rows index key is there = ap is_some (ap (λ (index : Grouped). member_under key index.members) is ∙ member_known side on pick rows key there)

pub spot_is : (cells cells' : List ℤ) (at at' : ℤ) → cells ≡ cells' → at ≡ at' → ◌≡◌ {A = Spot} (record { cells = cells; at = at }) (record { cells = cells'; at = at' })
spot_is cells cells' at at' c t = ap₂ (λ cells at. let spot : Spot = record { cells = cells; at = at } in spot) c t

pub some_is_there : {X : Type 0} (o : Option X) (x : X) → o ≡ Some x → is_some o ≡ true
some_is_there o x e = ap is_some e

-- the key cells of a member, where all have as many
pub width_under : (width key : ℕ) (members : List Member) (cells : List ℤ) → AllByRecursion (λ (member : Member). length member.cells ≡ width) members → Some cells ≡ option_map (λ (member : Member). member.cells) (member_under key members) → length cells ≡ width
width_under width key [] cells h e = absurd (none-some cells (sym e))
width_under width key (member ∷ members) cells h e = by (member.key == key) e (λ f. width_under width key members cells h.1 f)
  where
    by : (b : Bool) → Some cells ≡ option_map (λ (member : Member). member.cells) (cond b (Some member) (member_under key members)) → (Some cells ≡ option_map (λ (member : Member). member.cells) (member_under key members) → length cells ≡ width) → length cells ≡ width
    by true f rest = ap length (same_Some _ _ f) ∙ h.0
    by false f rest = rest f

-- the notes of removed, of modified and of added rows
pub noting_parts : (pick : Pick) (members : List Member) (width width' : ℕ) (first second third fourth : NoteList) (olds olds' changes news : List Spot) → width ≡ width' → olds ≡ olds'
    → first ≡ (record { width = width; notes = [] }) → second ≡ (record first { notes = noting pick members first.notes olds }) → third ≡ (record second { notes = noting pick members second.notes changes }) → fourth ≡ (record third { notes = noting pick members third.notes news })
    → fourth ≡ (record { width = width'; notes = noting pick members [] (olds' ++ (changes ++ news)) })
noting_parts pick members width width' first second third fourth olds olds' changes news w o a b c d =
    d
    ∙ ap (λ (noted : NoteList). let more : NoteList = record noted { notes = noting pick members noted.notes news } in more)
    (c ∙ ap (λ (noted : NoteList). let more : NoteList = record noted { notes = noting pick members noted.notes changes } in more) (b ∙ ap (λ (noted : NoteList). let more : NoteList = record noted { notes = noting pick members noted.notes olds } in more) a))
    ∙ ap₂ (λ width spots. let noted : NoteList = record { width = width; notes = noting pick members (noting pick members (noting pick members [] spots) changes) news } in noted) w o
    ∙ ap (λ notes. let noted : NoteList = record { width = width'; notes = notes } in noted)
    (sym (fold-append more [] olds' (changes ++ news) ∙ fold-append more (noting pick members [] olds') changes news))
  where
    more : List Note → Spot → List Note
    more notes spot = with_note (fresh_note pick members spot) notes

-- the places of rows that the index has
pub spots_known : (on : List OnPair) (pick : Pick) (rows : List PlainRow) (index : Grouped) (removed : List ℕ) → index ≡ indexed Right on pick rows → AllByRecursion (λ key. is_among key (keys rows) ≡ true) removed → map (λ key. spot_under key index.members) removed ≡ map (spot_at on pick rows) removed
spots_known on pick rows index removed is there =
    map_same (λ key. spot_under key index.members) (spot_at on pick rows) removed
    (every_weaker (λ key. is_among key (keys rows) ≡ true) (λ key. spot_under key index.members ≡ spot_at on pick rows key) removed (λ key own. spot_known on pick rows index key is own) there)

pub members_known : (on : List OnPair) (pick : Pick) (rows : List PlainRow) (index : Grouped) (removed : List ℕ) → index ≡ indexed Right on pick rows → AllByRecursion (λ key. is_among key (keys rows) ≡ true) removed → AllByRecursion (λ key. is_some (member_under key index.members) ≡ true) removed
members_known on pick rows index removed is there = every_weaker (λ key. is_among key (keys rows) ≡ true) (λ key. is_some (member_under key index.members) ≡ true) removed (λ key own. member_is Right on pick rows index key is own) there

-- a member that is there has its key cells
pub under_some : (members : List Member) (key : ℕ) → is_among key (keys_of members) ≡ true → option_map (λ (member : Member). member.cells) (member_under key members) ≡ Some (cells_under members key)
under_some [] key h = absurd (true≢false (sym h))
under_some (member ∷ members) key h = by (member.key == key) refl (λ k. under_some members key k)
  where
    by : (b : Bool) → (member.key == key) ≡ b → (is_among key (keys_of members) ≡ true → option_map (λ (member : Member). member.cells) (member_under key members) ≡ Some (cells_under members key))
        → option_map (λ (member : Member). member.cells) (cond b (Some member) (member_under key members)) ≡ Some (unwrap_or (option_map (λ (member : Member). member.cells) (cond b (Some member) (member_under key members))) [])
    by true e rest = refl
    by false e rest = rest (sym (ap (λ b. b || is_among key (keys_of members)) e) ∙ h)
