-- Times between two others at which no row and no note stands.
use Rattle.std.proofs.Common.{◌≡◌, refl, ap, sym, ◌∙◌, Bool, true, false, cond, ◌&&◌, arith, ℕ, List, [], ◌∷◌, map, filter, Option, Some, None, ℤ, true≢false}
use Rattle.std.{specs.Prelude.{find, int_le, int_lt, option_map}, specs.List.AllByRecursion, specs.Option.option_map_or, proofs.lemmas.Int.ints}
use Rattle.key_lists.{proofs.Every.{every_both, every_unmapped, every_weaker, every-filter, every-map, filter_none, filter_passes}, proofs.Booleans.and_true}
use Rattle.lookup_join.{specs.declared.keyed.Side.TheVariants.Right, specs.declared.pick.Pick.Pick, specs.Keyed.{key_cells, keyed, time_of}, specs.Latest.{earlier, latest_by, next_time}, specs.Notes.{Note, next_after}, proofs.Latests.{Timed, group_timed}, proofs.Quiet.every_unfiltered, proofs.Spans.{apart, between}, proofs.Stays.{late, own, time}, proofs.Taking.latest_none}
use Rattle.row_groups.{specs.Members.{Member, by_at, group_of, member_of, placed}, proofs.Placed.every-by_at}
use Rattle.tick_model.{specs.declared.plan.OnPair.OnPair, specs.declared.table.PlainRow.PlainRow, specs.Tables.same_cells}

-- whether an end, which may be missing, comes after a moment
abbrev pub ends_after : ℤ → Option ℤ → Bool
ends_after moment end = option_map_or (λ last. int_lt moment last) end true

through : (a b d : ℤ) → int_lt a b ≡ true → int_lt b d ≡ true → int_lt a d ≡ true
through a b d e f = grind (arith, ints)

up_to : (a b d : ℤ) → int_lt a b ≡ true → int_lt d b ≡ false → int_lt a d ≡ true
up_to a b d e f = grind (arith, ints)

beyond : (a until : ℤ) → int_le a until ≡ false → int_lt until a ≡ true
beyond a until e = grind (arith, ints)

-- the earlier of two ends comes after a moment where both do
pub earlier_ends : (moment : ℤ) (one other : Option ℤ) → ends_after moment (earlier one other) ≡ (ends_after moment one && ends_after moment other)
earlier_ends moment None other = refl
earlier_ends moment (Some one) None = sym (and_true (int_lt moment one))
earlier_ends moment (Some one) (Some other) = by (int_lt other one) refl (int_lt moment one) refl (int_lt moment other) refl
  where
    by : (c : Bool) → int_lt other one ≡ c → (a : Bool) → int_lt moment one ≡ a → (b : Bool) → int_lt moment other ≡ b → ends_after moment (cond c (Some other) (Some one)) ≡ (a && b)
    by true e true f b g = g
    by true e false f true g = absurd (true≢false (sym (through moment other one g e) ∙ f))
    by true e false f false g = g
    by false e true f true g = f
    by false e true f false g = absurd (true≢false (sym (up_to moment one other f e) ∙ g))
    by false e false f b g = f

-- with these cells, after one time and not after another
abbrev pub within : List ℤ → ℤ → ℤ → List ℤ → ℤ → Bool
within cells from until group moment = same_cells cells group && (int_lt from moment && int_le moment until)

module _ (from until : ℤ) where
  abbrev Outside : Member → Type 0
  Outside member = (int_lt from member.at && int_le member.at until) ≡ false

  abbrev next : List Member → Option ℤ
  next members = option_map (λ (member : Member). member.at) (find (λ (member : Member). int_lt from member.at) members)

  outside : (moment : ℤ) → int_lt until moment ≡ true → (int_lt from moment && int_le moment until) ≡ false
  outside moment e = by (int_lt from moment)
    where
      by : (b : Bool) → (b && int_le moment until) ≡ false
      by true = apart moment until e
      by false = refl

  -- where the next one comes after a time, none stands until then
  next_outside : (members : List Member) → Timed members → ends_after until (next members) ≡ true → AllByRecursion Outside members
  next_outside [] h e = tt
  next_outside (member ∷ members) h e = by (int_lt from member.at) refl e (λ ends. next_outside members h.1 ends)
    where
      by : (b : Bool) → int_lt from member.at ≡ b → ends_after until (option_map (λ (member : Member). member.at) (cond b (Some member) (find (λ (member : Member). int_lt from member.at) members))) ≡ true → (ends_after until (next members) ≡ true → AllByRecursion Outside members) → AllByRecursion Outside (member ∷ members)
      by true is ends rest = (
        outside member.at ends,
        every_weaker (λ (other : Member). int_lt other.at member.at ≡ false) Outside members (λ other later. outside other.at (up_to until member.at other.at ends later)) h.0,
      )
      by false is ends rest = (ap (λ b. b && int_le member.at until) is, rest ends)

  outside_next : (members : List Member) → AllByRecursion Outside members → ends_after until (next members) ≡ true
  outside_next [] h = refl
  outside_next (member ∷ members) h = by (int_lt from member.at) refl (outside_next members h.1)
    where
      by : (b : Bool) → int_lt from member.at ≡ b → ends_after until (next members) ≡ true → ends_after until (option_map (λ (member : Member). member.at) (cond b (Some member) (find (λ (member : Member). int_lt from member.at) members))) ≡ true
      by true is rest = beyond member.at until (sym (ap (λ b. b && int_le member.at until) is) ∙ h.0)
      by false is rest = rest

every_unplaced : (P : Member → Type 0) (member : Member) (members : List Member) → AllByRecursion P (placed member members) → P member × AllByRecursion P members
every_unplaced P member [] h = (h.0, tt)
every_unplaced P member (other ∷ others) h = by (int_lt other.at member.at) h (λ k. every_unplaced P member others k)
  where
    by : (b : Bool) → AllByRecursion P (cond b (other ∷ placed member others) (member ∷ other ∷ others)) → (AllByRecursion P (placed member others) → P member × AllByRecursion P others) → P member × AllByRecursion P (other ∷ others)
    by true k rest = ((rest k.1).0, (k.0, (rest k.1).1))
    by false k rest = k

every_unordered : (P : Member → Type 0) (members : List Member) → AllByRecursion P (by_at members) → AllByRecursion P members
every_unordered P [] h = tt
every_unordered P (member ∷ members) h = let parts = every_unplaced P member (by_at members) h in (parts.0, every_unordered P members parts.1)

module _ (cells : List ℤ) (from until : ℤ) where
  abbrev pub IsClear : Member → Type 0
  IsClear member = within cells from until member.cells member.at ≡ false

  abbrev has : Member → Bool
  has member = same_cells cells member.cells

  -- the next of these cells comes after a time where none of them stands until then
  pub next_clear : (members : List Member) → ends_after until (next_time cells from members) ≡ true → AllByRecursion IsClear members
  next_clear members e =
      every_weaker (λ member. has member ≡ true → Outside from until member) IsClear members (λ member. none (has member) (int_lt from member.at && int_le member.at until))
      (every_unfiltered (Outside from until) has members (every_unordered (Outside from until) (filter has members) (next_outside from until (group_of cells members) (group_timed cells members) e)))
    where
      none : (a b : Bool) → (a ≡ true → b ≡ false) → (a && b) ≡ false
      none true b h = h refl
      none false b h = refl

  pub clear_next : (members : List Member) → AllByRecursion IsClear members → ends_after until (next_time cells from members) ≡ true
  clear_next members h =
      outside_next from until (group_of cells members)
      (every-by_at (Outside from until) (filter has members)
      (every_both (λ member. has member ≡ true) IsClear (Outside from until) (filter has members) (λ member. second (has member) (int_lt from member.at && int_le member.at until)) (filter_passes has members) (every-filter IsClear has members h)))
    where
      second : (a b : Bool) → a ≡ true → (a && b) ≡ false → b ≡ false
      second true b e f = f
      second false b e f = absurd (true≢false (sym e))

  abbrev pub IsClearNote : Note → Type 0
  IsClearNote note = within cells from until note.cells note.at ≡ false

  abbrev as_member : Note → Member
  as_member note = member_of 0 note.cells note.at

  pub after_clear : (notes : List Note) → ends_after until (next_after cells from notes) ≡ true → AllByRecursion IsClearNote notes
  after_clear notes e = every_unmapped IsClear as_member notes (next_clear (map as_member notes) e)

  pub clear_after : (notes : List Note) → AllByRecursion IsClearNote notes → ends_after until (next_after cells from notes) ≡ true
  clear_after notes h = clear_next (map as_member notes) (every-map IsClear as_member notes h)

  module _ (on : List OnPair) (pick : Pick) (take : List ℕ) (rows : List PlainRow) where
    abbrev test : List ℤ → Bool
    test = between (time on pick take cells) (own on pick take cells) from until

    abbrev member_of_row : PlainRow → Member
    member_of_row row = member_of row.key (key_cells Right on row.cells) (time_of Right pick row.cells)

    -- none of the right rows stands there where there is no latest of them
    pub late_clear : late on pick take cells from until rows ≡ None → AllByRecursion IsClear (keyed Right on pick rows)
    late_clear e =
        every-map IsClear member_of_row rows
        (every_unmapped (λ row. test row ≡ false) (λ (row : PlainRow). row.cells) rows (latest_none pick (time on pick take cells) test (map (λ (row : PlainRow). row.cells) rows) e))

    pub clear_late : AllByRecursion IsClear (keyed Right on pick rows) → late on pick take cells from until rows ≡ None
    clear_late h =
        ap (latest_by pick (time on pick take cells))
        (filter_none test (map (λ (row : PlainRow). row.cells) rows) (every-map (λ row. test row ≡ false) (λ (row : PlainRow). row.cells) rows (every_unmapped IsClear member_of_row rows h)))
