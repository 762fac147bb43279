-- What each step on a word tells the seat that makes it. None changes what the seat holds.
use Rattle.std.specs.Prelude.{◌≡◌, ◌≢◌, ℕ, ◌+◌, ◌*◌, ◌%◌, ◌<◌, ◌≤◌, List, [], ◌∷◌, ◌++◌, length, true, false, slice_index, Some}
use Rattle.atomic_table.specs.Table.{Me, State, Step}
use Rattle.tick_model.{specs.Clock.completed, specs.declared.feed.Run.Run}
use Rattle.snapshot_store.{specs.declared.board.StoreView.StoreView, specs.declared.board.Doing.TheVariants.{Rest, Looked, Reading, Writing}, specs.Lines.{below, count, limit, spot, line_of, IsWhole}, specs.Rule.KeepsRule, specs.Views.{IsLook, IsTick, IsSameSight, IsSameBut, Begins}}

-- what a step tells: of the step, the seat before it, the word that it found, and the seat after it
abbrev pub Plays : Type 1
Plays = Step (Unit {0}) → Me (Unit {0}) StoreView → ℕ → Me (Unit {0}) StoreView → Type 0

-- the first look of a reading
abbrev pub looks_first : Plays
looks_first st me found me' = (me'.1 ≡ me.1) × IsLook me.0 found me'.0 × (me'.0.doing ≡ Looked found)

-- a look of its own, at words that the rule holds of
abbrev pub looks_once : Plays
looks_once st me found me' = (me'.1 ≡ me.1) × IsLook me.0 found me'.0 × (me'.0.doing ≡ Rest)
    × ((run : Run) → me.0.run ≡ Some run → (board : State (Unit {0}) StoreView) × KeepsRule run board × (slice_index board.words 0 ≡ found))

-- the count of rows of a table is read
abbrev pub counts_rows : Plays
counts_rows st me found me' = (me'.1 ≡ me.1) × IsSameSight me.0 me'.0
    × ((run : Run) (first number : ℕ) → me.0.run ≡ Some run → me.0.doing ≡ Looked first → number < count run → st.word ≡ spot run (completed first % 2) number 0
    → (me'.0.doing ≡ Reading number first (found ∷ [])) × (found ≤ limit run number))

-- the next word is read
abbrev pub reads_word : Plays
reads_word st me found me' = (me'.1 ≡ me.1) × IsSameSight me.0 me'.0
    × ((number first : ℕ) (words : List ℕ) → me.0.doing ≡ Reading number first words → me'.0.doing ≡ Reading number first (words ++ found ∷ []))

-- The last look of a reading. Where the clock is near, its words begin a line, which is whole rows; with the turn the clock is as it was.
abbrev pub looks_last : Plays
looks_last st me found me' = (me'.1 ≡ me.1) × IsLook me.0 found me'.0 × (me'.0.doing ≡ Rest)
    × ((run : Run) (number first : ℕ) (words : List ℕ) → me.0.run ≡ Some run → me.0.doing ≡ Reading number first words
    → (found < 2 * completed first + 4 → Begins words (line_of run (completed first) number) × IsWhole run (completed first) number) × (me.0.turn ≡ true → found ≡ first))

-- the writer sets the clock, and has stored nothing since
abbrev pub sets_clock : Plays
sets_clock st me found me' = (me'.1 ≡ me.1) × IsTick me.0 st.first me'.0

-- the writer stores one word more
abbrev pub stores_word : Plays
stores_word st me found me' = (me'.1 ≡ me.1) × IsSameSight me.0 me'.0
    × ((step stored : ℕ) → me.0.doing ≡ Writing step stored → me'.0.doing ≡ Writing step (stored + 1))

-- the writer looks at the next word, which counts as stored where it is the line's already
abbrev pub finds_word : Plays
finds_word st me found me' = (me'.1 ≡ me.1) × IsSameSight me.0 me'.0
    × ((run : Run) (step stored number i : ℕ) → me.0.run ≡ Some run → me.0.doing ≡ Writing step stored → i < length (line_of run (step + 1) number) → below (λ q. length (line_of run (step + 1) q)) number + i ≡ stored
    → (found ≡ slice_index (line_of run (step + 1) number) i → me'.0.doing ≡ Writing step (stored + 1)) × (found ≢ slice_index (line_of run (step + 1) number) i → me'.0.doing ≡ me.0.doing))

-- the turn is taken where it was free, and else the seat is refused it
abbrev pub takes_turn : Plays
takes_turn st me found me' = (me'.1 ≡ me.1) × IsSameBut me.0 me'.0 × (found ≡ 0 → me'.0.turn ≡ true) × (found ≢ 0 → (me'.0.turn ≡ me.0.turn) × (me'.0.refusals ≡ me.0.refusals + 1))

-- the turn is given back
abbrev pub gives_turn : Plays
gives_turn st me found me' = (me'.1 ≡ me.1) × IsSameBut me.0 me'.0 × (me'.0.turn ≡ false)
