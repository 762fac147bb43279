-- What calls answer.
--     answer first last      what an attempt answers after these two looks
--     IsAttempt, IsSnapshot      what an attempt and a snapshot leave, and what they answer
--     IsRefused      what a snapshot leaves that is not taken
use Rattle.std.{specs.Prelude.{◌≡◌, ℕ, ◌+◌, ◌*◌, ◌<◌, ◌≤◌, List, [], ◌∷◌, ◌++◌, length, ltb, cond, true, false}, specs.List.All}
use Rattle.tick_model.{specs.Clock.completed, specs.Words.line, specs.declared.feed.Run.Run}
use Rattle.snapshot_store.{specs.declared.answers.Attempt.Attempt, specs.declared.answers.Attempt.TheVariants.{Taken, Moved}, specs.declared.answers.Full.Full, specs.declared.answers.Taken.Taken as Snapped, specs.declared.board.Doing.TheVariants.Rest, specs.Looks.{latest, looks_of}, specs.Models.{CallerModel, Place, IsSamePlace}}

-- the step that was completed at the first look, unless the clock may have gone past its words
abbrev pub answer : ℕ → ℕ → Attempt
answer first last = cond (ltb last (2 * completed first + 4)) (Taken (completed first)) (Moved first last)

-- An attempt adds two looks. Its answer is what they say, and where it takes the table the words are the table's at the step that was completed at the first look.
pub record IsAttempt (run : Run) (number : ℕ) (before after : CallerModel) (result : Attempt) : Type 0 where
  pub first : ℕ
  pub last : ℕ
  pub looks : after.looks ≡ before.looks ++ first ∷ last ∷ []
  pub rises : first ≤ last
  pub not_older : latest before.looks ≤ completed first
  pub answers : result ≡ answer first last
  pub words : last < 2 * completed first + 4 → after.words ≡ line run (completed first) number

-- A snapshot makes attempts that answer `Moved`, and then a reading that is taken: one attempt more, or one with the turn after as many attempts as it may make.
pub record IsSnapshot (run : Run) (number attempts : ℕ) (before after : CallerModel) (result : Snapped) : Type 0 where
  pub moved : List (ℕ × ℕ)
  pub first : ℕ
  pub last : ℕ
  pub each_moved : All (λ (looks : ℕ × ℕ). 2 * completed looks.0 + 4 ≤ looks.1) moved
  pub looks : after.looks ≡ (before.looks ++ looks_of moved) ++ first ∷ last ∷ []
  pub near : last < 2 * completed first + 4
  pub not_older : latest before.looks ≤ completed first
  pub step : result.step ≡ completed first
  pub words : after.words ≡ line run (completed first) number
  pub locked : result.locked ≡ true → (length moved ≡ attempts) × (result.tries ≡ attempts) × (last ≡ first)
  pub unlocked : result.locked ≡ false → (result.tries ≡ length moved + 1) × (result.tries ≤ attempts)

-- so many attempts that all answer `Moved`
pub record AreMoved (tries : ℕ) (before after : List ℕ) : Type 0 where
  pub moved : List (ℕ × ℕ)
  pub each_moved : All (λ (looks : ℕ × ℕ). 2 * completed looks.0 + 4 ≤ looks.1) moved
  pub as_many : length moved ≡ tries
  pub looks : after ≡ before ++ looks_of moved
  pub not_older : latest before ≤ latest after

-- A snapshot that is not taken: as many attempts as it may make answer `Moved`, and another has the turn.
abbrev pub IsRefused : ℕ → CallerModel → CallerModel → Type 0
IsRefused attempts before after = AreMoved attempts before.looks after.looks × (after.refusals ≡ before.refusals + 1)

-- the table has more rows than its limit
abbrev pub IsFull : ℕ → ℕ → Full → Type 0
IsFull rows limit full = (limit < rows) × (full.rows ≡ rows) × (full.limit ≡ limit)

-- A reading takes two looks, and its words are a line where the clock is near. With the turn the clock does not move.
pub record IsReading (run : Run) (number : ℕ) (before after : Place) (words : List ℕ) (first last : ℕ) : Type 0 where
  pub same : IsSamePlace before after
  pub names : after.me.0.run ≡ before.me.0.run
  pub turn : after.me.0.turn ≡ before.me.0.turn
  pub refusals : after.me.0.refusals ≡ before.me.0.refusals
  pub rests : after.me.0.doing ≡ Rest
  pub looks : after.me.0.looks ≡ (before.me.0.looks ++ first ∷ []) ++ last ∷ []
  pub later : before.me.0.floor ≤ first
  pub rises : first ≤ last
  pub floor : after.me.0.floor ≡ last
  pub started : 0 < first
  pub line_is : last < 2 * completed first + 4 → words ≡ line run (completed first) number
  pub still : before.me.0.turn ≡ true → last ≡ first
