-- What the calls of a store take from its rule, over plain variables.
use Rattle.std.proofs.Common.{◌≡◌, ℕ, true, false, ⊎_elim, cond, Bool, lt-ltb, le-ltb, append_assoc, length-append, mul-le-mul_right, ◌+◌, ◌*◌, ◌%◌, ◌<◌, ◌≤◌, ◌^◌, List, [], ◌∷◌, ◌++◌, length, get_or, sym, refl, ap, ◌∙◌, subst, arith, Some}
use Rattle.tick_model.{specs.declared.feed.Run.Run, specs.declared.plan.Published.Published, specs.LawfulRuns.IsLawfulRun, specs.Clock.{completed, updating}, specs.Words.line}
use Rattle.snapshot_store.{specs.Lines.{below, count, limit, width, size, total, spot, line_of, start_in, total_in, IsWhole}, specs.Views.IsSameBut, specs.Looks.{looks_of, last_or, NeverFalls, latest}, specs.Models.{CallerModel, Place, IsCalling, IsAt, HasRoom, words_of}, specs.Answers.{AreMoved, IsAttempt, IsReading, IsSnapshot, answer}, specs.declared.answers.Attempt.Attempt, specs.declared.answers.Attempt.TheVariants.{Taken, Moved}, specs.declared.answers.Taken.Taken as Snapped, specs.declared.board.StoreView.StoreView, specs.declared.board.Doing.TheVariants.Writing, specs.declared.writers.Phase.TheVariants.Begun, proofs.Places.{below_less, spot_bound}, proofs.Published.total_small}
use Rattle.std.{specs.List.All, proofs.lemmas.Bool.cases_lt, proofs.lemmas.List.{append-nil, nil_from_length}, proofs.lemmas.List.Elements.All-push, proofs.lemmas.Option.same_Some, proofs.Math.Seq.get_or-append_seam}

pub first_place : (run : Run) (tables : List Published) (bank all start p : ℕ) → tables ≡ run.plan.published → all ≡ total_in tables → start ≡ start_in tables p → 2 + bank * all + start ≡ spot run bank p 0
unfolding spot
first_place run tables bank all start p same is here =
    let a : bank * all ≡ bank * total run = ap (λ (z : ℕ). bank * z) (is ∙ ap total_in same) in
    let b : start ≡ start_in run.plan.published p = here ∙ ap (λ (z : List Published). start_in z p) same in omega arith

pub spot_small : (run : Run) (step p i : ℕ) → IsLawfulRun run → p < count run → i < size run p → spot run (step % 2) p i < 2097154
spot_small run step p i lawful inside within = let small = total_small run lawful in let b = spot_bound run (step % 2) p i (omega arith) inside within in omega arith

pub spot_from : (run : Run) (bank p i : ℕ) → spot run bank p 0 + i ≡ spot run bank p i
unfolding spot
spot_from run bank p i = omega arith

-- the place of the word i of a table that is read
pub place_read : (run run' : Run) (f p i end start step : ℕ) → IsLawfulRun run → run ≡ run' → p < count run' → end ≤ size run' p → i < end → step ≡ completed f → start ≡ spot run' (step % 2) p 0
    → (start + i ≡ spot run (completed f % 2) p i) × (start + i < 2 + 2 * total run) × (start + i < 2097154) × (p < count run)
place_read run run' f p i end start step lawful same inside within less here from =
    let inside' : p < count run = subst (λ (z : Run). p < count z) (sym same) inside in
    let within' : end ≤ size run p = subst (λ (z : Run). end ≤ size z p) (sym same) within in
    let a : start ≡ spot run (completed f % 2) p 0 = from ∙ (ap (λ (z : Run). spot z (step % 2) p 0) (sym same) ∙ ap (λ (z : ℕ). spot run (z % 2) p 0) here) in
    let e = spot_from run (completed f % 2) p i in
    let b = spot_bound run (completed f % 2) p i (omega arith) inside' (omega arith) in
    let s = spot_small run (completed f) p i lawful inside' (omega arith) in
    (omega arith, omega arith, omega arith, inside')

pub answers_taken : (first last step : ℕ) → step ≡ completed first → last < 2 * completed first + 4 → Taken step ≡ answer first last
answers_taken first last step e h = ap Taken e ∙ ap (λ (b : Bool). cond b (Taken (completed first)) (Moved first last)) (sym (lt-ltb last (2 * completed first + 4) h))

pub answers_moved : (first last : ℕ) → 2 * completed first + 4 ≤ last → Moved first last ≡ answer first last
answers_moved first last h = ap (λ (b : Bool). cond b (Taken (completed first)) (Moved first last)) (sym (le-ltb last (2 * completed first + 4) h))

pub last_more : (d : ℕ) (xs : List ℕ) (y : ℕ) → last_or d (xs ++ y ∷ []) ≡ y
last_more d [] y = refl
last_more d (x ∷ xs) y = last_more x xs y

pub never_falls_more : (d : ℕ) (xs : List ℕ) (y : ℕ) → NeverFalls d xs → last_or d xs ≤ y → NeverFalls d (xs ++ y ∷ [])
never_falls_more d [] y h l = (l, tt)
never_falls_more d (x ∷ xs) y h l = (h.0, never_falls_more x xs y h.1 l)

pub room_on : (v w : StoreView) (n : ℕ) → w.run ≡ v.run → HasRoom v n → HasRoom w n
room_on v w n same room run p named inside = room run p (sym same ∙ named) inside

pub at_begun : (v : StoreView) (run : Run) (step n : ℕ) → v.run ≡ Some run → IsAt v step (Begun n)
    → (v.floor ≡ updating (step + 1)) × (step + 1 < 2 ^ 62) × (v.doing ≡ Writing step (words_of run (step + 1) n)) × (v.turn ≡ true) × ((p : ℕ) → p < n → IsWhole run (step + 1) p)
at_begun v run step n named at =
    let h = at.3 in let e : h.0 ≡ run = same_Some h.0 run (sym h.1 ∙ named) in
    (at.0, at.2, h.2 ∙ ap (λ (z : Run). Writing step (words_of z (step + 1) n)) e, at.1, subst (λ (z : Run). (p : ℕ) → p < n → IsWhole z (step + 1) p) e h.3)

pub all_stored : (run : Run) (step new : ℕ) → new ≡ 2 * step + 3 → (c : ℕ) → new ≡ 2 * c + 1 → (p i : ℕ) → p < count run → i < length (line_of run c p)
    → below (λ q. length (line_of run c q)) p + i < words_of run (step + 1) (count run)
all_stored run step new now c e p i inside within = let same : c ≡ step + 1 = omega arith in
    subst (λ (z : ℕ). below (λ q. length (line_of run c q)) p + i < words_of run z (count run)) same (below_less (λ q. length (line_of run c q)) (count run) p i inside within)

pub all_whole : (run : Run) (step new : ℕ) → new ≡ 2 * step + 3 → ((p : ℕ) → p < count run → IsWhole run (step + 1) p) → (c p : ℕ) → new ≡ 2 * c + 1 → p < count run → IsWhole run c p
all_whole run step new now whole c p e inside = let same : step + 1 ≡ c = omega arith in subst (λ (z : ℕ). IsWhole run z p) same (whole p inside)

-- the place of the word i of a table that is stored
pub place_stored : (run run' : Run) (step p i end start : ℕ) → IsLawfulRun run → run ≡ run' → p < count run' → end ≤ size run' p → i < end → start ≡ spot run' (step % 2) p 0
    → (start + i ≡ spot run' (step % 2) p i) × (start + i < 2 + 2 * total run) × (start + i < 2097154) × (i < size run' p)
place_stored run run' step p i end start lawful same inside within less from =
    let inside' : p < count run = subst (λ (z : Run). p < count z) (sym same) inside in
    let within' : end ≤ size run p = subst (λ (z : Run). end ≤ size z p) (sym same) within in
    let a : start ≡ spot run (step % 2) p 0 = from ∙ ap (λ (z : Run). spot z (step % 2) p 0) (sym same) in
    let e = spot_from run (step % 2) p i in
    let e' = spot_from run' (step % 2) p i in
    let b = spot_bound run (step % 2) p i (omega arith) inside' (omega arith) in
    let s = spot_small run step p i lawful inside' (omega arith) in
    (omega arith, omega arith, omega arith, omega arith)

-- a line whose number of rows is within the limit fits
pub line_fits : (run : Run) (s p : ℕ) (table : List ℕ) → IsWhole run s p → table ≡ line_of run s p → (0 < length table) × (get_or table 0 0 ≤ limit run p → length table ≤ size run p)
line_fits run s p table shape is = let long : length table ≡ length (line_of run s p) = ap length is in let first : get_or table 0 0 ≡ get_or (line_of run s p) 0 0 = ap (λ (z : List ℕ). get_or z 0 0) is in
    (omega arith, λ few. let a : get_or (line_of run s p) 0 0 * (1 + width run p) ≤ limit run p * (1 + width run p) = mul-le-mul_right (1 + width run p) (omega arith) in omega arith)

pub popped : {A : Type 0} (P : A → Type 0) (xs ys : List A) (x : A) → xs ≡ ys ++ x ∷ [] → All P xs → P x
popped P xs ys x e all = let at : get_or xs (length ys) x ≡ x = ap (λ z. get_or z (length ys) x) e ∙ get_or-append_seam ys x [] x in
    let long : length xs ≡ length ys + 1 = ap length e ∙ length-append ys (x ∷ []) in subst P at (all (length ys) x (omega arith))

-- a caller that was refused the turn
pub refused_on : (at end : Place) (seen capacity : ℕ) → IsCalling at seen capacity → end.me.1 ≡ at.me.1 → IsSameBut at.me.0 end.me.0 → end.me.0.turn ≡ at.me.0.turn → IsCalling end seen capacity
refused_on at end seen capacity c held same turn = let floor = same.2 in let low = c.below_floor in record {
  rests = same.3 ∙ c.rests;
  free = turn ∙ c.free;
  alone = held ∙ c.alone;
  last = ap (last_or 1) same.1 ∙ c.last;
  below_floor = omega arith;
  started = c.started;
  rises = subst (NeverFalls 1) (sym same.1) c.rises;
  room = room_on at.me.0 end.me.0 capacity same.0 c.room;
}

-- a reading of a caller
module _ (run : Run) (number : ℕ) (before after : Place) (words : List ℕ) (first last seen capacity : ℕ) (reads : IsReading run number before after words first last) where
  pub seen_first : IsCalling before seen capacity → (last_or 1 before.me.0.looks ≤ first) × NeverFalls 1 after.me.0.looks × (last_or 1 after.me.0.looks ≡ last)
  seen_first c = let a = c.last in let b = c.below_floor in let l = reads.later in let low : last_or 1 before.me.0.looks ≤ first = omega arith in
      let e = last_more 1 before.me.0.looks first in let r = reads.rises in (
        low,
        subst (NeverFalls 1) (sym reads.looks) (never_falls_more 1 (before.me.0.looks ++ first ∷ []) last (never_falls_more 1 before.me.0.looks first c.rises low) (omega arith)),
        ap (last_or 1) reads.looks ∙ last_more 1 (before.me.0.looks ++ first ∷ []) last,
      )

  pub calls_on : IsCalling before seen capacity → (capacity' : ℕ) → capacity ≤ capacity' → IsCalling after last capacity'
  calls_on c capacity' room = let f = seen_first c in let l = reads.floor in let s = reads.started in let r = reads.rises in record {
    rests = reads.rests;
    free = reads.turn ∙ c.free;
    alone = reads.same.2 ∙ c.alone;
    last = f.2;
    below_floor = omega arith;
    started = omega arith;
    rises = f.1;
    room = λ r p named inside. let more = c.room r p (sym reads.names ∙ named) inside in omega arith;
  }

  -- the turn was taken before the reading, and is given back after it
  module _ (at : Place) (same : (before.me.1 ≡ at.me.1) × (before.me.0.run ≡ at.me.0.run) × (before.me.0.looks ≡ at.me.0.looks) × (before.me.0.floor ≡ at.me.0.floor)) where
    pub turns_on : IsCalling at seen capacity → (end : Place) → (end.me.1 ≡ after.me.1) × IsSameBut after.me.0 end.me.0 → end.me.0.turn ≡ false → (capacity' : ℕ) → capacity ≤ capacity'
        → (end.me.0.looks ≡ (at.me.0.looks ++ first ∷ []) ++ last ∷ []) × (last_or 1 at.me.0.looks ≤ first) × NeverFalls 1 end.me.0.looks × IsCalling end last capacity'
    turns_on c end kept free capacity' room = let looks : end.me.0.looks ≡ (at.me.0.looks ++ first ∷ []) ++ last ∷ [] = kept.1.1 ∙ (reads.looks ∙ ap (λ (z : List ℕ). (z ++ first ∷ []) ++ last ∷ []) same.2) in
        let a = c.last in let b = c.below_floor in let l = reads.later in let f = same.3 in let low : last_or 1 at.me.0.looks ≤ first = omega arith in
        let e = last_more 1 at.me.0.looks first in let r = reads.rises in let fl = reads.floor in let s = reads.started in let fl' = kept.1.2 in
        let up = subst (NeverFalls 1) (sym looks) (never_falls_more 1 (at.me.0.looks ++ first ∷ []) last (never_falls_more 1 at.me.0.looks first c.rises low) (omega arith)) in (
          looks,
          low,
          up,
          record {
            rests = kept.1.3 ∙ reads.rests;
            free = free;
            alone = kept.0 ∙ (reads.same.2 ∙ (same.0 ∙ c.alone));
            last = ap (last_or 1) looks ∙ last_more 1 (at.me.0.looks ++ first ∷ []) last;
            below_floor = omega arith;
            started = omega arith;
            rises = up;
            room = λ r p named inside. let more = c.room r p (sym (kept.1.0 ∙ (reads.names ∙ same.1)) ∙ named) inside in omega arith;
          },
        )

pub taken_near : (first last s : ℕ) → Taken s ≡ answer first last → (last < 2 * completed first + 4) × (s ≡ completed first)
taken_near first last s e = ⊎_elim (λ h. let t : Taken s ≡ Taken (completed first) = e ∙ sym (answers_taken first last (completed first) refl h) in (h, (let q : s ≡ completed first = cc in q)))
    (λ h. let t : Taken s ≡ Moved first last = e ∙ sym (answers_moved first last h) in absurd (cc)) (cases_lt last (2 * completed first + 4))

pub moved_far : (first last a b : ℕ) → Moved a b ≡ answer first last → 2 * completed first + 4 ≤ last
moved_far first last a b e = ⊎_elim (λ h. let t : Moved a b ≡ Taken (completed first) = e ∙ sym (answers_taken first last (completed first) refl h) in absurd (cc)) (λ h. h) (cases_lt last (2 * completed first + 4))

pub looks_of_more : (ts : List (ℕ × ℕ)) (f l : ℕ) → looks_of (ts ++ (f, l) ∷ []) ≡ looks_of ts ++ f ∷ l ∷ []
looks_of_more [] f l = refl
looks_of_more (t ∷ ts) f l = ap (λ (z : List ℕ). t.0 ∷ t.1 ∷ z) (looks_of_more ts f l)

latest_after : (before : List ℕ) (f l : ℕ) → latest (before ++ f ∷ l ∷ []) ≡ completed l
latest_after before f l = ap (λ (z : List ℕ). latest z) (sym (append_assoc before (f ∷ []) (l ∷ []))) ∙ ap completed (last_more 1 (before ++ f ∷ []) l)

pub moved_more : (run : Run) (number n : ℕ) (start : List ℕ) (before after : CallerModel) (result : Attempt) (a b : ℕ) → AreMoved n start before.looks → IsAttempt run number before after result → result ≡ Moved a b → AreMoved (n + 1) start after.looks
moved_more run number n start before after result a b tries at is = let far = moved_far at.first at.last a b (sym is ∙ at.answers) in let older = at.not_older in let r = at.rises in let so = tries.not_older in
    let end : latest after.looks ≡ completed at.last = ap (λ (z : List ℕ). latest z) at.looks ∙ latest_after before.looks at.first at.last in record {
      moved = tries.moved ++ (at.first, at.last) ∷ [];
      each_moved = All-push (λ (t : ℕ × ℕ). 2 * completed t.0 + 4 ≤ t.1) tries.moved (at.first, at.last) tries.each_moved far;
      as_many = (let e = length-append tries.moved ((at.first, at.last) ∷ []) in let k = tries.as_many in omega arith);
      looks = at.looks ∙ (ap (λ (z : List ℕ). z ++ at.first ∷ at.last ∷ []) tries.looks ∙ (append_assoc start (looks_of tries.moved) (at.first ∷ at.last ∷ []) ∙ ap (λ (z : List ℕ). start ++ z) (sym (looks_of_more tries.moved at.first at.last))));
      not_older = omega arith;
    }

-- a snapshot, of which attempts were made until `now`
module _ (run : Run) (number n : ℕ) (before now after : CallerModel) (tries : AreMoved n before.looks now.looks) where
  -- an attempt more is taken
  pub by_attempt : (attempts : ℕ) (result : Attempt) (step : ℕ) → n < attempts → IsAttempt run number now after result → result ≡ Taken step → IsSnapshot run number attempts before after record { step = step; tries = n + 1; locked = false }
  by_attempt attempts result step less at is = let near = taken_near at.first at.last step (sym is ∙ at.answers) in let count = tries.as_many in let low = tries.not_older in let low' = at.not_older in record {
    moved = tries.moved;
    first = at.first;
    last = at.last;
    each_moved = tries.each_moved;
    looks = at.looks ∙ ap (λ (z : List ℕ). z ++ at.first ∷ at.last ∷ []) tries.looks;
    near = near.0;
    not_older = omega arith;
    step = near.1;
    words = at.words near.0;
    locked = λ e. absurd (cc);
    unlocked = λ _. (omega arith, omega arith);
  }

  -- the reading with the turn is taken
  pub by_turn : (step first : ℕ) → after.looks ≡ now.looks ++ first ∷ first ∷ [] → step ≡ completed first → latest now.looks ≤ completed first → after.words ≡ line run (completed first) number
      → IsSnapshot run number n before after record { step = step; tries = n; locked = true }
  by_turn step first looks is older words = let low = tries.not_older in record {
    moved = tries.moved;
    first = first;
    last = first;
    each_moved = tries.each_moved;
    looks = looks ∙ ap (λ (z : List ℕ). z ++ first ∷ first ∷ []) tries.looks;
    near = omega arith;
    not_older = omega arith;
    step = is;
    words = words;
    locked = λ _. (tries.as_many, refl, refl);
    unlocked = λ e. absurd (cc);
  }

  -- a snapshot that may make no attempt more
  module _ (result : Snapped) (is : IsSnapshot run number 0 now after result) where
    no_attempt : (locked : Bool) → result.locked ≡ locked → (is.moved ≡ []) × (is.last ≡ is.first)
    no_attempt true has = let h = is.locked has in (nil_from_length is.moved h.0, h.2)
    no_attempt false free = let h = is.unlocked free in let a = h.0 in let b = h.1 in absurd (omega arith)

    pub by_turn_later : IsSnapshot run number n before after record { step = result.step; tries = n; locked = result.locked }
    by_turn_later = let none = no_attempt result.locked refl in let low = tries.not_older in let low' = is.not_older in record {
      moved = tries.moved;
      first = is.first;
      last = is.last;
      each_moved = tries.each_moved;
      looks = is.looks ∙ ap (λ (z : List ℕ). z ++ is.first ∷ is.last ∷ []) (ap (λ (z : List (ℕ × ℕ)). now.looks ++ looks_of z) none.0 ∙ (append-nil now.looks ∙ tries.looks));
      near = is.near;
      not_older = omega arith;
      step = is.step;
      words = is.words;
      locked = λ _. (tries.as_many, refl, none.1);
      unlocked = λ free. let h = is.unlocked free in let a = h.0 in let b = h.1 in absurd (omega arith);
    }

-- no attempt more was made
pub moved_on : (n : ℕ) (before now after : List ℕ) → AreMoved n before now → AreMoved 0 now after → AreMoved n before after
moved_on n before now after tries none = let low = tries.not_older in let low' = none.not_older in record {
  moved = tries.moved;
  each_moved = tries.each_moved;
  as_many = tries.as_many;
  looks = none.looks ∙ (ap (λ (z : List (ℕ × ℕ)). now ++ looks_of z) (nil_from_length none.moved none.as_many) ∙ (append-nil now ∙ tries.looks));
  not_older = omega arith;
}
