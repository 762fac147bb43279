-- Each step keeps the rule.
use Rattle.std.proofs.Common.{◌≡◌, ℕ, ◌+◌, ◌-◌, ◌*◌, ◌%◌, ◌<◌, ◌≤◌, ◌≢◌, List, [], ◌∷◌, ◌++◌, length, max, get_or, set, sym, refl, ap, ◌∙◌, subst, ⊎_elim, arith, le_refl, ap₂, length-append, length-set, get_or-set_other, get_or-set_same, Some, None, Bool, true, false, eqb, eq-eqb, ne_eqb}
use mathlib.Core.Logic.{dite}
use mathlib.Core.Option.{none, some}
use native.Mathlib.Decide.{ℕ_discrete, dec_le}
use lib.ListN.{get_elem?}
use lib.Seq.{set-get_or}
use Rattle.std.{proofs.lemmas.List.Elements.{All-push, All-weaker}, proofs.Math.ListN.get_or-append}
use prog.Atomic.{either}
use Rattle.atomic_table.{specs.Table.{Me, State, step, keeps, stepped, Allows, Splits, Joins}, proofs.Lists.{at_set, set_else, at_snoc, at_longer}}
use Rattle.tick_model.{specs.declared.feed.Run.Run, specs.Clock.completed}
use Rattle.snapshot_store.{specs.declared.board.StoreView.StoreView, specs.declared.board.Doing.Doing, specs.declared.board.Doing.TheVariants.{Rest, Looked, Reading, Writing}, specs.Lines.{below, count, limit, width, size, spot, line_of, IsWhole}, specs.Views.{Begins, informed, IsQuiet}, specs.Rule.{Stands, Stored, IsDoing, Knows, KeepsRule}, specs.Plays.{looks_first, looks_once, counts_rows, reads_word, looks_last, sets_clock, stores_word, finds_word, takes_turn, gives_turn}, proofs.Places.{place_unique, spot_high, spot_bound, spot_unique, begins_more, within_line, held_on, set_at}}

abbrev Sat : Type 0
Sat = Me (Unit {0}) StoreView

abbrev St : Type 0
St = State (Unit {0}) StoreView

module _ (run : Run) where
  abbrev Rule : St → Type 0
  Rule = KeepsRule run

  abbrev clock : St → ℕ
  clock s = get_or s.words 0 0

  abbrev turn : St → ℕ
  turn s = get_or s.words 1 0

  -- what a seat knows stays so while the clock grows, unless it is the writer or has the turn
  knows_later : (c c' t holder writer writer' stored stored' j : ℕ) → c ≤ c' → (v : StoreView) → Knows run c t holder writer stored j v → (v.turn ≡ true → c ≡ c')
      → ((step k : ℕ) → v.doing ≡ Writing step k → j ≡ writer → (writer ≡ writer') × (c ≡ c') × (stored ≡ stored'))
      → Knows run c' t holder writer' stored' j v
  knows_later c c' t holder writer writer' stored stored' j le v k still same = let low = k.below_clock in record {
    names = k.names;
    below_clock = omega arith;
    looks_below = All-weaker (λ (l : ℕ). l ≤ c) (λ (l : ℕ). l ≤ c') (λ l h. omega arith) v.looks k.looks_below;
    has_turn = k.has_turn;
    does = later v.doing k.does same;
  }
    where
      later : (d : Doing) → IsDoing run c writer stored j v.turn v.floor d → ((step k : ℕ) → d ≡ Writing step k → j ≡ writer → (writer ≡ writer') × (c ≡ c') × (stored ≡ stored'))
          → IsDoing run c' writer' stored' j v.turn v.floor d
      later Rest h same = tt
      later (Looked f) h same = let b = h.1 in (h.0, omega arith, λ has. h.2 has ∙ still has)
      later (Reading p f read) h same = let b = h.1 in (h.0, omega arith, (λ has. h.2 has ∙ still has), h.3, h.4, λ l. h.5 (omega arith))
      later (Writing step k) h same = let e = same step k refl h.0 in (h.0 ∙ e.0, h.1 ∙ e.1, ap completed (sym e.1) ∙ h.2, h.3 ∙ e.2)

  seats_stay : (K : ℕ → StoreView → Type 0) (vs : List StoreView) (me : ℕ) (w : StoreView) → K me w → ((j : ℕ) (d : StoreView) → j ≢ me → get_elem? vs j ≡ some d → K j d)
      → (j : ℕ) (d : StoreView) → get_elem? (set vs me w) j ≡ some d → K j d
  seats_stay K vs me w mine others j d e = ⊎_elim (λ (t : (j ≡ me) × (w ≡ d)). subst (λ (x : ℕ × StoreView). K x.0 x.1) (λ i. (sym t.0 i, t.1 i)) mine)
      (λ (t : (j ≢ me) × (get_elem? vs j ≡ some d)). others j d t.0 t.1) (at_set vs me j w d e)

  -- a step that changes no word
  unmoved : (s : St) (r : Rule s) (i me : ℕ) (cs : List (ℕ × Unit {0})) (v w : StoreView) → get_elem? s.views me ≡ some v → w.turn ≡ v.turn → Knows run (clock s) (turn s) r.holder r.writer r.stored me w → Rule (stepped s i (get_or s.words i 0) me cs w keeps)
  unmoved s r i me cs v w at same mine = subst (λ (ws : List ℕ). Rule record { words = ws; homes = s.homes; views = set s.views me w }) (sym (set-get_or s.words i 0)) record {
    holder = r.holder;
    writer = r.writer;
    stored = r.stored;
    wide = r.wide;
    bit = r.bit;
    held = λ one. held_on s.views r.holder me v w at same (r.held one);
    started = r.started;
    live = r.live;
    whole = r.whole;
    filled = r.filled;
    counted = r.counted;
    each_seat = seats_stay (Knows run (clock s) (turn s) r.holder r.writer r.stored) s.views me w mine (λ j d _. r.each_seat j d);
  }

  -- the first look of an attempt, or the one look of a caller that looks_once
  pub looks : (slots id : ℕ) (me : Sat) → Allows Rule slots id me 0 (λ n. n) (looks_first (step slots 0 0 0 none) me)
  looks slots id me s r _ at _ = let v : StoreView = me.0 in let c : ℕ = clock s in let k = r.each_seat id v at in
      let w : StoreView = record { run = v.run; looks = v.looks ++ c ∷ []; floor = c; turn = v.turn; refusals = v.refusals; doing = Looked c } in (
        w,
        keeps,
        tt,
        unmoved s r 0 id me.1 v w at refl record { names = k.names; below_clock = le_refl c; looks_below = All-push (λ (l : ℕ). l ≤ c) v.looks c k.looks_below (le_refl c); has_turn = k.has_turn; does = (r.started, le_refl c, λ _. refl) },
        (refl, (refl, refl, refl, k.below_clock, r.started, refl, refl), refl),
      )

  -- the one look of a caller that was told of a step
  pub learns : (slots id : ℕ) (me : Sat) → Allows Rule slots id me 0 (λ n. n) (looks_once (step slots 0 0 0 none) me)
  learns slots id me s r _ at _ = let v : StoreView = me.0 in let c : ℕ = clock s in let k = r.each_seat id v at in
      let w : StoreView = record { run = v.run; looks = v.looks ++ c ∷ []; floor = c; turn = v.turn; refusals = v.refusals; doing = Rest } in (
        w,
        keeps,
        tt,
        unmoved s r 0 id me.1 v w at refl record { names = k.names; below_clock = le_refl c; looks_below = All-push (λ (l : ℕ). l ≤ c) v.looks c k.looks_below (le_refl c); has_turn = k.has_turn; does = tt },
        (refl, (refl, refl, refl, k.below_clock, r.started, refl, refl), refl, λ named is. (s, subst (λ z. KeepsRule z s) (sym (k.names named is)) r, refl)),
      )

  abbrev looked_value : ℕ → Doing → ℕ
  looked_value d Rest = d
  looked_value d (Looked f) = f
  looked_value d (Reading p f read) = d
  looked_value d (Writing step k) = d

  half_below : (f c : ℕ) → 0 < f → f ≤ c → 2 * completed f + 1 ≤ c
  half_below f c h l = omega arith

  -- the number of rows is read
  pub counts : (slots id : ℕ) (me : Sat) (f p word : ℕ) → me.0.run ≡ Some run → me.0.doing ≡ Looked f → p < count run → word ≡ spot run (completed f % 2) p 0
      → Allows Rule slots id me word (λ n. n) (counts_rows (step slots word 0 0 none) me)
  counts slots id me f p word named is inside place s r _ at _ = let v : StoreView = me.0 in let c : ℕ = clock s in let x : ℕ = get_or s.words word 0 in let k = r.each_seat id v at in
      let known : IsDoing run c r.writer r.stored id v.turn v.floor (Looked f) = subst (IsDoing run c r.writer r.stored id v.turn v.floor) is k.does in
      let b : completed f % 2 < 2 = omega arith in
      let has : x ≤ limit run p = subst (λ (z : ℕ). get_or s.words z 0 ≤ limit run p) (sym place) (r.counted (completed f % 2) p b inside) in
      let low = half_below f c known.0 known.1 in
      let w : StoreView = record { run = v.run; looks = v.looks; floor = v.floor; turn = v.turn; refusals = v.refusals; doing = Reading p f (x ∷ []) } in (
        w,
        keeps,
        tt,
        unmoved s r word id me.1 v w at refl record {
          names = k.names;
          below_clock = k.below_clock;
          looks_below = k.looks_below;
          has_turn = k.has_turn;
          does = (
            known.0,
            known.1,
            known.2,
            inside,
            (omega arith),
            λ l i h. let i0 : i ≡ 0 = omega arith in
                let shape = r.whole (completed f) p low l inside in let g : i < length (line_of run (completed f) p) = omega arith in
                let stands = r.live (completed f) low l p i inside g in (
                  g,
                  subst (λ (z : ℕ). get_or (x ∷ []) z 0 ≡ get_or (line_of run (completed f) p) z 0) (sym i0)
                      (ap (λ (z : ℕ). get_or s.words z 0) place ∙ subst (λ (z : ℕ). get_or s.words (spot run (completed f % 2) p z) 0 ≡ get_or (line_of run (completed f) p) z 0) i0 stands.1),
                ),
          );
        },
        (
          refl,
          (refl, refl, refl, refl, refl),
          λ run' f' p' named' is' inside' place'.
              let er : run' ≡ run = k.names run' named' in
              let ef : f ≡ f' = ap (looked_value 0) (sym is ∙ is') in
              let q : (p' < count run) × (word ≡ spot run (completed f' % 2) p' 0) = subst (λ (z : Run). (p' < count z) × (word ≡ spot z (completed f' % 2) p' 0)) er (inside', place') in
              let pl : spot run (completed f % 2) p 0 ≡ spot run (completed f % 2) p' 0 = sym place ∙ (q.1 ∙ ap (λ (z : ℕ). spot run (completed z % 2) p' 0) (sym ef)) in
              let u = spot_unique run (completed f % 2) (completed f % 2) p p' 0 0 b b inside q.0 (omega arith) (omega arith) pl in
              ((λ i. Reading (u.1 i) (ef i) (x ∷ [])), subst (λ (z : Run). x ≤ limit z p') (sym er) (subst (λ (z : ℕ). x ≤ limit run z) u.1 has)),
        ),
      )

  abbrev reading_parts : Doing → ℕ × ℕ × List ℕ
  reading_parts Rest = (0, 0, [])
  reading_parts (Looked f) = (0, 0, [])
  reading_parts (Reading p f read) = (p, f, read)
  reading_parts (Writing step k) = (0, 0, [])

  -- a further word is read
  pub reads : (slots id : ℕ) (me : Sat) (f p word : ℕ) (read : List ℕ) → me.0.doing ≡ Reading p f read → word ≡ spot run (completed f % 2) p (length read) → 0 < length read → length read < 1 + get_or read 0 0 * (1 + width run p)
      → Allows Rule slots id me word (λ n. n) (reads_word (step slots word 0 0 none) me)
  reads slots id me f p word read is place some_read less s r _ at _ = let v : StoreView = me.0 in let c : ℕ = clock s in let x : ℕ = get_or s.words word 0 in let k = r.each_seat id v at in
      let known : IsDoing run c r.writer r.stored id v.turn v.floor (Reading p f read) = subst (IsDoing run c r.writer r.stored id v.turn v.floor) is k.does in
      let low = half_below f c known.0 known.1 in
      let w : StoreView = record { run = v.run; looks = v.looks; floor = v.floor; turn = v.turn; refusals = v.refusals; doing = Reading p f (read ++ x ∷ []) } in (
        w,
        keeps,
        tt,
        unmoved s r word id me.1 v w at refl record {
          names = k.names;
          below_clock = k.below_clock;
          looks_below = k.looks_below;
          has_turn = k.has_turn;
          does = (
            known.0,
            known.1,
            known.2,
            known.3,
            (let len = length-append read (x ∷ []) in let head : get_or (read ++ x ∷ []) 0 0 ≡ get_or read 0 0 = get_or-append read (x ∷ []) 0 0 some_read in
                subst (λ (z : ℕ). length (read ++ x ∷ []) ≤ 1 + z * (1 + width run p)) (sym head) (omega arith)),
            λ l. let inside = within_line run (completed f) p read (r.whole (completed f) p low l known.3) some_read less (known.5 l) in let stands = r.live (completed f) low l p (length read) known.3 inside in
                begins_more read (line_of run (completed f) p) x (known.5 l) inside (ap (λ (z : ℕ). get_or s.words z 0) place ∙ stands.1),
          );
        },
        (refl, (refl, refl, refl, refl, refl), λ p' f' read' is'. let e = ap reading_parts (sym is ∙ is') in λ i. Reading ((e i).0) ((e i).1) ((e i).2 ++ x ∷ [])),
      )

  -- the last look of an attempt
  pub looks_again : (slots id : ℕ) (me : Sat) → Allows Rule slots id me 0 (λ n. n) (looks_last (step slots 0 0 0 none) me)
  looks_again slots id me s r _ at _ = let v : StoreView = me.0 in let c : ℕ = clock s in let k = r.each_seat id v at in
      let w : StoreView = record { run = v.run; looks = v.looks ++ c ∷ []; floor = c; turn = v.turn; refusals = v.refusals; doing = Rest } in (
        w,
        keeps,
        tt,
        unmoved s r 0 id me.1 v w at refl record { names = k.names; below_clock = le_refl c; looks_below = All-push (λ (l : ℕ). l ≤ c) v.looks c k.looks_below (le_refl c); has_turn = k.has_turn; does = tt },
        (
          refl,
          (refl, refl, refl, k.below_clock, r.started, refl, refl),
          refl,
          λ run' p f read named is.
              let known : IsDoing run c r.writer r.stored id v.turn v.floor (Reading p f read) = subst (IsDoing run c r.writer r.stored id v.turn v.floor) is k.does in
              ((λ l. subst (λ (z : Run). Begins read (line_of z (completed f) p) × IsWhole z (completed f) p) (sym (k.names run' named)) (known.5 l, r.whole (completed f) p (half_below f c known.0 known.1) l known.3)), (λ has. sym (known.2 has))),
        ),
      )

  stands_on : (ws : List ℕ) (word x c p i : ℕ) → word ≢ spot run (c % 2) p i → Stands run ws c p i → Stands run (set ws word x) c p i
  stands_on ws word x c p i other h = (h.0, get_or-set_other ws word (spot run (c % 2) p i) x 0 (λ e. other (sym e)) ∙ h.1)

  not_spot : (word bank p i : ℕ) → word < 2 → word ≢ spot run bank p i
  not_spot word bank p i l e = let h = spot_high run bank p i in omega arith

  -- the writer sets the clock one higher. Where the new value is idle, each word of its step is stored
  pub ticks : (slots id : ℕ) (me : Sat) (step' k new : ℕ) → me.0.doing ≡ Writing step' k → me.0.turn ≡ true → me.0.floor + 1 ≡ new
      → ((c : ℕ) → new ≡ 2 * c + 1 → (p i : ℕ) → p < count run → i < length (line_of run c p) → below (λ q. length (line_of run c q)) p + i < k)
      → ((c p : ℕ) → new ≡ 2 * c + 1 → p < count run → IsWhole run c p)
      → Allows Rule slots id me 0 (λ _. new) (λ _. sets_clock (step slots 0 new 0 none) me new)
  ticks slots id me step' k new is mine up whole shaped s r _ at _ = let v : StoreView = me.0 in let c : ℕ = clock s in let kn = r.each_seat id v at in
      let known : IsDoing run c r.writer r.stored id v.turn v.floor (Writing step' k) = subst (IsDoing run c r.writer r.stored id v.turn v.floor) is kn.does in
      let w : StoreView = record { run = v.run; looks = v.looks; floor = new; turn = v.turn; refusals = v.refusals; doing = Writing (completed new) 0 } in
      let here = known.1 in let started = r.started in let wide = r.wide in
      let now : get_or (set s.words 0 new) 0 0 ≡ new = get_or-set_same s.words 0 new 0 (omega arith) in
      let one : get_or (set s.words 0 new) 1 0 ≡ turn s = get_or-set_other s.words 0 1 new 0 (λ e. omega arith) in (
        w,
        keeps,
        tt,
        record {
          holder = r.holder;
          writer = r.writer;
          stored = 0;
          wide = length-set s.words 0 new ∙ wide;
          bit = subst (λ (z : ℕ). z < 2) (sym one) r.bit;
          held = λ e. held_on s.views r.holder id v w at refl (r.held (sym one ∙ e));
          started = omega arith;
          whole = λ d p lo hi lp. dite (dec_le (2 * d + 1) c) (λ le. r.whole d p le (omega arith) lp) (λ gt. shaped d p (omega arith) lp);
          live = λ d lo hi p i inside within. dite (dec_le (2 * d + 1) c)
              (λ le. stands_on s.words 0 new d p i (not_spot 0 (d % 2) p i (omega arith)) (r.live d le (omega arith) p i inside within))
              (λ gt. let e : new ≡ 2 * d + 1 = omega arith in let back : (d - 1) + 1 ≡ d = omega arith in
              let all = whole d e p i inside within in
              let full : Stored run s.words d r.stored = subst (λ (z : ℕ). Stored run s.words z r.stored) back (r.filled (d - 1) (omega arith)) in
              let enough : below (λ q. length (line_of run d q)) p + i < r.stored = subst (λ (z : ℕ). below (λ q. length (line_of run d q)) p + i < z) known.3 all in
              stands_on s.words 0 new d p i (not_spot 0 (d % 2) p i (omega arith)) (full p i inside within enough));
          filled = λ d e p i inside within less. absurd (omega arith);
          counted = λ bank p lb lp. subst (λ (z : ℕ). z ≤ limit run p) (sym (get_or-set_other s.words 0 (spot run bank p 0) new 0 (λ e. not_spot 0 bank p 0 (omega arith) (sym e)))) (r.counted bank p lb lp);
          each_seat = subst (λ (z : ℕ × ℕ). (j : ℕ) (d : StoreView) → get_elem? (set s.views id w) j ≡ some d → Knows run z.0 z.1 r.holder r.writer 0 j d) (λ i. (sym now i, sym one i))
              (seats_stay (Knows run new (turn s) r.holder r.writer 0) s.views id w record { names = kn.names; below_clock = le_refl new; looks_below = (let grows : c ≤ new = omega arith in All-weaker (λ (l : ℕ). l ≤ c) (λ (l : ℕ). l ≤ new) (λ l h. omega arith) v.looks kn.looks_below); has_turn = kn.has_turn; does = (known.0, refl, refl, refl) }
              (λ j d other e. let kd = r.each_seat j d e in knows_later c new (turn s) r.holder r.writer r.writer r.stored 0 j (omega arith) d kd (λ has. absurd (other ((kd.has_turn has).1 ∙ sym (kn.has_turn mine).1)))
              (λ _ _ _ same. absurd (other (same ∙ sym known.0)))));
        },
        (refl, (refl, refl, refl, refl, refl)),
      )

  abbrev writer_parts : Doing → ℕ × ℕ
  writer_parts Rest = (0, 0)
  writer_parts (Looked f) = (0, 0)
  writer_parts (Reading p f read) = (0, 0)
  writer_parts (Writing step k) = (step, k)

  -- the writer stores the next word of its step
  pub stores : (slots id : ℕ) (me : Sat) (done k p i word x : ℕ) → me.0.doing ≡ Writing done k → me.0.floor ≡ 2 * done + 2 → p < count run → i < length (line_of run (done + 1) p) → i < size run p
      → word ≡ spot run ((done + 1) % 2) p i → x ≡ get_or (line_of run (done + 1) p) i 0 → below (λ q. length (line_of run (done + 1) q)) p + i ≡ k → (i ≡ 0 → x ≤ limit run p)
      → Allows Rule slots id me word (λ _. x) (λ _. stores_word (step slots word x 0 none) me x)
  stores slots id me done k p i word x is busy inside within sized place right next few s r _ at _ = let v : StoreView = me.0 in let c : ℕ = clock s in let kn = r.each_seat id v at in
      let known : IsDoing run c r.writer r.stored id v.turn v.floor (Writing done k) = subst (IsDoing run c r.writer r.stored id v.turn v.floor) is kn.does in
      let w : StoreView = record { run = v.run; looks = v.looks; floor = v.floor; turn = v.turn; refusals = v.refusals; doing = Writing done (k + 1) } in
      let here = known.1 in let wide = r.wide in let kept = known.3 in
      let high = spot_high run ((done + 1) % 2) p i in
      let bank : (done + 1) % 2 < 2 = omega arith in
      let room = spot_bound run ((done + 1) % 2) p i bank inside sized in
      let still : get_or (set s.words word x) 0 0 ≡ c = get_or-set_other s.words word 0 x 0 (λ e. omega arith) in
      let one : get_or (set s.words word x) 1 0 ≡ turn s = get_or-set_other s.words word 1 x 0 (λ e. omega arith) in (
        w,
        keeps,
        tt,
        record {
          holder = r.holder;
          writer = r.writer;
          stored = k + 1;
          wide = length-set s.words word x ∙ wide;
          bit = subst (λ (z : ℕ). z < 2) (sym one) r.bit;
          held = λ e. held_on s.views r.holder id v w at refl (r.held (sym one ∙ e));
          started = subst (λ (z : ℕ). 0 < z) (sym still) r.started;
          whole = λ d p' lo hi lp. r.whole d p' (omega arith) (omega arith) lp;
          live = λ d lo hi p' i' inside' within'. let lo' : 2 * d + 1 ≤ c = omega arith in let hi' : c < 2 * d + 4 = omega arith in
              let old = r.live d lo' hi' p' i' inside' within' in
              stands_on s.words word x d p' i' (λ e. let small : d % 2 < 2 = omega arith in let u = spot_unique run ((done + 1) % 2) (d % 2) p p' i i' bank small inside inside' sized old.0 (sym place ∙ e) in
              let same = u.0 in omega arith) old;
          filled = λ d e p' i' inside' within' less. let e' : c ≡ 2 * d + 2 = omega arith in let same : d ≡ done = omega arith in
              let less' : below (λ q. length (line_of run (done + 1) q)) p' + i' < k + 1 = subst (λ (z : ℕ). below (λ q. length (line_of run (z + 1) q)) p' + i' < k + 1) same less in
              let within'' : i' < length (line_of run (done + 1) p') = subst (λ (z : ℕ). i' < length (line_of run (z + 1) p')) same within' in
              let before : Stored run s.words (done + 1) r.stored = r.filled done (omega arith) in
              subst (λ (z : ℕ). Stands run (set s.words word x) (z + 1) p' i') (sym same)
              (dite (ℕ_discrete (below (λ q. length (line_of run (done + 1) q)) p' + i') k)
              (λ this. let u = place_unique (λ q. length (line_of run (done + 1) q)) p p' i i' within within'' (next ∙ sym this) in
              subst (λ (z : ℕ × ℕ). Stands run (set s.words word x) (done + 1) z.0 z.1) (λ j. (u.0 j, u.1 j))
              (sized, ap (λ (z : ℕ). get_or (set s.words word x) z 0) (sym place) ∙ (get_or-set_same s.words word x 0 (omega arith) ∙ right)))
              (λ other. let less'' : below (λ q. length (line_of run (done + 1) q)) p' + i' < r.stored = omega arith in
              let old = before p' i' inside' within'' less'' in
              stands_on s.words word x (done + 1) p' i' (λ e. let u = spot_unique run ((done + 1) % 2) ((done + 1) % 2) p p' i i' bank bank inside inside' sized old.0 (sym place ∙ e) in
              other (sym (ap₂ (λ (a b : ℕ). below (λ q. length (line_of run (done + 1) q)) a + b) u.1 u.2) ∙ next)) old));
          counted = λ b p' lb lp. dite (ℕ_discrete (spot run b p' 0) word)
              (λ e. let u = spot_unique run b ((done + 1) % 2) p' p 0 i lb bank lp inside (omega arith) sized (e ∙ place) in
              let val : get_or (set s.words word x) (spot run b p' 0) 0 ≡ x = ap (λ (z : ℕ). get_or (set s.words word x) z 0) e ∙ get_or-set_same s.words word x 0 (omega arith) in
              subst (λ (z : ℕ). z ≤ limit run p') (sym val) (subst (λ (z : ℕ). x ≤ limit run z) (sym u.1) (few (sym u.2))))
              (λ other. subst (λ (z : ℕ). z ≤ limit run p') (sym (get_or-set_other s.words word (spot run b p' 0) x 0 other)) (r.counted b p' lb lp));
          each_seat = subst (λ (z : ℕ × ℕ). (j : ℕ) (d : StoreView) → get_elem? (set s.views id w) j ≡ some d → Knows run z.0 z.1 r.holder r.writer (k + 1) j d) (λ i. (sym still i, sym one i))
              (seats_stay (Knows run c (turn s) r.holder r.writer (k + 1)) s.views id w record { names = kn.names; below_clock = kn.below_clock; looks_below = kn.looks_below; has_turn = kn.has_turn; does = (known.0, known.1, known.2, refl) }
              (λ j d other e. knows_later c c (turn s) r.holder r.writer r.writer r.stored (k + 1) j (le_refl c) d (r.each_seat j d e) (λ _. refl) (λ _ _ _ same. absurd (other (same ∙ sym known.0)))));
        },
        (refl, (refl, refl, refl, refl, refl), λ done' k' is'. let e = ap writer_parts (sym is ∙ is') in λ j. Writing ((e j).0) ((e j).1 + 1)),
      )

  -- the writer looks at the next word of its step
  pub finds : (slots id : ℕ) (me : Sat) (done k p i word : ℕ) → me.0.doing ≡ Writing done k → me.0.floor ≡ 2 * done + 2 → p < count run → i < length (line_of run (done + 1) p) → i < size run p
      → word ≡ spot run ((done + 1) % 2) p i → below (λ q. length (line_of run (done + 1) q)) p + i ≡ k → (i ≡ 0 → get_or (line_of run (done + 1) p) i 0 ≤ limit run p)
      → Allows Rule slots id me word (λ n. n) (finds_word (step slots word 0 0 none) me)
  finds slots id me done k p i word is busy inside within sized place next few s r h at small = let v : StoreView = me.0 in let x : ℕ = get_or (line_of run (done + 1) p) i 0 in let kn = r.each_seat id v at in
      let only : (run' : Run) (done' k' p' i' : ℕ) → v.run ≡ Some run' → v.doing ≡ Writing done' k' → i' < length (line_of run' (done' + 1) p') → below (λ q. length (line_of run' (done' + 1) q)) p' + i' ≡ k' → get_or (line_of run' (done' + 1) p') i' 0 ≡ x =
      λ run' done' k' p' i' named is' within' next'. let er = kn.names run' named in let e = ap writer_parts (sym is ∙ is') in
      let there : (i' < length (line_of run (done + 1) p')) × (below (λ q. length (line_of run (done + 1) q)) p' + i' ≡ k) =
      subst (λ (z : Run × (ℕ × ℕ)). (i' < length (line_of z.0 (z.1.0 + 1) p')) × (below (λ q. length (line_of z.0 (z.1.0 + 1) q)) p' + i' ≡ z.1.1)) (λ j. (er j, sym e j)) (within', next') in
      let u = place_unique (λ q. length (line_of run (done + 1) q)) p' p i' i there.0 within (there.1 ∙ sym next) in
      λ j. get_or (line_of (er j) ((sym e j).0 + 1) (u.0 j)) (u.1 j) 0 in
      dite (ℕ_discrete (get_or s.words word 0) x)
      (λ has. let stored = stores slots id me done k p i word x is busy inside within sized place refl next few s r h at small in (
        stored.0,
        stored.1,
        stored.2,
        subst (λ (n : ℕ). Rule (stepped s word n id me.1 stored.0 stored.1)) (sym has) stored.3,
        (stored.4.0, stored.4.1, λ run' done' k' p' i' named is' within' next'. ((λ _. stored.4.2 done' k' is'), λ not. absurd (not (has ∙ sym (only run' done' k' p' i' named is' within' next'))))),
      ))
      (λ other. (
        v,
        keeps,
        tt,
        unmoved s r word id me.1 v v at refl kn,
        (refl, (refl, refl, refl, refl, refl), λ run' done' k' p' i' named is' within' next'. ((λ found. absurd (other (found ∙ only run' done' k' p' i' named is' within' next'))), λ _. refl)),
      ))

  pub parts : (id : ℕ) (v : StoreView) → Splits Rule id v v (informed v.run v.floor)
  parts id v s r at = let k = r.each_seat id v at in let K = Knows run (clock s) (turn s) r.holder r.writer r.stored in let new : StoreView = informed v.run v.floor in record {
    holder = r.holder;
    writer = r.writer;
    stored = r.stored;
    wide = r.wide;
    bit = r.bit;
    held = λ e. let h = held_on s.views r.holder id v v at refl (r.held e) in (h.0, at_longer (set s.views id v) (new ∷ []) r.holder h.0 h.1, h.2);
    started = r.started;
    live = r.live;
    whole = r.whole;
    filled = r.filled;
    counted = r.counted;
    each_seat = λ j d e. ⊎_elim (seats_stay K s.views id v k (λ i x _. r.each_seat i x) j d) (λ (t : new ≡ d). subst (K j) t record { names = k.names; below_clock = k.below_clock; looks_below = (λ i d l. absurd (omega arith)); has_turn = λ e. absurd (cc); does = tt })
        (at_snoc (set s.views id v) new d j e);
  }

  meets_doing : (c writer stored j a b : ℕ) → a ≤ c → b ≤ c → (has : Bool) (d : Doing) → IsDoing run c writer stored j has a d → IsDoing run c writer stored j has (max a b) d
  meets_doing c writer stored j a b la lb has Rest h = tt
  meets_doing c writer stored j a b la lb has (Looked f) h = h
  meets_doing c writer stored j a b la lb has (Reading p f read) h = h
  meets_doing c writer stored j a b la lb has (Writing step k) h = let e = h.1 in (h.0, omega arith, h.2, h.3)

  pub meets : (id : ℕ) (v : StoreView) (other : ℕ) (w : StoreView) → w.turn ≡ false → Joins Rule id v other w record { run = v.run; looks = v.looks; floor = max v.floor w.floor; turn = v.turn; refusals = v.refusals; doing = v.doing } (informed None 0)
  meets id v other w free s r at apart there = let c : ℕ = clock s in let k = r.each_seat id v at in let K = Knows run c (turn s) r.holder r.writer r.stored in
      let both : StoreView = record { run = v.run; looks = v.looks; floor = max v.floor w.floor; turn = v.turn; refusals = v.refusals; doing = v.doing } in
      let kw = r.each_seat other w (sym (set_else s.views id other both apart) ∙ there) in
      let a = k.below_clock in let b = kw.below_clock in record {
        holder = r.holder;
        writer = r.writer;
        stored = r.stored;
        wide = r.wide;
        bit = r.bit;
        held = λ e. held_on (set s.views id both) r.holder other w (informed None 0) there (sym free) (held_on s.views r.holder id v both at refl (r.held e));
        started = r.started;
        live = r.live;
        whole = r.whole;
        filled = r.filled;
        counted = r.counted;
        each_seat = seats_stay K (set s.views id both) other (informed None 0) record { names = λ x e. absurd (cc); below_clock = omega arith; looks_below = (λ i d l. absurd (omega arith)); has_turn = λ e. absurd (cc); does = tt }
            (λ j x _. seats_stay K s.views id both record { names = k.names; below_clock = omega arith; looks_below = k.looks_below; has_turn = k.has_turn; does = meets_doing c r.writer r.stored id v.floor w.floor a b v.turn v.doing k.does } (λ i y _. r.each_seat i y) j x);
      }

  quietly : (c writer stored j floor : ℕ) (has has' : Bool) (d : Doing) → IsQuiet d → IsDoing run c writer stored j has floor d → IsDoing run c writer stored j has' floor d
  quietly c writer stored j floor has has' Rest q h = tt
  quietly c writer stored j floor has has' (Looked f) q h = absurd q
  quietly c writer stored j floor has has' (Reading p f read) q h = absurd q
  quietly c writer stored j floor has has' (Writing step k) q h = h

  -- word 1 is set to x
  turned : (s : St) (r : Rule s) (x holder me : ℕ) (cs : List (ℕ × Unit {0})) (w : StoreView) → x < 2 → (x ≡ 1 → (v : StoreView) × (get_elem? (set s.views me w) holder ≡ some v) × (v.turn ≡ true)) → Knows run (clock s) x holder r.writer r.stored me w
      → ((j : ℕ) (d : StoreView) → j ≢ me → get_elem? s.views j ≡ some d → Knows run (clock s) x holder r.writer r.stored j d) → Rule (stepped s 1 x me cs w keeps)
  turned s r x holder me cs w small held mine others = let wide = r.wide in
      let still : get_or (set s.words 1 x) 0 0 ≡ clock s = get_or-set_other s.words 1 0 x 0 (λ e. omega arith) in
      let one : get_or (set s.words 1 x) 1 0 ≡ x = get_or-set_same s.words 1 x 0 (omega arith) in record {
        holder = holder;
        writer = r.writer;
        stored = r.stored;
        wide = length-set s.words 1 x ∙ wide;
        bit = subst (λ (z : ℕ). z < 2) (sym one) small;
        held = λ e. held (sym one ∙ e);
        started = subst (λ (z : ℕ). 0 < z) (sym still) r.started;
        whole = λ d p lo hi lp. r.whole d p (omega arith) (omega arith) lp;
        live = λ d lo hi p i inside within. stands_on s.words 1 x d p i (not_spot 1 (d % 2) p i (omega arith)) (r.live d (omega arith) (omega arith) p i inside within);
        filled = λ d e p i inside within less. stands_on s.words 1 x (d + 1) p i (not_spot 1 ((d + 1) % 2) p i (omega arith)) (r.filled d (sym still ∙ e) p i inside within less);
        counted = λ bank p lb lp. subst (λ (z : ℕ). z ≤ limit run p) (sym (get_or-set_other s.words 1 (spot run bank p 0) x 0 (λ e. not_spot 1 bank p 0 (omega arith) (sym e)))) (r.counted bank p lb lp);
        each_seat = subst (λ (z : ℕ × ℕ). (j : ℕ) (d : StoreView) → get_elem? (set s.views me w) j ≡ some d → Knows run z.0 z.1 holder r.writer r.stored j d) (λ i. (sym still i, sym one i))
            (seats_stay (Knows run (clock s) x holder r.writer r.stored) s.views me w mine others);
      }

  -- the turn is asked for
  pub takes : (slots id : ℕ) (me : Sat) → IsQuiet me.0.doing → Allows Rule slots id me 1 (λ n. either (eqb n 0) 1 n) (takes_turn (step slots 1 0 1 none) me)
  takes slots id me quiet s r _ at _ = let v : StoreView = me.0 in let k = r.each_seat id v at in dite (ℕ_discrete (turn s) 0)
      (λ free. let w : StoreView = record { run = v.run; looks = v.looks; floor = v.floor; turn = true; refusals = v.refusals; doing = v.doing } in (
        w,
        keeps,
        tt,
        subst (λ b. Rule (stepped s 1 (either b 1 (turn s)) id me.1 w keeps)) (sym (eq-eqb (turn s) 0 free))
            (turned s r 1 id id me.1 w (omega arith) (λ _. (w, set_at s.views id v w at, refl)) record { names = k.names; below_clock = k.below_clock; looks_below = k.looks_below; has_turn = λ _. (refl, refl); does = quietly (clock s) r.writer r.stored id v.floor v.turn true v.doing quiet k.does }
            (λ j d other e. let kd = r.each_seat j d e in record { names = kd.names; below_clock = kd.below_clock; looks_below = kd.looks_below; has_turn = λ has. let t = (kd.has_turn has).0 in absurd (omega arith); does = kd.does })),
        (refl, (refl, refl, refl, refl), (λ _. refl), λ not. absurd (not free)),
      ))
      (λ busy. let w : StoreView = record { run = v.run; looks = v.looks; floor = v.floor; turn = v.turn; refusals = v.refusals + 1; doing = v.doing } in (
        w,
        keeps,
        tt,
        subst (λ b. Rule (stepped s 1 (either b 1 (turn s)) id me.1 w keeps)) (sym (ne_eqb (turn s) 0 busy))
            (unmoved s r 1 id me.1 v w at refl record { names = k.names; below_clock = k.below_clock; looks_below = k.looks_below; has_turn = k.has_turn; does = k.does }),
        (refl, (refl, refl, refl, refl), (λ free. absurd (busy free)), λ _. (refl, refl)),
      ))

  -- the turn is given back
  pub gives : (slots id : ℕ) (me : Sat) → IsQuiet me.0.doing → me.0.turn ≡ true → Allows Rule slots id me 1 (λ _. 0) (λ _. gives_turn (step slots 1 0 0 none) me 0)
  gives slots id me quiet mine s r _ at _ = let v : StoreView = me.0 in let k = r.each_seat id v at in
      let w : StoreView = record { run = v.run; looks = v.looks; floor = v.floor; turn = false; refusals = v.refusals; doing = v.doing } in (
        w,
        keeps,
        tt,
        turned s r 0 r.holder id me.1 w (omega arith) (λ e. absurd (omega arith)) record { names = k.names; below_clock = k.below_clock; looks_below = k.looks_below; has_turn = λ e. absurd (cc); does = quietly (clock s) r.writer r.stored id v.floor v.turn false v.doing quiet k.does }
            (λ j d other e. let kd = r.each_seat j d e in record { names = kd.names; below_clock = kd.below_clock; looks_below = kd.looks_below; has_turn = λ has. absurd (other ((kd.has_turn has).1 ∙ sym (k.has_turn mine).1)); does = kd.does }),
        (refl, (refl, refl, refl, refl), refl),
      )
