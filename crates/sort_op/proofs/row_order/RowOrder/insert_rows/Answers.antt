use Rattle.std.proofs.Common.{◌≡◌, ◌||◌, ◌∙◌, ◌++◌, ◌∷◌, [], false, map, refl, ap, arith, sym, subst, true, true≢false, Some}
use Rattle.std.{specs.Prelude.insert, specs.List.AllByRecursion, specs.List.Sorted.IsPermutation, proofs.lemmas.Bool.eqb-true, proofs.lemmas.List.{map-append, nil_from_length}, proofs.lemmas.List.Sorted.IsPermutation-map}
use Rattle.key_lists.{proofs.Booleans.or_false, proofs.Every.{every, every-map}, proofs.Parts.{every_front, every_back}}
use Rattle.row_handles.specs.Entries.{key_with}
use Rattle.sort_op.{specs.declared.arrivals.Coming.Coming, specs.declared.entry.Entry.Entry, specs.declared.row_order.OrderedRow.OrderedRow, specs.Entries.{comes_before, is_in, place_of, AreDistinct, Falls, IsWhole, Rises}, specs.Firsts.rows_in, specs.Ranks.{IsRanking, Ranking, arrived, listed, row_entry}, proofs.Arrived.{all_arrived, last_ahead, none_arrived, one_arrived, HaveArrived}, proofs.Inserted.{distinct_front, distinct_permuted, every_permuted, in_permuted, in_step, last_has, out_step, place_out}, proofs.Ranked.arrived_whole, proofs.RankedEdits.listed_more}
use Rattle.sort_op.proofs.row_order.RowOrder.insert_rows.Goals as goal

pub loop-next-init : goal.loop-next-init
loop-next-init c =
    let order = c.args.self.now in
    let was = c.args.rows.items in
    let sorted = rows_in c.in_ok-coming.coming.items in
    let entry : OrderedRow → Entry = arrived order in
    let shuffled : IsPermutation (map entry was) (map entry sorted) = IsPermutation-map entry was sorted c.in_ok-coming.ensures.permutation in
    record {
      same = refl;
      kept = λ x. refl;
      known = every_permuted (λ (row : OrderedRow). key_with row.handle order.handles ≡ Some row.key) was sorted c.in_ok-coming.ensures.permutation c.requires.known;
      out = every_permuted (λ x. is_in x (listed order) ≡ false) (map entry was) (map entry sorted) shuffled (every-map (λ x. is_in x (listed order) ≡ false) entry was c.requires.absent);
      distinct = distinct_permuted (map entry was) (map entry sorted) shuffled c.requires.distinct;
      rises = (subst IsRanking c.self.view_is c.self.invariant).rising;
      ahead = λ last. absurd (true≢false (sym last));
      arrived = none_arrived order.by (map entry sorted) (listed order) c.in_ok-positions.positions.items c.in_ok-positions.ensures.items;
    }

pub insert-requires-clause-known : goal.insert-requires-clause-known
insert-requires-clause-known c =
    let row = c.in-Some.next.row in
    let rest = rows_in c.pop.new.self.items in
    let items : rows_in c.loop-next.coming.items ≡ rest ++ row ∷ [] = ap rows_in c.in-Some.ensures.items ∙ map-append (λ (next : Coming). next.row) c.pop.new.self.items (c.in-Some.next ∷ []) in
    let known = every_back (λ (row : OrderedRow). key_with row.handle c.args.self.now.handles ≡ Some row.key) rest (row ∷ []) (subst (AllByRecursion (λ (row : OrderedRow). key_with row.handle c.args.self.now.handles ≡ Some row.key)) items c.loop-next.invariant.known) in
    subst (λ (order : Ranking). key_with row.handle order.handles ≡ Some row.key) (sym c.loop-next.invariant.same) known.0

pub insert-requires-clause-absent : goal.insert-requires-clause-absent
insert-requires-clause-absent c =
    let row = c.in-Some.next.row in
    let rest = rows_in c.pop.new.self.items in
    let entry : OrderedRow → Entry = arrived c.args.self.now in
    let items : rows_in c.loop-next.coming.items ≡ rest ++ row ∷ [] = ap rows_in c.in-Some.ensures.items ∙ map-append (λ (next : Coming). next.row) c.pop.new.self.items (c.in-Some.next ∷ []) in
    let split : map entry (rows_in c.loop-next.coming.items) ≡ map entry rest ++ entry row ∷ [] = ap (map entry) items ∙ map-append entry rest (row ∷ []) in
    let now = listed c.loop-next.self in
    ap (λ (order : Ranking). place_of (arrived order row) now) c.loop-next.invariant.same
    ∙ place_out (entry row) now (last_has (λ x. is_in x now ≡ false) (map entry rest) (entry row) (subst (AllByRecursion (λ x. is_in x now ≡ false)) split c.loop-next.invariant.out))

pub insert-requires-clause-last : goal.insert-requires-clause-last
insert-requires-clause-last c = λ last.
    let row = c.in-Some.next.row in
    let rest = rows_in c.pop.new.self.items in
    let entry : OrderedRow → Entry = arrived c.args.self.now in
    let items : rows_in c.loop-next.coming.items ≡ rest ++ row ∷ [] = ap rows_in c.in-Some.ensures.items ∙ map-append (λ (next : Coming). next.row) c.pop.new.self.items (c.in-Some.next ∷ []) in
    let split : map entry (rows_in c.loop-next.coming.items) ≡ map entry rest ++ entry row ∷ [] = ap (map entry) items ∙ map-append entry rest (row ∷ []) in
    let now = listed c.loop-next.self in
    subst (λ (order : Ranking). AllByRecursion (λ y. comes_before order.by y (arrived order row) ≡ true) now) (sym c.loop-next.invariant.same)
    (last_has (λ x. AllByRecursion (λ y. comes_before c.args.self.now.by y x ≡ true) now) (map entry rest) (entry row) (subst (AllByRecursion (λ x. AllByRecursion (λ y. comes_before c.args.self.now.by y x ≡ true) now)) split (c.loop-next.invariant.ahead last)))

pub loop-next-preserved : goal.loop-next-preserved
loop-next-preserved c =
    let first = c.args.self.now in
    let row = c.in-Some.next.row in
    let rest = rows_in c.pop.new.self.items in
    let entry : OrderedRow → Entry = arrived first in
    let all = map entry (rows_in c.in_ok-coming.coming.items) in
    let items : rows_in c.loop-next.coming.items ≡ rest ++ row ∷ [] = ap rows_in c.in-Some.ensures.items ∙ map-append (λ (next : Coming). next.row) c.pop.new.self.items (c.in-Some.next ∷ []) in
    let split : map entry (rows_in c.loop-next.coming.items) ≡ map entry rest ++ entry row ∷ [] = ap (map entry) items ∙ map-append entry rest (row ∷ []) in
    let old = listed c.loop-next.self in
    let new = listed c.insert.new.self in
    let place = c.in_ok-position.position in
    let same = c.loop-next.invariant.same in
    let known = (every_back (λ (row : OrderedRow). key_with row.handle first.handles ≡ Some row.key) rest (row ∷ []) (subst (AllByRecursion (λ (row : OrderedRow). key_with row.handle first.handles ≡ Some row.key)) items c.loop-next.invariant.known)) in
    let more : new ≡ insert old place (entry row) =
    ap listed c.in_ok-position.ensures.rows
    ∙ listed_more c.loop-next.self row place (subst (λ (order : Ranking). key_with row.handle order.handles ≡ Some row.key) (sym same) known.0)
    ∙ ap (λ (order : Ranking). insert old place (arrived order row)) same in
    let distinct = subst AreDistinct split c.loop-next.invariant.distinct in
    let out = subst (AllByRecursion (λ x. is_in x old ≡ false)) split c.loop-next.invariant.out in
    let rises_now : Rises first.by new = subst (λ by. Rises by new) (ap (λ (order : Ranking). order.by) c.in_ok-position.ensures.rows ∙ ap (λ (order : Ranking). order.by) same) c.insert.ensures.rises in
    let back : Falls first.by all =
    subst (λ (order : Ranking). Falls order.by (map (row_entry order.by order.cells) (rows_in c.in_ok-coming.coming.items))) c.self.view_is
    (subst (λ by. Falls by (map (row_entry by c.self.inside.cells) (rows_in c.in_ok-coming.coming.items))) c.as_slice.ensures c.in_ok-coming.ensures.backward) in
    let whole : AllByRecursion (IsWhole first.by) all = every-map (IsWhole first.by) entry (rows_in c.in_ok-coming.coming.items) (every (λ row. IsWhole first.by (entry row)) (rows_in c.in_ok-coming.coming.items) (arrived_whole first)) in
    record {
      same = c.in_ok-position.ensures.rows ∙ ap (λ (order : Ranking). record order { rows = insert c.loop-next.self.rows place row.handle }) same ∙ ap (λ (order : Ranking). record first { rows = order.rows }) (sym c.in_ok-position.ensures.rows);
      kept = λ x.
          ap (λ now. is_in x now || is_in x (map entry rest)) more
          ∙ in_step x old place (entry row) (map entry rest)
          ∙ ap (λ items. is_in x old || is_in x items) (sym split)
          ∙ c.loop-next.invariant.kept x;
      known = every_front (λ (row : OrderedRow). key_with row.handle first.handles ≡ Some row.key) rest (row ∷ []) (subst (AllByRecursion (λ (row : OrderedRow). key_with row.handle first.handles ≡ Some row.key)) items c.loop-next.invariant.known);
      out = subst (λ now. AllByRecursion (λ x. is_in x now ≡ false) (map entry rest)) (sym more) (out_step old place (entry row) (map entry rest) distinct out);
      distinct = distinct_front (map entry rest) (entry row) distinct;
      rises = rises_now;
      arrived =
          subst (HaveArrived first.by all (map entry rest) new) (sym c.in_ok-push.ensures.items)
          (one_arrived first.by all (map entry rest) old new (entry row) place c.loop-next.positions.items back
          (distinct_permuted (map entry c.args.rows.items) all (IsPermutation-map entry c.args.rows.items (rows_in c.in_ok-coming.coming.items) c.in_ok-coming.ensures.permutation) c.requires.distinct) whole
          rises_now (place_out (entry row) old (last_has (λ x. is_in x old ≡ false) (map entry rest) (entry row) out)) c.in_ok-position.ensures.within more
          (subst (λ items. HaveArrived first.by all items old c.loop-next.positions.items) split c.loop-next.invariant.arrived));
      ahead = λ last.
          last_ahead first.by all (map entry rest) old new (entry row) place c.loop-next.positions.items back distinct whole rises_now
          (eqb-true place c.len-count.result last ∙ c.len-count.ensures.count) more (subst (λ items. HaveArrived first.by all items old c.loop-next.positions.items) split c.loop-next.invariant.arrived);
    }

pub returns-clause-listed : goal.returns-clause-listed
returns-clause-listed c = λ x.
    let none = ap rows_in (nil_from_length c.loop-next.coming.items (omega (arith, c.in_default.ensures.cases.0, c.loop-next.coming.ok.0))) in
    let entry : OrderedRow → Entry = arrived c.args.self.now in
    sym (or_false (is_in x (listed c.loop-next.self)))
    ∙ ap (λ items. is_in x (listed c.loop-next.self) || is_in x (map entry items)) (sym none)
    ∙ c.loop-next.invariant.kept x
    ∙ ap (λ b. is_in x (listed c.args.self.now) || b) (in_permuted (map entry c.args.rows.items) (map entry (rows_in c.in_ok-coming.coming.items)) (IsPermutation-map entry c.args.rows.items (rows_in c.in_ok-coming.coming.items) c.in_ok-coming.ensures.permutation) x)

pub returns-clause-positions : goal.returns-clause-positions
returns-clause-positions c =
    let none = ap rows_in (nil_from_length c.loop-next.coming.items (omega (arith, c.in_default.ensures.cases.0, c.loop-next.coming.ok.0))) in
    let entry : OrderedRow → Entry = arrived c.args.self.now in
    let all = map entry (rows_in c.in_ok-coming.coming.items) in
    let now = listed c.loop-next.self in
    all_arrived c.args.self.now.by (map entry c.args.rows.items) all now c.loop-next.positions.items (IsPermutation-map entry c.args.rows.items (rows_in c.in_ok-coming.coming.items) c.in_ok-coming.ensures.permutation)
    (subst (λ items. HaveArrived c.args.self.now.by all (map entry items) now c.loop-next.positions.items) none c.loop-next.invariant.arrived)

pub returns-clause-rises : goal.returns-clause-rises
returns-clause-rises c = subst (λ by. Rises by (listed c.loop-next.self)) (sym (ap (λ (order : Ranking). order.by) c.loop-next.invariant.same)) c.loop-next.invariant.rises
