use Rattle.std.proofs.Common.{◌≡◌, ◌+◌, ◌-◌, ◌/◌, ◌∙◌, add-one, ap, arith, false, length, subst, suc, sym, take, take_all, true, ℕ}
use Rattle.std.{specs.Prelude.slice_get, specs.List.AllByRecursion, specs.Option.option_map_or}
use Rattle.key_lists.proofs.Parts.{none_left}
use Rattle.chunk_list.specs.Chunked.{joined}
use Rattle.sort_op.{specs.Entries.comes_before, specs.Ranks.{IsRanking, Ranking, arrived, listed}, proofs.Ranked.{from_on, listed_count, up_to}}
use Rattle.sort_op.proofs.row_order.RowOrder.count_before.Goals as goal

pub returns-then-stands_before-clause-before : goal.returns-then-stands_before-clause-before
returns-then-stands_before-clause-before c =
    let was : Ranking = record { by = c.self.inside.by; handles = c.self.inside.handles; cells = c.self.inside.cells; rows = joined c.self.inside.rows } in
    let entries = listed c.args.self.now in
    let last : ℕ = c.len-high.result - 1 in
    let count : c.len-high.result ≡ length entries = c.len-high.ensures.count ∙ sym (listed_count was) ∙ ap (λ (order : Ranking). length (listed order)) c.self.view_is in
    let at : c.saturating_sub.result ≡ last = c.saturating_sub.ensures in
    subst (AllByRecursion (λ entry. comes_before c.args.self.now.by entry (arrived c.args.self.now c.args.row) ≡ true))
    (take_all (suc last) entries (omega (arith, count)) ∙ sym (take_all c.len-high.result entries (omega (arith, count))))
    (up_to c.args.self.now.by (arrived c.args.self.now c.args.row) entries last (subst IsRanking c.self.view_is c.self.invariant).rising
    (ap (λ n. option_map_or (λ entry. comes_before c.args.self.now.by entry (arrived c.args.self.now c.args.row)) (slice_get entries n) false) (sym at) ∙ sym c.stands_before.ensures ∙ c.if-stands_before.true))

pub returns-then-not-stands_before-clause-others : goal.returns-then-not-stands_before-clause-others
returns-then-not-stands_before-clause-others c =
    from_on c.args.self.now.by (arrived c.args.self.now c.args.row) (listed c.args.self.now) c.count_cells_before-low.result c.count_cells_before-low.ensures.ranking.rising (sym c.stands_before-2.ensures ∙ c.if-not-stands_before.true)

pub loop-low-init : goal.loop-low-init
loop-low-init c =
    let was : Ranking = record { by = c.self.inside.by; handles = c.self.inside.handles; cells = c.self.inside.cells; rows = joined c.self.inside.rows } in
    let count : c.len-high.result ≡ length (listed c.args.self.now) = c.len-high.ensures.count ∙ sym (listed_count was) ∙ ap (λ (order : Ranking). length (listed order)) c.self.view_is in
    record {
      order = omega (arith, c.count_cells_before-low.ensures.within, count);
      within = omega (arith, count);
      before = c.count_cells_before-low.ensures.before;
      others = none_left (λ entry. comes_before c.args.self.now.by entry (arrived c.args.self.now c.args.row) ≡ false) (listed c.args.self.now) c.len-high.result (omega (arith, count));
    }

pub loop-low-preserved-then-stands_before-2 : goal.loop-low-preserved-then-stands_before-2
loop-low-preserved-then-stands_before-2 c =
    let middle : ℕ = c.loop-low.low + (c.loop-low.high - c.loop-low.low) / 2 in
    let entries = listed c.args.self.now in
    record {
      order = omega arith;
      within = c.loop-low.invariant.within;
      before =
          subst (λ n. AllByRecursion (λ entry. comes_before c.args.self.now.by entry (arrived c.args.self.now c.args.row) ≡ true) (take n entries)) (sym (add-one middle))
          (up_to c.args.self.now.by (arrived c.args.self.now c.args.row) entries middle c.count_cells_before-low.ensures.ranking.rising (sym c.stands_before-in-loop-low.ensures ∙ c.if-stands_before-2.true));
      others = c.loop-low.invariant.others;
    }

pub loop-low-preserved : goal.loop-low-preserved
loop-low-preserved c =
    let middle : ℕ = c.loop-low.low + (c.loop-low.high - c.loop-low.low) / 2 in
    record {
      order = omega arith;
      within = omega (arith, c.loop-low.invariant.within);
      before = c.loop-low.invariant.before;
      others =
          from_on c.args.self.now.by (arrived c.args.self.now c.args.row) (listed c.args.self.now) middle c.count_cells_before-low.ensures.ranking.rising (sym c.stands_before-in-loop-low.ensures ∙ c.if-stands_before-2.false);
    }
