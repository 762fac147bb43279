use Rattle.std.proofs.Common.{◌≡◌, ap, ap₂, sym, ◌∙◌, subst, arith, cond, ℕ, ◌*◌, List, ◌++◌, [], map, filter, length, rules, w64, SFits}
use Rattle.std.{proofs.lemmas.Int.to_z-of_z, proofs.lemmas.List.append-nil}
use Rattle.lookup_join.{specs.declared.matches.Match.Match, specs.Latest.during, specs.Notes.{Note, taken_key}, specs.Taken.{IsFrom, IsThere, cell_of, end_of, match_before, match_now, turned_note}, proofs.Walks.{note_at, reads_more, told_next}, proofs.turned.turned_rows.Goals.{then-not-gives_as+in_ok-put_keys, else-not-gives_as}}
use Rattle.row_changes.proofs.Placed.{reads_placed}
use Rattle.row_groups.specs.Members.{group_of, keys_of}
use Rattle.shown_rows.proofs.Walks.{of_place}
use Rattle.tick_model.specs.Tables.{same_cells}
use Rattle.lookup_join.proofs.turned.turned_rows.Goals as goal

pub gives_as-requires-clause-other : goal.gives_as-requires-clause-other
gives_as-requires-clause-other g c =
    let note : Note = record { cells = c.cells_at-cells.result.now; at = c.at_of-at.result; before = c.before_at.result } in
    let here = note_at c.args.notes.now.notes c.loop-number.number c.cells_at-cells.result.now c.at_of-at.result c.before_at.result c.cells_at-cells.ensures c.at_of-at.ensures c.before_at.ensures in
    let from = of_place (IsFrom c.args.pick c.args.index.now.members c.args.right.now.old c.args.right.now.new) c.loop-number.number c.args.notes.now.notes note c.requires.there here in
    subst (IsThere c.args.right.now.old c.args.right.now.new) (sym c.before-before.ensures) from.before

pub gives_as-requires-clause-there : goal.gives_as-requires-clause-there
gives_as-requires-clause-there g c =
    let note : Note = record { cells = c.cells_at-cells.result.now; at = c.at_of-at.result; before = c.before_at.result } in
    let fits : SFits w64 c.at_of-at.result = search rules in
    let here = note_at c.args.notes.now.notes c.loop-number.number c.cells_at-cells.result.now c.at_of-at.result c.before_at.result c.cells_at-cells.ensures c.at_of-at.ensures c.before_at.ensures in
    let from = of_place (IsFrom c.args.pick c.args.index.now.members c.args.right.now.old c.args.right.now.new) c.loop-number.number c.args.notes.now.notes note c.requires.there here in
    subst (IsThere c.args.right.now.old c.args.right.now.new)
    (sym (c.now-now.ensures ∙ ap match_now (c.latest_key.ensures ∙ ap (taken_key c.args.pick c.args.index.now.members c.cells_at-cells.result.now) (to_z-of_z w64 c.at_of-at.result fits)))) from.now

pub loop-number-preserved : goal.loop-number-preserved
loop-number-preserved g c =
    let cells = c.cells_at-cells.result.now in
    let at = c.at_of-at.result in
    let note : Note = record { cells = cells; at = at; before = c.before_at.result } in
    let fits : SFits w64 c.at_of-at.result = search rules in
    let exact = to_z-of_z w64 c.at_of-at.result fits in
    let here = note_at c.args.notes.now.notes c.loop-number.number cells at c.before_at.result c.cells_at-cells.ensures c.at_of-at.ensures c.before_at.ensures in
    let old = c.args.right.now.old.rows in
    let new = c.args.right.now.new.rows in
    let right = c.args.index.now.members in
    let notes = c.args.notes.now.notes in
    let told = turned_note c.args.pick c.args.take.now c.args.left.now.members right notes old new in
    let spoken = keys_of (filter (during at (end_of right notes cells at)) (group_of cells c.args.left.now.members)) in
    let now_is : c.now-now.result ≡ match_now (taken_key c.args.pick right cells at) = c.now-now.ensures ∙ ap match_now (c.latest_key.ensures ∙ ap (taken_key c.args.pick right cells) exact) in
    let same : c.gives_as.result ≡ same_cells (map (cell_of old new (match_now (taken_key c.args.pick right cells at))) c.args.take.now) (map (cell_of old new (match_before c.before_at.result)) c.args.take.now) =
    c.gives_as.ensures.same ∙ ap₂ (λ (n : Match) (b : Match). same_cells (map (cell_of old new n) c.args.take.now) (map (cell_of old new b) c.args.take.now)) now_is c.before-before.ensures in record {
      keys =
          elim c.if-not-gives_as.branch [
            | then-not-gives_as+in_ok-put_keys w ↦
                ap (λ v. v.items) w.keys-is ∙ w.in_ok-put_keys.ensures
                ∙ ap (λ (ks : List ℕ). c.loop-number.keys.items ++ ks)
                (ap₂ (λ from until. keys_of (filter (during from until) (group_of cells c.args.left.now.members))) exact (w.end_of-until.ensures ∙ ap (end_of right notes cells) exact)
                ∙ sym (ap (λ b. cond b [] spoken) (sym same ∙ w.if-not-gives_as.true)))
                ∙ told_next told notes c.loop-number.number note c.loop-number.keys.items here c.loop-number.invariant.keys
            | else-not-gives_as w ↦
                ap (λ v. v.items) w.keys-is ∙ sym (append-nil c.loop-number.keys.items)
                ∙ ap (λ (ks : List ℕ). c.loop-number.keys.items ++ ks) (sym (ap (λ b. cond b [] spoken) (sym same ∙ w.if-not-gives_as.false)))
                ∙ told_next told notes c.loop-number.number note c.loop-number.keys.items here c.loop-number.invariant.keys
          ];
      reads = reads_more (2 * length c.args.take.now) c.loop-number.reads c.gives_as.new.reads c.args.reads.now c.loop-number.number c.loop-number.invariant.reads c.gives_as.ensures.reads;
    }

pub returns-in_err-put_keys-clause-reads : goal.returns-in_err-put_keys-clause-reads
returns-in_err-put_keys-clause-reads g c =
    reads_placed (2 * length c.args.take.now) c.args.reads.now c.loop-number.reads c.gives_as.new.reads c.loop-number.number (length c.args.notes.now.notes) c.loop-number.invariant.reads c.gives_as.ensures.reads (omega arith)
