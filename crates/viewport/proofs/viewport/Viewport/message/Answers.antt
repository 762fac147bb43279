use Rattle.std.proofs.Common.{◌≡◌, refl, ap, ap₂, sym, ◌∙◌, subst, ◌+◌, ◌*◌, ◌^◌, ◌≤◌, None, length, List}
use Rattle.row_changes.specs.Parts.{tick_along}
use Rattle.table_update.specs.Coalesced.{key_pairs}
use Rattle.tick_model.{specs.declared.table.PlainTable.PlainTable, specs.declared.update.KeyPair.KeyPair, specs.Changes.{Change, change_of, told_keys}, specs.Rules.update_fault, specs.Tables.keys, specs.Updates.Update}
use Rattle.tick_table.{specs.Exact.ticking, specs.Ticking.Ticking, proofs.Between.between_lawful, proofs.ExactAgain.change_whole}
use Rattle.viewport.{specs.declared.slice.Slice.Slice, specs.Slices.cut, specs.Standing.IsStanding, specs.Watching.{Watching, message_tick, started}, proofs.Messages.{in_both, message_is_tick, none_kept, started_stands}, proofs.SliceTables.cut_table}
use Rattle.viewport.proofs.viewport.Viewport.message.Goals as goal

pub touched_rows-requires : goal.touched_rows-requires
touched_rows-requires g c =
    let inside = c.self.inside in
    subst (λ table. IsStanding inside.slice inside.last.new table inside.kept) (ap (λ (watching : Watching). watching.table) c.self.view_is ∙ c.requires) c.self.invariant

pub changed-requires-clause-asked : goal.changed-requires-clause-asked
changed-requires-clause-asked g c =
    let inside = c.self.inside in
    let s : IsStanding inside.slice inside.last.new c.args.table.now.new inside.kept =
    subst (λ table. IsStanding inside.slice inside.last.new table inside.kept) (ap (λ (watching : Watching). watching.table) c.self.view_is ∙ c.requires) c.self.invariant in
    s.asked

pub changed-requires-clause-parts : goal.changed-requires-clause-parts
changed-requires-clause-parts g c =
    let inside = c.self.inside in
    let s : IsStanding inside.slice inside.last.new c.args.table.now.new inside.kept =
    subst (λ table. IsStanding inside.slice inside.last.new table inside.kept) (ap (λ (watching : Watching). watching.table) c.self.view_is ∙ c.requires) c.self.invariant in
    (in_both inside.slice inside.last.new c.args.table.now.new inside.kept s c.rows-rows.ensures.table, c.in_ok-touched.ensures)

pub apply-requires-clause-lawful : goal.apply-requires-clause-lawful
apply-requires-clause-lawful g c =
    let inside = c.self.inside in
    let last = inside.last.new in
    let table = c.args.table.now.new in
    let s : IsStanding inside.slice last table inside.kept =
    subst (λ table. IsStanding inside.slice last table inside.kept) (ap (λ (watching : Watching). watching.table) c.self.view_is ∙ c.requires) c.self.invariant in
    let kept = in_both inside.slice last table inside.kept s c.rows-rows.ensures.table in
    let tick = tick_along last (cut inside.slice table) kept in
    let told_is : c.in_ok-told.told ≡ change_of (tick_along last (cut inside.slice table) kept) = c.in_ok-told.ensures ∙ c.in_ok-change.ensures.change kept c.in_ok-touched.ensures in
    subst (λ (change : Change). update_fault (2 ^ 62) (keys last.rows) change.update ≡ None) (sym told_is)
    (between_lawful tick (message_is_tick inside.slice last table inside.kept s c.rows-rows.ensures.table))

pub apply-requires-clause-whole : goal.apply-requires-clause-whole
apply-requires-clause-whole g c =
    let inside = c.self.inside in
    let last = inside.last.new in
    let table = c.args.table.now.new in
    let s : IsStanding inside.slice last table inside.kept =
    subst (λ table. IsStanding inside.slice last table inside.kept) (ap (λ (watching : Watching). watching.table) c.self.view_is ∙ c.requires) c.self.invariant in
    let kept = in_both inside.slice last table inside.kept s c.rows-rows.ensures.table in
    let tick = tick_along last (cut inside.slice table) kept in
    let told_is : c.in_ok-told.told ≡ change_of (tick_along last (cut inside.slice table) kept) = c.in_ok-told.ensures ∙ c.in_ok-change.ensures.change kept c.in_ok-touched.ensures in
    subst (λ (change : Change). length change.cells ≡ length (told_keys change.update) * last.width) (sym told_is)
    (change_whole tick (message_is_tick inside.slice last table inside.kept s c.rows-rows.ensures.table))

pub invariant_of-viewport : goal.invariant_of-viewport
invariant_of-viewport g c =
    let inside = c.self.inside in
    let last = inside.last.new in
    let table = c.args.table.now.new in
    let h = c.rows-rows.ensures.table in
    let s : IsStanding inside.slice last table inside.kept =
    subst (λ table. IsStanding inside.slice last table inside.kept) (ap (λ (watching : Watching). watching.table) c.self.view_is ∙ c.requires) c.self.invariant in
    let kept = in_both inside.slice last table inside.kept s h in
    let tick = tick_along last (cut inside.slice table) kept in
    let told_is : c.in_ok-told.told ≡ change_of (tick_along last (cut inside.slice table) kept) = c.in_ok-told.ensures ∙ c.in_ok-change.ensures.change kept c.in_ok-touched.ensures in
    let last_is : c.in_ok-last.last ≡ ticking (tick_along last (cut inside.slice table) kept) = c.in_ok-last.ensures.exact tick (message_is_tick inside.slice last table inside.kept s h) refl told_is in
    subst (λ (made : Ticking). IsStanding inside.slice made.new c.of.result.value.new c.none.result) (sym last_is)
    (subst (λ (seen : Ticking). IsStanding inside.slice (cut inside.slice table) seen.new c.none.result) (sym c.of.ensures)
    (subst (λ update. IsStanding inside.slice (cut inside.slice table) table update) (sym c.none.ensures) (started_stands inside.slice table s.asked h)))

pub returns-clause-stands : goal.returns-clause-stands
returns-clause-stands g c =
    let inside = c.self.inside in
    let last = inside.last.new in
    let table = c.args.table.now.new in
    let h = c.rows-rows.ensures.table in
    let s : IsStanding inside.slice last table inside.kept =
    subst (λ table. IsStanding inside.slice last table inside.kept) (ap (λ (watching : Watching). watching.table) c.self.view_is ∙ c.requires) c.self.invariant in
    let kept = in_both inside.slice last table inside.kept s h in
    let tick = tick_along last (cut inside.slice table) kept in
    let told_is : c.in_ok-told.told ≡ change_of (tick_along last (cut inside.slice table) kept) = c.in_ok-told.ensures ∙ c.in_ok-change.ensures.change kept c.in_ok-touched.ensures in
    let last_is : c.in_ok-last.last ≡ ticking (tick_along last (cut inside.slice table) kept) = c.in_ok-last.ensures.exact tick (message_is_tick inside.slice last table inside.kept s h) refl told_is in
    ap (λ (made : Ticking). let watching : Watching = record { slice = inside.slice; last = made.new; table = c.of.result.value.new; kept = key_pairs (keys made.new.rows) c.none.result } in watching) last_is
    ∙ ap₂ (λ (seen : Ticking) (update : Update). let watching : Watching = record { slice = inside.slice; last = cut inside.slice table; table = seen.new; kept = key_pairs (keys (cut inside.slice table).rows) update } in watching) c.of.ensures c.none.ensures
    ∙ ap (λ (pairs : List KeyPair). let watching : Watching = record { slice = inside.slice; last = cut inside.slice table; table = table; kept = pairs } in watching) (none_kept (cut inside.slice table) (cut_table inside.slice table h))
    ∙ ap (λ (watching : Watching). started watching.slice table) c.self.view_is

pub returns-clause-change : goal.returns-clause-change
returns-clause-change g c =
    let inside = c.self.inside in
    let last = inside.last.new in
    let table = c.args.table.now.new in
    let table_is : inside.seen.value.new ≡ c.args.table.now.new = ap (λ (watching : Watching). watching.table) c.self.view_is ∙ c.requires in
    let s : IsStanding inside.slice last table inside.kept = subst (λ table. IsStanding inside.slice last table inside.kept) table_is c.self.invariant in
    let kept = in_both inside.slice last table inside.kept s c.rows-rows.ensures.table in
    c.in_ok-change.ensures.change kept c.in_ok-touched.ensures
    ∙ ap (λ (table : PlainTable). let watching : Watching = record { slice = inside.slice; last = last; table = table; kept = key_pairs (keys last.rows) inside.kept } in change_of (message_tick watching)) (sym table_is)
    ∙ ap (λ (watching : Watching). change_of (message_tick watching)) c.self.view_is

pub returns-in_err-change-clause-reads : goal.returns-in_err-change-clause-reads
returns-in_err-change-clause-reads g c =
    subst (λ (slice : Slice). c.changed.new.reads ≤ c.args.reads.now + length slice.columns * (2 * length (cut slice c.args.table.now.new).rows)) (ap (λ (watching : Watching). watching.slice) c.self.view_is) c.changed.ensures.reads

pub returns-in_err-told-clause-reads : goal.returns-in_err-told-clause-reads
returns-in_err-told-clause-reads g c =
    subst (λ (slice : Slice). c.changed.new.reads ≤ c.args.reads.now + length slice.columns * (2 * length (cut slice c.args.table.now.new).rows)) (ap (λ (watching : Watching). watching.slice) c.self.view_is) c.changed.ensures.reads

pub returns-in_err-last-clause-reads : goal.returns-in_err-last-clause-reads
returns-in_err-last-clause-reads g c =
    subst (λ (slice : Slice). c.changed.new.reads ≤ c.args.reads.now + length slice.columns * (2 * length (cut slice c.args.table.now.new).rows)) (ap (λ (watching : Watching). watching.slice) c.self.view_is) c.changed.ensures.reads

pub returns-clause-reads : goal.returns-clause-reads
returns-clause-reads g c =
    subst (λ (slice : Slice). c.changed.new.reads ≤ c.args.reads.now + length slice.columns * (2 * length (cut slice c.args.table.now.new).rows)) (ap (λ (watching : Watching). watching.slice) c.self.view_is) c.changed.ensures.reads
