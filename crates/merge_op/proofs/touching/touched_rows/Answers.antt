use Rattle.std.proofs.Common.{◌≡◌, ap, sym, ◌∙◌, subst, ℕ, ◌+◌, ◌<◌, ◌^◌, List, [], ◌∷◌, map, drop, length}
use Rattle.std.specs.List.{AllByRecursion}
use Rattle.key_lists.{specs.Keys.without, proofs.Parts.every_front}
use Rattle.shift_data.specs.Moves.{IsLawful, canonical}
use Rattle.tick_model.specs.Updates.{between}
use Rattle.tick_table.{specs.Exact.IsExact, specs.Ticking.Ticking}
use Rattle.merge_op.{specs.declared.starts.Start.Start, specs.Merged.merged, specs.Regions.{IsStart, in_regions, room_before, room_now, start_at, starts_of}, proofs.Gathering.{gathered, lawful}, proofs.Going.{IsGathered, added_of, all_agree, all_now_below, gathered_next, gathered_none, gathered_whole, length-regions, small_plus}, proofs.Paired.modified_now, proofs.Sharing.{no_tables, table_at, tables_from}, proofs.Ticked.{keys_before, keys_now, removed_are}}
use Rattle.table_operator.specs.Inputs.{tables}
use Rattle.merge_op.proofs.touching.touched_rows.Goals as goal

pub loop-input-init : goal.loop-input-init
loop-input-init c = rw (c.new-gathered.ensures.removed, c.new-gathered.ensures.added, c.new-gathered.ensures.before, c.new-gathered.ensures.now, c.new-gathered.ensures.shift) (gathered_none (tables c.args.inputs.now) c.requires.tick c.requires.starts)

pub put-requires-clause-exact : goal.put-requires-clause-exact
put-requires-clause-exact c = table_at IsExact c.args.inputs.now c.loop-input.input-index c.input-item.result c.deref.result.now c.requires.exact c.loop-input-test.true c.input-item.is c.deref.ensures

pub put-requires-clause-small_before : goal.put-requires-clause-small_before
put-requires-clause-small_before c =
    let t = c.deref.result.now in
    let rest = tables (drop (c.loop-input.input-index + 1) c.args.inputs.now) in
    let from = c.loop-input.start.before in
    small_plus from (keys_before t)
    (every_front (λ key. key < 2 ^ 62) (map (λ key. key + from) (keys_before t)) (in_regions keys_before room_before (from + room_before t) rest)
    (subst (λ (ts : List Ticking). AllByRecursion (λ key. key < 2 ^ 62) (in_regions keys_before room_before from ts)) (tables_from c.args.inputs.now c.loop-input.input-index c.input-item.result t c.loop-input-test.true c.input-item.is c.deref.ensures) c.loop-input.invariant.small_before))

pub put-requires-clause-small_now : goal.put-requires-clause-small_now
put-requires-clause-small_now c =
    let t = c.deref.result.now in
    let rest = tables (drop (c.loop-input.input-index + 1) c.args.inputs.now) in
    let from = c.loop-input.start.now in
    small_plus from (keys_now t)
    (every_front (λ key. key < 2 ^ 62) (map (λ key. key + from) (keys_now t)) (in_regions keys_now room_now (from + room_now t) rest)
    (subst (λ (ts : List Ticking). AllByRecursion (λ key. key < 2 ^ 62) (in_regions keys_now room_now from ts)) (tables_from c.args.inputs.now c.loop-input.input-index c.input-item.result t c.loop-input-test.true c.input-item.is c.deref.ensures) c.loop-input.invariant.small_now))

pub put-requires-clause-start : goal.put-requires-clause-start
put-requires-clause-start c =
    (subst (λ (ts : List Ticking). AllByRecursion IsStart (starts_of c.loop-input.start.before c.loop-input.start.now ts)) (tables_from c.args.inputs.now c.loop-input.input-index c.input-item.result c.deref.result.now c.loop-input-test.true c.input-item.is c.deref.ensures) c.loop-input.invariant.starts).0

pub loop-input-preserved : goal.loop-input-preserved
loop-input-preserved c =
    let ts = tables c.args.inputs.now in
    let t = c.deref.result.now in
    let rest = tables (drop (c.loop-input.input-index + 1) c.args.inputs.now) in
    let o = c.loop-input.start.before in
    let n = c.loop-input.start.now in
    let so_far = c.loop-input.gathered in
    let new = c.put.new.self in
    let h : IsGathered ts (t ∷ rest) o n so_far.removed so_far.added so_far.before so_far.now so_far.shift =
    subst (λ (rest : List Ticking). IsGathered ts rest o n so_far.removed so_far.added so_far.before so_far.now so_far.shift) (tables_from c.args.inputs.now c.loop-input.input-index c.input-item.result t c.loop-input-test.true c.input-item.is c.deref.ensures) c.loop-input.invariant in
    let behind : c.behind-start.result ≡ start_at (o + room_before t) (n + room_now t) =
    c.behind-start.ensures ∙ ap (λ (t : Ticking). start_at (o + room_before t) (n + room_now t)) (c.deref-in-loop-input.ensures ∙ sym c.deref.ensures) in
    subst (λ (start : Start). IsGathered ts rest start.before start.now new.removed new.added new.before new.now new.shift) (sym behind)
    (gathered_next ts rest t o n so_far.removed so_far.added so_far.before so_far.now new.removed new.added new.before new.now so_far.shift new.shift
    (table_at IsExact c.args.inputs.now c.loop-input.input-index c.input-item.result t c.requires.exact c.loop-input-test.true c.input-item.is c.deref.ensures)
    h c.in_ok-put.ensures.removed c.in_ok-put.ensures.added c.in_ok-put.ensures.before c.in_ok-put.ensures.now c.in_ok-put.ensures.shift c.in_ok-put.ensures.earlier c.in_ok-put.ensures.moved)

pub canonical_without-requires : goal.canonical_without-requires
canonical_without-requires c =
    let ts = tables c.args.inputs.now in
    let so_far = c.loop-input.gathered in
    let h : IsGathered ts [] c.loop-input.start.before c.loop-input.start.now so_far.removed so_far.added so_far.before so_far.now so_far.shift =
    subst (λ (rest : List Ticking). IsGathered ts rest c.loop-input.start.before c.loop-input.start.now so_far.removed so_far.added so_far.before so_far.now so_far.shift) (no_tables c.args.inputs.now c.loop-input.input-index c.loop-input-test.false) c.loop-input.invariant in
    subst (λ ks. IsLawful so_far.shift (without ks c.args.shown.now)) (sym (gathered_whole so_far.removed _ h.removed_is ∙ removed_are ts c.requires.exact))
    (subst (λ ks. IsLawful so_far.shift (without (between (merged ts)).removed ks)) (sym c.requires.shown)
    (lawful ts c.requires.exact c.requires.tick (all_now_below ts c.requires.exact) so_far.shift (all_agree ts _ _ _ _ _ _ so_far.shift c.requires.exact c.requires.tick h)))

pub returns-clause-parts : goal.returns-clause-parts
returns-clause-parts c =
    let ts = tables c.args.inputs.now in
    let so_far = c.loop-input.gathered in
    let h : IsGathered ts [] c.loop-input.start.before c.loop-input.start.now so_far.removed so_far.added so_far.before so_far.now so_far.shift =
    subst (λ (rest : List Ticking). IsGathered ts rest c.loop-input.start.before c.loop-input.start.now so_far.removed so_far.added so_far.before so_far.now so_far.shift) (no_tables c.args.inputs.now c.loop-input.input-index c.loop-input-test.false) c.loop-input.invariant in
    gathered ts c.requires.exact c.requires.tick (all_now_below ts c.requires.exact) so_far.shift (all_agree ts _ _ _ _ _ _ so_far.shift c.requires.exact c.requires.tick h) _
    (gathered_whole so_far.removed _ h.removed_is) (gathered_whole so_far.added _ h.added_is)
    (c.in_ok-shifted.ensures ∙ ap (λ ks. canonical so_far.shift (without so_far.removed ks)) c.requires.shown)
    (gathered_whole so_far.before _ h.before_is) (gathered_whole so_far.now _ h.now_is)

pub returns-clause-added : goal.returns-clause-added
returns-clause-added c =
    let ts = tables c.args.inputs.now in
    let so_far = c.loop-input.gathered in
    let h : IsGathered ts [] c.loop-input.start.before c.loop-input.start.now so_far.removed so_far.added so_far.before so_far.now so_far.shift =
    subst (λ (rest : List Ticking). IsGathered ts rest c.loop-input.start.before c.loop-input.start.now so_far.removed so_far.added so_far.before so_far.now so_far.shift) (no_tables c.args.inputs.now c.loop-input.input-index c.loop-input-test.false) c.loop-input.invariant in
    ap length (gathered_whole so_far.added _ h.added_is) ∙ length-regions added_of room_now 0 ts

pub returns-clause-modified : goal.returns-clause-modified
returns-clause-modified c =
    let ts = tables c.args.inputs.now in
    let so_far = c.loop-input.gathered in
    let h : IsGathered ts [] c.loop-input.start.before c.loop-input.start.now so_far.removed so_far.added so_far.before so_far.now so_far.shift =
    subst (λ (rest : List Ticking). IsGathered ts rest c.loop-input.start.before c.loop-input.start.now so_far.removed so_far.added so_far.before so_far.now so_far.shift) (no_tables c.args.inputs.now c.loop-input.input-index c.loop-input-test.false) c.loop-input.invariant in
    ap length (gathered_whole so_far.now _ h.now_is) ∙ length-regions modified_now room_now 0 ts
