use Rattle.std.proofs.Common.{◌≡◌, ◌≤◌, true, false, subst, take, drop, length, arith, ap, sym, ◌∙◌, add-one, ◌+◌, ◌-◌, Bor, IsSome}
use Rattle.std.{specs.List.AllByRecursion, specs.Prelude.option_copied}
use Rattle.chunk_list.specs.Chunked.{joined, list_at}
use Rattle.row_handles.specs.Entries.{key_with}
use Rattle.row_groups.{specs.declared.place.GroupRow.GroupRow, specs.Slots.{is_before, IsParted}, proofs.Ends.failed_all, proofs.Parts.{before_in, known_at, others_in, parted_in, row_known}}
use Rattle.row_groups.proofs.search.spot_before.Goals as goal
use Rattle.row_groups.proofs.search.spot_before.Goals.{then-next-count, else-next-count}

pub returns-then-not-is_after-clause-others : goal.returns-then-not-is_after-clause-others
returns-then-not-is_after-clause-others c =
    let test = is_before c.args.place.now.handles.now c.args.place.now.table.now c.args.place.now.at c.args.place.now.key in
    failed_all test (joined c.args.chunks.now) c.in-Some.first.now (sym c.first.ensures ∙ ap option_copied c.in-Some.is) c.requires.parted (sym c.is_after.ensures ∙ c.if-not-is_after.true)

fits : (c : goal.After-rows_before) → c.rows_before.result ≤ length (list_at c.chunk_before-index.result c.args.chunks.now)
fits c = omega (arith, c.rows_before.ensures.within, ap length c.chunk-rows.ensures.items)

pub rows_before-requires-clause-upper : goal.rows_before-requires-clause-upper
rows_before-requires-clause-upper c =
    let handles = c.args.place.now.handles.now in
    let chunks = c.args.chunks.now in
    let index = c.chunk_before-index.result in
    let rows = c.chunk-rows.result.now in
    let Known = λ (row : Bor GroupRow). IsSome (key_with row.now.handle handles) in
    elim c.if-next-count.branch [
      | then-next-count w ↦ subst Known (sym w.upper-is) (row_known handles chunks (index + 1) 0 w.chunk.result.now _ (omega (arith, w.if-next-count.true, c.len-count.ensures)) w.chunk.ensures.some c.requires.known w.chunk.ensures.items)
      | else-next-count w ↦ subst Known (sym w.upper-is) (row_known handles chunks index (length rows - 1) rows _ c.chunk_before-index.ensures.within (omega (arith, c.chunk-rows.ensures.some)) c.requires.known c.chunk-rows.ensures.items)
    ]

pub rows_before-requires-clause-known : goal.rows_before-requires-clause-known
rows_before-requires-clause-known c =
    known_at c.args.place.now.handles.now c.args.chunks.now c.chunk_before-index.result c.chunk-rows.result.now c.chunk_before-index.ensures.within c.requires.known c.chunk-rows.ensures.items

pub rows_before-requires-clause-parted : goal.rows_before-requires-clause-parted
rows_before-requires-clause-parted c =
    let test = is_before c.args.place.now.handles.now c.args.place.now.table.now c.args.place.now.at c.args.place.now.key in
    subst (IsParted test) (sym c.chunk-rows.ensures.items) (parted_in test c.args.chunks.now c.chunk_before-index.result c.chunk_before-index.ensures.within c.requires.parted)

pub returns-clause-within : goal.returns-clause-within
returns-clause-within c = omega (arith, c.chunk_before-index.ensures.within)

pub returns-clause-index : goal.returns-clause-index
returns-clause-index c = λ some. c.chunk_before-index.ensures.within

pub returns-clause-offset : goal.returns-clause-offset
returns-clause-offset c = fits c

pub returns-clause-before : goal.returns-clause-before
returns-clause-before c =
    let test = is_before c.args.place.now.handles.now c.args.place.now.table.now c.args.place.now.at c.args.place.now.key in
    before_in (λ slot. test slot ≡ true) c.args.chunks.now (record { index = c.chunk_before-index.result; offset = c.rows_before.result }) c.chunk_before-index.ensures.within (fits c)
    c.chunk_before-index.ensures.before
    (subst (λ rows. AllByRecursion (λ slot. test slot ≡ true) (take c.rows_before.result rows)) c.chunk-rows.ensures.items c.rows_before.ensures.before)

pub returns-clause-others : goal.returns-clause-others
returns-clause-others c =
    let test = is_before c.args.place.now.handles.now c.args.place.now.table.now c.args.place.now.at c.args.place.now.key in
    others_in (λ slot. test slot ≡ false) c.args.chunks.now (record { index = c.chunk_before-index.result; offset = c.rows_before.result }) c.chunk_before-index.ensures.within (fits c)
    (subst (λ rows. AllByRecursion (λ slot. test slot ≡ false) (drop c.rows_before.result rows)) c.chunk-rows.ensures.items c.rows_before.ensures.others)
    (subst (λ n. AllByRecursion (λ slot. test slot ≡ false) (joined (drop n c.args.chunks.now))) (add-one c.chunk_before-index.result) c.chunk_before-index.ensures.others)
