use Rattle.std.proofs.Common.{◌≡◌, ◌++◌, ◌∷◌, [], ◌∙◌, ◌<◌, ◌≤◌, ap, sym, true, false, ℕ, List, Ok, map, length, not, refl, arith, to_z-of_z, w64}
use Rattle.std.{specs.Prelude.unwrap_or, proofs.lemmas.Result.err_from_is_err_and}
use Rattle.tick_model.{specs.declared.plan.Published.Published, specs.Plans.published_words}
use Rattle.script_reader.{specs.declared.script.Script.Script, specs.Checks.{published, is_among, is_no_limit, rows_of, publication_of, table_at, tables_of}, specs.SoFar.so_far, proofs.Plainly.tables_plain, proofs.Saying.{named_plain, unnamed_plain, no_rows, too_wide, one_more_published}}
use Rattle.script_reader.proofs.known.Known.publish.Goals as goal

pub returns-in_err-node : goal.returns-in_err-node
returns-in_err-node c =
    let p = err_from_is_err_and c.from_residual.result c.from_residual.ensures.1 in
    rw (p.1, p.2) (unnamed_plain c.args.self.nodes.nodes.items c.args.name.now (λ node. published (so_far c.args.self) node c.args.rows) c.in_err-node.field-0.0 c.in_err-node.ensures)

pub returns-then-is_published : goal.returns-then-is_published
returns-then-is_published c =
    let start = so_far c.args.self in
    let among : is_among c.in_ok-node.node (map (λ (publication : Published). publication.node) c.args.self.published) ≡ true =
    ap (λ all. is_among c.in_ok-node.node (map (λ (publication : Published). publication.node) all)) (sym c.as_slice.ensures) ∙ sym c.is_published.ensures ∙ c.if-is_published.true in
    named_plain c.args.self.nodes.nodes.items c.args.name.now (λ node. published start node c.args.rows) c.in_ok-node.node c.in_ok-node.ensures ∙ (rw among refl)

pub returns-in-None : goal.returns-in-None
returns-in-None c =
    let start = so_far c.args.self in
    let new : is_among c.in_ok-node.node (map (λ (publication : Published). publication.node) c.args.self.published) ≡ false =
    ap (λ all. is_among c.in_ok-node.node (map (λ (publication : Published). publication.node) all)) (sym c.as_slice.ensures) ∙ sym c.is_published.ensures ∙ c.if-is_published.false in
    named_plain c.args.self.nodes.nodes.items c.args.name.now (λ node. published start node c.args.rows) c.in_ok-node.node c.in_ok-node.ensures
    ∙ no_rows start c.in_ok-node.node c.args.rows new (c.in-None.ensures.limited ∙ ap (λ n. not (is_no_limit (rows_of n))) (to_z-of_z {w = w64} {z = c.args.rows} c.ranges.rows))

pub returns-then-published_words-gt-MOST_WORDS : goal.returns-then-published_words-gt-MOST_WORDS
returns-then-published_words-gt-MOST_WORDS c =
    let start = so_far c.args.self in
    let node = c.in_ok-node.node in
    let new : is_among node (map (λ (publication : Published). publication.node) c.args.self.published) ≡ false =
    ap (λ all. is_among node (map (λ (publication : Published). publication.node) all)) (sym c.as_slice.ensures) ∙ sym c.is_published.ensures ∙ c.if-is_published.false in
    let of : ℕ → ℕ → Published = λ width limit. record { node = node; width = width; limit = limit } in
    let width : c.in_ok-width.width ≡ length (table_at (tables_of start.plan.nodes) node) =
    c.in_ok-width.ensures.ok ∙ ap length c.columns.ensures ∙ ap (λ tables. length (table_at tables node)) (sym (tables_plain c.args.self.nodes.nodes.items)) in
    let more : c.push.new.self ≡ c.args.self.published ++ publication_of start node c.args.rows ∷ [] =
    c.in_ok-push.ensures.ok ∙ ap (λ width. c.args.self.published ++ of width c.in-Some.limit ∷ []) width
    ∙ ap (λ limit. c.args.self.published ++ of (length (table_at (tables_of start.plan.nodes) node)) limit ∷ []) (c.in-Some.ensures.value ∙ ap (λ n. unwrap_or (rows_of n) 0) (to_z-of_z {w = w64} {z = c.args.rows} c.ranges.rows)) in
    let wide : 1048576 < published_words c.push.new.self = omega (arith, c.published_words.ensures, c.if-published_words-gt-MOST_WORDS.true) in
    named_plain c.args.self.nodes.nodes.items c.args.name.now (λ node. published start node c.args.rows) node c.in_ok-node.ensures
    ∙ too_wide start node c.args.rows c.in-Some.limit c.push.new.self new (c.in-Some.ensures.limited ∙ ap (λ n. not (is_no_limit (rows_of n))) (to_z-of_z {w = w64} {z = c.args.rows} c.ranges.rows)) more wide

pub returns : goal.returns
returns c =
    let start = so_far c.args.self in
    let node = c.in_ok-node.node in
    let new : is_among node (map (λ (publication : Published). publication.node) c.args.self.published) ≡ false =
    ap (λ all. is_among node (map (λ (publication : Published). publication.node) all)) (sym c.as_slice.ensures) ∙ sym c.is_published.ensures ∙ c.if-is_published.false in
    let of : ℕ → ℕ → Published = λ width limit. record { node = node; width = width; limit = limit } in
    let width : c.in_ok-width.width ≡ length (table_at (tables_of start.plan.nodes) node) =
    c.in_ok-width.ensures.ok ∙ ap length c.columns.ensures ∙ ap (λ tables. length (table_at tables node)) (sym (tables_plain c.args.self.nodes.nodes.items)) in
    let more : c.push.new.self ≡ c.args.self.published ++ publication_of start node c.args.rows ∷ [] =
    c.in_ok-push.ensures.ok ∙ ap (λ width. c.args.self.published ++ of width c.in-Some.limit ∷ []) width
    ∙ ap (λ limit. c.args.self.published ++ of (length (table_at (tables_of start.plan.nodes) node)) limit ∷ []) (c.in-Some.ensures.value ∙ ap (λ n. unwrap_or (rows_of n) 0) (to_z-of_z {w = w64} {z = c.args.rows} c.ranges.rows)) in
    let narrow : published_words c.push.new.self ≤ 1048576 = omega (arith, c.published_words.ensures, c.if-published_words-gt-MOST_WORDS.false) in
    let whole : List Published → Script =
    λ all. record { plan = record { nodes = start.plan.nodes; printed = start.plan.printed; published = all }; literals = start.literals; files = start.files } in
    named_plain c.args.self.nodes.nodes.items c.args.name.now (λ node. published start node c.args.rows) node c.in_ok-node.ensures
    ∙ one_more_published start node c.args.rows c.in-Some.limit c.push.new.self new (c.in-Some.ensures.limited ∙ ap (λ n. not (is_no_limit (rows_of n))) (to_z-of_z {w = w64} {z = c.args.rows} c.ranges.rows)) more narrow
    ∙ ap (λ all. Ok (whole all)) (sym more)
