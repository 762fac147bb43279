-- A node that is placed behind the others.
use Rattle.std.proofs.Common.{◌≡◌, refl, ap, sym, ◌∙◌, subst, Bool, true, false, not, cond, ℕ, ◌^◌, ◌<◌, arith, List, [], ◌∷◌, ◌++◌, map, length, Option, Some, None, Ok, Err}
use Rattle.std.{specs.Prelude.{nat_le, nat_lt, slice_index}, specs.List.list_any, specs.Str.bytes_eq, proofs.lemmas.Bool.leb-false, proofs.lemmas.List.{length-map, map_push}, proofs.lemmas.List.Sums.fold-append}
use Rattle.tick_model.{specs.declared.plan.ColumnSpec.ColumnSpec, specs.declared.plan.Node.Node, specs.Names.{is_one_of, are_distinct}, specs.Plans.{with_bound, key_bounds}, specs.Operators.bound_of}
use Rattle.script_lines.{specs.declared.fault.LineFault.LineFault, specs.declared.fault.ScriptKind.ScriptKind, specs.declared.fault.ScriptKind.TheVariants.{TakenName, TakenColumn, WrongKind, NumberRange, TooManyNodes, TooManyColumns, KeySpace}, specs.Answers.Fails}
use Rattle.script_lines.specs.declared.fault.LineFault.TheVariants as faults
use Rattle.script_reader.{specs.declared.drafts.Draft.Draft as Made, specs.Checks.{Draft, broken, or_broken, names_of, with_text}, specs.Drafts.shown, specs.Plain.{plain_node, plain_op}, proofs.Plainly.{names_plain, key_bounds_plain, bound_plain}}

-- the rules in their order
abbrev pub first_of : (taken distinct kinds_fit rows_fit many_columns many_nodes no_room : Bool) → Option ScriptKind
first_of taken distinct kinds_fit rows_fit many_columns many_nodes no_room =
    cond taken (Some TakenName)
    (cond (not distinct) (Some TakenColumn)
    (cond (not kinds_fit) (Some WrongKind)
    (cond (not rows_fit) (Some NumberRange)
    (cond many_columns (Some TooManyColumns)
    (cond many_nodes (Some TooManyNodes)
    (cond no_room (Some KeySpace) None))))))

none_of : (a b c d e f g : Bool) → first_of a b c d e f g ≡ None → (a ≡ false) × (g ≡ false)
none_of true b c d e f g h = absurd (cc)
none_of false false c d e f g h = absurd (cc)
none_of false true false d e f g h = absurd (cc)
none_of false true true false e f g h = absurd (cc)
none_of false true true true true f g h = absurd (cc)
none_of false true true true false true g h = absurd (cc)
none_of false true true true false false true h = absurd (cc)
none_of false true true true false false false h = (refl, refl)

-- a node that breaks no rule has a new name and room for its keys
pub fitting : (nodes : List Node) (name : List ℕ) (draft : Draft) → broken nodes name draft ≡ None
    → (is_one_of (names_of nodes) name ≡ false) × (bound_of draft.op (slice_index (key_bounds nodes)) < 2 ^ 62)
fitting nodes name draft h =
    let parts = none_of (is_one_of (names_of nodes) name) (are_distinct (map (λ (column : ColumnSpec). column.name) draft.columns)) draft.kinds_fit draft.rows_fit (nat_lt 32 (length draft.columns)) (nat_le 256 (length nodes))
    (nat_le (2 ^ 62) (bound_of draft.op (slice_index (key_bounds nodes)))) h in
    (parts.0, leb-false (2 ^ 62) (bound_of draft.op (slice_index (key_bounds nodes))) parts.1)

-- the rules do not see where formulas lie, nor which texts there are
pub broken_plain : (nodes : List Node) (name : List ℕ) (literals : List (List ℕ)) (made : Made) → broken (map plain_node nodes) name (shown literals made) ≡ broken nodes name (shown [] made)
broken_plain nodes name literals made =
    let room : List (List ℕ) → ℕ → List ℕ → Option ScriptKind = λ names count bounds. first_of (is_one_of names name) (are_distinct (map (λ (column : ColumnSpec). column.name) made.columns)) made.kinds_fit made.rows_fit (nat_lt 32 (length made.columns)) (nat_le 256 count)
    (nat_le (2 ^ 62) (bound_of (plain_op made.op) (slice_index bounds))) in
    ap (λ names. room names (length (map plain_node nodes)) (key_bounds (map plain_node nodes))) (names_plain nodes)
    ∙ ap (λ count. room (names_of nodes) count (key_bounds (map plain_node nodes))) (length-map nodes plain_node)
    ∙ ap (room (names_of nodes) (length nodes)) (key_bounds_plain nodes)

fails_alike : {X Y : Type 0} (fault : LineFault) (rule : Option ScriptKind) (x : X) (y : Y) → Fails fault (or_broken rule x) → Fails fault (or_broken rule y)
fails_alike faults.Memory rule x y h = tt
fails_alike (faults.Refused kind) None x y h = absurd (cc)
fails_alike (faults.Refused kind) (Some other) x y h = let same : other ≡ kind = cc in ap Err same

ok_alike : {X : Type 0} (rule : Option ScriptKind) (x z : X) → or_broken rule x ≡ Ok z → (rule ≡ None) × (z ≡ x)
ok_alike None x z h = (refl, cc)
ok_alike (Some kind) x z h = absurd (cc)

module _ (nodes : List Node) (name : List ℕ) (made : Made) where
  abbrev rule : Option ScriptKind
  rule = broken nodes name (shown [] made)

  abbrev node : Node
  node = record { name = name; columns = made.columns; op = made.op }

  pub placing_fails : {Y : Type 0} (fault : LineFault) (literals : List (List ℕ)) (y : Y) → Fails fault (or_broken rule (nodes ++ node ∷ [])) → Fails fault (or_broken (broken (map plain_node nodes) name (shown literals made)) y)
  placing_fails fault literals y h =
      subst (λ rule. Fails fault (or_broken rule y)) (sym (broken_plain nodes name literals made)) (fails_alike fault rule (nodes ++ node ∷ []) y h)

  pub placing_gives : {Y : Type 0} (more : List Node) (literals : List (List ℕ)) (y : List Node → Y) → or_broken rule (nodes ++ node ∷ []) ≡ Ok more
      → or_broken (broken (map plain_node nodes) name (shown literals made)) (y (map plain_node nodes ++ plain_node node ∷ [])) ≡ Ok (y (map plain_node more))
  placing_gives more literals y h =
      let parts = ok_alike rule (nodes ++ node ∷ []) more h in
      ap (λ rule. or_broken rule (y (map plain_node nodes ++ plain_node node ∷ []))) (broken_plain nodes name literals made ∙ parts.0)
      ∙ ap (λ nodes. Ok (y nodes)) (sym (map_push plain_node nodes node) ∙ ap (map plain_node) (sym parts.1))

-- the names, the bounds and the room for keys of one node more
module _ (nodes : List Node) (name : List ℕ) (made : Made) (fits : broken nodes name (shown [] made) ≡ None) where
  pub room_for : (bounds : List ℕ) (bound : ℕ) → bounds ≡ key_bounds nodes → bound ≡ bound_of made.op (slice_index bounds) → bound < 2 ^ 62
  room_for bounds bound known own =
      let same : bound ≡ bound_of (plain_op made.op) (slice_index (key_bounds nodes)) = own ∙ sym (bound_plain made.op (slice_index bounds)) ∙ ap (λ bounds. bound_of (plain_op made.op) (slice_index bounds)) known in
      omega (arith, same, (fitting nodes name (shown [] made) fits).1)

  pub named_more : (names : List (List ℕ)) → names ≡ names_of nodes → with_text names name ≡ names_of (nodes ++ record { name = name; columns = made.columns; op = made.op } ∷ [])
  named_more names known =
      let new : list_any (bytes_eq name) names ≡ false = ap (list_any (bytes_eq name)) known ∙ (fitting nodes name (shown [] made) fits).0 in
      ap (λ b. cond b names (names ++ name ∷ [])) new ∙ ap (λ names. names ++ name ∷ []) known
      ∙ sym (map_push (λ (node : Node). node.name) nodes (record { name = name; columns = made.columns; op = made.op }))

pub bounded_more : (nodes : List Node) (node : Node) (bounds : List ℕ) (bound : ℕ) → bounds ≡ key_bounds nodes → bound ≡ bound_of node.op (slice_index bounds) → bounds ++ bound ∷ [] ≡ key_bounds (nodes ++ node ∷ [])
bounded_more nodes node bounds bound known own =
    ap (λ bound. bounds ++ bound ∷ []) own ∙ ap (λ bounds. with_bound bounds node) known ∙ sym (fold-append with_bound [] nodes (node ∷ []))
