-- What lines that name nodes say, over nodes whose formulas lie somewhere.
use Rattle.std.proofs.Common.{◌≡◌, refl, ap, sym, ◌∙◌, subst, Bool, true, false, not, ℕ, ◌<◌, ◌≤◌, List, [], ◌∷◌, ◌++◌, map, Some, None, is_some, Result, Ok, Err}
use Rattle.std.{specs.Prelude.{ℤ, nat_lt}, proofs.lemmas.Bool.{lt-ltb, le-ltb}, proofs.lemmas.List.append-nil}
use Rattle.tick_model.{specs.declared.plan.Node.Node, specs.declared.plan.Published.Published, specs.Plans.published_words}
use Rattle.script_lines.{specs.declared.fault.LineFault.LineFault, specs.declared.fault.ScriptKind.ScriptKind, specs.declared.fault.ScriptKind.TheVariants.{NumberRange, TooWide}, specs.Answers.{◌>>=◌, Fails}}
use Rattle.script_reader.{specs.declared.script.Script.Script, specs.declared.script.SourceFile.SourceFile, specs.Checks.{Before, Draft, node_named, names_of, tables_of, broken, or_broken, placed, is_among, is_no_limit, rows_of, publication_of, published, with_published}, specs.Drafts.before, specs.Plain.plain_node, proofs.Each.fails_on, proofs.Plainly.{names_plain, tables_plain}}

-- what stands before a node, without where formulas lie
pub before_plain : (nodes : List Node) (literals : List (List ℕ)) → before (map plain_node nodes) literals ≡ before nodes literals
before_plain nodes literals =
    ap (λ (names : List (List ℕ)). let b : Before = record { names = names; tables = tables_of (map plain_node nodes); literals = literals } in b) (names_plain nodes)
    ∙ ap (λ tables. let b : Before = record { names = names_of nodes; tables = tables; literals = literals } in b) (tables_plain nodes)

module _ {X : Type 0} (nodes : List Node) (name : List ℕ) (f : ℕ → Result X ScriptKind) where
  pub named_plain : (node : ℕ) → node_named (names_of nodes) name ≡ Ok node → node_named (names_of (map plain_node nodes)) name >>= f ≡ f node
  named_plain node h = ap (λ names. node_named names name >>= f) (names_plain nodes) ∙ ap (λ r. r >>= f) h

  pub unnamed_plain : (fault : LineFault) → Fails fault (node_named (names_of nodes) name) → Fails fault (node_named (names_of (map plain_node nodes)) name >>= f)
  unnamed_plain fault h =
      subst (λ names. Fails fault (node_named names name >>= f)) (sym (names_plain nodes)) (fails_on fault (node_named (names_of nodes) name) f h)

-- the file of a source is put down before its node or with it
pub placed_with_file : (script : Script) (name : List ℕ) (draft : Draft) (file : SourceFile)
    → placed (record { plan = script.plan; literals = script.literals; files = script.files ++ file ∷ [] }) name draft [] ≡ placed script name draft (file ∷ [])
placed_with_file script name draft file =
    ap (λ files. or_broken (broken script.plan.nodes name draft) (let s : Script = record {
      plan = record { nodes = script.plan.nodes ++ record { name = name; columns = draft.columns; op = draft.op } ∷ []; printed = script.plan.printed; published = script.plan.published };
      literals = draft.literals;
      files = files;
    } in s)) (append-nil (script.files ++ file ∷ []))

-- what publishing comes to
module _ (script : Script) (node : ℕ) (rows : ℤ) where
  abbrev among : Bool
  among = is_among node (map (λ (publication : Published). publication.node) script.plan.published)

  abbrev more : List Published
  more = script.plan.published ++ publication_of script node rows ∷ []

  pub no_rows : among ≡ false → is_some {T = ℕ} None ≡ not (is_no_limit (rows_of rows)) → published script node rows ≡ Err NumberRange
  no_rows new none = rw (new, denied (is_no_limit (rows_of rows)) none) refl
    where
      denied : (b : Bool) → false ≡ not b → b ≡ true
      denied true h = refl
      denied false h = h

  some_rows : (limit : ℕ) → is_some (Some limit) ≡ not (is_no_limit (rows_of rows)) → is_no_limit (rows_of rows) ≡ false
  some_rows limit h = allowed (is_no_limit (rows_of rows)) h
    where
      allowed : (b : Bool) → true ≡ not b → b ≡ false
      allowed true h = h
      allowed false h = refl

  pub too_wide : (limit : ℕ) (all : List Published) → among ≡ false → is_some (Some limit) ≡ not (is_no_limit (rows_of rows)) → all ≡ more → 1048576 < published_words all → published script node rows ≡ Err TooWide
  too_wide limit all new some same wide =
      let past : nat_lt 1048576 (published_words more) ≡ true = ap (λ all. nat_lt 1048576 (published_words all)) (sym same) ∙ lt-ltb 1048576 (published_words all) wide in
      rw (new, some_rows limit some, past) refl

  pub one_more_published : (limit : ℕ) (all : List Published) → among ≡ false → is_some (Some limit) ≡ not (is_no_limit (rows_of rows)) → all ≡ more → published_words all ≤ 1048576
      → published script node rows ≡ Ok (with_published script (publication_of script node rows))
  one_more_published limit all new some same narrow =
      let within : nat_lt 1048576 (published_words more) ≡ false = ap (λ all. nat_lt 1048576 (published_words all)) (sym same) ∙ le-ltb 1048576 (published_words all) narrow in
      rw (new, some_rows limit some, within) refl
