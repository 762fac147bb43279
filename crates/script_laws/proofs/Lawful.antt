-- A script so far keeps the rules of plans, with ranks in the place of its literals, and each line keeps it so.
use Rattle.std.proofs.Common.{◌≡◌, refl, ap, sym, ◌∙◌, subst, Bool, true, false, ◌&&◌, ℕ, zero, suc, ◌+◌, ◌<◌, ◌≤◌, ◌^◌, arith, List, [], ◌∷◌, ◌++◌, map, length, length-append, Some, None, Ok, Err}
use Rattle.std.{specs.Prelude.{ℤ, pos, negsuc, nat_lt, nat_le, slice_index, nat_eq, unwrap_or}, specs.List.{AllByRecursion, list_all, enumerate_from}, proofs.lemmas.Bool.{cond_both, and_from, lt-ltb, le-leb, ltb-false, leb-true, eqb-false, eq-eqb, true≢false}, proofs.lemmas.List.{length-map, map_push, get_or_append_left}, proofs.lemmas.List.Folds.list_all-append, proofs.lemmas.List.Sums.fold-append}
use Rattle.key_lists.proofs.Every.{every_weaker, every-append, pass_all}
use Rattle.tick_model.{specs.declared.plan.ColumnSpec.ColumnSpec, specs.declared.plan.Node.Node, specs.declared.plan.Published.Published, specs.Operators.{inputs_of, bound_of, columns_fit}, specs.Names.{is_name, are_distinct}, specs.Plans.{with_bound, key_bounds, columns_at, node_lawful, published_words, publication_lawful, rises, number_distinct, is_lawful}, proofs.Results.columns_fit_same}
use Rattle.script_lines.{specs.declared.fault.ScriptKind.TheVariants.{TakenName, NumberRange, TooWide}, specs.declared.line.Line.Line, specs.Grammar.KeepsRules, specs.Kept.IsNamed}
use Rattle.script_lines.specs.declared.line.Line.TheVariants as lines
use Rattle.script_reader.{specs.declared.script.Script.Script, specs.declared.script.SourceFile.SourceFile, specs.Binding.{bound, ranks_of, bound_op, bound_node}, specs.Checks.{before_of, source_draft, broken, placed, printed, published, is_among, is_no_limit, publication_of, with_node, with_printed, with_published, said, Draft, names_of, tables_of, table_at, rows_of, node_named}, specs.Scripts.{nothing, script_of}}
use Rattle.script_laws.{proofs.Reading.{Holds, done, then, node_found, script_read}, proofs.Unbroken.{IsUnbroken, unbroken, where_unbroken}, proofs.Bound.{inputs_bound, key_bounds_bound, names_bound, tables_bound}, proofs.Columns.{IsTable, one_or_more}, proofs.Drafts.{IsSound, draft_sound, source_sound}, proofs.Written.{IsWrittenScript, nothing_written, one_written}, proofs.Ordered.{are_distinct-push, number_distinct-push, rises-in_order, every-in_order}}

-- a node with a number among nodes with columns
pub record IsNode (ranks : List ℕ) (tables : List (List ColumnSpec)) (number : ℕ) (node : Node) : Type 0 where
  pub inputs : AllByRecursion (λ input. input < number) (inputs_of node.op)
  pub name : is_name node.name ≡ true
  pub table : IsTable node.columns
  pub apart : are_distinct (map (λ column. column.name) node.columns) ≡ true
  pub narrow : length node.columns ≤ 32
  pub fits : columns_fit (bound_op ranks node.op) (table_at tables) node.columns ≡ true

abbrev pub AreNodes : List ℕ → List (List ColumnSpec) → ℕ → List Node → Type 0
AreNodes ranks tables number [] = Unit {0}
AreNodes ranks tables number (node ∷ nodes) = IsNode ranks tables number node × AreNodes ranks tables (number + 1) nodes

pub record IsPublication (tables : List (List ColumnSpec)) (publication : Published) : Type 0 where
  pub node : publication.node < length tables
  pub width : publication.width ≡ length (table_at tables publication.node)
  pub least : 1 ≤ publication.limit
  pub most : publication.limit ≤ 4194304

abbrev bounds_fit : List ℕ → Bool
bounds_fit = list_all (λ bound. nat_lt bound (2 ^ 62))

abbrev published_nodes : List Published → List ℕ
published_nodes = map (λ publication. publication.node)

pub record IsLawfulSoFar (ranks : List ℕ) (script : Script) : Type 0 where
  pub few : length script.plan.nodes ≤ 256
  pub apart : are_distinct (names_of script.plan.nodes) ≡ true
  pub nodes : AreNodes ranks (tables_of script.plan.nodes) 0 script.plan.nodes
  pub room : bounds_fit (key_bounds script.plan.nodes) ≡ true
  pub rising : rises script.plan.printed ≡ true
  pub printed : AllByRecursion (λ node. node < length script.plan.nodes) script.plan.printed
  pub published_apart : number_distinct (published_nodes script.plan.published) ≡ true
  pub publications : AllByRecursion (IsPublication (tables_of script.plan.nodes)) script.plan.published
  pub words : published_words script.plan.published ≤ 1048576
  pub written : IsWrittenScript script

-- nodes keep their rules when one comes behind them
module _ (ranks : List ℕ) where
  node-grown : (tables more : List (List ColumnSpec)) (number : ℕ) (node : Node) → number ≤ length tables → IsNode ranks tables number node → IsNode ranks (tables ++ more) number node
  node-grown tables more number node low is = record {
    inputs = is.inputs;
    name = is.name;
    table = is.table;
    apart = is.apart;
    narrow = is.narrow;
    fits = columns_fit_same (bound_op ranks node.op) (table_at (tables ++ more)) (table_at tables) node.columns
        (subst (AllByRecursion (λ input. table_at (tables ++ more) input ≡ table_at tables input)) (sym (inputs_bound ranks node.op))
        (every_weaker (λ input. input < number) (λ input. table_at (tables ++ more) input ≡ table_at tables input) (inputs_of node.op) (λ input less. get_or_append_left tables more [] input (omega (arith, less, low))) is.inputs))
        ∙ is.fits;
  }

  nodes-grown : (tables more : List (List ColumnSpec)) (number : ℕ) (nodes : List Node) → number + length nodes ≤ length tables → AreNodes ranks tables number nodes → AreNodes ranks (tables ++ more) number nodes
  nodes-grown tables more number [] low are = tt
  nodes-grown tables more number (node ∷ nodes) low are =
      (node-grown tables more number node (omega (arith, low)) are.0, nodes-grown tables more (number + 1) nodes (omega (arith, low)) are.1)

  nodes-push : (tables : List (List ColumnSpec)) (number : ℕ) (nodes : List Node) (node : Node) → AreNodes ranks tables number nodes → IsNode ranks tables (number + length nodes) node → AreNodes ranks tables number (nodes ++ node ∷ [])
  nodes-push tables number [] node are is = let none : number + 0 ≡ number = omega arith in (subst (λ n. IsNode ranks tables n node) none is, tt)
  nodes-push tables number (first ∷ nodes) node are is =
      let next : number + length (first ∷ nodes) ≡ number + 1 + length nodes = omega arith in
      (are.0, nodes-push tables (number + 1) nodes node are.1 (subst (λ n. IsNode ranks tables n node) next is))

  all_tables : (tables : List (List ColumnSpec)) (number : ℕ) (nodes : List Node) → AreNodes ranks tables number nodes → AllByRecursion IsTable (tables_of nodes)
  all_tables tables number [] are = tt
  all_tables tables number (node ∷ nodes) are = (are.0.table, all_tables tables (number + 1) nodes are.1)

  -- one node more
  bounds-push : (nodes : List Node) (node : Node) → bounds_fit (key_bounds nodes) ≡ true → bound_of node.op (slice_index (key_bounds nodes)) < 2 ^ 62 → bounds_fit (key_bounds (nodes ++ node ∷ [])) ≡ true
  bounds-push nodes node fit room =
      let last : ℕ = bound_of node.op (slice_index (key_bounds nodes)) in
      ap bounds_fit (fold-append with_bound [] nodes (node ∷ [])) ∙ list_all-append (λ bound. nat_lt bound (2 ^ 62)) (key_bounds nodes) (last ∷ [])
      ∙ and_from (bounds_fit (key_bounds nodes)) (bounds_fit (last ∷ [])) fit (and_from (nat_lt last (2 ^ 62)) true (lt-ltb last (2 ^ 62) room) refl)

  publication-grown : (tables more : List (List ColumnSpec)) (publication : Published) → IsPublication tables publication → IsPublication (tables ++ more) publication
  publication-grown tables more publication is =
      let longer = length-append tables more in
      let within = is.node in
      record {
        node = omega (arith, longer, within);
        width = is.width ∙ ap length (sym (get_or_append_left tables more [] publication.node within));
        least = is.least;
        most = is.most;
      }

  one_more : (script : Script) (name : List ℕ) (draft : Draft) (files : List SourceFile) → IsNamed name → IsLawfulSoFar ranks script → IsSound ranks (before_of script) draft → IsUnbroken script.plan.nodes name draft
      → IsLawfulSoFar ranks (with_node script (record { name = name; columns = draft.columns; op = draft.op }) draft.literals files)
  one_more script name draft files is_named so_far new rules =
      let nodes : List Node = script.plan.nodes in
      let node : Node = record { name = name; columns = draft.columns; op = draft.op } in
      let tables : List (List ColumnSpec) = tables_of nodes in
      let longer : length (nodes ++ node ∷ []) ≡ length nodes + 1 = length-append nodes (node ∷ []) in
      let long : length tables ≡ length nodes = length-map nodes (λ (node : Node). node.columns) in
      let few : length nodes < 256 = rules.few in
      let more : tables_of (nodes ++ node ∷ []) ≡ tables ++ draft.columns ∷ [] = map_push (λ (node : Node). node.columns) nodes node in
      let is : IsNode ranks tables (length nodes) node = record {
        inputs = subst (λ n. AllByRecursion (λ input. input < n) (inputs_of draft.op)) long new.inputs;
        name = is_named;
        table = new.table;
        apart = rules.apart;
        narrow = rules.columns;
        fits = new.fits rules.kinds;
      } in
      let none : length nodes ≡ 0 + length nodes = omega arith in
      record {
        few = omega (arith, longer, few);
        apart = ap are_distinct (map_push (λ (node : Node). node.name) nodes node) ∙ are_distinct-push (names_of nodes) name rules.new so_far.apart;
        nodes = subst (λ tables. AreNodes ranks tables 0 (nodes ++ node ∷ [])) (sym more)
            (nodes-push (tables ++ draft.columns ∷ []) 0 nodes node (nodes-grown tables (draft.columns ∷ []) 0 nodes (omega (arith, long)) so_far.nodes)
            (subst (λ n. IsNode ranks (tables ++ draft.columns ∷ []) n node) none (node-grown tables (draft.columns ∷ []) (length nodes) node (omega (arith, long)) is)));
        room = bounds-push nodes node so_far.room rules.room;
        rising = so_far.rising;
        printed = every_weaker (λ other. other < length nodes) (λ other. other < length (nodes ++ node ∷ [])) script.plan.printed (λ other less. omega (arith, longer, less)) so_far.printed;
        published_apart = so_far.published_apart;
        publications = subst (λ tables. AllByRecursion (IsPublication tables) script.plan.published) (sym more)
            (every_weaker (IsPublication tables) (IsPublication (tables ++ draft.columns ∷ [])) script.plan.published (publication-grown tables (draft.columns ∷ [])) so_far.publications);
        words = so_far.words;
        written = one_written script name draft files so_far.written new.written rules.columns;
      }

  placed_lawful : (script : Script) (name : List ℕ) (draft : Draft) (files : List SourceFile) → IsNamed name → IsLawfulSoFar ranks script → IsSound ranks (before_of script) draft → Holds (IsLawfulSoFar ranks) (placed script name draft files)
  placed_lawful script name draft files is_named so_far new =
      where_unbroken (broken script.plan.nodes name draft) _ (λ e. one_more script name draft files is_named so_far new (unbroken script.plan.nodes name draft e))

  printed_lawful : (script : Script) (node : ℕ) → IsLawfulSoFar ranks script → node < length script.plan.nodes → Holds (IsLawfulSoFar ranks) (printed script node)
  printed_lawful script node so_far within =
      cond_both (is_among node script.plan.printed) (Err TakenName) (Ok (with_printed script node)) (Holds (IsLawfulSoFar ranks)) (λ _. record { holds = tt })
      (λ new. done (record {
        few = so_far.few;
        apart = so_far.apart;
        nodes = so_far.nodes;
        room = so_far.room;
        rising = rises-in_order node script.plan.printed new so_far.rising;
        printed = every-in_order (λ other. other < length script.plan.nodes) node script.plan.printed within so_far.printed;
        published_apart = so_far.published_apart;
        publications = so_far.publications;
        words = so_far.words;
        written = record { texts = so_far.written.texts; literals = so_far.written.literals; numbers = so_far.written.numbers; columns = so_far.written.columns };
      }))

  -- how many rows are published
  limit_fits : (rows : ℤ) → is_no_limit (rows_of rows) ≡ false → (1 ≤ unwrap_or (rows_of rows) 0) × (unwrap_or (rows_of rows) 0 ≤ 4194304)
  limit_fits (negsuc n) some = absurd (true≢false some)
  limit_fits (pos n) some =
      cond_both (nat_le n 4194304) (Some n) None (λ limit. is_no_limit limit ≡ false → (1 ≤ unwrap_or limit 0) × (unwrap_or limit 0 ≤ 4194304))
      (λ few other. (one_at_least n (eqb-false n 0 other), leb-true n 4194304 few)) (λ _ other. absurd (true≢false other)) some
    where
      one_at_least : (n : ℕ) → (n ≡ 0 → ⊥) → 1 ≤ n
      one_at_least zero other = absurd (other refl)
      one_at_least (suc n) other = omega arith

  published_lawful : (script : Script) (node : ℕ) (rows : ℤ) → IsLawfulSoFar ranks script → node < length script.plan.nodes → Holds (IsLawfulSoFar ranks) (published script node rows)
  published_lawful script node rows so_far within =
      let publication : Published = publication_of script node rows in
      let more : List Published = script.plan.published ++ publication ∷ [] in
      cond_both (is_among node (published_nodes script.plan.published)) (Err TakenName) _ (Holds (IsLawfulSoFar ranks)) (λ _. record { holds = tt })
      (λ new. cond_both (is_no_limit (rows_of rows)) (Err NumberRange) _ (Holds (IsLawfulSoFar ranks)) (λ _. record { holds = tt })
      (λ some. cond_both (nat_lt 1048576 (published_words more)) (Err TooWide) (Ok (with_published script publication)) (Holds (IsLawfulSoFar ranks)) (λ _. record { holds = tt })
      (λ narrow. done (record {
        few = so_far.few;
        apart = so_far.apart;
        nodes = so_far.nodes;
        room = so_far.room;
        rising = so_far.rising;
        printed = so_far.printed;
        published_apart = ap number_distinct (map_push (λ (p : Published). p.node) script.plan.published publication) ∙ number_distinct-push (published_nodes script.plan.published) node new so_far.published_apart;
        publications = every-append (IsPublication (tables_of script.plan.nodes)) script.plan.published (publication ∷ []) so_far.publications (
          record {
            node = subst (λ n. node < n) (sym (length-map script.plan.nodes (λ (node : Node). node.columns))) within;
            width = refl;
            least = (limit_fits rows some).0;
            most = (limit_fits rows some).1;
          },
          tt,
        );
        words = ltb-false 1048576 (published_words more) narrow;
        written = record { texts = so_far.written.texts; literals = so_far.written.literals; numbers = so_far.written.numbers; columns = so_far.written.columns };
      }))))

  node_within : (nodes : List Node) (name : List ℕ) → Holds (λ node. node < length nodes) (node_named (names_of nodes) name)
  node_within nodes name = subst (λ n. Holds (λ node. node < n) (node_named (names_of nodes) name)) (length-map nodes (λ (node : Node). node.name)) (node_found (names_of nodes) name)

  line_lawful : (script : Script) (line : Line) → KeepsRules line → IsLawfulSoFar ranks script → Holds (IsLawfulSoFar ranks) (said script line)
  unfolding said
  line_lawful script lines.Skipped keeps so_far = done so_far
  line_lawful script (lines.Source name columns file) keeps so_far =
      placed_lawful script name (source_draft columns script.literals) (record { node = length script.plan.nodes; file = file } ∷ []) keeps.0 so_far (source_sound ranks (before_of script) columns so_far.written.texts keeps.1)
  line_lawful script (lines.Node name making) keeps so_far =
      then (draft_sound ranks (before_of script) (length-map script.plan.nodes (λ (node : Node). node.name) ∙ sym (length-map script.plan.nodes (λ (node : Node). node.columns))) (all_tables (tables_of script.plan.nodes) 0 script.plan.nodes so_far.nodes) so_far.written.texts making keeps.1) _
      (λ draft new. placed_lawful script name draft [] keeps.0 so_far new)
  line_lawful script (lines.Print name) keeps so_far = then (node_within script.plan.nodes name) _ (λ node within. printed_lawful script node so_far within)
  line_lawful script (lines.Publish name rows) keeps so_far = then (node_within script.plan.nodes name) _ (λ node within. published_lawful script node rows so_far within)

  nothing_lawful : IsLawfulSoFar ranks nothing
  nothing_lawful = record { few = omega arith; apart = refl; nodes = tt; room = refl; rising = refl; printed = tt; published_apart = refl; publications = tt; words = omega arith; written = nothing_written }

  pub script_lawful : (bytes : List ℕ) (script : Script) → script_of bytes ≡ Ok script → IsLawfulSoFar ranks script
  script_lawful = script_read (IsLawfulSoFar ranks) line_lawful nothing_lawful

  -- the test of a lawful plan
  abbrev with_ranks : List Node → List Node
  with_ranks = map (bound_node ranks)

  node_passes : (all : List Node) (number : ℕ) (node : Node) → IsNode ranks (tables_of all) number node → node_lawful (with_ranks all) (number, bound_node ranks node) ≡ true
  node_passes all number node is =
      let named : Bool = is_name node.name in
      let columns_named : Bool = list_all (λ (column : ColumnSpec). is_name column.name) node.columns in
      let apart : Bool = are_distinct (map (λ (column : ColumnSpec). column.name) node.columns) in
      let some : Bool = nat_le 1 (length node.columns) in
      let narrow : Bool = nat_le (length node.columns) 32 in
      let inputs : Bool = list_all (λ input. nat_lt input number) (inputs_of (bound_op ranks node.op)) in
      and_from (named && columns_named && apart && some && narrow && inputs) (columns_fit (bound_op ranks node.op) (columns_at (with_ranks all)) node.columns)
      (and_from (named && columns_named && apart && some && narrow) inputs
      (and_from (named && columns_named && apart && some) narrow
      (and_from (named && columns_named && apart) some
      (and_from (named && columns_named) apart
      (and_from named columns_named is.name (pass_all (λ (column : ColumnSpec). is_name column.name) node.columns is.table.named))
      is.apart)
      (le-leb 1 (length node.columns) (one_or_more node.columns is.table.some)))
      (le-leb (length node.columns) 32 is.narrow))
      (ap (list_all (λ input. nat_lt input number)) (inputs_bound ranks node.op) ∙ pass_all (λ input. nat_lt input number) (inputs_of node.op) (every_weaker (λ input. input < number) (λ input. nat_lt input number ≡ true) (inputs_of node.op) (λ input less. lt-ltb input number less) is.inputs)))
      (ap (λ tables. columns_fit (bound_op ranks node.op) (table_at tables) node.columns) (tables_bound ranks all) ∙ is.fits)

  nodes_pass : (all : List Node) (number : ℕ) (nodes : List Node) → AreNodes ranks (tables_of all) number nodes → list_all (node_lawful (with_ranks all)) (enumerate_from number (with_ranks nodes)) ≡ true
  nodes_pass all number [] are = refl
  nodes_pass all number (node ∷ nodes) are =
      and_from (node_lawful (with_ranks all) (number, bound_node ranks node)) (list_all (node_lawful (with_ranks all)) (enumerate_from (number + 1) (with_ranks nodes))) (node_passes all number node are.0) (nodes_pass all (number + 1) nodes are.1)

  publication_passes : (all : List Node) (publication : Published) → IsPublication (tables_of all) publication → publication_lawful (with_ranks all) publication ≡ true
  publication_passes all publication is =
      let within : Bool = nat_lt publication.node (length (with_ranks all)) in
      let wide : Bool = nat_eq publication.width (length (columns_at (with_ranks all) publication.node)) in
      let least : Bool = nat_le 1 publication.limit in
      let most : Bool = nat_le publication.limit 4194304 in
      let counted : length (tables_of all) ≡ length (with_ranks all) = length-map all (λ (node : Node). node.columns) ∙ sym (length-map all (bound_node ranks)) in
      and_from (within && wide && least) most
      (and_from (within && wide) least
      (and_from within wide (lt-ltb publication.node (length (with_ranks all)) (subst (λ n. publication.node < n) counted is.node))
      (eq-eqb publication.width (length (columns_at (with_ranks all) publication.node)) (is.width ∙ ap (λ tables. length (table_at tables publication.node)) (sym (tables_bound ranks all)))))
      (le-leb 1 publication.limit is.least))
      (le-leb publication.limit 4194304 is.most)

  plan_passes : (script : Script) → IsLawfulSoFar ranks script → is_lawful (record { nodes = with_ranks script.plan.nodes; printed = script.plan.printed; published = script.plan.published }) ≡ true
  plan_passes script is =
      let nodes : List Node = script.plan.nodes in
      let few : Bool = nat_le (length (with_ranks nodes)) 256 in
      let apart : Bool = are_distinct (names_of (with_ranks nodes)) in
      let lawful : Bool = list_all (node_lawful (with_ranks nodes)) (enumerate_from 0 (with_ranks nodes)) in
      let room : Bool = bounds_fit (key_bounds (with_ranks nodes)) in
      let rising : Bool = rises script.plan.printed in
      let printed : Bool = list_all (λ node. nat_lt node (length (with_ranks nodes))) script.plan.printed in
      let published_apart : Bool = number_distinct (published_nodes script.plan.published) in
      let publications : Bool = list_all (publication_lawful (with_ranks nodes)) script.plan.published in
      let counted : length (with_ranks nodes) ≡ length nodes = length-map nodes (bound_node ranks) in
      let at_most : length nodes ≤ 256 = is.few in
      and_from (few && apart && lawful && room && rising && printed && published_apart && publications) (nat_le (published_words script.plan.published) 1048576)
      (and_from (few && apart && lawful && room && rising && printed && published_apart) publications
      (and_from (few && apart && lawful && room && rising && printed) published_apart
      (and_from (few && apart && lawful && room && rising) printed
      (and_from (few && apart && lawful && room) rising
      (and_from (few && apart && lawful) room
      (and_from (few && apart) lawful
      (and_from few apart (le-leb (length (with_ranks nodes)) 256 (omega (arith, counted, at_most))) (ap are_distinct (names_bound ranks nodes) ∙ is.apart))
      (nodes_pass nodes 0 nodes is.nodes))
      (ap bounds_fit (key_bounds_bound ranks nodes) ∙ is.room))
      is.rising)
      (pass_all (λ node. nat_lt node (length (with_ranks nodes))) script.plan.printed
      (every_weaker (λ node. node < length nodes) (λ node. nat_lt node (length (with_ranks nodes)) ≡ true) script.plan.printed (λ node less. lt-ltb node (length (with_ranks nodes)) (omega (arith, counted, less))) is.printed)))
      is.published_apart)
      (pass_all (publication_lawful (with_ranks nodes)) script.plan.published
      (every_weaker (IsPublication (tables_of nodes)) (λ publication. publication_lawful (with_ranks nodes) publication ≡ true) script.plan.published (publication_passes nodes) is.publications)))
      (le-leb (published_words script.plan.published) 1048576 is.words)

pub script_written : (bytes : List ℕ) (script : Script) → script_of bytes ≡ Ok script → IsWrittenScript script
script_written bytes script read = (script_lawful [] bytes script read).written

pub bound_lawful : (bytes : List ℕ) (script : Script) (texts : List (List ℕ)) → script_of bytes ≡ Ok script → is_lawful (bound script texts) ≡ true
bound_lawful bytes script texts read = plan_passes (ranks_of texts script.literals) script (script_lawful (ranks_of texts script.literals) bytes script read)
