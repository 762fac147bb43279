use Rattle.std.proofs.Common.{◌≡◌, ◌<◌, ◌≤◌, ◌+◌, ◌∷◌, ◌∙◌, ℕ, List, Err, drop, get_or, length, map, refl, sym, ap, subst, arith}
use Rattle.std.{specs.Borrow.Bor, specs.Option.option_to_list, proofs.lemmas.List.{at_drop_more, drop_all, get_or-map, length-map}, proofs.lemmas.Result.err_from_is_err_and}
use Rattle.tick_io.proofs.RisingCounts.{rose_earlier}
use Rattle.tick_model.specs.declared.plan.Node.{Node}
use Rattle.script_reader.specs.declared.script.SourceFile.{SourceFile}
use Rattle.feed_reader.specs.declared.raw.RawTable.{RawTable}
use Rattle.feed_run.{specs.declared.refusal.LoadStop.TheVariants.Memory, specs.Headline.{IsOneOf, LoadFailed}, specs.Readings.{Content, first_file, opening_by}, specs.Stops.Reads, proofs.AskLemmas.on_refused_more, proofs.TableLemmas.{AsksOn, Opens, asks_begin, asks_end, asks_next, asks_stop, opens_all, opens_more, opens_stop}}
use Rattle.feed_run.proofs.tables.open_sources.Goals as goal

abbrev now : List (Bor Node) → List Node
now = map (λ (source : Bor Node). source.now)

-- the source at hand, and those after it
at_hand : (sources : List (Bor Node)) (i : ℕ) (source : Bor Node) → i < length sources → source ≡ get_or sources i source → drop i (now sources) ≡ source.now ∷ drop (i + 1) (now sources)
at_hand sources i source within is =
    at_drop_more (λ (rest : List Node). rest) (now sources) i source.now (rw length-map within)
    ∙ ap (λ (of : Node). of ∷ drop (i + 1) (now sources)) (get_or-map (λ (of : Bor Node). of.now) sources i source source.now within ∙ ap (λ (of : Bor Node). of.now) (sym is))

pub returns-in_err-opening-clause-reads : goal.returns-in_err-opening-clause-reads
returns-in_err-opening-clause-reads g c =
    let content = g.I.Inputs.content c.args.inputs.now in
    let failures = g.I.Inputs.failures in
    let told = g.I.Inputs.told in
    let sources = now c.args.sources.now in
    let i = c.loop-source.source-index in
    let source = c.source-item.result.now in
    let left = c.loop-source.left.now in
    let failed = LoadFailed failures c.args.inputs.now c.opening.new.inputs in
    let earlier = LoadFailed failures c.loop-source.inputs c.opening.new.inputs in
    let p = err_from_is_err_and c.from_residual.result c.from_residual.ensures.1 in
    rw (p.1, p.2)
    (opens_stop told content sources c.args.files.now failed earlier source (drop (i + 1) sources) left c.loop-source.tables c.in_err-opening.field-0.0
    (λ name rose. rose_earlier (failures c.args.inputs.now name) (failures c.loop-source.inputs name) (failures c.opening.new.inputs name) (c.loop-source.invariant.never_falls name) rose)
    (subst (λ (of : Content). Reads {X = RawTable} told earlier (IsOneOf (option_to_list (first_file left))) (opening_by of source (first_file left)) (λ table. table) (Err c.in_err-opening.field-0.0)) c.loop-source.invariant.kept c.in_err-opening.ensures.reads)
    (subst (λ (rest : List Node). Opens told content sources c.args.files.now rest left c.loop-source.tables) (at_hand c.args.sources.now i c.source-item.result c.loop-source-test.true c.source-item.is) c.loop-source.invariant.opens))

pub returns-in_err-opening-clause-asks : goal.returns-in_err-opening-clause-asks
returns-in_err-opening-clause-asks g c =
    let content = g.I.Inputs.content c.args.inputs.now in
    let sources = now c.args.sources.now in
    let i = c.loop-source.source-index in
    let left = c.loop-source.left.now in
    let old = g.I.Inputs.asked c.args.inputs.now in
    let mid = g.I.Inputs.asked c.loop-source.inputs in
    let earlier = LoadFailed g.I.Inputs.failures c.loop-source.inputs c.opening.new.inputs in
    let p = err_from_is_err_and c.from_residual.result c.from_residual.ensures.1 in
    rw (p.1, p.2)
    (asks_stop g.I.Inputs.told content sources c.args.files.now old c.source-item.result.now (drop (i + 1) sources) left mid (g.I.Inputs.asked c.opening.new.inputs) c.in_err-opening.ensures.asks
    (subst (λ (rest : List Node). AsksOn g.I.Inputs.told content sources c.args.files.now rest left old mid) (at_hand c.args.sources.now i c.source-item.result c.loop-source-test.true c.source-item.is) c.loop-source.invariant.asks)
    earlier (IsOneOf (option_to_list (first_file left))) c.in_err-opening.field-0.0
    (subst (λ (of : Content). Reads {X = RawTable} g.I.Inputs.told earlier (IsOneOf (option_to_list (first_file left))) (opening_by of c.source-item.result.now (first_file left)) (λ table. table) (Err c.in_err-opening.field-0.0)) c.loop-source.invariant.kept c.in_err-opening.ensures.reads))

pub returns-in_err-opening-clause-steady : goal.returns-in_err-opening-clause-steady
returns-in_err-opening-clause-steady g c =
    let p = err_from_is_err_and c.from_residual.result c.from_residual.ensures.1 in
    rw (p.1, p.2) (on_refused_more c.in_err-opening.field-0.0 (λ later other. later other ∙ c.loop-source.invariant.steady other) c.in_err-opening.ensures.steady)

pub returns-in_err-push-clause-asks : goal.returns-in_err-push-clause-asks
returns-in_err-push-clause-asks g c =
    let content = g.I.Inputs.content c.args.inputs.now in
    let sources = now c.args.sources.now in
    let i = c.loop-source.source-index in
    let left = c.loop-source.left.now in
    let old = g.I.Inputs.asked c.args.inputs.now in
    let mid = g.I.Inputs.asked c.loop-source.inputs in
    let p = err_from_is_err_and c.from_residual-in_err-push.result c.from_residual-in_err-push.ensures.1 in
    rw (p.1, p.2)
    (asks_stop g.I.Inputs.told content sources c.args.files.now old c.source-item.result.now (drop (i + 1) sources) left mid (g.I.Inputs.asked c.opening.new.inputs) c.in_ok-opening.ensures.asks
    (subst (λ (rest : List Node). AsksOn g.I.Inputs.told content sources c.args.files.now rest left old mid) (at_hand c.args.sources.now i c.source-item.result c.loop-source-test.true c.source-item.is) c.loop-source.invariant.asks)
    (λ (name : List ℕ). Unit {0}) (λ (name : List ℕ). Unit {0}) Memory tt)

pub returns-clause-asks : goal.returns-clause-asks
returns-clause-asks g c =
    let content = g.I.Inputs.content c.args.inputs.now in
    let sources = now c.args.sources.now in
    let i = c.loop-source.source-index in
    let old = g.I.Inputs.asked c.args.inputs.now in
    let mid = g.I.Inputs.asked c.loop-source.inputs in
    let ended : length sources ≤ i = omega (arith, length-map c.args.sources.now (λ (source : Bor Node). source.now), c.loop-source-test.false) in
    asks_end g.I.Inputs.told content sources c.args.files.now old c.loop-source.left.now mid
    (subst (λ (rest : List Node). AsksOn g.I.Inputs.told content sources c.args.files.now rest c.loop-source.left.now old mid) (drop_all i sources ended) c.loop-source.invariant.asks)

pub loop-source-init : goal.loop-source-init
loop-source-init g c =
    let told = g.I.Inputs.told in
    let content = g.I.Inputs.content c.args.inputs.now in
    let sources = now c.args.sources.now in
    record {
      opens = subst (λ (tables : List RawTable). Opens told content sources c.args.files.now sources c.args.files.now tables) (sym c.new-tables.ensures) (opens_all told content sources c.args.files.now);
      never_falls = λ other. omega arith;
      kept = refl;
      asks = asks_begin told content sources c.args.files.now (g.I.Inputs.asked c.args.inputs.now);
      steady = λ other. refl;
    }

pub loop-source-preserved : goal.loop-source-preserved
loop-source-preserved g c =
    let content = g.I.Inputs.content c.args.inputs.now in
    let told = g.I.Inputs.told in
    let sources = now c.args.sources.now in
    let i = c.loop-source.source-index in
    let source = c.source-item.result.now in
    let left = c.loop-source.left.now in
    let table = c.in_ok-opening.field-0 in
    record {
      opens =
          subst (λ (files : List SourceFile). Opens told content sources c.args.files.now (drop (i + 1) sources) files c.push.new.self) (sym c.after_first-left.ensures)
          (subst (λ (tables : List RawTable). Opens told content sources c.args.files.now (drop (i + 1) sources) (drop 1 left) tables) (sym (c.in_ok-push.ensures.ok))
          (opens_more told content sources c.args.files.now source (drop (i + 1) sources) left c.loop-source.tables table
          (λ t. ap (λ (of : Content). opening_by of source (first_file left)) (sym c.loop-source.invariant.kept) ∙ c.in_ok-opening.ensures.reads t)
          c.in_ok-opening.ensures.table
          (subst (λ (rest : List Node). Opens told content sources c.args.files.now rest left c.loop-source.tables) (at_hand c.args.sources.now i c.source-item.result c.loop-source-test.true c.source-item.is) c.loop-source.invariant.opens)));
      never_falls = λ other. let before = c.loop-source.invariant.never_falls other in let after = c.in_ok-opening.ensures.never_falls other in omega (arith, before, after);
      kept = c.in_ok-opening.ensures.kept ∙ c.loop-source.invariant.kept;
      asks =
          subst (λ (files : List SourceFile). AsksOn told content sources c.args.files.now (drop (i + 1) sources) files (g.I.Inputs.asked c.args.inputs.now) (g.I.Inputs.asked c.opening.new.inputs)) (sym c.after_first-left.ensures)
          (asks_next told content sources c.args.files.now (g.I.Inputs.asked c.args.inputs.now) source (drop (i + 1) sources) left (g.I.Inputs.asked c.loop-source.inputs) (g.I.Inputs.asked c.opening.new.inputs) c.in_ok-opening.ensures.asks
          (subst (λ (rest : List Node). AsksOn told content sources c.args.files.now rest left (g.I.Inputs.asked c.args.inputs.now) (g.I.Inputs.asked c.loop-source.inputs)) (at_hand c.args.sources.now i c.source-item.result c.loop-source-test.true c.source-item.is) c.loop-source.invariant.asks)
          table (λ t. ap (λ (of : Content). opening_by of source (first_file left)) (sym c.loop-source.invariant.kept) ∙ c.in_ok-opening.ensures.reads t));
      steady = λ other. c.in_ok-opening.ensures.steady other ∙ c.loop-source.invariant.steady other;
    }
