use Rattle.std.proofs.Common.{◌≡◌, ℕ, ◌+◌, ◌*◌, ◌<◌, ◌≤◌, ◌∙◌, List, length, get_or, set, replicate, drop, refl, ap, sym, subst, arith, rules, length-set}
use Rattle.std.{specs.Prelude.map, specs.Arc.arc_value, specs.declared.alloc.Global.Global, specs.declared.sync.Arc.Arc, proofs.lemmas.List.length-map}
use Rattle.tick_model.{specs.declared.table.PlainTable.PlainTable, specs.Tables.no_table, specs.Words.words}
use Rattle.tick_table.specs.Ticking.{Ticking}
use Rattle.snapshot_store.{specs.Lines.{count, size, total, total_in}, specs.Opening.IsLaying, proofs.Calls.first_place, proofs.Opening.{laid_first, laid_more, laid_all, front, shared_table, table_is, table_ends}, proofs.Published.{few_tables, line_whole, opening_keeps, table_fits}}
use Rattle.snapshot_store.proofs.start.opening.Goals as goal

pub loop-p-init : goal.loop-p-init
loop-p-init c =
    let zeros = c.in_ok-words.ensures.items_if_clones_equal (λ y e. search rules) in
    let long = c.in_ok-words.ensures.len in
    let bank : c.bank.result ≡ total c.args.run.now = c.bank.ensures.value ∙ ap total_in c.requires.layout in
    record {
      laying = laid_first c.args.run.now (set c.in_ok-words.words.items 0 1) (ap (λ z. set z 0 1) (zeros ∙ ap (λ (t : ℕ). replicate (2 + 2 * t) 0) bank)) (let e = length-set c.in_ok-words.words.items 0 1 in omega arith);
      room = refl;
    }

-- the table of the turn of the loop
inside : (c : goal.After-copy_table-arg-1) → c.loop-p.p < count c.args.run.now
inside c = let many = c.requires.tables.as_many in let long = length-map c.args.tables.now (λ (shared : Arc Ticking Global). (arc_value {X = Ticking} shared).new) in let h = c.loop-p-test.true in omega arith

table_at_turn : (c : goal.After-copy_table-arg-1) → c.deref.result.now.new ≡ get_or (map (λ (shared : Arc Ticking Global). (arc_value {X = Ticking} shared).new) c.args.tables.now) c.loop-p.p no_table
table_at_turn c = shared_table c.args.tables.now c.loop-p.p c.index-tables-p.result c.deref.result.now c.loop-p-test.true c.index-tables-p.is c.deref.ensures

pub copy_table-requires : goal.copy_table-requires
copy_table-requires c =
    let fits = table_fits c.args.run.now 0 c.loop-p.p c.requires.run (opening_keeps c.args.run.now) (inside c) (c.requires.tables.few c.loop-p.p (inside c)) in
    let own : 1 + length c.deref.result.now.new.rows * (1 + c.deref.result.now.new.width) ≤ size c.args.run.now c.loop-p.p =
    subst (λ (z : PlainTable). 1 + length z.rows * (1 + z.width) ≤ size c.args.run.now c.loop-p.p) (sym (table_at_turn c ∙ c.requires.tables.each c.loop-p.p (inside c))) fits in
    let room = c.requires.room c.loop-p.p (inside c) in let same = c.loop-p.invariant.room in omega arith

pub overflow_cast-p : goal.overflow_cast-p
overflow_cast-p c =
    let many = c.requires.tables.as_many in let long = length-map c.args.tables.now (λ (shared : Arc Ticking Global). (arc_value {X = Ticking} shared).new) in let h = c.loop-p-test.true in
    let few = few_tables c.args.run.now c.requires.run in omega arith

pub fill-requires : goal.fill-requires
fill-requires c =
    let many = c.requires.tables.as_many in let l = length-map c.args.tables.now (λ (shared : Arc Ticking Global). (arc_value {X = Ticking} shared).new) in let h = c.loop-p-test.true in
    let within : c.loop-p.p < count c.args.run.now = omega arith in
    let same = shared_table c.args.tables.now c.loop-p.p c.index-tables-p.result c.deref.result.now c.loop-p-test.true c.index-tables-p.is c.deref.ensures in
    let t = table_is c.args.run.now (map (λ (shared : Arc Ticking Global). (arc_value {X = Ticking} shared).new) c.args.tables.now) c.loop-p.p c.as_slice.result.now c.requires.run c.requires.tables within (c.as_slice.ensures.value ∙ (c.copy_table.ensures.words ∙ ap words same)) in
    let e = first_place c.args.run.now c.args.layout.now 0 (total_in c.args.layout.now) c.start-start.result c.loop-p.p c.requires.layout refl c.start-start.ensures.value in
    let z : 0 * total_in c.args.layout.now ≡ 0 = omega arith in
    let b = table_ends c.args.run.now c.loop-p.p (2 + c.start-start.result) (length c.as_slice.result.now) within (omega arith) t.1 in
    let long = c.loop-p.invariant.laying.long in let m = c.as_mut_slice.ensures.len in omega arith

pub loop-p-preserved : goal.loop-p-preserved
loop-p-preserved c =
    let many = c.requires.tables.as_many in let l = length-map c.args.tables.now (λ (shared : Arc Ticking Global). (arc_value {X = Ticking} shared).new) in let h = c.loop-p-test.true in
    let within : c.loop-p.p < count c.args.run.now = omega arith in
    let same = shared_table c.args.tables.now c.loop-p.p c.index-tables-p.result c.deref.result.now c.loop-p-test.true c.index-tables-p.is c.deref.ensures in
    let t = table_is c.args.run.now (map (λ (shared : Arc Ticking Global). (arc_value {X = Ticking} shared).new) c.args.tables.now) c.loop-p.p c.as_slice.result.now c.requires.run c.requires.tables within (c.as_slice.ensures.value ∙ (c.copy_table.ensures.words ∙ ap words same)) in
    let e = first_place c.args.run.now c.args.layout.now 0 (total_in c.args.layout.now) c.start-start.result c.loop-p.p c.requires.layout refl c.start-start.ensures.value in
    let z : 0 * total_in c.args.layout.now ≡ 0 = omega arith in
    let whole = front c.fill.new.words (drop (length c.fill.new.words) c.loop-p.words.items) c.loop-p.words.len (let m = c.as_mut_slice.ensures.len in omega arith) in
    let was = c.as_mut_slice.ensures.value in
    record {
      laying = subst (λ (z : List ℕ). IsLaying c.args.run.now z (c.loop-p.p + 1)) (sym whole)
          (laid_more c.args.run.now c.loop-p.words.items c.fill.new.words c.as_slice.result.now c.loop-p.p (2 + c.start-start.result) within t.0 t.1 t.2
          (omega arith) (line_whole c.args.run.now 0 c.loop-p.p c.requires.run (opening_keeps c.args.run.now) within) c.fill.ensures.inside (λ k h. c.fill.ensures.outside k h ∙ ap (λ (z : List ℕ). get_or z k 0) was)
          (omega arith) c.loop-p.invariant.laying);
      room = c.copy_table.ensures.room ∙ c.loop-p.invariant.room;
    }

pub returns-clause-words : goal.returns-clause-words
returns-clause-words c =
    let many = c.requires.tables.as_many in let l = length-map c.args.tables.now (λ (shared : Arc Ticking Global). (arc_value {X = Ticking} shared).new) in
    let end = c.loop-p.auto.p-end in let t = c.loop-p-test.false in
    laid_all c.args.run.now c.loop-p.words.items c.loop-p.p (omega arith) c.loop-p.invariant.laying
