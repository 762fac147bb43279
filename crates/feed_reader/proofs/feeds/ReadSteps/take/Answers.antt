use Rattle.std.proofs.Common.{◌≡◌, ℤ, List, Ok, ◌∙◌, sym, ap, subst, length}
use Rattle.std.{proofs.lemmas.Result.IfOk-at_ok, specs.Option.ForSome, specs.Prelude.Result}
use Rattle.feed_reader.{specs.declared.fault.TextKind.TextKind, specs.Entries.entry_of, specs.Gathered.{gathered, kinds_of_block, raw_steps, FitsRow, IsNumberedEntry}, specs.ReadSteps.{kinds_by_node, steps_of, AreReadSteps, IsStep}, specs.Records.at_hand, specs.Said.{Entry, said, told_entry, kinds_within, IsReadEntry}, proofs.Orderly.fits_at, proofs.StepLemmas.{more_steps, own_numbered, numbered_now, put_fits, put_is}}
use Rattle.feed_reader.proofs.feeds.ReadSteps.take.Goals as goal

pub put-requires : goal.put-requires
put-requires c =
    let plan = c.args.plan.now in
    let before = c.args.self.now in
    let read = c.read_entry.new.read in
    let here = IfOk-at_ok (IsReadEntry before.read.texts (kinds_within plan before.place) read) c.in-Ok.is c.in_ok-entry.ensures.read in
    subst (λ (cells : List ℤ). ForSome before.feed.block (FitsRow c.in-Ok.entry (length cells))) (sym c.as_slice-cells.ensures.value) (put_fits plan before read c.in-Ok.entry c.requires.steps here)

pub returns-in_ok-put-in-Ok : goal.returns-in_ok-put-in-Ok
returns-in_ok-put-in-Ok c =
    let plan = c.args.plan.now in
    let kinds = kinds_by_node plan in
    let before = c.args.self.now in
    let read = c.read_entry.new.read in
    let fields = at_hand c.args.fields.now in
    let entry = c.in-Ok.entry in
    let own = kinds_within plan before.place in
    let told = said read.texts own read.cells.items entry in
    let here = IfOk-at_ok (IsReadEntry before.read.texts own read) c.in-Ok.is c.in_ok-entry.ensures.read in
    let puts =
    subst (λ (cells : List ℤ). raw_steps read.texts kinds c.put.new.self ≡ gathered (raw_steps read.texts kinds before.feed) c.args.number (said read.texts (kinds_of_block kinds before.feed.block) cells entry)) c.as_slice-cells.ensures.value
    (c.in_ok-put-in-Ok.ensures.put read.texts kinds) in
    let numbered =
    c.in_ok-put-in-Ok.ensures.numbered kinds (length read.texts) (numbered_now plan before read entry c.requires.steps here)
    (subst (λ (cells : List ℤ). IsNumberedEntry (kinds_of_block kinds before.feed.block) (length read.texts) cells entry) (sym c.as_slice-cells.ensures.value) (own_numbered plan before read entry c.requires.steps here)) in
    let said_is : Ok told ≡ entry_of plan before.place (length before.feed.batches) fields =
    ap (told_entry read.texts own read.cells.items) (sym c.in-Ok.is) ∙ c.in_ok-entry.ensures.told ∙ ap (λ steps. entry_of plan before.place steps fields) c.len-ended.ensures in
    let after = c.after-self.ensures read.texts own read.cells.items in
    record {
      steps = more_steps plan before read entry c.requires.steps here c.put.new.self c.args.number puts c.after-self.result after numbered (length before.feed.batches) (fits_at plan before.place (length before.feed.batches) fields told (sym said_is));
      told =
          subst (λ (all : Result Entry TextKind). IsStep plan c.args.number before (record { place = c.after-self.result; read = read; feed = c.put.new.self }) (Ok tt) all) said_is
          (after, put_is plan before read entry c.requires.steps here c.put.new.self c.args.number puts);
    }
