use Rattle.std.proofs.Common.{◌≡◌, ◌-◌, ◌*◌, ◌≤◌, sym, ap, ap₂, ◌∙◌, subst, drop, length, slice_get, arith}
use Rattle.std.{specs.List.Sorted.IsNonDecreasing, proofs.lemmas.List.take_rest}
use Rattle.row_set.{specs.Ranges.{AreApart, keys_before, keys_of}, specs.Runs.{lying, start_of}, proofs.Apart.apart-drop, proofs.Lookups.{key_behind, started_at, starts_rise}}
use Rattle.row_set.proofs.runs.Runs.key_at.Goals as goal

pub started_by-block-requires : goal.started_by-block-requires
started_by-block-requires c = subst IsNonDecreasing (sym c.deref.ensures.value) (starts_rise c.args.self.now.front c.args.self.now.all.items c.args.self.now.starts.items c.requires.counted.counts)

pub key_in-requires : goal.key_in-requires
key_in-requires c =
    let begin = c.saturating_sub-begin.result in
    subst (λ those. AreApart 0 those) (sym (take_rest c.as_slice.result.now begin ∙ ap (drop begin) c.as_slice.ensures)) (apart-drop 0 begin (lying c.args.self.now) c.requires.apart)

pub returns : goal.returns
returns c =
    let self = c.args.self.now in
    let block = c.started_by-block.result in
    let begin = c.saturating_sub-begin.result in
    let ranges = lying self in
    let position = c.args.position in
    let place : 16 * block - self.front ≡ begin = omega (arith, c.saturating_sub-begin.ensures) in
    let here : start_of c.deref.result.now block ≡ start_of self.starts.items block = ap (λ those. start_of those block) c.deref.ensures.value in
    let start : c.keys_before_block.result ≡ start_of self.starts.items block = c.keys_before_block.ensures ∙ ap (λ those. start_of those block) c.deref-2.ensures.value in
    let before : c.keys_before_block.result ≡ keys_before begin ranges =
    start ∙ c.requires.counted.counts.counted block (omega (arith, c.started_by-block.ensures.within, ap length c.deref.ensures.value)) ∙ ap (λ n. keys_before n ranges) place in
    let begun : c.keys_before_block.result ≤ position =
    omega (arith, start, here, started_at position block c.deref.result.now c.started_by-block.ensures.cut c.started_by-block.ensures.within) in
    c.key_in.ensures
    ∙ ap₂ (λ those k. slice_get (keys_of those) (position - k)) (take_rest c.as_slice.result.now begin ∙ ap (drop begin) c.as_slice.ensures) before
    ∙ key_behind begin position ranges (omega (arith, before, begun))
