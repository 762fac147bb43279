-- Ranges behind places that are free, as they are edited.
use Rattle.std.proofs.Common.{◌≡◌, ap, ap₂, sym, ◌∙◌, subst, ℕ, suc, ◌+◌, ◌-◌, ◌*◌, ◌^◌, ◌<◌, ◌≤◌, arith, List, [], ◌∷◌, ◌++◌, length, length-append, length-drop, length-take-le, take, take_all, take_at, drop, append_assoc, slice_range, get_or, get_or-drop, set}
use Rattle.std.{specs.List.AllByRecursion, proofs.Math.Seq.paste, proofs.lemmas.List.Edits.{drop-paste, take-paste}, proofs.lemmas.List.{drop_at, drop-append-le, drop-drop, drop-take, get_or_default, length-set, set_split}}
use Rattle.row_set.{specs.declared.ranges.Range.Range, specs.declared.runs.Runs.Runs, specs.Ranges.{AreApart, keys_before, keys_from, keys_of}, specs.Runs.{AreCounted, AreStarts, IsRoom, start_of}, specs.Sets.united, proofs.Behind.{pushed, stretched_last}, proofs.Counts.{blank, keys_after, keys_before_kept}, proofs.Middles.span}

pub length-lying : (front : ℕ) (all : List Range) → front ≤ length all → front + length (drop front all) ≡ length all
length-lying front all le = omega (arith, length-drop front all, le)

-- others in the place of some ranges
pub lying_spliced : (front from to : ℕ) (all others : List Range) → front + from ≤ length all → drop front (take (front + from) all ++ (others ++ drop (front + to) all)) ≡ take from (drop front all) ++ (others ++ drop to (drop front all))
lying_spliced front from to all others within =
    drop-append-le front (take (front + from) all) (others ++ drop (front + to) all) (omega (arith, length-take-le (front + from) all within))
    ∙ ap₂ (λ xs ys. xs ++ (others ++ ys)) (drop-take front from all) (sym (drop-drop to front all))

-- the same where as many are put in their place
pub put_lies : (front from to : ℕ) (all now new others : List Range) → front ≤ length all → from ≤ to → to ≤ length (drop front all) → now ≡ all → length others ≡ to - from → new ≡ take (front + from) now ++ (others ++ drop (front + from + length others) now) → drop front new ≡ take from (drop front all) ++ (others ++ drop to (drop front all))
put_lies front from to all now new others free order within value size is =
    let place : front + from + length others ≡ front + to = omega (arith, order, size) in
    ap (drop front) (is ∙ ap (λ those. take (front + from) those ++ (others ++ drop (front + from + length others) those)) value ∙ ap (λ n. take (front + from) all ++ (others ++ drop n all)) place)
    ∙ lying_spliced front from to all others (omega (arith, length-lying front all free, order, within))

-- and where those before them are moved up to them
pub slid_lies : (front from end place : ℕ) (old mid new others : List Range) → front + from ≤ end → end ≤ length old → place + from + length others ≡ end → mid ≡ paste old place (drop front old) from → new ≡ take (place + from) mid ++ (others ++ drop end mid) → drop place new ≡ take from (drop front old) ++ (others ++ drop end old)
slid_lies front from end place old mid new others order within full mid_is is =
    let some : from ≤ length (drop front old) = omega (arith, length-drop front old, order, within) in
    let low : place ≤ length old = omega (arith, full, within) in
    let whole : place + from + (end - (place + from)) ≡ end = omega (arith, full) in
    let back : drop end mid ≡ drop end old =
    ap (λ n. drop n mid) (sym whole)
    ∙ sym (drop-drop (end - (place + from)) (place + from) mid)
    ∙ ap (drop (end - (place + from))) (ap (drop (place + from)) mid_is ∙ drop-paste old place (drop front old) from low some)
    ∙ drop-drop (end - (place + from)) (place + from) old
    ∙ ap (λ n. drop n old) whole in
    ap (drop place)
    (is
    ∙ ap₂ (λ xs ys. xs ++ (others ++ ys)) (ap (take (place + from)) mid_is ∙ take-paste old place (drop front old) from low some) back
    ∙ append_assoc (take place old) (take from (drop front old)) (others ++ drop end old))
    ∙ drop_at (take place old) (take from (drop front old) ++ (others ++ drop end old)) place (length-take-le place old low)

-- the starts of the blocks before them
pub kept_before : (front from : ℕ) (old new : List Range) (starts : List ℕ) → AreStarts front old starts → take from (drop front new) ≡ take from (drop front old) → (block : ℕ) → block ≤ length starts → 16 * block ≤ front + from → start_of starts block ≡ keys_before (16 * block - front) (drop front new)
kept_before front from old new starts h kept block few le =
    h.counted block few ∙ sym (keys_before_kept from (16 * block - front) (drop front new) (drop front old) (omega (arith, le)) kept)

pub starts_kept : (front from : ℕ) (old new : List Range) (starts : List ℕ) → AreStarts front old starts → length old - 1 ≤ front + from → take from (drop front new) ≡ take from (drop front old) → length old ≤ length new → AreStarts front new starts
starts_kept front from old new starts h last kept le = record {
  counted = λ block few. kept_before front from old new starts h kept block few (omega (arith, few, last, h.within));
  within = omega (arith, h.within, le);
}

-- and of those behind
pub starts_behind : (front there from to came gone : ℕ) (old new others : List Range) (starts : List ℕ) → AreStarts front old starts → drop there new ≡ take from (drop front old) ++ (others ++ drop to (drop front old)) → from ≤ to → to ≤ length (drop front old) → there + from + length others ≡ front + to → gone ≡ length (keys_of (slice_range (drop front old) from to)) → came ≡ length (keys_of others) → (block : ℕ) → block ≤ length starts → front + to ≤ 16 * block → start_of starts block + came ≡ keys_before (16 * block - there) (drop there new) + gone
starts_behind front there from to came gone old new others starts h is order within place gone_is came_is block few past =
    omega (
      arith,
      h.counted block few,
      keys_after from to (16 * block - front) (16 * block - there) (drop front old) others order within (omega (arith, past)) (omega (arith, past, place, order)),
      ap (keys_before (16 * block - there)) is,
      gone_is,
      came_is,
    )

-- less room
pub room_weaker : (few more : ℕ) (runs : Runs) → few ≤ more → IsRoom more runs → IsRoom few runs
room_weaker few more runs le h = record { ranges = omega (arith, h.ranges, le); starts = omega (arith, h.starts, le) }

-- the last of the places has the last range
pub last_lies : (front count : ℕ) (all : List Range) (range : Range) → front ≤ length all → count ≡ length all → front < count → range ≡ get_or all (count - 1) range → range ≡ get_or (drop front all) (length (drop front all) - 1) blank
last_lies front count all range free count_is some reads =
    let size : front + length (drop front all) ≡ length all = length-lying front all free in
    let place : count - 1 ≡ front + (length (drop front all) - 1) = omega (arith, size, count_is, some) in
    reads
    ∙ get_or_default all (count - 1) range blank (omega (arith, count_is, some))
    ∙ ap (λ n. get_or all n blank) place
    ∙ sym (get_or-drop front all (length (drop front all) - 1) blank)

-- the last range is stretched
pub record IsStretched (first last front : ℕ) (all new : List Range) (starts : List ℕ) : Type 0 where
  pub apart : AreApart 0 (drop front new)
  pub counted : AreCounted front new starts
  pub keys : keys_of (drop front new) ≡ united (keys_from first last) (keys_of (drop front all))

pub stretched_at : (first last front count : ℕ) (all : List Range) (starts : List ℕ) (read written : Range) → AreApart 0 (drop front all) → AreCounted front all starts → count ≡ length all → front < count → read ≡ get_or all (count - 1) read → written ≡ get_or all (count - 1) written → read.last + 1 ≡ first → first ≤ last → last < 2 ^ 62 → IsStretched first last front all (set all (count - 1) (span written.first last)) starts
stretched_at first last front count all starts read written h counted count_is some reads writes touch le small =
    let ranges = drop front all in
    let size : front + length ranges ≡ length all = length-lying front all counted.free in
    let i = length ranges - 1 in
    let place : count - 1 ≡ front + i = omega (arith, size, count_is, some) in
    let next : suc (front + i) ≡ front + (i + 1) = omega arith in
    let lt : front + i < length all = omega (arith, size, count_is, some) in
    let head = get_or ranges i blank in
    let read_is : read ≡ head = last_lies front count all read counted.free count_is some reads in
    let written_is : written ≡ head = last_lies front count all written counted.free count_is some writes in
    let new = set all (count - 1) (span written.first last) in
    let parts : new ≡ take (front + i) all ++ (span written.first last ∷ drop (front + (i + 1)) all) =
    ap (λ n. set all n (span written.first last)) place
    ∙ set_split all (front + i) (span written.first last) lt
    ∙ ap (λ n. take (front + i) all ++ (span written.first last ∷ drop n all)) next in
    let lies : drop front new ≡ take i ranges ++ (span head.first last ∷ drop (i + 1) ranges) =
    ap (drop front) parts
    ∙ lying_spliced front i (i + 1) all (span written.first last ∷ []) (omega (arith, lt))
    ∙ ap (λ (range : Range). take i ranges ++ (span range.first last ∷ drop (i + 1) ranges)) written_is in
    let whole : AreApart 0 (drop front new) × (keys_of (drop front new) ≡ united (keys_from first last) (keys_of ranges)) =
    stretched_last first last i ranges (drop front new) h (omega (arith, size, count_is, some)) (ap (λ (range : Range). range.last + 1) (sym read_is) ∙ touch) le small lies in
    let long : length new ≡ length all = length-set all (count - 1) (span written.first last) in
    let kept : take i (drop front new) ≡ take i ranges = ap (take i) lies ∙ take_at (take i ranges) (span head.first last ∷ drop (i + 1) ranges) i (length-take-le i ranges (omega arith)) in
    record {
      apart = whole.0;
      counted = record { free = omega (arith, long, counted.free); counts = starts_kept front i all new starts counted.counts (omega (arith, size)) kept (omega (arith, long)); full = omega (arith, long, counted.full) };
      keys = whole.1;
    }

-- a range of its own behind the last, where the last block has room for it
pub appended_at : (first last front : ℕ) (all : List Range) (starts : List ℕ) → AreApart 0 (drop front all) → AreCounted front all starts → AllByRecursion (λ range. range.last < first - 1) (drop front all) → first ≤ last → last < 2 ^ 62 → length all < 16 * length starts + 16 → IsStretched first last front all (all ++ span first last ∷ []) starts
appended_at first last front all starts h counted behind le small room =
    let ranges = drop front all in
    let new = all ++ span first last ∷ [] in
    let lies : drop front new ≡ ranges ++ span first last ∷ [] = drop-append-le front all (span first last ∷ []) counted.free in
    let whole = pushed first last ranges h behind le small in
    let long : length new ≡ length all + 1 = length-append all (span first last ∷ []) in
    let kept : take (length ranges) (drop front new) ≡ take (length ranges) ranges =
    ap (take (length ranges)) lies ∙ take_at ranges (span first last ∷ []) (length ranges) (omega arith) ∙ sym (take_all (length ranges) ranges (omega arith)) in
    record {
      apart = subst (λ those. AreApart 0 those) (sym lies) whole.0;
      counted = record {
        free = omega (arith, long, counted.free);
        counts = starts_kept front (length ranges) all new starts counted.counts (omega (arith, length-lying front all counted.free)) kept (omega (arith, long));
        full = omega (arith, long, room);
      };
      keys = ap keys_of lies ∙ whole.1;
    }
