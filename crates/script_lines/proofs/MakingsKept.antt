-- What is read of how a node is made keeps its rules.
use Rattle.std.proofs.Common.{ℕ, leb, List, length, Ok, Err}
use Rattle.std.{specs.Prelude.{ℤ, ◌&&◌}, proofs.lemmas.Bool.{cond_both, and_parts, leb-true}}
use Rattle.tick_model.specs.declared.plan.Choice.{Choice}
use Rattle.script_lines.{specs.declared.fault.ScriptKind.TheVariants.BadLine, specs.declared.lists.Separator.TheVariants.{Comma, Nothing}, specs.declared.making.Making.Making, specs.declared.making.Making.TheVariants.Merge, specs.Formulas.name_at, specs.Kept.{IsNamed, ComputedKeeps, PairKeeps, GatheredKeeps, MembersKeep}, specs.Making.{MakingKeeps, keep_at, view_at, choice_at, pairs_after, join_at, as_of_at, agg_at, merge_at, sort_at, cut_at, other_making_at, making_at}, specs.Members.{computed_at, pair_at, gathered_at, sorted_at}, proofs.PartsKept.{Read, Keeps, Any, done, refused, then, behind, choose, word, word_after, name-keeps, test-keeps, list-keeps, option-keeps, computed-keeps, pair-keeps, gathered-keeps, sorted-keeps, digits-keep}}

keep-keeps : Keeps MakingKeeps keep_at
unfolding keep_at
keep-keeps ts fit = then (name-keeps ts fit) _ (λ input ts _ fit. then (test-keeps ts fit) _ (λ test ts. done))

view-keeps : Keeps MakingKeeps view_at
unfolding view_at
view-keeps ts fit = then (name-keeps ts fit) _ (λ input ts _ fit. then (list-keeps ComputedKeeps computed_at computed-keeps Comma ts fit) _ (λ columns ts. done))

choice-keeps : Keeps (Any {X = Choice}) choice_at
unfolding choice_at
choice-keeps ts fit = choose (word _ fit) (λ rest. done tt) (choose (word _ fit) (λ rest. done tt) (done tt fit))

pairs_after-keep : (before : List ℕ) → Keeps (MembersKeep PairKeeps) (pairs_after before)
unfolding pairs_after
pairs_after-keep before ts fit = behind (word_after _ fit) _ (list-keeps PairKeeps pair_at pair-keeps Comma)

join-keeps : Keeps MakingKeeps join_at
unfolding join_at
join-keeps ts fit =
    then (name-keeps ts fit) _ (λ left ts _ fit. then (name-keeps ts fit) _ (λ right ts _ fit.
    then (pairs_after-keep _ ts fit) _ (λ on ts good fit. then (pairs_after-keep _ ts fit) _ (λ taken ts well fit. then (choice-keeps ts fit) _ (λ choice ts _. done (good, well))))))

as_of-keeps : Keeps MakingKeeps as_of_at
unfolding as_of_at
as_of-keeps ts fit =
    then (name-keeps ts fit) _ (λ left ts _ fit. then (name-keeps ts fit) _ (λ right ts _ fit.
    then (option-keeps PairKeeps pair_at pair-keeps _ ts fit) _ (λ on ts good fit. behind (word_after _ fit) _ (λ ts fit.
    then (pair-keeps ts fit) _ (λ at ts is fit. then (pairs_after-keep _ ts fit) _ (λ taken ts well. done (good, is, well)))))))

agg-keeps : Keeps MakingKeeps agg_at
unfolding agg_at
agg-keeps ts fit =
    then (name-keeps ts fit) _ (λ input ts _ fit. then (option-keeps IsNamed name_at name-keeps _ ts fit) _ (λ by ts good fit. behind (word_after _ fit) _ (λ ts fit.
    then (list-keeps GatheredKeeps gathered_at gathered-keeps Comma ts fit) _ (λ columns ts well. done (good, well)))))

merge-keeps : Keeps MakingKeeps merge_at
unfolding merge_at
merge-keeps ts fit =
    then (list-keeps IsNamed name_at name-keeps Nothing ts fit) _ (λ inputs ts _ fit.
    let least = leb 2 (length inputs) in
    let most = leb (length inputs) 16 in
    cond_both (least && most) (Ok (Merge inputs, ts)) (Err BadLine) (λ r. Read MakingKeeps r)
    (λ e. let parts = and_parts least most e in done (leb-true 2 (length inputs) parts.0, leb-true (length inputs) 16 parts.1) fit) (λ _. refused))

sort-keeps : Keeps MakingKeeps sort_at
unfolding sort_at
sort-keeps ts fit = then (name-keeps ts fit) _ (λ input ts _ fit. then (list-keeps Any sorted_at sorted-keeps Comma ts fit) _ (λ by ts good. done good.0))

cut-keeps : (cut : ℤ → List ℕ → Making) → ((rows : ℤ) (input : List ℕ) → MakingKeeps (cut rows input)) → Keeps MakingKeeps (cut_at cut)
unfolding cut_at
cut-keeps cut keeps ts fit = then (digits-keep ts fit) _ (λ rows ts _ fit. then (name-keeps ts fit) _ (λ input ts _. done (keeps rows input)))

other_making-keeps : Keeps MakingKeeps other_making_at
unfolding other_making_at
other_making-keeps ts fit =
    choose (word _ fit) agg-keeps (choose (word _ fit) merge-keeps (choose (word _ fit) sort-keeps
    (choose (word _ fit) (cut-keeps _ (λ rows input. tt)) (choose (word _ fit) (cut-keeps _ (λ rows input. tt)) refused))))

pub making-keeps : Keeps MakingKeeps making_at
unfolding making_at
making-keeps ts fit =
    choose (word _ fit) keep-keeps (choose (word _ fit) view-keeps (choose (word _ fit) join-keeps (choose (word _ fit) as_of-keeps (other_making-keeps ts fit))))
