-- The numbers of a command's task are in their ranges.
use Rattle.std.proofs.Common.{◌≡◌, ◌≤◌, ℕ, arith, true, false, List, [], ◌∷◌, cond, Option, Some, None, refl, subst}
use Rattle.std.{proofs.lemmas.Bool.leb-true, proofs.lemmas.Option.same_Some, specs.List.list_all, specs.Prelude.{◌&&◌, codes, nat_le, option_map}, specs.Str.bytes_eq, specs.Str.Parse.digits_value}
use Rattle.command_words.{specs.declared.command.Command.Command, specs.declared.command.Task.Task, specs.declared.command.Task.TheVariants.{Run, Demo, Watch}, specs.Commands.{is_numeral, number_within, is_known, of_both, run_task, demo_task, watch_task, task_of, with_numbers, with_settings, command_from, command, setting}, specs.Words.parts_of}
use Rattle.feed_run.specs.Answers.{IsInRange}

number_few : (least most : ℕ) (text : List ℕ) (n : ℕ) → number_within least most text ≡ Some n → n ≤ most
number_few least most text n e =
    let number = digits_value 10 text in
    (elim (is_numeral text && nat_le least number) as (λ p. cond (p && nat_le number most) (Some number) None ≡ Some n → n ≤ most) [
      | true ↦ λ e. (elim (nat_le number most) as (λ q. nat_le number most ≡ q → cond q (Some number) None ≡ Some n → n ≤ most) [
        | true ↦ λ few same. subst (λ k. k ≤ most) (same_Some number n same) (leb-true number most few)
        | false ↦ λ few same. cc
      ]) refl e
      | false ↦ λ e. cc
    ]) e

demo_few : (number : Option ℕ) (task : Task) → ((n : ℕ) → number ≡ Some n → n ≤ 10000) → option_map Demo number ≡ Some task → IsInRange task
demo_few None task few e = cc
demo_few (Some n) task few e = subst IsInRange (same_Some (Demo n) task e) (few n refl)

demo_task_few : (positional : List (List ℕ)) (task : Task) → demo_task positional ≡ Some task → IsInRange task
demo_task_few [] task e = cc
demo_task_few (steps ∷ []) task e = demo_few (number_within 0 10000 steps) task (λ n is. number_few 0 10000 steps n is) e
demo_task_few (steps ∷ other ∷ others) task e = cc

run_task_few : (positional : List (List ℕ)) (task : Task) → run_task positional ≡ Some task → IsInRange task
run_task_few [] task e = cc
run_task_few (script ∷ []) task e = cc
run_task_few (script ∷ feed ∷ []) task e = subst IsInRange (same_Some (Run script feed) task e) tt
run_task_few (script ∷ feed ∷ other ∷ others) task e = cc

number_some : (least most : ℕ) (text : List ℕ) (n : ℕ) → number_within least most text ≡ Some n → least ≤ n
number_some least most text n e =
    let number = digits_value 10 text in
    (elim (is_numeral text) as (λ p. cond ((p && nat_le least number) && nat_le number most) (Some number) None ≡ Some n → least ≤ n) [
      | true ↦ λ e. (elim (nat_le least number) as (λ q. nat_le least number ≡ q → cond (q && nat_le number most) (Some number) None ≡ Some n → least ≤ n) [
        | true ↦ λ some e. (elim (nat_le number most) as (λ q. cond q (Some number) None ≡ Some n → least ≤ n) [
          | true ↦ λ same. subst (λ k. least ≤ k) (same_Some number n same) (leb-true least number some)
          | false ↦ λ same. cc
        ]) e
        | false ↦ λ some e. cc
      ]) refl e
      | false ↦ λ e. cc
    ]) e

watch_few : (script feed name : List ℕ) (first count : Option ℕ) (task : Task) → ((n : ℕ) → first ≡ Some n → n ≤ 4194303) → ((n : ℕ) → count ≡ Some n → (1 ≤ n) × (n ≤ 4194304))
    → of_both (Watch script feed name) first count ≡ Some task → IsInRange task
watch_few script feed name None count task low high e = cc
watch_few script feed name (Some first) None task low high e = cc
watch_few script feed name (Some first) (Some count) task low high e =
    let positions = low first refl in
    let rows = high count refl in
    subst IsInRange (same_Some (Watch script feed name first count) task e) (omega (arith, positions), rows.0, rows.1)

watch_task_few : (positional : List (List ℕ)) (task : Task) → watch_task positional ≡ Some task → IsInRange task
watch_task_few [] task e = cc
watch_task_few (a ∷ []) task e = cc
watch_task_few (a ∷ b ∷ []) task e = cc
watch_task_few (a ∷ b ∷ c ∷ []) task e = cc
watch_task_few (a ∷ b ∷ c ∷ d ∷ []) task e = cc
watch_task_few (script ∷ feed ∷ name ∷ first ∷ count ∷ []) task e =
    watch_few script feed name (number_within 0 4194303 first) (number_within 1 4194304 count) task
    (λ n is. number_few 0 4194303 first n is) (λ n is. (number_some 1 4194304 count n is, number_few 1 4194304 count n is)) e
watch_task_few (a ∷ b ∷ c ∷ d ∷ f ∷ other ∷ others) task e = cc

task_few : (first : List ℕ) (positional : List (List ℕ)) (task : Task) → task_of first positional ≡ Some task → IsInRange task
task_few first positional task e =
    (elim (bytes_eq first (codes "run")) as (λ b. cond b (run_task positional) (cond (bytes_eq first (codes "demo")) (demo_task positional) (cond (bytes_eq first (codes "watch")) (watch_task positional) None)) ≡ Some task → IsInRange task) [
      | true ↦ λ e. run_task_few positional task e
      | false ↦ λ e. (elim (bytes_eq first (codes "demo")) as (λ b. cond b (demo_task positional) (cond (bytes_eq first (codes "watch")) (watch_task positional) None) ≡ Some task → IsInRange task) [
        | true ↦ λ e. demo_task_few positional task e
        | false ↦ λ e. (elim (bytes_eq first (codes "watch")) as (λ b. cond b (watch_task positional) None ≡ Some task → IsInRange task) [
          | true ↦ λ e. watch_task_few positional task e
          | false ↦ λ e. cc
        ]) e
      ]) e
    ]) e

with_numbers_few : (task : Option Task) (workers callers snaps attempts every : Option ℕ) (own : Command) → ((of : Task) → task ≡ Some of → IsInRange of) → with_numbers task workers callers snaps attempts every ≡ Some own → IsInRange own.task
with_numbers_few None workers callers snaps attempts every own few e = cc
with_numbers_few (Some task) None callers snaps attempts every own few e = cc
with_numbers_few (Some task) (Some workers) None snaps attempts every own few e = cc
with_numbers_few (Some task) (Some workers) (Some callers) None attempts every own few e = cc
with_numbers_few (Some task) (Some workers) (Some callers) (Some snaps) None every own few e = cc
with_numbers_few (Some task) (Some workers) (Some callers) (Some snaps) (Some attempts) None own few e = cc
with_numbers_few (Some task) (Some workers) (Some callers) (Some snaps) (Some attempts) (Some every) own few e =
    subst (λ (of : Command). IsInRange of.task) (same_Some {A = Command} (record { task = task; workers = workers; callers = callers; snaps = snaps; attempts = attempts; every = every }) own e) (few task refl)

settings_few : (first : List ℕ) (task : Option Task) (options : _) (own : Command) → ((of : Task) → task ≡ Some of → IsInRange of) → with_settings first task options ≡ Some own → IsInRange own.task
settings_few first task options own few e =
    let numbers = with_numbers task (setting (codes "workers") 1 64 1 options) (setting (codes "callers") 0 16 0 options) (setting (codes "snaps") 0 64 0 options) (setting (codes "attempts") 0 16 2 options) (setting (codes "every") 1 100000 1 options) in
    (elim (list_all (λ option. is_known first option.name) options) as (λ b. cond b numbers None ≡ Some own → IsInRange own.task) [
      | true ↦ λ e. with_numbers_few task (setting (codes "workers") 1 64 1 options) (setting (codes "callers") 0 16 0 options) (setting (codes "snaps") 0 64 0 options) (setting (codes "attempts") 0 16 2 options) (setting (codes "every") 1 100000 1 options) own few e
      | false ↦ λ e. cc
    ]) e

from_few : (first : List ℕ) (parts : _) (own : Command) → command_from first parts ≡ Some own → IsInRange own.task
from_few first None own e = cc
from_few first (Some parts) own e = settings_few first (task_of first parts.positional) parts.options own (task_few first parts.positional) e

pub command_few : (words : List (List ℕ)) (own : Command) → command words ≡ Some own → IsInRange own.task
command_few [] own e = cc
command_few (first ∷ others) own e = from_few first (parts_of others) own e
