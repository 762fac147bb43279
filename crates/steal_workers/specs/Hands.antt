-- What is told of a hand, and of all hands.
--     hand_mark hand      its deque, how many parts of it the hand has, and its raids
--     AllRested hands      all parts of each deque are with its hand, and nothing was pushed or taken
--     AllEmpty rule hands      no deque holds a number, under the rule of the deques
use Rattle.std.specs.Prelude.{◌≡◌, ℕ, List, map, is_some}
use mathlib.Core.Option.{some}
use lib.ListN.{get_elem?}
use Rattle.crossbeam_deque.specs.Handles.{worker_deque, worker_view, stealer_deque}
use Rattle.steal_workers.{specs.declared.deques.Log.Log, specs.declared.hand.Hand.Hand, specs.declared.raid.Raid.Raid, specs.Deques.{IsEmpty, IsRested}, specs.Musters.{HandMark, RaidMark}}

abbrev pub raid_mark : Raid → RaidMark
raid_mark raid = record { deque = stealer_deque raid.thief; armed = is_some raid.pass }

abbrev pub hand_mark : Hand → HandMark
hand_mark hand = record { deque = worker_deque hand.own.deque; parts = (worker_view hand.own.deque).parts; raids = map raid_mark hand.raids.items }

abbrev pub hand_marks : List Hand → List HandMark
hand_marks hands = map hand_mark hands

abbrev pub AllRested : List Hand → Type 0
AllRested hands = (k : ℕ) (hand : Hand) → get_elem? hands k ≡ some hand → IsRested hand.own.deque

abbrev pub AllEmpty : (List ℕ → List Log → Type 0) → List Hand → Type 0
AllEmpty rule hands = (k : ℕ) (hand : Hand) → get_elem? hands k ≡ some hand → IsEmpty rule hand.own.deque
