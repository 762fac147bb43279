-- What is told of the hands of a crew: which deques they have, and where the parts of each deque are.
--     IsCrewed spare hands      raid number k of each hand is on the deque of hand k, and all parts of that deque are with hand k, with the raids on it, or spare
use Rattle.std.{specs.Prelude.{◌≡◌, ℕ, zero, suc, ◌+◌, List, [], ◌∷◌, Bool, false, cond}, specs.declared.alloc.Global.Global}
use mathlib.Core.Option.{some, none}
use mathlib.Core.Option as maybe
use lib.ListN.{get_elem?}
use Rattle.atomic_blocks.specs.Lent.{RowsId}

abbrev pub DequeId : Type 0
DequeId = RowsId × Global

-- which deque the raid is on, and whether it has a pass
pub record RaidMark : Type 0 where
  pub deque : DequeId
  pub armed : Bool

-- the hand's own deque, the parts of it that the hand has, and its raids
pub record HandMark : Type 0 where
  pub deque : DequeId
  pub parts : ℕ
  pub raids : List RaidMark

-- 1 where the raid has a pass
abbrev pub passes_in : maybe.Option RaidMark → ℕ
passes_in none = 0
passes_in (some raid) = cond raid.armed 1 0

abbrev pub passes_at : ℕ → HandMark → ℕ
passes_at k hand = passes_in (get_elem? hand.raids k)

-- how many raids with number k have a pass
abbrev pub passes_out : ℕ → List HandMark → ℕ
passes_out k [] = 0
passes_out k (hand ∷ hands) = passes_at k hand + passes_out k hands

-- the same of raid k of hand i
abbrev pub passes_of : List HandMark → ℕ → ℕ → ℕ
passes_of [] i k = 0
passes_of (hand ∷ hands) zero k = passes_at k hand
passes_of (hand ∷ hands) (suc i) k = passes_of hands i k

pub record IsCrewed (spare : ℕ → ℕ) (hands : List HandMark) : Type 0 where
  pub tied : (i k : ℕ) (hand other : HandMark) (raid : RaidMark) → get_elem? hands i ≡ some hand → get_elem? hand.raids k ≡ some raid → get_elem? hands k ≡ some other → raid.deque ≡ other.deque
  pub counted : (k : ℕ) (hand : HandMark) → get_elem? hands k ≡ some hand → hand.parts + passes_out k hands + spare k ≡ 1024

-- nothing is spare
abbrev pub nothing : ℕ → ℕ
nothing k = 0

-- a raid on the hand's deque, without a pass
abbrev pub idle_on : HandMark → RaidMark
idle_on hand = record { deque = hand.deque; armed = false }
