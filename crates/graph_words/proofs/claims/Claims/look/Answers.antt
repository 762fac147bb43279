use Rattle.std.proofs.Common.{arith}
use Rattle.graph_words.proofs.Claiming.{seat_looks}
use Rattle.graph_words.proofs.claims.Claims.look.Goals as goal

pub load-requires : goal.load-requires
load-requires g c =
    let of = rw (← c.self.view_is, ← c.seat.view_is) at c.requires.of in (
      of.0,
      omega (arith, c.self.invariant.populated, c.self.invariant.counted.0),
      seat_looks _ _ _ _ c.self.invariant.counted.1 c.self.invariant.few _ _ _ _ of.1,
    )
