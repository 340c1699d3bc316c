-- The old desk's history has a ring, so it was not lawful.
use Rattle.std.specs.Prelude.{refl}
use Rattle.std.proofs.Common.{inr, arith}
use Rattle.trace.specs.History.{Accesses, now, ago, closing, closed, Before}
use Rattle.words.specs.Chains.{last, more}
use Rattle.rules.specs.Junction.{junction}
use Rattle.rules.specs.Theorems.{JunctionRing, JunctionUnlawful}
use Rattle.rules.proofs.NoRing.{no_ring}

-- the sweep comes before the editor, on the deck
sweep_first : Before Accesses junction 1 2
sweep_first = record { apart = omega arith; on = 5; earlier = closed (closed (closed (closed (closed (closing (ago (ago (ago (now (inr refl))))) (inr refl)))))) }

-- the editor comes before the sweep, on the lower road
editor_first : Before Accesses junction 2 1
editor_first = record { apart = omega arith; on = 6; earlier = closing (ago (ago (now (inr refl)))) (inr refl) }

-- the befores close a ring
pub junction_ring : JunctionRing
junction_ring = (1, more sweep_first (last editor_first))

-- so the old desk broke a rule
pub junction_unlawful : JunctionUnlawful
junction_unlawful l = no_ring junction l junction_ring
